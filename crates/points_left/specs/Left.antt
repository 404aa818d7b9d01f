-- The points that peeling leaves, by their labels: those whose label is 0. What a label is, rounds/specs/Rounds.antt says.
use Rattle.std.specs.Prelude.{cond, ◌&&◌, ℕ, ◌+◌, eqb}
use mathlib.Core.List.{List, [], ◌∷◌, flatten}
use Rattle.points.specs.declared.Point.{Point}
use Rattle.points.specs.Points.{is_gap}
use Rattle.frames.specs.Frames.{records_of}

-- "gaps are set aside before the first round": a label of 6; a sample's is 0 then
unfoldable pub first_label : Point → ℕ
first_label q = cond (is_gap q) 6 0

-- those of a list whose label is 0, in order; where the labels end, or the list, the rest is not among them
unfoldable pub left_of : {A : Type 0} → List ℕ → List A → List A
left_of [] xs = []
left_of (l ∷ ls) [] = []
left_of (l ∷ ls) (x ∷ xs) = cond (eqb l 0) (x ∷ left_of ls xs) (left_of ls xs)

-- the store of the records left
abbrev pub bytes_left : List ℕ → List ℕ → List ℕ
bytes_left labels store = flatten (left_of labels (records_of store))

-- "A point's label is the round that removed it": one that is left and that the line fits, where its mark is 1, gets the round's number k.
abbrev pub relabel : ℕ → ℕ → ℕ → ℕ
relabel k label mark = cond (eqb label 0 && eqb mark 1) k label

-- so all labels, each by its mark
unfoldable pub relabelled : ℕ → List ℕ → List ℕ → List ℕ
relabelled k [] marks = []
relabelled k (l ∷ ls) [] = l ∷ ls
relabelled k (l ∷ ls) (a ∷ marks) = relabel k l a ∷ relabelled k ls marks

-- and how many points get it
unfoldable pub relabels : List ℕ → List ℕ → ℕ
relabels [] marks = 0
relabels (l ∷ ls) [] = 0
relabels (l ∷ ls) (a ∷ marks) = cond (eqb l 0 && eqb a 1) 1 0 + relabels ls marks
