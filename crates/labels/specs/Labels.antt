-- The labels of a store's points, and the call that writes them. Lines count from 0 here, and from 1 in a label.
use Rattle.std.specs.Prelude.{cond, List, [], ◌∷◌, map, ℕ, zero, suc, ◌+◌, leb, ltb, ℤ, length}
use Rattle.integers.specs.Lists.{over}
use Rattle.codes.specs.declared.Refusal.TheVariants.{Short}
use Rattle.codes.specs.Codes.{Check, Outcome, pass_if, in_order, unless_refused, if_passed}
use Rattle.jobs.specs.declared.Model.{Model}
use Rattle.points.specs.declared.Point.{Point}
use Rattle.points.specs.Points.{is_gap, points_of}
use Rattle.residuals.specs.Cost.{least, size_at}
use Rattle.model_checks.specs.Checks.{check_threshold}

-- the first of the places 0, …, n − 1 at which f is least
unfoldable pub first_least : (ℕ → ℕ) → ℕ → ℕ
first_least f zero = 0
first_least f (suc zero) = 0
first_least f (suc (suc n)) = cond (ltb (f (suc n)) (least f (suc n))) (suc n) (first_least f (suc n))

-- "A point's label is one byte: the line (1 to n) with the least |e|, lowest among equals, if that |e| ≤ ε; otherwise 0."
unfoldable pub nearest_label : Model → List ℤ → Point → ℕ
nearest_label m v q = cond (leb (least (size_at m v q) m.n) m.eps) (suc (first_least (size_at m v q) m.n)) 0

-- at how many of the places 0, …, n − 1 f is at most ε
unfoldable pub fitting : (ℕ → ℕ) → ℕ → ℕ → ℕ
fitting f ε zero = 0
fitting f ε (suc n) = fitting f ε n + cond (leb (f n) ε) 1 0

-- "A sample within ε of more than one line now gets label 5, undecided, instead of the nearest line; other labels are as before."
unfoldable pub sample_label : Model → List ℤ → Point → ℕ
sample_label m v q = cond (leb 2 (fitting (size_at m v q) m.eps m.n)) 5 (nearest_label m v q)

-- "A gap … its label is 6."
unfoldable pub label : Model → List ℤ → Point → ℕ
label m v q = cond (is_gap q) 6 (sample_label m v q)

-- "labelling 1 to 4, 6, 7 and 10"; 10: "output too small". Document 02: "Labels .. refuse p = 3 by 4."
unfoldable pub check_labels : List ℕ → Model → List ℤ → List ℕ → Check
check_labels store m v out = in_order (check_threshold store m v ∷ pass_if (leb (length (points_of store)) (length out)) Short ∷ [])

-- The answer is the number of bytes written.
unfoldable pub labels_answer : List ℕ → Model → List ℤ → List ℕ → Outcome
labels_answer store m v out = unless_refused (check_labels store m v out) (length (points_of store))

-- "One byte per point is written, the buffer's rest is kept."
unfoldable pub labelled : List ℕ → Model → List ℤ → List ℕ → List ℕ
labelled store m v out = if_passed (check_labels store m v out) (over (map (label m v) (points_of store)) out) out
