-- A list of boxes in lent memory: the first rows of a table hold the boxes, in list order, and the first entries of "a second lent list of
-- unsigned 64-bit numbers" hold a number beside each. These definitions say what this crate's functions do; the contract of a search does
-- not rest on them, and a reader of that need not believe them.
use Rattle.std.specs.Prelude.{◌≡◌, Bool, true, false, cond, ◌&&◌, List, [], ◌∷◌, ◌++◌, ℕ, zero, suc, ◌+◌, ◌*◌, ◌≤◌, min, max, ltb, eqb, ℤ, length, take, drop}
use Rattle.list_first_smallest.specs.FirstSmallest.{entry_at}
use Rattle.boxes.specs.declared.Box.{Box}
use Rattle.list_rows.specs.Rows.{row_count, row_at, rows_of}
use Rattle.certificate.specs.Search.{ahead}
use Rattle.incumbent.specs.declared.Child.{Child}
use Rattle.incumbent.specs.declared.Mark.{Mark}

-- how many boxes table and list have room for: "fewer entries than rows" leave less
abbrev pub room_in : List ℤ → List ℕ → ℕ
room_in t d = min (row_count t) (length d)

-- whether the box in row k is kept: "keep .. the boxes", by the number beside it and its low vector
abbrev pub kept_at : List ℤ → List ℕ → Mark → ℕ → Bool
kept_at t d mark k = ahead mark.t mark.cost mark.best (entry_at d k) (row_at t k).low

-- whether place k is another than `at`
abbrev pub others_than : ℕ → ℕ → Bool
others_than at k = cond (eqb k at) false true

-- Of the things at the places below n those whose places pass a test, in order, and how many they are.
unfoldable pub picked : {A : Type 0} → (ℕ → A) → (ℕ → Bool) → ℕ → List A
picked f q zero = []
picked f q (suc n) = picked f q n ++ cond (q n) (f n ∷ []) []

unfoldable pub number : (ℕ → Bool) → ℕ → ℕ
number q zero = 0
number q (suc n) = number q n + cond (q n) 1 0

-- a half's box, or its bound, if the half is kept
abbrev pub if_kept : {A : Type 0} → Child → A → List A
if_kept child x = cond child.kept (x ∷ []) []

-- The first n rows of u hold a list of boxes and the first n entries of e a list of numbers, where they were t and d. From row and entry k
-- on nothing changed. Those from n up to k are free: any boxes and any numbers may stand there.
pub record Held (t : List ℤ) (d : List ℕ) (k : ℕ) (list : List Box) (numbers : List ℕ) (n : ℕ) (u : List ℤ) (e : List ℕ) : Type 0 where
  pub told : n ≡ length list
  pub few : n ≤ k
  pub long : length u ≡ length t
  pub long_entries : length e ≡ length d
  pub rows : rows_of u n ≡ list
  pub entries : take n e ≡ numbers
  pub rest : drop (16 * k) u ≡ drop (16 * k) t
  pub rest_entries : drop k e ≡ drop k d

-- whether a box is written as row n: it is kept, and there is room
abbrev pub fits : List ℤ → List ℕ → ℕ → Child → Bool
fits t d n child = child.kept && ltb n (room_in t d)

-- the boxes that are kept of the first n of one list and of the first m of another behind it, and the numbers beside them
module _ (t : List ℤ) (d : List ℕ) (n : ℕ) (v : List ℤ) (f : List ℕ) (m : ℕ) (mark : Mark) where
  abbrev pub kept_boxes : List Box
  kept_boxes = picked (row_at t) (kept_at t d mark) n ++ picked (row_at v) (kept_at v f mark) m

  abbrev pub kept_numbers : List ℕ
  kept_numbers = picked (entry_at d) (kept_at t d mark) n ++ picked (entry_at f) (kept_at v f mark) m

  -- the first r rows of u and entries of e hold them, as many as there is room for, where they were t and d
  abbrev pub Settled : ℕ → List ℤ → List ℕ → Type 0
  Settled r u e = Held t d (max n r) (take (room_in t d) kept_boxes) (take (room_in t d) kept_numbers) r u e
