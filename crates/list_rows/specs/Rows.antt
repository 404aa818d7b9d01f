-- "The table is a lent slice of signed 16-bit numbers; each box is written as its own 16-number part of it, low then high."
use Rattle.std.specs.Prelude.{cond, ◌&&◌, List, [], ◌∷◌, ◌++◌, ℕ, zero, suc, ◌+◌, ◌-◌, ◌*◌, ◌/◌, ltb, leb, ℤ, length, take, drop}
use Rattle.boxes.specs.declared.Box.{Box}
use Rattle.boxes.specs.Split.{zero_box}

-- "r is its length divided by 16, rounded down."
abbrev pub row_count : List ℤ → ℕ
row_count t = length t / 16

-- The box in row i, counted from 0. A row that the table does not have, or has in part only, is read as zeros.
unfoldable pub row_at : List ℤ → ℕ → Box
row_at t i = cond (ltb i (row_count t)) (record { low = take 8 (drop (16 * i) t); high = take 8 (drop (16 * i + 8) t) }) zero_box

-- the boxes in the first n rows, in order
unfoldable pub rows_of : List ℤ → ℕ → List Box
rows_of t zero = []
rows_of t (suc n) = rows_of t n ++ (row_at t n ∷ [])

-- The table with a box in row i, and else as it was. A row that it does not have, or has in part only, is not written.
unfoldable pub with_row : List ℤ → ℕ → Box → List ℤ
with_row t i b = cond (ltb i (row_count t)) (take (16 * i) t ++ (b.low ++ b.high) ++ drop (16 * i + 16) t) t

-- The table with the box of row i in the earlier row `to` too. Where it has no row i, or `to` is not before it, nothing changes.
unfoldable pub with_moved : List ℤ → ℕ → ℕ → List ℤ
with_moved t i to = cond (ltb to i && ltb i (row_count t)) (with_row t to (row_at t i)) t

-- The table with row i taken out of its first n rows: the numbers of the rows behind it stand one row earlier, and from row n - 1 on all is
-- as it was. Where it has no n rows, or i is none of them, nothing changes.
unfoldable pub without_row : List ℤ → ℕ → ℕ → List ℤ
without_row t i n =
    cond (ltb i n && leb n (row_count t)) (take (16 * i) t ++ take (16 * (n - 1) - 16 * i) (drop (16 * i + 16) t) ++ drop (16 * (n - 1)) t) t
