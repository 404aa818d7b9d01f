-- Splitting one box through the C interface: the halves go into two rows.
use Rattle.std.specs.Prelude.{Bool, ◌&&◌, List, ℕ, leb, eqb, ℤ, length, Result, Ok, Err}
use Rattle.codes.specs.declared.Refusal.{Refusal}
use Rattle.boxes.specs.declared.Halves.{Halves}
use Rattle.boxes.specs.Split.{split_answer}
use Rattle.list_rows.specs.Rows.{row_at, with_row}
use Rattle.c_boundary.specs.Boundary.{Call, check_call, check_of, if_accepted}

-- A box of 16 numbers, and room for two. There is no refusal of the paper for an output that is too small here.
abbrev pub split_lengths : ℕ → ℕ → Bool
split_lengths row halves = eqb row 16 && leb 32 halves

unfoldable pub split_call : ℕ → ℕ → List ℤ → List ℤ → Call
split_call n d row halves = check_call (split_lengths (length row) (length halves)) (check_of (split_answer n d (row_at row 0)))

-- The left half in the first row, the right one in the second, and behind them nothing changed.
abbrev pub halves_in : Result Halves Refusal → List ℤ → List ℤ
halves_in (Ok cut) halves = with_row (with_row halves 0 cut.left) 1 cut.right
halves_in (Err r) halves = halves

unfoldable pub halves_after : ℕ → ℕ → List ℤ → List ℤ → List ℤ
halves_after n d row halves = if_accepted (split_call n d row halves) (halves_in (split_answer n d (row_at row 0)) halves) halves
