-- The (q + 1)-th largest of sizes in double precision, as the machine compares them. proofs/Exact.antt says which whole number this is.
use Rattle.std.specs.Prelude.{cond, List, [], ℕ, zero, suc, leb, pos, length, get_or, Float}
use Rattle.std.specs.Float.{binary64}
use Rattle.std.specs.Float.Ieee.{of_int, lt}
use Rattle.integers.specs.Sums.{sum_of}
use Rattle.eval_lanes.specs.Lanes.{lane}

-- how many of eighty numbers exceed a
unfoldable pub exceeding_in : Float → List Float → ℕ
exceeding_in a xs = sum_of (λ k. cond (lt a (lane xs k)) 1 0) 80

-- how many of all chunks exceed a whole number
unfoldable pub exceeding_all : ℕ → List (List Float) → ℕ
exceeding_all a sizes = sum_of (λ t. exceeding_in (of_int binary64 (pos a)) (get_or sizes t [])) (length sizes)

-- the first of a, …, a + n that at most q exceed, or a + n if there is none, where `over b` stands for how many exceed b
unfoldable pub first_few : (ℕ → ℕ) → ℕ → ℕ → ℕ → ℕ
first_few over q a zero = a
first_few over q a (suc n) = cond (leb (over a) q) a (first_few over q (suc a) n)

-- the least whole number that at most q exceed, or `cap` if that is less
unfoldable pub selected : (ℕ → ℕ) → ℕ → ℕ → ℕ
selected over q cap = first_few over q 0 cap
