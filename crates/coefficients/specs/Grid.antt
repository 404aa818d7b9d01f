-- "Reading back accepts only these bit patterns and only whole numbers in range."
use Rattle.std.specs.Prelude.{ℕ, zero, suc, ◌^◌, Bool, cond, ℤ, pos, negsuc, ◌==◌, Option, Some, None}
use Rattle.coefficients.specs.Coefficient.{pattern_of}

-- The number from -k to k - 1 that has the pattern p, and 0 if none has.
unfoldable pub among : ℕ → ℕ → ℕ → ℤ
among zero S p = pos 0
among (suc k) S p = cond (pattern_of S (pos k) == p) (pos k) (cond (pattern_of S (negsuc k) == p) (negsuc k) (among k S p))

-- The signed 16-bit number that has the pattern p, and 0 if none has.
unfoldable pub coordinate_of : ℕ → ℕ → ℤ
coordinate_of S p = among (2 ^ 15) S p

-- Whether one has it.
unfoldable pub on_grid : ℕ → ℕ → Bool
on_grid S p = pattern_of S (coordinate_of S p) == p

-- The number that a pattern is read as, if one has it.
unfoldable pub reading_of : ℕ → ℕ → Option ℤ
reading_of S p = cond (on_grid S p) (Some (coordinate_of S p)) None
