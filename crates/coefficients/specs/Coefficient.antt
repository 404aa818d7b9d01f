-- "each coefficient is the single-precision number equal to w / 2^S, with 0 as +0": the number by its bit pattern.
use Rattle.std.specs.Prelude.{ℕ, zero, suc, ◌+◌, ◌-◌, ◌*◌, ◌^◌, cond, ℤ, pos, negsuc, from_bits, nat_le, Float}
use Rattle.std.specs.Float.{binary32}
use Rattle.std.specs.Float.Ieee.{size}

-- An n of `size n` binary digits is 1.f × 2 ^ (size n - 1). So the exponent of n / 2 ^ S is size n - 1 - S; the pattern holds 127 more.
unfoldable pub exponent_of : ℕ → ℕ → ℕ
exponent_of S n = 127 + (size n - 1) - S

-- The 23 digits of f: n moved up to 24 digits, without the leading one.
unfoldable pub fraction_of : ℕ → ℕ
fraction_of n = n * 2 ^ (24 - size n) - 2 ^ 23

-- A digit of sign, eight of exponent, 23 of fraction.
unfoldable pub fields_of : ℕ → ℕ → ℕ → ℕ
fields_of sign S n = sign * 2 ^ 31 + exponent_of S n * 2 ^ 23 + fraction_of n

-- The pattern of w / 2 ^ S, "with 0 as +0".
unfoldable pub pattern_of : ℕ → ℤ → ℕ
pattern_of S (pos zero) = 0
pattern_of S (pos (suc n)) = fields_of 0 S (suc n)
pattern_of S (negsuc n) = fields_of 1 S (suc n)

-- The number with that pattern.
unfoldable pub coefficient_of : ℕ → ℤ → Float
coefficient_of S w = from_bits binary32 (pattern_of S w)

-- The same for any S: for one that is no scale (check 3 refuses S over 15) there is no coefficient, and +0 stands in its place.
unfoldable pub coefficient_or_zero : ℕ → ℤ → Float
coefficient_or_zero S w = cond (nat_le S 15) (coefficient_of S w) (from_bits binary32 0)
