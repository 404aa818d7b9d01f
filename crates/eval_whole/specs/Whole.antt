-- Whole numbers in double precision: every whole number up to 2^53 in size is one, so sums, differences, products and comparisons
-- that stay within that are exact. The laws stand in proofs/Laws.antt.
use Rattle.std.specs.Prelude.{◌≡◌, Bool, true, false, cond, ℕ, ◌%◌, ◌≤◌, ℤ, pos, neg_ℤ, nat_abs, Float}
use Rattle.std.specs.Float.Ieee.{lt, neg, add, of_bits, to_bits}
use Rattle.std.specs.Float.{binary64}
use Rattle.std.specs.Float.Ieee.Exact.{HasValue}

abbrev pub signed : Bool → ℕ → ℤ
signed true n = neg_ℤ (pos n)
signed false n = pos n

-- x is the number z; where z is 0, x is +0 or -0
pub record Whole (x : Float) (z : ℤ) : Type 0 where
  pub sign : Bool
  pub size : ℕ
  pub value : HasValue x sign size 1
  pub is : signed sign size ≡ z

-- x is the number z, which is at most B in size
pub record Within (x : Float) (z : ℤ) (B : ℕ) : Type 0 where
  pub whole : Whole x z
  pub small : nat_abs z ≤ B

-- the larger and the smaller of two, as a test of the machine picks them, also of what is no number
abbrev pub larger_of : Float → Float → Float
larger_of a b = cond (lt a b) b a

abbrev pub smaller_of : Float → Float → Float
smaller_of a b = cond (lt b a) b a

-- |x|
abbrev pub sized : Float → Float
sized x = larger_of x (neg x)

-- 0, 1 and 2^52, by their bits
abbrev pub zeroth : Float
zeroth = of_bits binary64 0

abbrev pub oneth : Float
oneth = of_bits binary64 0x3ff0_0000_0000_0000

abbrev pub half : Float
half = of_bits binary64 0x4330_0000_0000_0000

-- A number from 0 to 2^52 − 1 as an integer: the lowest 52 bits of x + 2^52 are its digits. What is no number counts as 0.
unfoldable pub counted : Float → ℕ
counted x = to_bits binary64 (larger_of half (add binary64 x half)) % 4503599627370496
