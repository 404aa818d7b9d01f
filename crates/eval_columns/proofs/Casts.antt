-- What stands in a column is a whole number, exactly. Assumes nothing.
use mathlib.Core.Path.{sym}
use Prim.Native.Nat.{ℕ, ◌<◌}
use native.Mathlib.Omega.{arith}
use lib.IntN.{ℤ, pos, ◌*ℤ◌}
use lib.Ieee.{Float}
use Rattle.eval_whole.specs.Whole.{Within, zeroth}
use Rattle.eval_whole.proofs.Laws.{zero_cast, zero_times}
use Rattle.eval_whole.proofs.Picks.{cast_within, mul_within}
use Rattle.eval_columns.specs.Columns.{Cast, Scaled}

pub within_cast : {x : Float} {z : ℤ} → Cast x z → Within x z 32768
within_cast {x} {z} c = rw c.is (cast_within z c.small (omega arith))

pub within_scaled : {x : Float} {y : ℤ} {power : ℕ} → Scaled x y power → Within x (y *ℤ pos power) 2147483648
within_scaled {x} {y} {power} c =
    let few = c.factor in
    rw c.is
    (mul_within (cast_within y c.small (omega arith)) (cast_within (pos power) {B = 65536} (omega arith) (omega arith)) (omega arith))

-- what is cleared is 0, scaled too
pub cast_zero : Cast zeroth (pos 0)
cast_zero = record { is = sym zero_cast; small = omega arith }

pub scaled_zero : (power : ℕ) → power < 65536 → Scaled zeroth (pos 0) power
scaled_zero power h = record { is = sym (zero_times power (omega arith)); small = omega arith; factor = h }
