-- The sizes that the loops find are those of the definitions. Assumes nothing.
use mathlib.Core.Path.{◌≡◌, ap, ◌∙◌}
use mathlib.Core.List.{List}
use Prim.Native.Nat.{ℕ, ◌*◌, ◌%◌, ◌^◌, ◌≤◌, ◌<◌}
use native.Mathlib.Nat.{mul-le-mul}
use native.Mathlib.Omega.{arith}
use lib.IntN.{ℤ, pos, nat_abs, ◌*ℤ◌}
use mir.Syntax.{w16, w64}
use mir.Val.{SFits}
use Rattle.integers.proofs.Parts.{size_sfits, abs_mul, abs_fits}
use Rattle.jobs.specs.declared.Model.{Model}
use Rattle.points.specs.declared.Point.{Point}
use Rattle.residuals.specs.Cost.{residual, size_at}
use Rattle.residuals.specs.Inside.{size_of}

-- y × 2^S
module _ {y : ℤ} (fits : SFits w16 y) {power : ℕ} (h : power < 2 ^ 16) where
  pub scaled_small : nat_abs (y *ℤ pos power) ≤ 2147483648
  scaled_small =
      let k : power ≤ 65536 = omega arith in
      omega (arith, abs_mul y (pos power), mul-le-mul (abs_fits w16 fits) k)

  pub scaled_fits : SFits w64 (y *ℤ pos power)
  scaled_fits = size_sfits w64 (y *ℤ pos power) (omega (arith, scaled_small))

-- the power of two that the table gives for a scale that was checked
pub power_of : (S power : ℕ) → S < 16 → power ≡ 2 ^ (S % 16) → power ≡ 2 ^ S
power_of S power h e = e ∙ ap (λ (k : ℕ). 2 ^ k) (omega arith)

module _ (m : Model) (q : Point) (power : ℕ) (e : power ≡ 2 ^ m.scale) where
  pub sizes_at : (v : List ℤ) → ◌≡◌ {A = ℕ → ℕ} (λ j. size_of q v (j * m.d) m.d power) (size_at m v q)
  unfolding size_at residual
  sizes_at v = ap {B = ℕ → ℕ} (λ n j. size_of q v (j * m.d) m.d n) e
