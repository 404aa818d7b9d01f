-- What the loop computes is |e| of the definitions, exactly. Assumes nothing.
use mathlib.Core.Path.{refl}
use mathlib.Core.List.{List}
use Prim.Native.Nat.{ℕ, ◌+◌, ◌≤◌, ◌<◌}
use native.Mathlib.Omega.{arith}
use lib.IntN.{ℤ, pos, nat_abs, ◌-ℤ◌, ◌*ℤ◌}
use lib.Ieee.{Float}
use Rattle.residuals.specs.Cost.{at}
use Rattle.residuals.specs.Inside.{dot}
use Rattle.integers.specs.Sums.{Σ}
use Rattle.eval_whole.specs.Whole.{Within, sized}
use Rattle.eval_whole.proofs.Picks.{size_whole, mul_within, wider}
use Rattle.eval_lanes.proofs.Lessening.{lessened_within}
use Rattle.eval_sizes.specs.Sizes.{line_residual}

module _ (v : List ℤ) (b : ℕ) (x : List ℤ) {w u : ℕ → Float} {y : Float} {z : ℤ} (target : Within y z 2147483648) (d : ℕ) (few : d ≤ 4)
    (line : (k : ℕ) → k < d → Within (w k) (at v (b + k)) 32768) (point : (k : ℕ) → k < d → Within (u k) (at x k) 32768) where
  residual_within : Within (line_residual w u y d) (z -ℤ dot v b x d) 6442450944
  unfolding Σ
  residual_within =
      wider (omega arith) (lessened_within (dot v b x) (λ k. at v (b + k) *ℤ at x k) refl (λ k. refl) target d few
      (λ k h. mul_within (line k h) (point k h) (omega arith)))

  pub size_exact : Within (sized (line_residual w u y d)) (pos (nat_abs (z -ℤ dot v b x d))) 6442450944
  size_exact = record { whole = size_whole residual_within.whole; small = residual_within.small }
