-- A line's least size asks only for the line's own coordinates. Assumes nothing.
use mathlib.Core.Path.{◌≡◌, refl}
use mathlib.Core.List.{List}
use Prim.Native.Nat.{ℕ, zero, suc, ◌+◌, ◌*◌, ◌<◌}
use native.Mathlib.Omega.{arith}
use lib.IntN.{ℤ}
use Rattle.boxes.specs.declared.Box.{Box}
use Rattle.jobs.specs.declared.Model.{Model}
use Rattle.points.specs.declared.Point.{Point}
use Rattle.points.specs.Points.{xs}
use Rattle.residuals.specs.Cost.{at, e_min, e_max, least_size}
use Rattle.residuals.specs.Inside.{dot_max, dot_min}
use Rattle.integers.specs.Sums.{Σ}

module _ (A B : Box) (b : ℕ) (x : List ℤ) where
  -- the first k coordinates of the line that begins at place b are the same
  abbrev pub Agree : ℕ → Type 0
  Agree k = (i : ℕ) → i < k → (at A.low (b + i) ≡ at B.low (b + i)) × (at A.high (b + i) ≡ at B.high (b + i))

  max_agrees : (k : ℕ) → Agree k → dot_max A b x k ≡ dot_max B b x k
  unfolding Σ
  max_agrees zero s = refl
  max_agrees (suc k) s = rw (max_agrees k (λ i h. s i (omega arith)), (s k (omega arith)).0, (s k (omega arith)).1)

  min_agrees : (k : ℕ) → Agree k → dot_min A b x k ≡ dot_min B b x k
  unfolding Σ
  min_agrees zero s = refl
  min_agrees (suc k) s = rw (min_agrees k (λ i h. s i (omega arith)), (s k (omega arith)).0, (s k (omega arith)).1)

pub size_agrees : (m : Model) (A B : Box) (q : Point) (j : ℕ) → Agree A B (j * m.d) (xs q) m.d → least_size m A q j ≡ least_size m B q j
unfolding least_size e_min e_max
size_agrees m A B q j s = rw (max_agrees A B (j * m.d) (xs q) m.d s, min_agrees A B (j * m.d) (xs q) m.d s)
