-- What the loops behind the calls are handed and say: a model that was checked, sums over a line's coordinates, and sizes of a point.
use Rattle.std.specs.Prelude.{cond, List, ℕ, zero, suc, ◌+◌, ◌*◌, ◌≤◌, ◌<◌, min, ℤ, pos, nat_abs, ◌-ℤ◌, ◌*ℤ◌}
use Rattle.std.specs.Int.Signed.{lt_z}
use Rattle.integers.specs.Integers.{max_z, min_z}
use Rattle.integers.specs.Sums.{Σ}
use Rattle.boxes.specs.declared.Box.{Box}
use Rattle.jobs.specs.declared.Model.{Model}
use Rattle.points.specs.declared.Point.{Point}
use Rattle.points.specs.Points.{xs}
use Rattle.residuals.specs.Cost.{at}

-- checks 1 to 4 passed, as far as the loops need it
pub record Ready (bytes : ℕ) (m : Model) : Type 0 where
  pub few : bytes ≤ 49152
  pub lines : 1 ≤ m.n
  pub most : m.n ≤ 4
  pub some : 1 ≤ m.d
  pub used : m.d ≤ 4
  pub room : m.n * m.d ≤ 8
  pub scaled : m.scale < 16
  pub cut : m.eps ≤ 16777215
  pub kind : m.p ≤ 3

-- a box by its low and its high vector
abbrev pub box_of : List ℤ → List ℤ → Box
box_of low high = record { low = low; high = high }

-- the sums of `residual`, `e_min` and `e_max` of Cost.antt over the first d coordinates of a line, which begin at place b
abbrev pub dot : List ℤ → ℕ → List ℤ → ℕ → ℤ
dot v b x d = Σ (λ k. at v (b + k) *ℤ at x k) d

abbrev pub dot_max : Box → ℕ → List ℤ → ℕ → ℤ
dot_max B b x d = Σ (λ k. max_z (at B.low (b + k) *ℤ at x k) (at B.high (b + k) *ℤ at x k)) d

abbrev pub dot_min : Box → ℕ → List ℤ → ℕ → ℤ
dot_min B b x d = Σ (λ k. min_z (at B.low (b + k) *ℤ at x k) (at B.high (b + k) *ℤ at x k)) d

-- `size_at` of Cost.antt, by the numbers that a loop has: the line's coordinates begin at place b, and `power` is 2^S
abbrev pub size_of : Point → List ℤ → ℕ → ℕ → ℕ → ℕ
size_of q v b d power = nat_abs (q.y *ℤ pos power -ℤ dot v b (xs q) d)

-- a number, or 0 if it is below 0
unfoldable pub positive : ℤ → ℕ
positive z = cond (lt_z z (pos 0)) 0 (nat_abs z)

-- the least of `most` and f 0, …, f (n − 1)
unfoldable pub least_from : ℕ → (ℕ → ℕ) → ℕ → ℕ
least_from most f zero = most
least_from most f (suc n) = min (least_from most f n) (f n)
