-- For p = 3 no cost of a store's points is over the size of the largest residual. Assumes nothing.
use mathlib.Core.Bool.{Bool, true, false, not, cond}
use mathlib.Core.List.{List, ◌∷◌, map}
use mathlib.Core.Path.{◌≡◌}
use Prim.Native.Nat.{ℕ, zero, suc, ◌-◌, ◌≤◌, ◌<◌}
use native.Mathlib.Omega.{arith}
use borrow.Author.Tests.{eq-eqb}
use lib.Dec.{T, ltb, ltb→lt, nltb→le}
use lib.IntN.{ℤ, pos, negsuc, nat_abs}
use mir.Val.{sel}
use Rattle.integers.specs.Lists.{All, none, also}
use Rattle.integers.proofs.Lists.{all_append}
use Rattle.jobs.specs.declared.Model.{Model}
use Rattle.points.specs.Points.{is_gap, unsigned_at, signed_at, point_at, first_points, points_of, xs}
use Rattle.ranks.proofs.Largest.{largest}
use Rattle.residuals.specs.Cost.{unless_gap, size_at, least_at, cost}
use Rattle.residuals.specs.Laws.{Small}
use Rattle.residuals.proofs.Bounds.{residual_small}
use Rattle.residuals.proofs.Least.{least_first}

by_half : (lower : Bool) (n : ℕ) → (T lower → n < 32768) → (T (not lower) → 32768 ≤ n)
    → nat_abs (sel lower (pos n) (negsuc (65536 - suc n))) ≤ 32768
by_half true n below above = omega (arith, below tt)
by_half false n below above = omega (arith, above tt)

signed_small : (s : List ℕ) (o : ℕ) → nat_abs (signed_at s o) ≤ 32768
unfolding signed_at
signed_small s o =
    let n = unsigned_at s o in
    by_half (ltb n 32768) n (ltb→lt n 32768) (nltb→le n 32768)

point_small : (s : List ℕ) (i : ℕ) → Small ((point_at s i).y ∷ xs (point_at s i))
unfolding point_at
point_small s i zero = signed_small s _
point_small s i (suc zero) = signed_small s _
point_small s i (suc (suc zero)) = signed_small s _
point_small s i (suc (suc (suc zero))) = signed_small s _
point_small s i (suc (suc (suc (suc zero)))) = signed_small s _
point_small s i (suc (suc (suc (suc (suc k))))) = omega arith

unless_less : (gap : Bool) (a most : ℕ) → a ≤ most → cond gap 0 a ≤ most
unless_less true a most h = omega arith
unless_less false a most h = h

all_mapped : {A : Type 0} {P : ℕ → Type 0} (f : A → ℕ) {qs : List A} → All (λ q. P (f q)) qs → All P (map f qs)
all_mapped f none = none
all_mapped f (also h hs) = also h (all_mapped f hs)

module _ (m : Model) (v : List ℤ) (lines : 1 ≤ m.n) (used : m.d ≤ 4) (scaled : m.scale ≤ 15) (small : Small v) (s : List ℕ) where
  least_small : (i : ℕ) → least_at m v (point_at s i) ≤ 5368709120
  unfolding least_at unless_gap size_at
  least_small i =
      let q = point_at s i in
      unless_less (is_gap q) _ 5368709120
      (omega (arith, least_first (size_at m v q) m.n lines, (residual_small m v q 0).small scaled used small (point_small s i)))

  all_small : (n : ℕ) → All (λ q. least_at m v q ≤ 5368709120) (first_points s n)
  unfolding first_points
  all_small zero = none
  all_small (suc n) = all_append (all_small n) (also (least_small n) none)

  pub rank_limit : m.p ≡ 3 → cost m (points_of s) v ≤ 5368709120
  unfolding cost points_of
  rank_limit is = rw (eq-eqb m.p 3 is) ((largest m.eps _).most 5368709120 (all_mapped (least_at m v) (all_small _)))
