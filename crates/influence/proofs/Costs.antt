-- For p of 0, 1 or 2 a cost is the sum of the costs of a store's parts, and one record costs at most the cap. Assumes nothing.
use mathlib.Core.Path.{◌≡◌, ap, ◌∙◌}
use mathlib.Core.List.{List, [], ◌∷◌, ◌++◌}
use Prim.Native.Nat.{ℕ, zero, suc, ◌+◌, ◌/◌, ◌%◌, ◌≤◌}
use native.Mathlib.Omega.{arith}
use lib.Dec.{ltb}
use lib.IntN.{ℤ}
use lib.ListN.{length}
use Rattle.integers.proofs.Tests.{by_test}
use Rattle.jobs.specs.declared.Model.{Model}
use Rattle.loss.specs.Loss.{loss_of}
use Rattle.points.specs.declared.Point.{Point}
use Rattle.points.specs.Points.{point_at, first_points, points_of}
use Rattle.residuals.specs.Cost.{least, size_at, unless_gap, total_loss, cost}
use Rattle.residuals.proofs.Bounds.{cost_sum}
use Rattle.residuals.proofs.Least.{loss_of_point}
use Rattle.influence.specs.OneRecord.{DifferInOne, cap}
use Rattle.points.proofs.Parts.{points_append}

-- no loss is above the cap
loss_capped : (p ε a : ℕ) → loss_of p ε a ≤ cap p ε
unfolding loss_of cap
loss_capped zero ε a = by_test (ltb ε a) 1 0 (λ (m : ℕ). m ≤ cap zero ε) (λ t. omega arith) (λ t. omega arith)
loss_capped (suc zero) ε a = omega arith
loss_capped (suc (suc zero)) ε a = omega arith
loss_capped (suc (suc (suc p))) ε a = omega arith

total_append :
    (m : Model) (size : Point → ℕ → ℕ) (qs rs : List Point) →
    total_loss m size (qs ++ rs) ≡ total_loss m size qs + total_loss m size rs
unfolding total_loss
total_append m size [] rs = omega arith
total_append m size (q ∷ qs) rs = omega (arith, total_append m size qs rs)

module _ (m : Model) (picked : m.p ≤ 2) (v : List ℤ) where
  abbrev cost_of : List ℕ → ℕ
  cost_of store = cost m (points_of store) v

  cost_append : (a b : List ℕ) → length a % 12 ≡ 0 → cost_of (a ++ b) ≡ cost_of a + cost_of b
  cost_append a b whole =
      omega (
        arith,
        ap (λ (qs : List Point). cost m qs v) (points_append a b whole),
        cost_sum m (points_of a ++ points_of b) picked v,
        total_append m (size_at m v) (points_of a) (points_of b),
        cost_sum m (points_of a) picked v,
        cost_sum m (points_of b) picked v,
      )

  -- a record, sample or gap
  loss_of_record : (r : List ℕ) → length r ≡ 12 → total_loss m (size_at m v) (points_of r) ≤ cap m.p m.eps
  unfolding points_of first_points total_loss
  loss_of_record r twelve =
      let q = point_at r 0 in
      let one : length r / 12 ≡ 1 = omega arith in
      rw one
      (omega (
        arith,
        loss_of_point m.p m.eps q (size_at m v q) m.n,
        loss_capped m.p m.eps (unless_gap q (least (size_at m v q) m.n)),
      ))

  record_capped : (r : List ℕ) → length r ≡ 12 → cost_of r ≤ cap m.p m.eps
  record_capped r twelve = omega (arith, cost_sum m (points_of r) picked v, loss_of_record r twelve)

  split_cost : (a r b : List ℕ) → length a % 12 ≡ 0 → length r ≡ 12 → cost_of (a ++ (r ++ b)) ≡ cost_of a + (cost_of r + cost_of b)
  split_cost a r b whole twelve = omega (arith, cost_append a (r ++ b) whole, cost_append r b (omega arith))

  -- of two stores that differ in one record only the first costs at most the cap more
  pub differing_cost : (s s' : List ℕ) → DifferInOne s s' → cost_of s ≤ cost_of s' + cap m.p m.eps
  differing_cost s s' d =
      let whole : length d.before % 12 ≡ 0 = omega (arith, d.whole) in
      let twelve : length d.one ≡ 12 = omega (arith, d.twelve) in
      let is : cost_of s ≡ _ = ap cost_of d.store_is ∙ split_cost d.before d.one d.behind whole twelve in
      let is' : cost_of s' ≡ _ = ap cost_of d.store'-is ∙ split_cost d.before d.other d.behind whole d.twelve' in
      omega (arith, is, is', record_capped d.one twelve)
