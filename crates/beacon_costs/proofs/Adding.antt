-- For p of 0, 1 or 2 the costs of groups add up to the plain cost, and a store has at most 216 groups. Assumes nothing.
use mathlib.Core.Path.{◌≡◌, refl, sym, ap, ◌∙◌}
use mathlib.Core.Bool.{◌&&◌}
use mathlib.Core.List.{List, [], ◌∷◌, ◌++◌}
use Prim.Native.Nat.{ℕ, zero, suc, ◌+◌, ◌*◌, ◌/◌, ◌%◌, ◌≤◌}
use native.Mathlib.Omega.{arith}
use lib.Dec.{leb, eqb, leb→le}
use lib.IntN.{ℤ}
use lib.ListN.{length, take, drop}
use lib.Seq.{take-add, take_all}
use Rattle.codes.specs.declared.Refusal.TheVariants.{Length}
use Rattle.codes.specs.Codes.{pass, within}
use Rattle.codes.proofs.Checks.{passed}
use Rattle.integers.proofs.Tests.{and_parts}
use Rattle.jobs.specs.declared.Model.{Model}
use Rattle.points.specs.declared.Point.{Point}
use Rattle.points.specs.Points.{points_of, check_store}
use Rattle.points.proofs.Laws.{points_length}
use Rattle.residuals.specs.Cost.{size_at, total_loss, cost}
use Rattle.integers.specs.Sums.{sum_of}
use Rattle.residuals.proofs.Bounds.{cost_sum}
use Rattle.residuals.proofs.Sums.{sum_same}
use Rattle.beacon_costs.specs.BeaconCosts.{group, groups, group_cost, total}
use Rattle.beacon_costs.specs.Laws.{AllGrouped}

-- losses add up by groups, whatever size a point has for a line
module _ (m : Model) (size : Point → ℕ → ℕ) where
  total_append : (ps qs : List Point) → total_loss m size (ps ++ qs) ≡ total_loss m size ps + total_loss m size qs
  unfolding total_loss
  total_append [] qs = omega arith
  total_append (p ∷ ps) qs = omega (arith, total_append ps qs)

  module _ (qs : List Point) where
    one_more : (n : ℕ) → total_loss m size (take (n * 19 + 19) qs) ≡ total_loss m size (take (n * 19) qs) + total_loss m size (group qs n)
    unfolding group
    one_more n = ap (total_loss m size) (take-add (n * 19) 19 qs) ∙ total_append (take (n * 19) qs) (take 19 (drop (n * 19) qs))

    first_groups : (n : ℕ) → sum_of (λ g. total_loss m size (group qs g)) n ≡ total_loss m size (take (n * 19) qs)
    unfolding sum_of total_loss
    first_groups zero = refl
    first_groups (suc n) =
        let e : suc n * 19 ≡ n * 19 + 19 = omega arith in
        omega (arith, first_groups n, one_more n, ap (λ (k : ℕ). total_loss m size (take k qs)) e)

    pub losses_grouped : sum_of (λ g. total_loss m size (group qs g)) (groups qs) ≡ total_loss m size qs
    unfolding groups
    losses_grouped = first_groups (groups qs) ∙ ap (total_loss m size) (take_all (groups qs * 19) qs (omega arith))

module _ (m : Model) (picked : m.p ≤ 2) (qs : List Point) (v : List ℤ) where
  -- one group more
  pub one_group : (n : ℕ) → cost m (take (n * 19 + 19) qs) v ≡ cost m (take (n * 19) qs) v + group_cost m qs v n
  unfolding group_cost
  one_group n =
      omega (
        arith,
        one_more m (size_at m v) qs n,
        cost_sum m (take (n * 19 + 19) qs) picked v,
        cost_sum m (take (n * 19) qs) picked v,
        cost_sum m (group qs n) picked v,
      )

  all_groups : total m qs v ≡ cost m qs v
  unfolding total group_cost
  all_groups =
      sum_same (group_cost m qs v) (λ g. total_loss m (size_at m v) (group qs g)) (groups qs) (λ g h. cost_sum m (group qs g) picked v)
      ∙ losses_grouped m (size_at m v) qs
      ∙ sym (cost_sum m qs picked v)

few_groups : (store : List ℕ) → check_store (length store) ≡ pass → groups (points_of store) ≤ 216
unfolding check_store groups points_of
few_groups store e =
    let n = length store in
    let fits = (and_parts (within 1 n 49152) (eqb (n % 12) 0) (passed (within 1 n 49152 && eqb (n % 12) 0) Length e)).0 in
    omega (arith, leb→le n 49152 (and_parts (leb 1 n) (leb n 49152) fits).1, points_length store (n / 12))

pub all_grouped : AllGrouped
all_grouped store m v = record { plain = λ picked. all_groups m picked (points_of store) v; few = few_groups store }
