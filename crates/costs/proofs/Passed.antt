-- What holds of a model and a store that the checks let through: 54 chunks have room for the store, and costs have a limit. Assumes
-- nothing.
use mathlib.Core.Path.{◌≡◌, subst}
use mathlib.Core.Logic.{⊎_elim}
use mathlib.Core.List.{List, []}
use Prim.Native.Nat.{ℕ, ◌%◌, ◌^◌, ◌≤◌, ◌<◌}
use native.Mathlib.Omega.{arith}
use lib.IntN.{ℤ}
use lib.ListN.{length, get_or}
use lib.Ieee.{Float}
use Rattle.codes.specs.Codes.{pass}
use Rattle.integers.proofs.Tests.{le_or_lt}
use Rattle.jobs.specs.declared.Model.{Model}
use Rattle.points.specs.Points.{points_of}
use Rattle.residuals.specs.Cost.{size_at}
use Rattle.residuals.proofs.Bounds.{cost_sum}
use Rattle.residuals.proofs.Limit.{rank_limit}
use Rattle.residuals.specs.Inside.{Ready}
use Rattle.residuals.proofs.Sizes.{power_of}
use Rattle.residuals.proofs.Sums.{total_most}
use Rattle.eval_columns.specs.Columns.{ChunkOf, DecodedInto}
use Rattle.boxes.specs.declared.Box.{Box}
use Rattle.model_checks.specs.Checks.{check_model, check_cost, check_bound}
use Rattle.model_checks.proofs.Passed.{ready, cost_model, bound_model}
use Rattle.costs.specs.Calls.{DecodedFor}
use Rattle.costs.specs.Laws.{CostLimit}

pub cost_ready : (store : List ℕ) (m : Model) (v : List ℤ) → check_cost store m v ≡ pass → Ready (length store) m
cost_ready store m v e = ready store m (cost_model store m v e)

pub bound_ready : (store : List ℕ) (m : Model) (B : Box) → check_bound store m B ≡ pass → Ready (length store) m
bound_ready store m B e = ready store m (bound_model store m B e)

-- Room for 54 chunks is enough for an accepted store: all of it is decoded.
pub decoded_ready : (store : List ℕ) (m : Model) → Ready (length store) m → {power : ℕ} {old new : List (List (List Float))}
    → power ≡ 2 ^ (m.scale % 16) → length old ≡ 54 → length new ≡ 54 → DecodedInto store m.d power old new → DecodedFor store m new
decoded_ready store m r {power} {new = new} p long long-new into =
    let is : power ≡ 2 ^ m.scale = power_of m.scale power r.scaled p in
    record {
      all = omega (arith, r.few);
      chunk = λ t h. subst (λ (n : ℕ). ChunkOf store t m.d n (get_or new t [])) is (into.here t (omega (arith, r.few)));
    }

pub decoded_for : (store : List ℕ) (m : Model) → check_model store m ≡ pass → {power : ℕ} {old new : List (List (List Float))}
    → power ≡ 2 ^ (m.scale % 16) → length old ≡ 54 → length new ≡ 54 → DecodedInto store m.d power old new → DecodedFor store m new
decoded_for store m e = decoded_ready store m (ready store m e)

pub cost_limit : (store : List ℕ) (m : Model) → CostLimit store m
cost_limit store m =
    record {
      most = λ e v small.
          let r = ready store m e in
          ⊎_elim
          (λ (p : m.p ≤ 2). omega (arith, cost_sum m (points_of store) p v, total_most m (size_at m v) store r.lines r.cut r.few))
          (λ (p : 2 < m.p).
          omega (arith, rank_limit m v r.lines r.used (omega (arith, r.scaled)) small store (omega (arith, r.kind))))
          (le_or_lt m.p 2);
    }
