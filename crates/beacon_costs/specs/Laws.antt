-- What is shown of partial sums. The proofs stand in proofs/Adding.antt.
use Rattle.codes.specs.Codes.{pass}
use Rattle.std.specs.Prelude.{List, ◌≡◌, ℕ, ◌≤◌, ℤ, length}
use Rattle.jobs.specs.declared.Model.{Model}
use Rattle.points.specs.Points.{points_of, check_store}
use Rattle.residuals.specs.Cost.{cost}
use Rattle.beacon_costs.specs.BeaconCosts.{groups, total}

pub record Grouped (store : List ℕ) (m : Model) (v : List ℤ) : Type 0 where
  -- "The total must equal the plain cost for every store and vector with p of 0, 1 or 2."
  pub plain : m.p ≤ 2 → total m (points_of store) v ≡ cost m (points_of store) v
  -- "giving at most 216 partial sums"
  pub few : check_store (length store) ≡ pass → groups (points_of store) ≤ 216

abbrev pub AllGrouped : Type 0
AllGrouped = (store : List ℕ) (m : Model) (v : List ℤ) → Grouped store m v
