-- What the private functions tell each other.
use Rattle.std.specs.Prelude.{List, ◌≡◌, ℕ, ◌+◌, ◌*◌, ◌<◌, ℤ, get_or, Float}
use Rattle.jobs.specs.declared.Model.{Model}
use Rattle.points.specs.Points.{points_of}
use Rattle.eval_kernel.specs.Kernel.{Doubles}
use Rattle.beacon_costs.specs.BeaconCosts.{group_cost}

-- the sums of the four groups of chunk t of a store, under the vector whose coordinates are the doubles w
pub record ChunkSums (m : Model) (store : List ℕ) (w : List Float) (t : ℕ) (sums : List ℕ) : Type 0 where
  pub costs : (v : List ℤ) → Doubles v w → (k : ℕ) → k < 4 → get_or sums k 0 ≡ group_cost m (points_of store) v (t * 4 + k)
  pub small : (k : ℕ) → k < 4 → get_or sums k 0 < 9007199254740992
