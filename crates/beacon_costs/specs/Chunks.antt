-- What the machine adds up of a chunk, in the papers' words. It speaks of lanes, which no call hands out: a reader of the calls need not
-- believe it. The proof stands in proofs/Chunks.antt.
use Rattle.std.specs.Prelude.{false, List, ◌≡◌, ℕ, ◌+◌, ◌*◌, ◌^◌, ◌≤◌, ◌<◌, ℤ, length, get_or, Float}
use Rattle.jobs.specs.declared.Model.{Model}
use Rattle.points.specs.Points.{points_of}
use Rattle.residuals.specs.Inside.{Ready}
use Rattle.eval_columns.specs.Columns.{ChunkOf}
use Rattle.eval_kernel.specs.Kernel.{Doubles, group_losses, chunk_loss}
use Rattle.beacon_costs.specs.BeaconCosts.{group_cost}

-- "With p of 0, 1 or 2 the search uses the grouped sum too": s holds chunk t of a store, and w a vector's coordinates
pub record ChunkGrouped (store : List ℕ) (m : Model) (t : ℕ) (s : List (List Float)) (w : List Float) : Type 0 where
  -- its four sums are the costs of its groups of 19 records
  pub each : (v : List ℤ) → Doubles v w → (k : ℕ) → k < 4 → get_or (group_losses false s w w m) k 0 ≡ group_cost m (points_of store) v (t * 4 + k)
  -- and their sum is what a cost, and every cost of a search, adds for the chunk
  pub added : let sums = group_losses false s w w m in
      chunk_loss false s w w m ≡ get_or sums 0 0 + get_or sums 1 0 + (get_or sums 2 0 + get_or sums 3 0)

abbrev pub AllChunksGrouped : Type 0
AllChunksGrouped =
    (store : List ℕ) (m : Model) (t : ℕ) (s : List (List Float)) (w : List Float) → Ready (length store) m → m.p ≤ 2 →
    ChunkOf store t m.d (2 ^ m.scale) s → ChunkGrouped store m t s w
