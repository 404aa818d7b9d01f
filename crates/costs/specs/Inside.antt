-- What the sums and ranks behind the calls say of a point's sizes.
use Rattle.std.specs.Prelude.{Bool, cond, List, map, ◌≡◌, ℕ, ◌≤◌, min, ℤ, Float}
use Rattle.jobs.specs.declared.Model.{Model}
use Rattle.points.specs.declared.Point.{Point}
use Rattle.points.specs.Points.{points_of}
use Rattle.ranks.specs.Largest.{nth_largest}
use Rattle.residuals.specs.Cost.{least, unless_gap, size_at, least_size, total_loss, cost, bound}
use Rattle.integers.specs.Sums.{sum_of}
use Rattle.residuals.specs.Inside.{box_of}
use Rattle.eval_columns.specs.Columns.{decoded_chunks}
use Rattle.eval_selection.specs.Selection.{selected}
use Rattle.eval_kernel.specs.Kernel.{doubles}
use Rattle.costs.specs.Calls.{DecodedFor, chunk_loss_in, exceeding_by, value_in}

-- over the box from low to high the least size, else |e| under low
abbrev pub sizes_by : Bool → Model → List ℤ → List ℤ → Point → ℕ → ℕ
sizes_by over m low high q j = cond over (least_size m (box_of low high) q j) (size_at m low q j)

-- what a sum over lanes is: by the lanes, and of the store's own by its points
pub record SumIn
    (over : Bool) (store : List ℕ) (lanes : List (List (List Float))) (m : Model) (low high : List ℤ) (cap r : ℕ) : Type 0
  where
    pub by_lanes : r ≡ min (sum_of (chunk_loss_in over lanes m low high) (decoded_chunks store lanes)) cap
    pub by_points : DecodedFor store m lanes → r ≡ min (total_loss m (sizes_by over m low high) (points_of store)) cap

-- the points' least sizes
abbrev pub least_sizes : Bool → Model → List ℤ → List ℤ → List Point → List ℕ
least_sizes over m low high qs = map (λ q. unless_gap q (least (sizes_by over m low high q) m.n)) qs

-- what a rank over lanes is: by the lanes, and of the store's own by its points
pub record RankIn
    (over : Bool) (store : List ℕ) (lanes : List (List (List Float))) (m : Model) (low high : List ℤ) (cap r : ℕ) : Type 0
  where
    pub by_lanes : r ≡ selected (exceeding_by over lanes (doubles low) (doubles high) m (decoded_chunks store lanes)) m.eps
        (min cap 4503599627370496)
    pub by_points : DecodedFor store m lanes → r ≡ min (nth_largest m.eps (least_sizes over m low high (points_of store))) cap
    pub small : DecodedFor store m lanes → nth_largest m.eps (least_sizes over m low high (points_of store)) ≤ 8589934592

-- over the box from low to high its bound, else the cost of low
abbrev pub value_of : Bool → Model → List Point → List ℤ → List ℤ → ℕ
value_of over m qs low high = cond over (bound m qs (box_of low high)) (cost m qs low)

-- what either is over lanes, by p
pub record ValueIn
    (over : Bool) (store : List ℕ) (lanes : List (List (List Float))) (m : Model) (low high : List ℤ) (cap r : ℕ) : Type 0
  where
    pub by_lanes : r ≡ value_in over store lanes m low high cap
    pub by_points : DecodedFor store m lanes → r ≡ min (value_of over m (points_of store) low high) cap
    pub small : DecodedFor store m lanes → value_of over m (points_of store) low high ≤ 1152921367167897600
