-- Request 10 of document 02: "With p of 0, 1 or 2 the search uses the grouped sum too, with the same answers." The proof stands in
-- proofs/Grouped.antt.
use Rattle.std.specs.Prelude.{List, ◌≡◌, ℕ, ◌≤◌}
use Rattle.integers.specs.Sums.{sum_of}
use Rattle.boxes.specs.declared.Box.{Box}
use Rattle.jobs.specs.declared.Model.{Model}
use Rattle.jobs.specs.declared.Job.{Job}
use Rattle.points.specs.declared.Point.{Point}
use Rattle.points.specs.Points.{points_of}
use Rattle.residuals.specs.Cost.{bound}
use Rattle.beacon_costs.specs.BeaconCosts.{group, groups, total}
use Rattle.certificate.specs.Search.{Answer, search}
use Rattle.search.specs.Search.{searched}

-- the bound of a box by the groups of the cost, and then the groups
unfoldable pub total_bound : Model → List Point → Box → ℕ
total_bound m qs B = sum_of (λ g. bound m (group qs g) B) (groups qs)

-- the search that a job asks for, in so many rows, over costs and bounds by groups
unfoldable pub searched_by_beacon : List ℕ → Job → ℕ → Answer
searched_by_beacon store job rows =
    search (total job.model (points_of store)) (total_bound job.model (points_of store)) job.budget rows job.t job.start
    job.domain

-- "the same answers", of every store, job and number of rows
abbrev pub SameByBeacon : Type 0
SameByBeacon = (store : List ℕ) (job : Job) (rows : ℕ) → job.model.p ≤ 2 → searched_by_beacon store job rows ≡ searched store job rows
