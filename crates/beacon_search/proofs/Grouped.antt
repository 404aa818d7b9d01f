-- Both sums are the plain ones, for every vector and box, so the searches are one. Assumes nothing.
use mathlib.Core.List.{List}
use mathlib.Core.Path.{◌≡◌, sym, ◌∙◌}
use Prim.Native.Nat.{◌≤◌}
use lib.IntN.{ℤ}
use Rattle.boxes.specs.declared.Box.{Box}
use Rattle.jobs.specs.declared.Model.{Model}
use Rattle.points.specs.declared.Point.{Point}
use Rattle.points.specs.Points.{points_of}
use Rattle.residuals.specs.Cost.{least_size, total_loss, cost, bound}
use Rattle.residuals.proofs.Bounds.{bound_sum}
use Rattle.residuals.proofs.Sums.{sum_same}
use Rattle.beacon_costs.specs.BeaconCosts.{group, groups, total}
use Rattle.beacon_costs.proofs.Adding.{losses_grouped, all_grouped}
use Rattle.certificate.specs.Search.{search}
use Rattle.search.specs.Search.{searched}
use Rattle.beacon_search.specs.Laws.{total_bound, searched_by_beacon, SameByBeacon}

bound_grouped : (m : Model) → m.p ≤ 2 → (qs : List Point) (B : Box) → total_bound m qs B ≡ bound m qs B
unfolding total_bound
bound_grouped m picked qs B =
    sum_same (λ g. bound m (group qs g) B) (λ g. total_loss m (least_size m B) (group qs g)) (groups qs)
    (λ g h. bound_sum m (group qs g) picked B)
    ∙ losses_grouped m (least_size m B) qs
    ∙ sym (bound_sum m qs picked B)

pub same_by_beacon : SameByBeacon
unfolding searched_by_beacon searched
same_by_beacon store job rows picked =
    let m = job.model in
    let qs = points_of store in
    let costs : (v : List ℤ) → total m qs v ≡ cost m qs v = λ v. (all_grouped store m v).plain picked in
    λ i. search (λ v. costs v i) (λ B. bound_grouped m picked qs B i) job.budget rows job.t job.start job.domain
