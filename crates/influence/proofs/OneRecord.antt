-- Of two stores that differ in one record only, solved answers cost the same up to the tolerance and the cap. Assumes nothing.
use mathlib.Core.Path.{◌≡◌, sym, ap}
use mathlib.Core.List.{List}
use Prim.Native.Nat.{ℕ, ◌+◌, ◌≤◌}
use native.Mathlib.Omega.{arith}
use lib.IntN.{ℤ}
use Rattle.jobs.specs.declared.Job.{Job}
use Rattle.jobs.specs.declared.Model.{Model}
use Rattle.points.specs.Points.{points_of}
use Rattle.residuals.specs.Cost.{cost, bound}
use Rattle.list_rows.specs.Rows.{row_count}
use Rattle.certificate.specs.Certificate.{Certificate}
use Rattle.certificate.proofs.First.{solved_near}
use Rattle.search.specs.declared.Kind.TheVariants.{Solved}
use Rattle.search.specs.Search.{searched, search_answer}
use Rattle.search.proofs.Solved.{solved_kind, solved_told, solved_certified}
use Rattle.influence.specs.OneRecord.{DifferInOne, SameSettings, cap}
use Rattle.influence.specs.Laws.{OneRecord}
use Rattle.influence.proofs.Costs.{differing_cost}

-- the other way round
swapped : {store store' : List ℕ} → DifferInOne store store' → DifferInOne store' store
swapped d =
    record {
      before = d.before;
      one = d.other;
      other = d.one;
      behind = d.behind;
      whole = d.whole;
      twelve = d.twelve';
      twelve' = d.twelve;
      store_is = d.store'-is;
      store'-is = d.store_is;
    }

one_way :
    (store store' : List ℕ) (job job' : Job) (table table' : List ℤ) (bounds bounds' : List ℕ) →
    DifferInOne store store' →
    SameSettings job job' →
    job.model.p ≤ 2 →
    (search_answer store job table bounds).kind ≡ Solved →
    (search_answer store' job' table' bounds').kind ≡ Solved →
    (search_answer store job table bounds).cost
    ≤ (search_answer store' job' table' bounds').cost + job.t + cap job.model.p job.model.eps
one_way store store' job job' table table' bounds bounds' differ same picked is is' =
    let m = job.model in
    let C = cost m (points_of store) in
    let C' = cost m (points_of store') in
    let L = bound m (points_of store) in
    let L' = bound m (points_of store') in
    let rows = row_count table in
    let rows' = row_count table' in
    let r = searched store job rows in
    let r' = searched store' job' rows' in
    let certified' : Certificate C' L' job'.budget rows' job'.t job'.start job.domain r' =
    rw (same.model, same.box) (solved_certified store' job' table' bounds' is')
    in
    rw (solved_told store job table bounds is, solved_told store' job' table' bounds' is')
    (solved_near C C' job.domain (cap m.p m.eps) (λ v inside. differing_cost m picked v store store' differ)
    L L' job.budget job'.budget rows rows' job.t job'.t job.start job'.start r r'
    (solved_certified store job table bounds is) certified' (solved_kind store job table bounds is))

pub one_record : OneRecord
one_record store store' job job' table table' bounds bounds' differ same picked is is' =
    let back : SameSettings job' job = record { model = sym same.model; box = sym same.box } in
    let same-cap = ap (λ (m : Model). cap m.p m.eps) same.model in
    let picked' : job'.model.p ≤ 2 = omega (arith, picked, ap (λ (m : Model). m.p) same.model) in
    record {
      one = omega (arith, one_way store store' job job' table table' bounds bounds' differ same picked is is');
      other = omega (arith, same-cap, one_way store' store job' job table' table bounds' bounds (swapped differ) back picked' is' is);
    }
