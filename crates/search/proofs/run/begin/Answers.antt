-- The start vector's cost, and the given box if it is kept.
use Rattle.std.proofs.Common.{rules, ◌≡◌, arith, ◌<◌}
use Rattle.points.specs.Points.{points_of}
use Rattle.residuals.specs.Cost.{cost, bound}
use Rattle.branching.proofs.UpTo.{whole_cost}
use Rattle.list_rows.proofs.Rows.{Whole}
use Rattle.search.proofs.Beginning.{begun}
use Rattle.search.proofs.run.begin.Goals as goal

pub returns : goal.returns
returns c =
    let a = c.args in
    let e = c.cost_in-c.ensures in
    let ok = c.requires.0 in
    let exact : c.cost_in-c.result ≡ cost a.job.model (points_of a.store.now) a.job.start =
    whole_cost a.store.now a.job.model ok.checked a.job.start c.cost_in-c.result (e.store ok.decoded) (e.limit ok.decoded) in
    let fits : c.cost_in-c.result < 18446744073709551615 = omega (arith, e.limit ok.decoded) in
    let tested = c.tested-given.ensures.store c.requires.0 fits in
    let domain : Whole a.job.domain = record { low = search rules; high = search rules } in
    let whole : Whole c.tested-given.result.half = rw tested.half domain in
    rw (c.add-list.ensures.list, c.add-list.ensures.late, c.add-list.ensures.beside, c.of_rows.ensures)
    (begun (cost a.job.model (points_of a.store.now)) (bound a.job.model (points_of a.store.now)) a.job.t a.job.start
    a.job.domain a.late.now.rows a.late.now.bounds c.cost_in-c.result c.tested-given.result exact fits tested c.requires.1
    c.requires.2 whole)
