-- By the test of p.
use mathlib.Core.Path.{sym, ◌∙◌}
use Rattle.points.specs.Points.{points_of}
use Rattle.costs.proofs.Picked.{sum_kind, value_rank, value_sum}
use denote.Param.{number}
use Rattle.costs.specs.contracts.values.whole.{OVER-type}
use Rattle.costs.proofs.values.whole.Goals as goal

pub returns-then-task-eq3 : goal.returns-then-task-eq3
returns-then-task-eq3 g c =
    let t = c.args.task.now in
    c.rank.ensures ∙ sym (value_rank t.model t.low t.high (OVER-type (number g.row.OVER)) (points_of t.store.now) c.if-task-eq3.true)

pub returns-else-task-eq3 : goal.returns-else-task-eq3
returns-else-task-eq3 g c =
    let t = c.args.task.now in
    c.sum.ensures ∙ sym (value_sum t.model t.low t.high (OVER-type (number g.row.OVER)) (points_of t.store.now) (sum_kind t.ready.kind c.if-task-eq3.false))
