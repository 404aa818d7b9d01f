-- By the test of p.
use Rattle.costs.proofs.Picked.{sum_kind, by_rank, by_sum}
use denote.Param.{number}
use Rattle.costs.specs.contracts.values.up_to.{OVER-type}
use Rattle.costs.proofs.values.up_to.Goals as goal

pub returns-then-task-eq3 : goal.returns-then-task-eq3
returns-then-task-eq3 g c =
    let t = c.args.task.now in
    by_rank t.model t.low t.high (OVER-type (number g.row.OVER)) t.store.now c.args.lanes.now c.args.cap _ c.if-task-eq3.true c.lanes_rank.ensures

pub returns-else-task-eq3 : goal.returns-else-task-eq3
returns-else-task-eq3 g c =
    let t = c.args.task.now in
    by_sum t.model t.low t.high (OVER-type (number g.row.OVER)) t.store.now c.args.lanes.now c.args.cap _ t.ready (sum_kind t.ready.kind c.if-task-eq3.false)
    c.lanes_up_to.ensures
