-- The sum is that of the records of the chunks before t.
use Rattle.std.proofs.Common.{◌*◌, ◌≤◌}
use Rattle.costs.proofs.Summing.{Through}
use denote.Param.{number}
use Rattle.costs.specs.contracts.sums.sum.{OVER-type}
use Rattle.costs.proofs.sums.sum.Given as goal

abbrev pub invariant-loop-t : goal.invariant-loop-t
invariant-loop-t g l =
    let a = l.task in
    (l.total ≤ l.t * 36028797018963968) × Through (OVER-type (number g.row.OVER)) a.model a.store.now a.low a.high l.t l.total
