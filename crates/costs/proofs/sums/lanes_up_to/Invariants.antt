-- The sum is that of the chunks before t.
use Rattle.std.proofs.Common.{◌≡◌, ◌*◌, ◌≤◌}
use Rattle.integers.specs.Sums.{sum_of}
use Rattle.costs.proofs.Summing.{loss_at}
use denote.Param.{number}
use Rattle.costs.specs.contracts.sums.lanes_up_to.{OVER-type}
use Rattle.costs.proofs.sums.lanes_up_to.Given as goal

abbrev pub invariant-loop-t : goal.invariant-loop-t
invariant-loop-t g l =
    let a = l.task in
    (l.total ≤ l.t * 36028797018963968) × (l.total ≡ sum_of (loss_at (OVER-type (number g.row.OVER)) l.lanes a.model l.from l.to) l.t)
