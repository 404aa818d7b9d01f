-- Each lane is the least of what it was and of the sizes under the lines before j.
use Rattle.std.proofs.Common.{◌≡◌, ◌<◌, ℕ}
use Rattle.eval_lanes.specs.Lanes.{lane}
use Rattle.eval_kernel.specs.Kernel.{least_by}
use denote.Param.{number}
use Rattle.eval_kernel.specs.contracts.lessen_all.{OVER-type}
use Rattle.eval_kernel.proofs.lessen_all.Given as goal

abbrev pub invariant-loop-j : goal.invariant-loop-j
invariant-loop-j g l =
    (k : ℕ) → k < 80 → lane l.least k ≡ least_by (OVER-type (number g.row.OVER)) l.s l.low l.high l.d (lane l.initial.least k) l.j k
