-- The definition's run has come to the state, with its list in the first rows. The measure is what is left of the budget.
use Rattle.std.proofs.Common.{◌-◌}
use Rattle.points.specs.Points.{points_of}
use Rattle.residuals.specs.Cost.{cost, bound}
use Rattle.ranges.proofs.Going.{Going}
use Rattle.ranges.proofs.run.steps.Given as goal

abbrev pub invariant-loop-s : goal.invariant-loop-s
invariant-loop-s l =
    Going (cost l.job.model (points_of l.store)) (bound l.job.model (points_of l.store)) l.ceiling l.job.budget l.job.domain l.initial.table l.s l.table

abbrev pub decreases-loop-s : goal.decreases-loop-s
decreases-loop-s l = l.job.budget - l.s.count
