-- The labels before place i are done.
use Rattle.points_left.proofs.Marking.{Marked}
use Rattle.points_left.proofs.mark.Given as goal

abbrev pub invariant-loop-i : goal.invariant-loop-i
invariant-loop-i l = Marked l.number l.initial.labels l.marks l.removed l.i l.labels
