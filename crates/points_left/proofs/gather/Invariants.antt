-- What is written and what is still to come are all.
use Rattle.points_left.proofs.Gathering.{Gathered}
use Rattle.points_left.proofs.gather.Given as goal

abbrev pub invariant-loop-i : goal.invariant-loop-i
invariant-loop-i l = Gathered l.store l.labels l.initial.out l.n l.i l.out
