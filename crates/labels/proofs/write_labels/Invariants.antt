-- The first i bytes are the labels of the first i points, and the rest is as it was.
use Rattle.labels.specs.Labels.{label}
use Rattle.labels.proofs.Filling.{Filled}
use Rattle.labels.proofs.write_labels.Given as goal

abbrev pub invariant-loop-i : goal.invariant-loop-i
invariant-loop-i l = Filled (label l.m l.v) l.store l.initial.label-items l.i l.label-items
