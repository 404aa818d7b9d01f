-- The side at `best` has the size `size`; of the sides before k none is longer, and those before it are shorter.
use Rattle.boxes.specs.Boxes.{sides}
use Rattle.boxes.proofs.LongestSide.{Leads}
use Rattle.boxes.proofs.longest.Given as goal

abbrev pub invariant-loop-k : goal.invariant-loop-k
invariant-loop-k l = Leads (sides l.low l.high) l.k l.best l.size
