-- The coordinates before i are done.
use lib.ListN.{replicate}
use Rattle.eval_whole.specs.Whole.{zeroth}
use Rattle.eval_lanes.specs.Inside.{Filled}
use Rattle.eval_kernel.proofs.Vectors.{Double}
use Rattle.eval_kernel.proofs.coordinates.Given as goal

abbrev pub invariant-loop-i : goal.invariant-loop-i
invariant-loop-i l = Filled 0 (Double l.fn.v) (replicate 12 zeroth) l.i l.u
