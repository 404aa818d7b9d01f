-- n bytes of the union are passed, and the clashes of both stores are those of what is left. The measure is the bytes left.
use Rattle.std.proofs.Common.{◌+◌, ◌-◌, length}
use Rattle.frames.proofs.Walked.{Counting}
use Rattle.frames.proofs.count.count.Given as goal

abbrev pub invariant-loop-i : goal.invariant-loop-i
invariant-loop-i l = Counting l.first l.second l.i l.j l.n

abbrev pub decreases-loop-i : goal.decreases-loop-i
decreases-loop-i l = length l.first + length l.second - (l.i + l.j)
