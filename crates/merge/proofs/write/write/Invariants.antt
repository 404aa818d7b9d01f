-- n bytes of the union are written, and the output behind them is as it was. The measure is the bytes left to write.
use Rattle.std.proofs.Common.{◌≡◌, ◌++◌, ◌-◌, length, take, drop}
use Rattle.frames.specs.Frames.{merged}
use Rattle.frames.proofs.Walked.{Walked}
use Rattle.merge.proofs.write.write.Given as goal

abbrev pub invariant-loop-n : goal.invariant-loop-n
invariant-loop-n l = record {
  walked : Walked l.first l.second l.i l.j l.n;
  written : l.out ≡ take l.n (merged l.first l.second) ++ drop l.n l.initial.out;
  same_length : length l.out ≡ length l.initial.out;
}

abbrev pub decreases-loop-n : goal.decreases-loop-n
decreases-loop-n l = l.bytes - l.n
