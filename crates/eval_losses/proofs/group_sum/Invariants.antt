-- Each sum has its numbers of the pairs before the index.
use Rattle.std.proofs.Common.{◌≡◌, ◌+◌}
use Rattle.eval_lanes.specs.Lanes.{lane}
use Rattle.eval_losses.specs.Losses.{alternate}
use Rattle.eval_losses.proofs.group_sum.Given as goal

abbrev pub invariant-loop-a : goal.invariant-loop-a
invariant-loop-a l =
    record {
      first : l.even ≡ alternate (lane l.losses) l.o l.a-index;
      second : l.odd ≡ alternate (lane l.losses) (l.o + 1) l.a-index;
    }
