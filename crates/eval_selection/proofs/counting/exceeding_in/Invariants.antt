-- The count is that of the numbers before the index.
use Rattle.std.proofs.Common.{◌≡◌, ◌≤◌, cond}
use Rattle.std.specs.Float.Ieee.{lt}
use Rattle.integers.specs.Sums.{sum_of}
use Rattle.eval_lanes.specs.Lanes.{lane}
use Rattle.eval_selection.proofs.counting.exceeding_in.Given as goal

abbrev pub invariant-loop-x : goal.invariant-loop-x
invariant-loop-x l =
    record {
      small : l.count ≤ l.x-index;
      value : l.count ≡ sum_of (λ k. cond (lt l.a (lane l.sizes k)) 1 0) l.x-index;
    }
