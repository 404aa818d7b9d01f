-- The numbers before the index are scaled, and `above` says whether all of them lay above the mark.
use Rattle.std.proofs.Common.{◌≡◌}
use Rattle.std.specs.Float.{binary64}
use Rattle.std.specs.Float.Ieee.{mul}
use Rattle.eval_lanes.specs.Inside.{Filled}
use Rattle.eval_gaps.specs.Gaps.{all_above}
use Rattle.eval_gaps.proofs.scale_above.Given as goal

abbrev pub invariant-loop-y : goal.invariant-loop-y
invariant-loop-y l =
    record {
      so_far : l.above ≡ all_above l.mark l.initial.ys l.y-index;
      scaled : Filled 0 (λ k a b. b ≡ mul binary64 a l.by) l.initial.ys l.y-index l.ys;
    }
