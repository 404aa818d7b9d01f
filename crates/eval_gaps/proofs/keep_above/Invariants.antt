-- The slots before k are kept or zero.
use Rattle.std.proofs.Common.{◌≡◌, cond}
use Rattle.std.specs.Float.Ieee.{lt}
use Rattle.eval_whole.specs.Whole.{zeroth}
use Rattle.eval_lanes.specs.Lanes.{lane}
use Rattle.eval_lanes.specs.Inside.{Filled}
use Rattle.eval_gaps.proofs.keep_above.Given as goal

abbrev pub invariant-loop-k : goal.invariant-loop-k
invariant-loop-k l = Filled 0 (λ k a b. b ≡ cond (lt l.mark (lane l.ys k)) a zeroth) l.initial.out l.k l.out
