use Rattle.std.proofs.Common.{◌∙◌, ap, arith}
use Rattle.eval_whole.specs.Whole.{smaller_of}
use Rattle.eval_lanes.proofs.Filling.{one_filled}
use Rattle.eval_sizes.proofs.lessen.Goals as goal

pub loop-i-preserved : goal.loop-i-preserved
loop-i-preserved g c =
    one_filled _ c.loop-i.invariant (omega arith) (c.smaller.ensures ∙ ap (smaller_of _) c.size.ensures)
