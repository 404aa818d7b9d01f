use Rattle.std.proofs.Common.{◌≡◌, ◌∙◌, ap, ap₂, arith}
use Prim.Native.Nat.{min}
use Rattle.eval_whole.specs.Whole.{smaller_of}
use Rattle.eval_lanes.proofs.Filling.{one_filled}
use Rattle.eval_box_ends.specs.Ends.{nearest}
use Rattle.eval_box_sizes.proofs.lessen.Goals as goal

pub loop-i-preserved : goal.loop-i-preserved
loop-i-preserved g c =
    let all : min g.row.D 4 ≡ g.row.D = omega arith in
    let low = rw all at c.ends.ensures.least in
    let high = rw all at c.ends.ensures.opposite in
    one_filled _ c.loop-i.invariant (omega arith)
    (c.smaller.ensures ∙ ap (smaller_of _) (c.size.ensures ∙ ap₂ nearest low high))
