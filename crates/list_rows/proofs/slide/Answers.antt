use Rattle.std.proofs.Common.{◌∙◌, ap, arith}
use lib.ListN.{set}
use Rattle.list_rows.proofs.Parts.{slid_more}
use Rattle.list_rows.proofs.slide.Goals as goal

pub loop-k-preserved : goal.loop-k-preserved
loop-k-preserved g c =
    let p = c.loop-k.part in
    let k = c.loop-k.k in
    ap (set p k) c.index-part-k.is ∙ slid_more c.args.part.now p c.args.by k c.index-part-k.result c.loop-k.invariant (omega arith)
