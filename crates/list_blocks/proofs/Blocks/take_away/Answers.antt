use Rattle.std.proofs.Common.{◌≡◌, min, length, sym, ◌∙◌, arith}
use lib.ListN.{set}
use lib.Seq.{set_out}
use Rattle.list_blocks.specs.Blocks.{gone}
use Rattle.list_blocks.proofs.Places.{none_mended}
use Rattle.list_blocks.proofs.Blocks.take_away.Goals as goal
use Rattle.list_blocks.proofs.Blocks.take_away.Goals.{then-at-bounds, else-at-bounds}

-- a place that is not there changes nothing
pub returns-else-block-lt64 : goal.returns-else-block-lt64
returns-else-block-lt64 c =
    let taken : c.if-at-bounds.bounds ≡ set c.args.bounds.now c.args.spot.at gone =
    elim c.if-at-bounds.branch [
      | then-at-bounds w ↦ w.bounds-is
      | else-at-bounds w ↦ w.bounds-is ∙ sym (set_out c.args.bounds.now c.args.spot.at gone w.if-at-bounds.false)
    ]
    in
    none_mended c.args.bounds.now (min c.args.n (length c.args.bounds.now)) c.args.self.now c.args.spot c.if-at-bounds.bounds
    (omega arith) taken (omega arith) (omega arith) (omega arith)
