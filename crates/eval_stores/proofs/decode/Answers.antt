-- One chunk more, and all of them.
use native.Mathlib.Omega.{arith}
use lib.ListN.{length-take}
use Rattle.eval_stores.proofs.Through.{one_through, all_through}
use Rattle.eval_stores.proofs.decode.Goals as goal

pub loop-t-preserved : goal.loop-t-preserved
loop-t-preserved c =
    let new = c.decode_chunk.ensures in
    one_through _ _ _ _ c.decode_chunk.new.chunk (omega arith) new.here new.rest c.loop-t.invariant

pub returns : goal.returns
returns c = all_through _ _ c.chunk_count-n.ensures (omega (arith, c.loop-t.invariant.long, length-take c.chunk_count-n.result c.args.lanes.now)) c.loop-t.invariant
