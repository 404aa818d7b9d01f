-- One number more: it is told apart before it is scaled.
use Rattle.std.proofs.Common.{refl}
use native.Mathlib.Omega.{arith}
use native.Mathlib.Nat.{le_refl}
use Rattle.eval_lanes.proofs.Filling.{one_filled}
use Rattle.eval_gaps.proofs.Above.{next_above}
use Rattle.eval_gaps.proofs.scale_above.Goals as goal

pub loop-y-preserved : goal.loop-y-preserved
loop-y-preserved c =
    let v = c.loop-y.invariant in
    record {
      so_far = next_above _ _ _ _ _ (v.scaled.rest _ (le_refl _)) v.so_far;
      scaled = one_filled _ v.scaled (omega arith) refl;
    }
