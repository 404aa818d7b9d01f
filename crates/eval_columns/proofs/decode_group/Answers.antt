-- Records and zeros behind them.
use native.Mathlib.Omega.{arith}
use Rattle.eval_columns.proofs.Decoding.{group_filled}
use Rattle.eval_columns.proofs.decode_group.Goals as goal

pub returns : goal.returns
returns c =
    group_filled _ _ _ _ _ (omega arith) (omega arith) (omega arith) c.read_fields.ensures (omega arith) (c.fill.ensures.after (λ y e. e)) (omega arith)
