-- One group more.
use Rattle.std.proofs.Common.{◌≡◌, ◌+◌, ◌*◌}
use native.Mathlib.Omega.{arith}
use Rattle.eval_lanes.proofs.Filling.{until_filled}
use lib.Ieee.{nan}
use Rattle.eval_columns.specs.Inside.{FieldOfSlots}
use Rattle.eval_columns.proofs.Parts.{part_filled}
use Rattle.eval_columns.proofs.decode_column.Goals as goal

pub loop-g-preserved : goal.loop-g-preserved
loop-g-preserved c =
    let next : c.loop-g.g * 20 + 20 ≡ (c.loop-g.g + 1) * 20 = omega arith in
    until_filled next (part_filled {R = λ k x. FieldOfSlots c.args.store.now c.args.t c.args.c k nan x} _ c.loop-g.invariant (omega arith) (omega arith)
    (omega arith) c.decode_group.ensures)

pub returns : goal.returns
returns c = λ k l. c.loop-g.invariant.done k (omega arith) (omega arith)
