-- The slots of the groups before g are done.
use Rattle.std.proofs.Common.{◌*◌}
use Rattle.eval_lanes.specs.Inside.{Filled}
use Rattle.eval_columns.specs.Inside.{FieldOfSlots}
use Rattle.eval_columns.proofs.decode_column.Given as goal

abbrev pub invariant-loop-g : goal.invariant-loop-g
invariant-loop-g l = Filled 0 (FieldOfSlots l.store l.t l.c) l.initial.out (l.g * 20) l.out
