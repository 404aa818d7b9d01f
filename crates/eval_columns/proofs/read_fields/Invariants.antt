-- The slots before k have their records' fields.
use Rattle.eval_lanes.specs.Inside.{Filled}
use Rattle.eval_columns.specs.Inside.{FieldOfRecords}
use Rattle.eval_columns.proofs.read_fields.Given as goal

abbrev pub invariant-loop-k : goal.invariant-loop-k
invariant-loop-k l = Filled 0 (FieldOfRecords l.store l.i l.at) l.initial.out l.k l.out
