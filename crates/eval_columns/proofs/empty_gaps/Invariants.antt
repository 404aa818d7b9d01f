-- The columns before the index are those of the slots.
use Rattle.eval_columns.proofs.Laying.{Laid}
use Rattle.eval_columns.proofs.Marks.{Emptied}
use Rattle.eval_columns.proofs.empty_gaps.Given as goal

abbrev pub invariant-loop-column : goal.invariant-loop-column
invariant-loop-column l = Laid (Emptied l.store l.t l.d) l.initial.column-items l.column-index l.column-items
