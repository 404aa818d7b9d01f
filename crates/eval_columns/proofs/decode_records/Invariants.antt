-- The columns before c are laid.
use Rattle.eval_columns.specs.Columns.{record_in, field, Cast}
use Rattle.eval_columns.proofs.Laying.{Laid}
use Rattle.eval_columns.proofs.decode_records.Given as goal

abbrev pub invariant-loop-c : goal.invariant-loop-c
invariant-loop-c l = Laid (λ c k x. Cast x (field c (record_in l.store l.t k))) l.initial.column-items l.c l.column-items
