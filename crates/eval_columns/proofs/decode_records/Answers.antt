-- One column more, and y behind them.
use native.Mathlib.Omega.{arith}
use Rattle.eval_columns.specs.Columns.{record_in, Cast}
use Rattle.eval_columns.proofs.Laying.{one_laid, all_laid}
use Rattle.eval_columns.proofs.decode_records.Goals as goal

pub loop-c-preserved : goal.loop-c-preserved
loop-c-preserved c =
    let long = c.loop-c.invariant.long in
    one_laid _ _ _ (omega arith) c.decode_column.ensures c.loop-c.invariant

pub returns-clause-here : goal.returns-clause-here
returns-clause-here c =
    let point = record_in c.args.store.now c.args.t in
    let r = all_laid _ _ (omega arith) (omega arith) (omega arith) c.loop-c.invariant point (λ k x. Cast x (point k).y) (λ c k x l i w. w) c.decode_column-2.ensures in
    record { column = r.column; target = r.target }
