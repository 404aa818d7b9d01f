use Rattle.std.proofs.Common.{arith}
use Rattle.eval_selection.proofs.Order.{raised, found}
use Rattle.eval_selection.proofs.bisection.selected_by.Goals as goal

pub loop-low-preserved-then-from-count : goal.loop-low-preserved-then-from-count
loop-low-preserved-then-from-count g c =
    raised c.loop-low.invariant (omega arith) _ (omega arith) (omega arith)
    c.exceeding-count.result c.exceeding-count.ensures.upper (omega arith)

pub returns : goal.returns
returns g c = found c.loop-low.invariant (omega arith)
