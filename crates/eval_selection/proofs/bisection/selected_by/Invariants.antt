-- What is selected lies from `low` to `high`. The measure is how far these are apart.
use Rattle.std.proofs.Common.{◌-◌}
use Prim.Native.Nat.{min}
use Rattle.eval_selection.proofs.Order.{Bracketed}
use Rattle.eval_selection.proofs.bisection.selected_by.Given as goal

abbrev pub invariant-loop-low : goal.invariant-loop-low
invariant-loop-low g l = Bracketed l.q (min l.cap 4503599627370496) l.sizes l.low l.high

abbrev pub decreases-loop-low : goal.decreases-loop-low
decreases-loop-low g l = l.high - l.low
