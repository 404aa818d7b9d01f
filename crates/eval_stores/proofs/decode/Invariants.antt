-- The chunks before t are decoded.
use Rattle.eval_stores.proofs.Through.{Through}
use Rattle.eval_stores.proofs.decode.Given as goal

abbrev pub invariant-loop-t : goal.invariant-loop-t
invariant-loop-t l = Through l.store l.d l.power l.initial.chunk-items l.t l.chunk-items
