-- The first k numbers of both vectors are laid.
use Rattle.list_rows.proofs.Parts.{Laid}
use Rattle.list_rows.proofs.put_box.Given as goal

abbrev pub invariant-loop-k : goal.invariant-loop-k
invariant-loop-k l = Laid l.b.low l.b.high l.row l.k
