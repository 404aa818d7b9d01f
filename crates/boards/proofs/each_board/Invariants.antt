-- The invariant: i jobs are done (`Turn`), so that their answers and budgets stand in the first slots, so many splits are left, and the
-- table and the list are as their searches left them.
use Rattle.boards.specs.Inside.{Turn}
use Rattle.boards.proofs.each_board.Given as goal

abbrev pub invariant-loop-i : goal.invariant-loop-i
invariant-loop-i l =
    Turn l.count l.total l.jobs l.stores l.lengths l.initial.table l.initial.bounds l.i l.left l.from l.answers l.budgets l.table l.bounds
