-- The invariant: i windows are done (`Turn`), so that the job at hand starts at the vector found last, their records stand at the front of
-- the output, and the table and the list are as their searches left them.
use Rattle.window_runs.specs.Inside.{Turn}
use Rattle.windows.proofs.each_window.Given as goal

abbrev pub invariant-loop-i : goal.invariant-loop-i
invariant-loop-i l =
    Turn l.store l.fn.job l.k l.h l.count l.initial.table l.initial.bounds l.initial.out l.i l.current l.table l.bounds l.out
