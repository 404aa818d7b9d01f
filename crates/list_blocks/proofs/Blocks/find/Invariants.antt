-- The first smallest of the first j blocks are found; behind them the arrays are as they were.
use Rattle.list_blocks.proofs.Found.{Found}
use Rattle.list_blocks.proofs.Blocks.find.Given as goal

abbrev pub invariant-loop-j : goal.invariant-loop-j
invariant-loop-j l = Found l.bounds l.listed l.initial.self l.j l.self
