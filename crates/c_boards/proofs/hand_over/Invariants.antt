-- The invariant: i slots are handed over.
use Rattle.c_boards.specs.Inside.{Handed}
use Rattle.c_boards.proofs.hand_over.Given as goal

abbrev pub invariant-loop-i : goal.invariant-loop-i
invariant-loop-i l =
    Handed l.count l.answer-items l.initial.codes l.initial.vectors l.initial.numbers l.i l.codes l.vectors l.numbers
