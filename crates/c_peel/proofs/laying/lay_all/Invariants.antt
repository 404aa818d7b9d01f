-- The invariant is `Laid`, of both buffers: the parts of the first k rounds are laid.
use Rattle.std.proofs.Common.{◌*◌, ◌≤◌}
use Rattle.c_peel.specs.Calls.{round_numbers}
use Rattle.c_peel.proofs.Parts.{Laid}
use Rattle.c_peel.proofs.laying.lay_all.Given as goal

abbrev pub invariant-loop-k : goal.invariant-loop-k
invariant-loop-k l =
    Laid (λ a. a.vector) l.fn.answers l.initial.vectors l.k (l.k * 8) l.vectors
    × Laid round_numbers l.fn.answers l.initial.numbers l.k (l.k * 6) l.numbers
