-- Each lane is the least of what it was and of the sizes of the lines before j but line c.
use Rattle.std.proofs.Common.{◌≡◌, ◌<◌, ℕ}
use Rattle.eval_lanes.specs.Lanes.{lane}
use Rattle.eval_halves.specs.Halves.{least_but}
use Rattle.eval_halves.proofs.lessen_others.Given as goal

abbrev pub invariant-loop-j : goal.invariant-loop-j
invariant-loop-j l =
    (k : ℕ) → k < 80 → lane l.sizes k ≡ least_but l.s l.low l.high l.d l.c (lane l.initial.sizes k) l.j k
