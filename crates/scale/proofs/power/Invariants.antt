-- p is 2 ^ k after k doublings.
use Rattle.std.proofs.Common.{◌≡◌, ◌^◌}
use Rattle.scale.proofs.power.Given as goal

abbrev pub invariant-loop : goal.invariant-loop
invariant-loop l = l.p ≡ 2 ^ l.counter
