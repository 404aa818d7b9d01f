-- The first k have that size.
use Rattle.std.proofs.Common.{ℕ, ◌<◌, ◌≤◌, get_or, pos, nat_abs}
use Rattle.ranges.proofs.sixteen_bits.Given as goal

abbrev pub invariant-loop-k : goal.invariant-loop-k
invariant-loop-k l = (j : ℕ) → j < l.k → nat_abs (get_or l.v j (pos 0)) ≤ 32768
