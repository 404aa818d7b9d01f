-- The first i of them.
use Rattle.std.proofs.Common.{ℕ, ◌≡◌, ◌<◌, length, get_or}
use Rattle.c_ranges.proofs.Ends.{end_of}
use Rattle.c_ranges.proofs.patterns_of.Given as goal

abbrev pub invariant-loop-i : goal.invariant-loop-i
invariant-loop-i l = (length l.w-items ≡ 16) × ((k : ℕ) → k < l.i → get_or l.w-items k 0 ≡ end_of l.slots k)
