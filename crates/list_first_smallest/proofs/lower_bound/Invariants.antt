-- `at` is the place of the first smallest of the first i entries, and `low` that entry.
use Rattle.std.proofs.Common.{◌≡◌}
use Rattle.list_first_smallest.specs.FirstSmallest.{entry_at, FirstLeast}
use Rattle.list_first_smallest.proofs.lower_bound.Given as goal

abbrev pub invariant-loop-i : goal.invariant-loop-i
invariant-loop-i l = record { place : FirstLeast l.bounds l.i l.at; lowest : l.low ≡ entry_at l.bounds l.at }
