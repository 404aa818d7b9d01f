-- The first k coordinates of both ends are those with one vector more.
use Rattle.std.proofs.Common.{◌≡◌}
use Rattle.range_search.specs.RangeSearch.{least, greatest}
use Rattle.range_search.proofs.Found.{length_least, length_greatest}
use Rattle.range_hulls.proofs.Widening.{first_of}
use Rattle.range_hulls.proofs.with_vector.Given as goal

abbrev pub invariant-loop-k : goal.invariant-loop-k
invariant-loop-k l =
    (l.low ≡ first_of l.initial.low (least l.initial.low l.v) (length_least l.initial.low l.v) l.k)
    × (l.high ≡ first_of l.initial.high (greatest l.initial.high l.v) (length_greatest l.initial.high l.v) l.k)
