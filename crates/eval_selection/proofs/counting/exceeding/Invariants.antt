-- The count is that of the chunks before the index, and not above `most`.
use Rattle.std.proofs.Common.{◌≡◌, ◌≤◌, [], pos, get_or}
use Rattle.std.specs.Float.{binary64}
use Rattle.std.specs.Float.Ieee.{of_int}
use Rattle.integers.specs.Sums.{sum_of}
use Rattle.eval_selection.specs.Selection.{exceeding_in}
use Rattle.eval_selection.proofs.counting.exceeding.Given as goal

abbrev pub invariant-loop-chunk : goal.invariant-loop-chunk
invariant-loop-chunk l =
    record {
      few : l.count ≤ l.most;
      value : l.count ≡ sum_of (λ t. exceeding_in (of_int binary64 (pos l.a)) (get_or l.sizes t [])) l.chunk-index;
    }
