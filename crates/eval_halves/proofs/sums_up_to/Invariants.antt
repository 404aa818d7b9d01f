-- The sums are those of the chunks before the index.
use Rattle.std.proofs.Common.{◌≡◌, ◌*◌, ◌≤◌, [], get_or}
use Rattle.integers.specs.Sums.{sum_of}
use Rattle.eval_halves.specs.Halves.{half_loss}
use Rattle.eval_halves.proofs.sums_up_to.Given as goal

abbrev pub invariant-loop-chunk : goal.invariant-loop-chunk
invariant-loop-chunk l =
    record {
      left_small : l.left_sum ≤ l.chunk-index * 36028797018963968;
      right_small : l.right_sum ≤ l.chunk-index * 36028797018963968;
      left_is : l.left_sum ≡ sum_of (λ i. half_loss (get_or l.lanes i []) l.low l.high l.low l.middle l.m l.c) l.chunk-index;
      right_is : l.right_sum ≡ sum_of (λ i. half_loss (get_or l.lanes i []) l.low l.high l.next l.high l.m l.c) l.chunk-index;
    }
