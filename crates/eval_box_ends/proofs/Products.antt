-- One pair of products more. Assumes nothing.
use Rattle.std.proofs.Common.{◌≡◌, ◌+◌, ℕ}
use native.Mathlib.Numerals.{add-one}
use lib.Ieee.{Float, binary64, add, sub, mul}
use Rattle.eval_whole.specs.Whole.{larger_of, smaller_of}
use Rattle.eval_lanes.specs.Lanes.{lessened}
use Rattle.eval_box_ends.specs.Ends.{least_end, opposite_end}

module _ (low high x : ℕ → Float) (y : Float) (c : ℕ) where
  pub less_one_more : sub binary64 (least_end low high x y c) (larger_of (mul binary64 (low c) (x c)) (mul binary64 (high c) (x c)))
      ≡ least_end low high x y (c + 1)
  unfolding lessened
  less_one_more = rw (add-one c)

  pub and_one_more : add binary64 (opposite_end low high x y c) (smaller_of (mul binary64 (low c) (x c)) (mul binary64 (high c) (x c)))
      ≡ opposite_end low high x y (c + 1)
  unfolding opposite_end
  and_one_more = rw (add-one c)
