-- What is counted so far is no more than all; past the last chunk it is all.
use Rattle.std.proofs.Common.{◌≡◌, ◌+◌, ℕ, List, [], pos, get_or, length, ap, arith}
use lib.Ieee.{Float, binary64, of_int}
use Rattle.integers.specs.Sums.{sum_of}
use Rattle.residuals.proofs.Sums.{sum_more}
use Rattle.eval_selection.specs.Selection.{exceeding_in, exceeding_all}
use Rattle.eval_selection.proofs.Order.{sum_longer}
use Rattle.eval_selection.proofs.counting.exceeding.Goals as goal

abbrev counts : ℕ → List (List Float) → ℕ → ℕ
counts a sizes t = exceeding_in (of_int binary64 (pos a)) (get_or sizes t [])

pub returns-then-from-count-clause-upper : goal.returns-then-from-count-clause-upper
unfolding exceeding_all
returns-then-from-count-clause-upper c =
    let f = counts c.args.a c.args.sizes.now in
    omega (
      arith,
      c.loop-chunk.invariant.value,
      c.exceeding_in-count.ensures.value,
      sum_more f c.loop-chunk.chunk-index,
      sum_longer f (c.loop-chunk.chunk-index + 1) (length c.args.sizes.now) (omega arith),
    )

pub returns-clause-upper : goal.returns-clause-upper
unfolding exceeding_all
returns-clause-upper c =
    let e : c.loop-chunk.chunk-index ≡ length c.args.sizes.now = omega arith in
    omega (arith, c.loop-chunk.invariant.value, ap (sum_of (counts c.args.a c.args.sizes.now)) e)

pub returns-clause-lower : goal.returns-clause-lower
unfolding exceeding_all
returns-clause-lower c =
    let e : c.loop-chunk.chunk-index ≡ length c.args.sizes.now = omega arith in
    λ less. absurd (omega (arith, c.loop-chunk.invariant.value, ap (sum_of (counts c.args.a c.args.sizes.now)) e))
