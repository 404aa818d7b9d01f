-- Where both sums have reached the cap, the chunks that are left change nothing up to it; past the last chunk the sums are whole.
use Rattle.std.proofs.Common.{◌≡◌, ◌∙◌, ◌≤◌, ℕ, List, [], refl, ap, arith, get_or, length, take, length-take-le, get_or-take}
use Prim.Native.Nat.{min}
use lib.IntN.{ℤ}
use lib.Ieee.{Float}
use Rattle.jobs.specs.declared.Model.{Model}
use Rattle.integers.specs.Sums.{sum_of}
use Rattle.residuals.specs.Inside.{box_of}
use Rattle.residuals.proofs.Sums.{sum_more, cap_stays}
use Rattle.eval_columns.specs.Columns.{decoded_chunks}
use Rattle.eval_kernel.specs.Kernel.{doubles, Doubles}
use Rattle.eval_halves.specs.Halves.{half_loss}
use Rattle.eval_halves.proofs.Summing.{half_sum}
use Rattle.eval_halves.proofs.sums_up_to.Goals as goal

-- the loss of a chunk over a half whose own corners are u and w
abbrev losses : List (List (List Float)) → List Float → List Float → List Float → List Float → Model → ℕ → ℕ → ℕ
losses lanes low high u w m c i = half_loss (get_or lanes i []) low high u w m c

-- what `eval_kernel::coordinates` says of those of v
both : (v : List ℤ) (u : List Float) → u ≡ doubles v → Doubles v u → (u ≡ doubles v) × Doubles v u
both v u is whole = (is, whole)

-- the chunks that are gone through
front : (n : ℕ) (lanes : List (List (List Float))) → n ≤ length lanes → length (take n lanes) ≡ n
front n lanes h = length-take-le n lanes h

pub loop-chunk-init : goal.loop-chunk-init
unfolding sum_of
loop-chunk-init c = record { left_small = omega arith; right_small = omega arith; left_is = refl; right_is = refl }

pub returns-then-cap-right_sum-clause-left : goal.returns-then-cap-right_sum-clause-left
returns-then-cap-right_sum-clause-left c =
    let a = c.args in
    let n = decoded_chunks a.store.now a.lanes.now in
    let part = front c.chunk_count-count.result a.lanes.now (omega (arith, c.chunk_count-count.ensures)) in
    let few : c.loop-chunk.chunk-index ≤ n = omega (arith, c.chunk_count-count.ensures) in
    let f = losses a.lanes.now c.coordinates-low.result c.coordinates-high.result c.coordinates-low.result c.coordinates-middle.result a.m a.c in
    let low_is = both _ _ c.coordinates-low.ensures.value c.coordinates-low.ensures.whole in
    let high_is = both _ _ c.coordinates-high.ensures.value c.coordinates-high.ensures.whole in
    let middle_is = both _ _ c.coordinates-middle.ensures.value c.coordinates-middle.ensures.whole in
    half_sum a.store.now a.lanes.now a.m (box_of a.left.low a.right.high) a.left a.c _ _ _ _ low_is high_is low_is middle_is a.cap _
    (cap_stays f c.loop-chunk.chunk-index n a.cap few (omega (arith, c.if-cap-left_sum.true, c.loop-chunk.invariant.left_is)))

pub returns-then-cap-right_sum-clause-right : goal.returns-then-cap-right_sum-clause-right
returns-then-cap-right_sum-clause-right c =
    let a = c.args in
    let n = decoded_chunks a.store.now a.lanes.now in
    let part = front c.chunk_count-count.result a.lanes.now (omega (arith, c.chunk_count-count.ensures)) in
    let few : c.loop-chunk.chunk-index ≤ n = omega (arith, c.chunk_count-count.ensures) in
    let f = losses a.lanes.now c.coordinates-low.result c.coordinates-high.result c.coordinates-next.result c.coordinates-high.result a.m a.c in
    let low_is = both _ _ c.coordinates-low.ensures.value c.coordinates-low.ensures.whole in
    let high_is = both _ _ c.coordinates-high.ensures.value c.coordinates-high.ensures.whole in
    let next_is = both _ _ c.coordinates-next.ensures.value c.coordinates-next.ensures.whole in
    half_sum a.store.now a.lanes.now a.m (box_of a.left.low a.right.high) a.right a.c _ _ _ _ low_is high_is next_is high_is a.cap _
    (cap_stays f c.loop-chunk.chunk-index n a.cap few (omega (arith, c.if-cap-right_sum.true, c.loop-chunk.invariant.right_is)))

pub loop-chunk-preserved : goal.loop-chunk-preserved
loop-chunk-preserved c =
    let a = c.args in
    let f = losses a.lanes.now c.coordinates-low.result c.coordinates-high.result c.coordinates-low.result c.coordinates-middle.result a.m a.c in
    let g = losses a.lanes.now c.coordinates-low.result c.coordinates-high.result c.coordinates-next.result c.coordinates-high.result a.m a.c in
    let i = c.loop-chunk.chunk-index in
    let n = c.chunk_count-count.result in
    let part = front n a.lanes.now (omega (arith, c.chunk_count-count.ensures)) in
    let here : get_or (take n a.lanes.now) i [] ≡ get_or a.lanes.now i [] = get_or-take n a.lanes.now i [] (omega arith) in
    let more = c.chunk_losses-more.ensures in
    let left = rw here at more.left in
    let right = rw here at more.right in
    record {
      left_small = omega (arith, c.loop-chunk.invariant.left_small, more.small.0);
      right_small = omega (arith, c.loop-chunk.invariant.right_small, more.small.1);
      left_is = omega (arith, c.loop-chunk.invariant.left_is, left, sum_more f i);
      right_is = omega (arith, c.loop-chunk.invariant.right_is, right, sum_more g i);
    }

pub returns-clause-left : goal.returns-clause-left
returns-clause-left c =
    let a = c.args in
    let part = front c.chunk_count-count.result a.lanes.now (omega (arith, c.chunk_count-count.ensures)) in
    let n : c.loop-chunk.chunk-index ≡ decoded_chunks a.store.now a.lanes.now = omega (arith, c.chunk_count-count.ensures) in
    let f = losses a.lanes.now c.coordinates-low.result c.coordinates-high.result c.coordinates-low.result c.coordinates-middle.result a.m a.c in
    let least : ℕ → ℕ = λ x. min x a.cap in
    let low_is = both _ _ c.coordinates-low.ensures.value c.coordinates-low.ensures.whole in
    let high_is = both _ _ c.coordinates-high.ensures.value c.coordinates-high.ensures.whole in
    let middle_is = both _ _ c.coordinates-middle.ensures.value c.coordinates-middle.ensures.whole in
    half_sum a.store.now a.lanes.now a.m (box_of a.left.low a.right.high) a.left a.c _ _ _ _ low_is high_is low_is middle_is a.cap _
    (c.min.ensures ∙ ap least (c.loop-chunk.invariant.left_is ∙ ap (sum_of f) n))

pub returns-clause-right : goal.returns-clause-right
returns-clause-right c =
    let a = c.args in
    let part = front c.chunk_count-count.result a.lanes.now (omega (arith, c.chunk_count-count.ensures)) in
    let n : c.loop-chunk.chunk-index ≡ decoded_chunks a.store.now a.lanes.now = omega (arith, c.chunk_count-count.ensures) in
    let g = losses a.lanes.now c.coordinates-low.result c.coordinates-high.result c.coordinates-next.result c.coordinates-high.result a.m a.c in
    let least : ℕ → ℕ = λ x. min x a.cap in
    let low_is = both _ _ c.coordinates-low.ensures.value c.coordinates-low.ensures.whole in
    let high_is = both _ _ c.coordinates-high.ensures.value c.coordinates-high.ensures.whole in
    let next_is = both _ _ c.coordinates-next.ensures.value c.coordinates-next.ensures.whole in
    half_sum a.store.now a.lanes.now a.m (box_of a.left.low a.right.high) a.right a.c _ _ _ _ low_is high_is next_is high_is a.cap _
    (c.min-2.ensures ∙ ap least (c.loop-chunk.invariant.right_is ∙ ap (sum_of g) n))
