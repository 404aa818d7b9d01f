-- The chunks' losses added up, by the lanes and by the points.
use mathlib.Core.Path.{◌≡◌, refl, ap, ◌∙◌}
use native.Mathlib.Omega.{arith}
use Rattle.std.proofs.Common.{ℕ, ◌≤◌, min}
use Rattle.integers.specs.Sums.{sum_of}
use Rattle.residuals.proofs.Sums.{sum_more, cap_stays}
use Rattle.eval_columns.specs.Columns.{decoded_chunks}
use Rattle.costs.proofs.Summing.{loss_at, sum_in}
use denote.Param.{number}
use Rattle.costs.specs.contracts.sums.lanes_up_to.{OVER-type}
use Rattle.costs.proofs.sums.lanes_up_to.Goals as goal

pub loop-t-init : goal.loop-t-init
unfolding sum_of
loop-t-init g c = (omega arith, refl)

pub loop-t-preserved : goal.loop-t-preserved
loop-t-preserved g c =
    let t = c.args.task.now in
    let v = c.loop-t.invariant in
    let r = c.chunk_loss-total.ensures in
    let f = loss_at (OVER-type (number g.row.OVER)) c.args.lanes.now t.model c.coordinates-from.result c.coordinates-to.result in
    (omega (arith, v.0, r.small), omega (arith, v.1, r.value, sum_more f c.loop-t.t))

pub returns-then-cap-total : goal.returns-then-cap-total
returns-then-cap-total g c =
    let t = c.args.task.now in
    let from = c.coordinates-from in
    let to = c.coordinates-to in
    let f = loss_at (OVER-type (number g.row.OVER)) c.args.lanes.now t.model from.result to.result in
    let n = decoded_chunks t.store.now c.args.lanes.now in
    let few : c.loop-t.t ≤ n = omega (arith, c.loop-t.auto.t-end, c.loop-t-test.true, c.chunk_count-t-end.ensures) in
    sum_in t.store.now t.ready t.low t.high c.args.lanes.now _ _ from.ensures.value to.ensures.value from.ensures.whole to.ensures.whole
    (OVER-type (number g.row.OVER)) c.args.cap c.args.cap (cap_stays f c.loop-t.t n c.args.cap few (omega (arith, c.if-cap-total.true, c.loop-t.invariant.1)))

pub returns : goal.returns
returns g c =
    let t = c.args.task.now in
    let from = c.coordinates-from in
    let to = c.coordinates-to in
    let f = loss_at (OVER-type (number g.row.OVER)) c.args.lanes.now t.model from.result to.result in
    let n : c.loop-t.t ≡ decoded_chunks t.store.now c.args.lanes.now =
    omega (arith, c.loop-t.auto.t-end, c.loop-t-test.false, c.chunk_count-t-end.ensures) in
    sum_in t.store.now t.ready t.low t.high c.args.lanes.now _ _ from.ensures.value to.ensures.value from.ensures.whole to.ensures.whole
    (OVER-type (number g.row.OVER)) c.args.cap _
    (c.min.ensures ∙ ap (λ (x : ℕ). min x c.args.cap) (c.loop-t.invariant.1 ∙ ap (sum_of f) n))
