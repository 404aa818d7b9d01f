-- The sizes of all chunks are those of the lanes into which the store would be decoded. No rank reaches the cap.
use mathlib.Core.Path.{◌≡◌, sym, ap, ◌∙◌, subst}
use native.Mathlib.Nat.{min-eq_left}
use native.Mathlib.Omega.{arith}
use Rattle.std.proofs.Common.{ℕ, min}
use Rattle.residuals.proofs.Sizes.{power_of}
use Rattle.eval_columns.specs.Columns.{ChunkOf, chunks}
use Rattle.eval_selection.specs.Selection.{selected}
use Rattle.costs.specs.Calls.{DecodedFor, exceeding_by}
use Rattle.costs.proofs.Counting.{kept_selected, rank_in}
use Rattle.costs.proofs.Kept.{one_kept}
use denote.Param.{number}
use Rattle.costs.specs.contracts.ranking.rank.{OVER-type}
use Rattle.costs.proofs.ranking.rank.Goals as goal

pub loop-t-preserved : goal.loop-t-preserved
loop-t-preserved g c =
    let t = c.args.task.now in
    let by = c.by-asked in
    let power = power_of t.model.scale c.power-power.result t.ready.scaled c.power-power.ensures in
    one_kept t.store.now t.model (OVER-type (number g.row.OVER)) by.result.from by.result.to c.loop-t.sizes c.loop-t.t c.loop-t.invariant c.decode_chunk.new.chunk _
    (omega (arith, c.loop-t-test.true, c.loop-t.auto.t-end, c.chunk_count-count.ensures))
    (subst (λ (n : ℕ). ChunkOf t.store.now c.loop-t.t t.model.d n c.decode_chunk.new.chunk) power c.decode_chunk.ensures.here)
    (rw by.ensures.same at c.chunk_sizes.ensures)

pub returns : goal.returns
returns g c =
    let t = c.args.task.now in
    let m = t.model in
    let by = c.by-asked in
    let from = by.ensures.from in
    let to = by.ensures.to in
    let u = by.result.from in
    let w = by.result.to in
    let kept = c.loop-t.invariant in
    let n = c.chunk_count-count.result in
    let ended : c.loop-t.t ≡ n = omega (arith, c.loop-t.auto.t-end, c.loop-t-test.false) in
    let all : n ≡ chunks t.store.now = omega (arith, c.chunk_count-count.ensures, t.ready.few) in
    let decoded : DecodedFor t.store.now m kept.lanes = record {
      all = omega (arith, kept.many, all, ended, t.ready.few);
      chunk = λ i h. kept.chunk i (omega (arith, all, ended));
    } in
    let limit = min 18446744073709551615 4503599627370496 in
    let e =
    rank_in t.store.now t.ready t.low t.high kept.lanes u w from.0 to.0 from.1 to.1 (OVER-type (number g.row.OVER)) 18446744073709551615 c.nth_largest.result
    (c.nth_largest.ensures
    ∙ kept_selected (OVER-type (number g.row.OVER)) m kept.lanes u w c.loop-t.sizes n (omega (arith, kept.sized.long, c.chunk_count-count.ensures))
    (λ i h. kept.sized.sizes i (omega (arith, ended))) m.eps limit
    ∙ ap (λ (k : ℕ). selected (exceeding_by (OVER-type (number g.row.OVER)) kept.lanes u w m k) m.eps limit) (all ∙ sym decoded.all))
    in
    e.by_points decoded ∙ min-eq_left (omega (arith, e.small decoded))
