-- A chunk's losses are those of its records.
use native.Mathlib.Omega.{arith}
use Rattle.residuals.proofs.Sizes.{power_of}
use Rattle.residuals.proofs.Sums.{all_total}
use Rattle.costs.specs.Inside.{sizes_by}
use Rattle.costs.proofs.Summing.{none_through, one_through}
use denote.Param.{number}
use Rattle.costs.specs.contracts.sums.sum.{OVER-type}
use Rattle.costs.proofs.sums.sum.Goals as goal

pub loop-t-init : goal.loop-t-init
loop-t-init g c = let t = c.args.task.now in (omega arith, none_through (OVER-type (number g.row.OVER)) t.model t.store.now t.low t.high)

pub loop-t-preserved : goal.loop-t-preserved
loop-t-preserved g c =
    let t = c.args.task.now in
    let from = c.coordinates-from in
    let to = c.coordinates-to in (
      omega (arith, c.loop-t.invariant.0, c.chunk_loss-total.ensures.small),
      one_through t.ready t.store.now t.low t.high from.result to.result from.ensures.whole to.ensures.whole (OVER-type (number g.row.OVER))
          (power_of t.model.scale c.power-power.result t.ready.scaled c.power-power.ensures) c.decode_chunk.ensures.here
          c.chunk_loss-total.ensures.value c.loop-t.invariant.1,
    )

pub returns : goal.returns
returns g c =
    let t = c.args.task.now in
    let few = t.ready.few in
    all_total t.model (sizes_by (OVER-type (number g.row.OVER)) t.model t.low t.high) t.store.now c.loop-t.invariant.1
    (omega (arith, c.loop-t.auto.t-end, c.loop-t-test.false, c.chunk_count-t-end.ensures))
