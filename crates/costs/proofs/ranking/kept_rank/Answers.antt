-- A chunk more has its sizes, and as many reach the cap.
use mathlib.Core.Path.{◌∙◌}
use native.Mathlib.Omega.{arith}
use Rattle.std.proofs.Common.{min}
use Rattle.costs.proofs.Counting.{kept_selected}
use Rattle.costs.proofs.Ranked.{none_ranked, one_ranked, cap_ranked}
use denote.Param.{number}
use Rattle.costs.specs.contracts.ranking.kept_rank.{OVER-type}
use Rattle.costs.proofs.ranking.kept_rank.Goals as goal

pub loop-t-init : goal.loop-t-init
loop-t-init g c =
    let a = c.args.asked.now in
    none_ranked (OVER-type (number g.row.OVER)) c.args.lanes.now a.from a.to a.model c.args.fill c.args.cap c.args.sizes.now c.requires.2

pub loop-t-preserved : goal.loop-t-preserved
loop-t-preserved g c =
    let a = c.args.asked.now in
    one_ranked (OVER-type (number g.row.OVER)) c.args.lanes.now a.from a.to a.model c.loop-t.invariant c.chunk_sizes.new.sizes
    (omega (arith, c.loop-t-test.true, c.requires.0)) c.chunk_sizes.ensures _ c.reaching-reached.ensures.few c.reaching-reached.ensures.small

pub returns-then-q-reached : goal.returns-then-q-reached
returns-then-q-reached g c =
    let a = c.args.asked.now in
    c.min.ensures
    ∙ cap_ranked (OVER-type (number g.row.OVER)) c.args.lanes.now a.from a.to a.model c.loop-t.invariant c.chunk_sizes.new.sizes
    (omega (arith, c.loop-t-test.true, c.requires.0)) c.chunk_sizes.ensures _ c.reaching-reached.ensures.few c.reaching-reached.ensures.small
    a.model.eps c.loop-t-test.true c.if-q-reached.true

pub returns : goal.returns
returns g c =
    let a = c.args.asked.now in
    let v = c.loop-t.invariant.sized in
    c.nth_largest.ensures
    ∙ kept_selected (OVER-type (number g.row.OVER)) a.model c.args.lanes.now a.from a.to c.loop-t.sizes _ (omega (arith, v.long, c.requires.0))
    (λ i h. v.sizes i (omega (arith, c.loop-t-test.false))) a.model.eps (min c.args.cap 4503599627370496)
