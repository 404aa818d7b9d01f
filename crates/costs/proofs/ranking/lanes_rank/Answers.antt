-- What is selected of the first chunks is what is selected of the lanes as far as they are decoded.
use mathlib.Core.Path.{ap, ◌∙◌}
use native.Mathlib.Omega.{arith}
use Rattle.std.proofs.Common.{ℕ, min}
use Rattle.eval_selection.specs.Selection.{selected}
use Rattle.costs.specs.Calls.{exceeding_by}
use Rattle.costs.proofs.Counting.{rank_in}
use Rattle.costs.proofs.Ranked.{cut_selected}
use denote.Param.{number}
use Rattle.costs.specs.contracts.ranking.lanes_rank.{OVER-type}
use Rattle.costs.proofs.ranking.lanes_rank.Goals as goal

pub returns : goal.returns
returns g c =
    let t = c.args.task.now in
    let by = c.by.result in
    let n = c.chunk_count-count.result in
    let by_lanes = exceeding_by (OVER-type (number g.row.OVER)) c.args.lanes.now by.from by.to t.model in
    rank_in t.store.now t.ready t.low t.high c.args.lanes.now by.from by.to c.by.ensures.from.0 c.by.ensures.to.0 c.by.ensures.from.1
    c.by.ensures.to.1 (OVER-type (number g.row.OVER)) c.args.cap _
    (c.some_rank.ensures
    ∙ rw c.by.ensures.same (cut_selected (OVER-type (number g.row.OVER)) c.args.lanes.now by.from by.to t.model n t.model.eps (min c.args.cap 4503599627370496)
    (omega (arith, c.chunk_count-count.ensures)))
    ∙ ap (λ (k : ℕ). selected (by_lanes k) t.model.eps (min c.args.cap 4503599627370496)) c.chunk_count-count.ensures)
