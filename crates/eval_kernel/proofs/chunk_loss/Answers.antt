-- The steps, lane by lane.
use Rattle.std.proofs.Common.{◌∙◌, ap, pos}
use lib.ListN.{replicate}
use lib.Ieee.{Float, binary64, of_int}
use Rattle.eval_losses.specs.Losses.{loss_in}
use Rattle.eval_losses.proofs.Exact.{chunk_same}
use Rattle.eval_kernel.specs.Kernel.{chunk_loss}
use denote.Param.{number}
use Rattle.eval_kernel.specs.contracts.chunk_loss.{OVER-type}
use Rattle.eval_kernel.proofs.Starting.{from_none}
use Rattle.eval_kernel.proofs.chunk_loss.Goals as goal

pub returns-clause-value : goal.returns-clause-value
unfolding chunk_loss
returns-clause-value g c =
    let a = c.args in
    let m = a.m in
    let sizes =
    from_none (OVER-type (number g.row.OVER)) a.s.now a.low.now a.high.now m _ c.lessen_all.new.least
    (ap (λ (x : Float). replicate 80 x) c.no_size-least.ensures) c.lessen_all.ensures in
    c.total.ensures.value ∙ chunk_same _ _ (λ k h. ap (loss_in m.p (of_int binary64 (pos m.eps))) (sizes k h))
