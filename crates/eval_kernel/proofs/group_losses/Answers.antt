-- The three steps, lane by lane.
use Rattle.std.proofs.Common.{◌∙◌, ap, pos}
use lib.ListN.{replicate}
use lib.Ieee.{Float, binary64, of_int}
use Rattle.eval_losses.specs.Losses.{loss_in}
use Rattle.eval_losses.proofs.Exact.{groups_same}
use Rattle.eval_kernel.specs.Kernel.{group_losses}
use denote.Param.{number}
use Rattle.eval_kernel.specs.contracts.group_losses.{OVER-type}
use Rattle.eval_kernel.proofs.Starting.{from_none}
use Rattle.eval_kernel.proofs.group_losses.Goals as goal

pub returns : goal.returns
unfolding group_losses
returns g c =
    let a = c.args in
    let m = a.m in
    let sizes =
    from_none (OVER-type (number g.row.OVER)) a.s.now a.low.now a.high.now m _ c.lessen_all.new.least
    (ap (λ (x : Float). replicate 80 x) c.no_size-sizes.ensures) c.lessen_all.ensures in
    c.group_sums.ensures ∙ groups_same _ _ (λ k h. c.lose.ensures k h ∙ ap (loss_in m.p (of_int binary64 (pos m.eps))) (sizes k h))
