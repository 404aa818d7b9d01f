-- The steps, lane by lane.
use Rattle.std.proofs.Common.{ap}
use lib.ListN.{replicate}
use lib.Ieee.{Float}
use Rattle.eval_halves.proofs.Others.{half_summed}
use Rattle.eval_halves.proofs.chunk_losses.Goals as goal

pub returns-clause-left : goal.returns-clause-left
returns-clause-left c =
    let a = c.args in
    half_summed a.s.now a.low.now a.high.now a.low.now a.middle.now a.m a.c _ c.lessen_others.new.sizes c.lessen_line.new.least _
    (ap (λ (x : Float). replicate 80 x) c.no_size-left.ensures) c.lessen_others.ensures c.lessen_line.ensures c.total.ensures.value

pub returns-clause-right : goal.returns-clause-right
returns-clause-right c =
    let a = c.args in
    half_summed a.s.now a.low.now a.high.now a.next.now a.high.now a.m a.c _ c.lessen_others.new.sizes c.lessen_line-2.new.least _
    (ap (λ (x : Float). replicate 80 x) c.no_size-left.ensures) c.lessen_others.ensures c.lessen_line-2.ensures c.total-2.ensures.value
