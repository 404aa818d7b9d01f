-- Lanes that hold what sizes begin with, by the call or before it.
use mathlib.Core.Path.{◌≡◌, ap, ◌∙◌}
use lib.ListN.{replicate}
use lib.Ieee.{Float}
use Rattle.eval_kernel.specs.Kernel.{no_sizes}
use Rattle.eval_kernel.proofs.Starting.{from_none}
use denote.Param.{number}
use Rattle.costs.specs.contracts.ranking.chunk_sizes.{OVER-type}
use Rattle.costs.proofs.ranking.chunk_sizes.Goals as goal
use Rattle.costs.proofs.ranking.chunk_sizes.Goals.{then-fill, else-fill}

pub returns : goal.returns
returns g c =
    let a = c.args in
    let begun : c.if-fill.sizes ≡ no_sizes =
    elim c.if-fill.branch [
      | then-fill w ↦ w.sizes-is ∙ ap (λ (x : Float). replicate 80 x) w.no_size-sizes.ensures
      | else-fill w ↦ w.sizes-is ∙ c.requires w.if-fill.false
    ] in
    from_none (OVER-type (number g.row.OVER)) a.s.now a.asked.now.from a.asked.now.to a.asked.now.model _ c.lessen_all.new.least begun c.lessen_all.ensures
