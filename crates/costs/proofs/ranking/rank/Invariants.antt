-- The chunks before t have their sizes.
use Rattle.costs.proofs.Kept.{KeptSizes}
use denote.Param.{number}
use Rattle.costs.specs.contracts.ranking.rank.{OVER-type}
use Rattle.costs.proofs.ranking.rank.Given as goal

abbrev pub invariant-loop-t : goal.invariant-loop-t
invariant-loop-t g l =
    let a = l.task in
    KeptSizes a.store.now a.model (OVER-type (number g.row.OVER)) l.asked.from l.asked.to l.sizes l.t
