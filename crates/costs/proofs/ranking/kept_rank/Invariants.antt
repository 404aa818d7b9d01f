-- The chunks before t have their sizes, and so many of these, or more, reach the cap; the others are as they came.
use Rattle.std.proofs.Common.{length}
use Rattle.costs.proofs.Ranked.{Ranked}
use denote.Param.{number}
use Rattle.costs.specs.contracts.ranking.kept_rank.{OVER-type}
use Rattle.costs.proofs.ranking.kept_rank.Given as goal

abbrev pub invariant-loop-t : goal.invariant-loop-t
invariant-loop-t g l =
    let a = l.asked in
    Ranked (OVER-type (number g.row.OVER)) l.lanes a.from a.to a.model (length l.initial.sizes) l.fill l.cap l.sizes l.reached l.t
