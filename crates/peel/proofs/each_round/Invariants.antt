-- The invariant is `Going`: what was run and what may still be run are all rounds. The measure is the rounds that may still be run, of
-- which a round that is the last leaves none: one way out.
use Rattle.peel_rounds.specs.Going.{Going}
use Rattle.peel.proofs.each_round.Given as goal

abbrev pub invariant-loop-more : goal.invariant-loop-more
invariant-loop-more l =
    Going l.store l.job l.limit l.initial.table l.initial.bounds l.initial.labels l.rounds l.more l.answers l.labels l.table l.bounds

abbrev pub decreases-loop-more : goal.decreases-loop-more
decreases-loop-more l = l.more
