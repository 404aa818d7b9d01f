-- How the rounds of peeling are told, and which searches they are.
use Rattle.std.specs.Prelude.{List, map, replicate}
use Rattle.integers.specs.Lists.{over}
use Rattle.codes.specs.declared.Refusal.{Refusal}
use Rattle.jobs.specs.declared.Job.{Job}
use Rattle.residuals.specs.Cost.{bound}
use Rattle.search.specs.declared.Answer.{Answer}
use Rattle.search.specs.Search.{told, refused}
use Rattle.sharing.specs.Sharing.{Run}
use Rattle.rounds.specs.Rounds.{Round}

-- "the answers of all rounds run are given", in order; a slot behind them says by 13 that no round was run
abbrev pub no_round : Answer
no_round = refused Refusal.Rounds

abbrev pub slots_of : List Round → List Answer
slots_of rs = over (map (λ r. told r.found) rs) (replicate 4 no_round)

-- the searches that were run in the table, for what they leave there
abbrev pub run_of : Job → Round → Run
run_of job r = record { bound = bound job.model r.left; found = r.found }
