-- The invariant: the run of the definition has come to the state, with its list as it is held. The measure is what is left of the split
-- budget.
use Rattle.std.proofs.Common.{List, ℕ, ◌-◌}
use Rattle.jobs.specs.declared.Job.{Job}
use Rattle.points.specs.Points.{points_of}
use Rattle.residuals.specs.Cost.{cost, bound}
use Rattle.replacing.specs.Replacing.{Memory, memory}
use Rattle.search.proofs.Going.{Run, Going}
use Rattle.search.proofs.run.steps.Given as goal

-- the run of a job
abbrev pub run_of : List ℕ → Job → Memory → Run
run_of store job h =
    record {
      cost = cost job.model (points_of store);
      bound = bound job.model (points_of store);
      budget = job.budget;
      tol = job.t;
      start = job.start;
      domain = job.domain;
      h = h;
    }

abbrev pub invariant-loop-job : goal.invariant-loop-job
invariant-loop-job l =
    let i = l.initial in
    Going (run_of l.store l.job (memory i.table i.bounds i.leasts i.late.rows i.late.bounds)) l.s
    (memory l.table l.bounds l.leasts l.late.rows l.late.bounds)

abbrev pub decreases-loop-job : goal.decreases-loop-job
decreases-loop-job l = l.job.budget - l.s.count
