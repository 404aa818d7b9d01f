-- With the code 0 the job was accepted, and what is handed over are its rounds.
use Rattle.std.proofs.Common.{◌≡◌}
use mathlib.Core.Path.{sym, ap, subst, ◌∙◌}
use Rattle.jobs.specs.declared.Job.{Job}
use Rattle.jobs.specs.declared.Model.{Model}
use Rattle.std.specs.Prelude.{Ok}
use Rattle.peel.specs.Peel.{peel_answer, labels_after, PeelingLent}
use Rattle.c_boundary.specs.Boundary.{model_of, job_from}
use Rattle.c_peel.proofs.Handed.{peeling_call}
use Rattle.c_peel.proofs.peel.Goals as goal

pub returns-in-Ok-clause-peeling : goal.returns-in-Ok-clause-peeling
returns-in-Ok-clause-peeling c = λ _.
    let a = c.args in
    let m = model_of a.n a.d a.scale a.p a.eps in
    let job = job_from m a.t a.budget 0 a.corners.now a.start.now in
    let is_job : c.job_of-job.result ≡ job =
    c.job_of-job.ensures ∙ ap (λ (x : Model). job_from x a.t a.budget 0 a.corners.now a.start.now) c.model_of.ensures in
    let f = c.in-Ok.ensures in
    let l = c.lay_all in
    let found : Ok c.in-Ok.told ≡ peel_answer a.store.now job a.limit a.table.now a.bounds.now a.labels.now =
    f.answer ∙ ap (λ (x : Job). peel_answer a.store.now x a.limit a.table.now a.bounds.now a.labels.now) is_job in
    peeling_call a.store.now m a.t a.budget a.corners.now a.start.now a.limit a.table.now a.bounds.now a.labels.now a.vectors.now
    a.numbers.now c.in-Ok.told l.new.vectors l.new.numbers c.peel.new.labels found
    (f.labels ∙ ap (λ (x : Job). labels_after a.store.now x a.limit a.table.now a.bounds.now a.labels.now) is_job)
    (subst (λ (x : Job). PeelingLent a.store.now x a.limit a.table.now a.bounds.now a.labels.now) is_job f.peeling)
    l.ensures.vectors l.ensures.numbers
