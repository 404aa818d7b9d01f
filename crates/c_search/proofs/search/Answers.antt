-- With the code 0 the search of the job that the numbers and buffers make was accepted.
use Rattle.std.proofs.Common.{◌≡◌, arith}
use mathlib.Core.Path.{sym, ap, subst, ◌∙◌}
use Rattle.jobs.specs.declared.Job.{Job}
use Rattle.jobs.specs.declared.Model.{Model}
use Rattle.search.specs.Search.{search_answer, Certified}
use Rattle.c_buffers.proofs.Buffers.{filled_whole}
use Rattle.c_boundary.specs.Boundary.{model_of, job_from}
use Rattle.c_search.specs.Calls.{search_numbers}
use Rattle.c_search.proofs.Certifying.{certified_call}
use Rattle.c_search.proofs.search.Goals as goal

pub returns-clause-certificate : goal.returns-clause-certificate
returns-clause-certificate c = λ at_0.
    let a = c.args in
    let m = model_of a.n a.d a.scale a.p a.eps in
    let job = job_from m a.t a.budget 0 a.corners.now a.start.now in
    let is_job : c.job_of-job.result ≡ job =
    c.job_of-job.ensures ∙ ap (λ (x : Model). job_from x a.t a.budget 0 a.corners.now a.start.now) c.model_of.ensures in
    let found : c.search.result ≡ search_answer a.store.now job a.table.now a.bounds.now =
    c.search.ensures.answer ∙ ap (λ (x : Job). search_answer a.store.now x a.table.now a.bounds.now) is_job in
    let out = c.hand_over.ensures in
    let laid = filled_whole a.vector.now c.search.result.vector (omega (arith, c.if-vector-ne8.false, out.long)) in
    let told = filled_whole a.numbers.now (search_numbers c.search.result) (omega (arith, c.if-numbers-ne5.false)) in
    certified_call a.store.now m a.t a.budget a.corners.now a.start.now a.table.now a.bounds.now a.vector.now a.numbers.now
    c.search.result a.value.now _ _ _ found
    (subst (λ (x : Job). Certified a.store.now x a.table.now a.bounds.now c.search.result) is_job c.search.ensures.certificate)
    (sym out.code ∙ at_0) out.value (rw laid at out.vector) (rw told at out.numbers)
