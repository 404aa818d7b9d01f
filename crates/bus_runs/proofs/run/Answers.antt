-- The search of the job of the bytes, and what is shown of its answer.
use Rattle.std.proofs.Common.{◌≡◌, Err, sym, ◌∙◌}
use Rattle.job_records.specs.Jobs.{job_or_zeros}
use Rattle.job_records.specs.Laws.{IsJob}
use Rattle.job_records.proofs.Fitting.{read_fits}
use Rattle.bus_runs.proofs.Showing.{err_is, ran_refused, ran_done}
use Rattle.bus_runs.proofs.run.Goals as goal

pub returns-in_err-check : goal.returns-in_err-check
returns-in_err-check c =
    let a = c.args in
    let is : IsJob (job_or_zeros a.bytes.now) = read_fits a.bytes.now (λ i. (c.type_inv.bytes i).fits) in
    let w =
    ran_refused a.store.now (job_or_zeros a.bytes.now) a.table.now a.bounds.now is c.search_rows-found.result
    c.search_rows-found.new.table c.search_rows-found.new.bounds (rw c.job_or_zeros-job.ensures at c.search_rows-found.ensures)
    _ (sym c.check.ensures ∙ c.in_err-check.was) in
    let e : c.from_residual.result ≡ Err c.in_err-check.field-0.0 = err_is c.in_err-check.field-0.0 c.from_residual.ensures.1 in
    record { run = e ∙ w.0; table = w.1.0; bounds = w.1.1.0; certificate = rw e tt }

pub returns : goal.returns
returns c =
    let a = c.args in
    let is : IsJob (job_or_zeros a.bytes.now) = read_fits a.bytes.now (λ i. (c.type_inv.bytes i).fits) in
    let w =
    ran_done a.store.now (job_or_zeros a.bytes.now) a.table.now a.bounds.now is c.search_rows-found.result
    c.search_rows-found.new.table c.search_rows-found.new.bounds (rw c.job_or_zeros-job.ensures at c.search_rows-found.ensures)
    (sym c.check.ensures ∙ c.in_ok-check.was) c.shown_for.result (rw c.job_or_zeros-job.ensures at c.shown_for.ensures) in
    record { run = w.0; table = w.1.0; bounds = w.1.1.0; certificate = w.1.1.1 }
