-- By check 18: job after job, or nothing.
use Rattle.std.proofs.Common.{◌≡◌, length}
use mathlib.Core.Path.{sym, ◌∙◌}
use Rattle.codes.specs.Codes.{pass}
use Rattle.boards.specs.Boards.{check_jobs}
use Rattle.boards.proofs.Boarding.{counted, promised_pass, promised_refused}
use Rattle.boards.proofs.boards.Goals as goal

pub each_board-requires : goal.each_board-requires
each_board-requires c =
    let a = c.args in
    let n = counted a.count (length a.jobs.now) (length a.lengths.now) (sym c.check_jobs.ensures ∙ c.in_ok-check_jobs.was) in
    (n.few, n.records, n.lengths)

pub returns : goal.returns
returns c =
    let a = c.args in
    let e = c.each_board in
    let p =
    promised_pass a.count a.total a.jobs.now a.stores.now a.lengths.now a.table.now a.bounds.now e.result e.new.table
    e.new.bounds (sym c.check_jobs.ensures ∙ c.in_ok-check_jobs.was) e.ensures in
    record { answer = p.0; table = p.1.0; bounds = p.1.1.0; shares = p.1.1.1.0; certificate = p.1.1.1.1 }

pub returns-in_err-check_jobs-clause-table : goal.returns-in_err-check_jobs-clause-table
returns-in_err-check_jobs-clause-table c =
    let a = c.args in
    (promised_refused a.count a.total a.jobs.now a.stores.now a.lengths.now a.table.now a.bounds.now _
    (sym c.check_jobs.ensures ∙ c.in_err-check_jobs.was)).1.0

pub returns-in_err-check_jobs-clause-bounds : goal.returns-in_err-check_jobs-clause-bounds
returns-in_err-check_jobs-clause-bounds c =
    let a = c.args in
    (promised_refused a.count a.total a.jobs.now a.stores.now a.lengths.now a.table.now a.bounds.now _
    (sym c.check_jobs.ensures ∙ c.in_err-check_jobs.was)).1.1.0
