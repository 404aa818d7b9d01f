-- Where the checks pass, the windows in turn; else the refusal, and nothing is written.
use Rattle.std.proofs.Common.{◌≡◌, length, ◌/◌}
use mathlib.Core.Path.{sym, ◌∙◌}
use Rattle.window_checks.specs.Checks.{window_count}
use Rattle.window_checks.proofs.Passed.{value_passed, refusal_refused}
use Rattle.window_runs.specs.Windows.{check_pass}
use Rattle.window_runs.proofs.Passing.{promised_pass, promised_refused}
use Rattle.job_records.proofs.Typed.{is_job}
use Rattle.windows.proofs.windows.Goals as goal

pub each_window-requires : goal.each_window-requires
each_window-requires c =
    let a = c.args in
    value_passed (check_pass a.store.now a.job a.k a.h a.table.now a.bounds.now a.out.now)
    (window_count (length a.store.now / 12) a.k a.h) c.in_ok-count.count (sym c.count_windows.ensures ∙ c.in_ok-count.was)

pub returns : goal.returns
returns c =
    let a = c.args in
    let w = c.each_window in
    let n =
    value_passed (check_pass a.store.now a.job a.k a.h a.table.now a.bounds.now a.out.now)
    (window_count (length a.store.now / 12) a.k a.h) c.in_ok-count.count (sym c.count_windows.ensures ∙ c.in_ok-count.was) in
    let p =
    promised_pass a.store.now a.job a.k a.h a.table.now a.bounds.now a.out.now n.0 (is_job a.job _ c.well_formed.1.0)
    c.in_ok-count.count n.1 w.new.table w.new.bounds w.new.out w.ensures in
    record { answer = p.0; out = p.1.0; table = p.1.1.0; bounds = p.1.1.1.0; certificate = p.1.1.1.1 }

pub returns-in_err-count-clause-out : goal.returns-in_err-count-clause-out
returns-in_err-count-clause-out c =
    let a = c.args in
    (promised_refused a.store.now a.job a.k a.h a.table.now a.bounds.now a.out.now _
    (refusal_refused (check_pass a.store.now a.job a.k a.h a.table.now a.bounds.now a.out.now)
    (window_count (length a.store.now / 12) a.k a.h) _ (sym c.count_windows.ensures ∙ c.in_err-count.was))).1.0

pub returns-in_err-count-clause-table : goal.returns-in_err-count-clause-table
returns-in_err-count-clause-table c =
    let a = c.args in
    (promised_refused a.store.now a.job a.k a.h a.table.now a.bounds.now a.out.now _
    (refusal_refused (check_pass a.store.now a.job a.k a.h a.table.now a.bounds.now a.out.now)
    (window_count (length a.store.now / 12) a.k a.h) _ (sym c.count_windows.ensures ∙ c.in_err-count.was))).1.1.0

pub returns-in_err-count-clause-bounds : goal.returns-in_err-count-clause-bounds
returns-in_err-count-clause-bounds c =
    let a = c.args in
    (promised_refused a.store.now a.job a.k a.h a.table.now a.bounds.now a.out.now _
    (refusal_refused (check_pass a.store.now a.job a.k a.h a.table.now a.bounds.now a.out.now)
    (window_count (length a.store.now / 12) a.k a.h) _ (sym c.count_windows.ensures ∙ c.in_err-count.was))).1.1.1.0
