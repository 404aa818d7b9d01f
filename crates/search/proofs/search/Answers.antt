-- Where the checks pass, the beginning and the run; else the refusal, and nothing is written.
use Rattle.std.proofs.Common.{rules, ◌≡◌, length, arith}
use mathlib.Core.Path.{refl, sym, ◌∙◌}
use Rattle.codes.specs.Codes.{pass}
use Rattle.costs.proofs.Passed.{decoded_for}
use Rattle.search_checks.proofs.Passed.{runs_accepted, rows_accepted, entries_accepted}
use Rattle.branching.specs.Branching.{Evaluable}
use Rattle.search.specs.Search.{check_lent}
use Rattle.search.proofs.Accepted.{promised_pass, promised_refused}
use Rattle.search.proofs.search.Goals as goal

pub run-requires : goal.run-requires
run-requires c =
    let a = c.args in
    let ok : check_lent a.store.now a.job a.table.now a.bounds.now ≡ pass = sym c.check_search.ensures ∙ c.in-Ok.is in
    let runs = runs_accepted a.store.now a.job (length a.table.now) (length a.bounds.now) ok in
    let evaluable : Evaluable a.store.now c.decode.new.lanes a.job.model =
    record {
      checked = runs.checked;
      decoded = decoded_for a.store.now a.job.model runs.checked c.power.ensures refl (search rules) c.decode.ensures;
    } in (
      evaluable,
      omega (arith, rows_accepted a.store.now a.job (length a.table.now) (length a.bounds.now) ok),
      entries_accepted a.store.now a.job (length a.table.now) (length a.bounds.now) ok,
      runs.inside,
    )

pub returns-in-Ok : goal.returns-in-Ok
returns-in-Ok c =
    let a = c.args in
    let ok : check_lent a.store.now a.job a.table.now a.bounds.now ≡ pass = sym c.check_search.ensures ∙ c.in-Ok.is in
    let p = promised_pass a.store.now a.job a.table.now a.bounds.now ok c.run.new.table c.run.new.bounds c.run.result c.run.ensures in
    record { answer = p.0; table = p.1.0; bounds = p.1.1.0; certificate = p.1.1.1 }

pub returns-in-Err : goal.returns-in-Err
returns-in-Err c =
    let a = c.args in
    let p = promised_refused a.store.now a.job a.table.now a.bounds.now c.in-Err.why c.refused.result
    (sym c.check_search.ensures ∙ c.in-Err.is) c.refused.ensures in
    record { answer = p.0; table = p.1.0; bounds = p.1.1.0; certificate = p.1.1.1 }
