-- Where the checks pass, the beginning and the steps; else the refusal, and nothing is written.
use Rattle.std.proofs.Common.{rules, arith, refl, sym, ◌≡◌, ◌∙◌}
use Rattle.codes.specs.Codes as Codes
use Rattle.costs.proofs.Passed.{decoded_for}
use Rattle.branching.specs.Branching.{Evaluable}
use Rattle.ranges.specs.Ranges.{check_lent}
use Rattle.ranges.proofs.Accepted.{accepted, rows_lent, some_vector, limited, ended_from, promised_pass, promised_refused}
use Rattle.ranges.proofs.ranges.Goals as goal

pub returns-in-Err-clause-answer : goal.returns-in-Err-clause-answer
returns-in-Err-clause-answer c =
    let a = c.args in
    (promised_refused a.store.now a.job a.ceiling a.table.now c.in-Err.why c.refusal.result (sym c.check_ranges.ensures ∙ c.in-Err.is) c.refusal.ensures).0

pub begin-first-requires : goal.begin-first-requires
begin-first-requires c =
    let a = c.args in
    let pass : check_lent a.store.now a.job a.ceiling a.table.now ≡ Codes.pass = sym c.check_ranges.ensures ∙ c.in_default.is in
    let rows = rows_lent a.store.now a.job a.ceiling a.table.now pass in
    let some = some_vector a.store.now a.job a.ceiling a.table.now pass in
    let checked = (accepted a.store.now a.job a.ceiling a.table.now pass).checked in
    let evaluable : Evaluable a.store.now c.decode.new.lanes a.job.model =
    record {
      checked = checked;
      decoded = decoded_for a.store.now a.job.model checked c.power.ensures refl (search rules) c.decode.ensures;
    } in
    let limit = limited a.store.now a.job a.ceiling a.table.now pass c.sixteen_bits.ensures c.sixteen_bits-2.ensures in
    (evaluable, omega (arith, rows), some, limit a.job.domain some (λ v i. i))

pub steps-requires-clause-evaluable : goal.steps-requires-clause-evaluable
steps-requires-clause-evaluable c =
    let a = c.args in
    let pass : check_lent a.store.now a.job a.ceiling a.table.now ≡ Codes.pass = sym c.check_ranges.ensures ∙ c.in_default.is in
    let rows = rows_lent a.store.now a.job a.ceiling a.table.now pass in
    let some = some_vector a.store.now a.job a.ceiling a.table.now pass in
    let checked = (accepted a.store.now a.job a.ceiling a.table.now pass).checked in
    let evaluable : Evaluable a.store.now c.decode.new.lanes a.job.model =
    record {
      checked = checked;
      decoded = decoded_for a.store.now a.job.model checked c.power.ensures refl (search rules) c.decode.ensures;
    } in
    let limit = limited a.store.now a.job a.ceiling a.table.now pass c.sixteen_bits.ensures c.sixteen_bits-2.ensures in
    (evaluable, omega (arith, rows, c.begin-first.ensures.within.long), some, limit)

pub returns-clause-answer : goal.returns-clause-answer
returns-clause-answer c =
    let a = c.args in
    let pass : check_lent a.store.now a.job a.ceiling a.table.now ≡ Codes.pass = sym c.check_ranges.ensures ∙ c.in_default.is in
    (promised_pass a.store.now a.job a.ceiling a.table.now pass c.steps.new.table c.steps.result
    (ended_from a.store.now a.job a.ceiling a.table.now pass c.begin-first.new.table c.steps.new.table c.begin-first.result c.steps.result c.begin-first.ensures c.steps.ensures)
    c.tell.result c.tell.ensures).0

pub returns-clause-table : goal.returns-clause-table
returns-clause-table c =
    let a = c.args in
    let pass : check_lent a.store.now a.job a.ceiling a.table.now ≡ Codes.pass = sym c.check_ranges.ensures ∙ c.in_default.is in
    (promised_pass a.store.now a.job a.ceiling a.table.now pass c.steps.new.table c.steps.result
    (ended_from a.store.now a.job a.ceiling a.table.now pass c.begin-first.new.table c.steps.new.table c.begin-first.result c.steps.result c.begin-first.ensures c.steps.ensures)
    c.tell.result c.tell.ensures).1.0

pub returns-clause-ranges : goal.returns-clause-ranges
returns-clause-ranges c =
    let a = c.args in
    let pass : check_lent a.store.now a.job a.ceiling a.table.now ≡ Codes.pass = sym c.check_ranges.ensures ∙ c.in_default.is in
    (promised_pass a.store.now a.job a.ceiling a.table.now pass c.steps.new.table c.steps.result
    (ended_from a.store.now a.job a.ceiling a.table.now pass c.begin-first.new.table c.steps.new.table c.begin-first.result c.steps.result c.begin-first.ensures c.steps.ensures)
    c.tell.result c.tell.ensures).1.1
