-- By the check: all rounds, or a refusal that changes nothing.
use Rattle.std.proofs.Common.{◌≡◌}
use mathlib.Core.Path.{sym, ◌∙◌}
use Rattle.peel.proofs.Told.{where_accepted, where_refused}
use Rattle.peel.proofs.peel.Goals as goal

pub returns : goal.returns
returns c =
    let a = c.args in
    let r = c.each_round in
    let p =
    where_accepted a.store.now a.job a.limit a.table.now a.bounds.now a.labels.now r.result r.new.labels r.new.table r.new.bounds
    (sym c.check_peel.ensures ∙ c.in_ok-check_peel.was) r.ensures in
    record { answer = p.0; labels = p.1.0; table = p.1.1.0; bounds = p.1.1.1.0; peeling = p.1.1.1.1 }

pub returns-in_err-check_peel-clause-labels : goal.returns-in_err-check_peel-clause-labels
returns-in_err-check_peel-clause-labels c =
    let a = c.args in
    (where_refused a.store.now a.job a.limit a.table.now a.bounds.now a.labels.now _
    (sym c.check_peel.ensures ∙ c.in_err-check_peel.was)).1.0

pub returns-in_err-check_peel-clause-table : goal.returns-in_err-check_peel-clause-table
returns-in_err-check_peel-clause-table c =
    let a = c.args in
    (where_refused a.store.now a.job a.limit a.table.now a.bounds.now a.labels.now _
    (sym c.check_peel.ensures ∙ c.in_err-check_peel.was)).1.1.0

pub returns-in_err-check_peel-clause-bounds : goal.returns-in_err-check_peel-clause-bounds
returns-in_err-check_peel-clause-bounds c =
    let a = c.args in
    (where_refused a.store.now a.job a.limit a.table.now a.bounds.now a.labels.now _
    (sym c.check_peel.ensures ∙ c.in_err-check_peel.was)).1.1.1.0

pub returns-in_err-check_peel-clause-peeling : goal.returns-in_err-check_peel-clause-peeling
returns-in_err-check_peel-clause-peeling c =
    let a = c.args in
    (where_refused a.store.now a.job a.limit a.table.now a.bounds.now a.labels.now _
    (sym c.check_peel.ensures ∙ c.in_err-check_peel.was)).1.1.1.1
