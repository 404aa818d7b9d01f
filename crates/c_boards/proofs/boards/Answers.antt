-- With the code 0 the call was accepted, and each answer whose own code is 0 is certified.
use Rattle.std.proofs.Common.{◌≡◌}
use mathlib.Core.Path.{sym, ◌∙◌}
use Rattle.c_boards.proofs.Certifying.{certified_call}
use Rattle.c_boards.proofs.boards.Goals as goal

pub returns-in-Ok-clause-certificate : goal.returns-in-Ok-clause-certificate
returns-in-Ok-clause-certificate c = λ _.
    let a = c.args in
    let f = c.in-Ok.ensures in
    let h = c.hand_over in
    certified_call a.count a.total a.jobs.now a.stores.now a.lengths.now a.table.now a.bounds.now a.codes.now a.budgets.now
    a.vectors.now a.numbers.now c.in-Ok.found h.new.codes h.new.budgets h.new.vectors h.new.numbers f.answer f.shares f.certificate
    h.ensures.codes h.ensures.budgets h.ensures.vectors h.ensures.numbers
