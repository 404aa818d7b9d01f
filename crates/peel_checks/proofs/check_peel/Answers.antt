-- Where checks 1 to 4 and 13 refuse, no other is asked.
use Rattle.std.proofs.Common.{sym}
use Rattle.std.proofs.lemmas.Result.{err_from_is_err_and}
use Rattle.peel_checks.proofs.Passed.{first_refuses}
use Rattle.peel_checks.proofs.check_peel.Goals as goal

pub returns-in_err-check_given : goal.returns-in_err-check_given
returns-in_err-check_given c =
    let a = c.args in
    let p = err_from_is_err_and c.from_residual.result c.from_residual.ensures.1 in
    rw (p.1, p.2) (sym (first_refuses a.store.now a.job a.limit a.numbers a.entries a.labels _ (sym c.in_err-check_given.ensures)))
