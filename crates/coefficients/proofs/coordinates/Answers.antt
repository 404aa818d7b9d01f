-- Where one of the four patterns is no number's, check 12 refuses; else what stands behind the d-th decides it.
use Rattle.std.proofs.Common.{◌≡◌, true, false, length, sym, ◌∙◌, arith, rules}
use Rattle.coefficients.proofs.Lines.{off_grid, four_read}
use Rattle.coefficients.proofs.coordinates.Goals as goal

pub returns-in_err-coordinate : goal.returns-in_err-coordinate
returns-in_err-coordinate c =
    let long : length c.args.bits ≡ 4 = search rules in
    c.from_residual.ensures ∙ off_grid c.args.s c.args.d c.args.bits long 0 (omega arith) (sym c.coordinate.ensures ∙ c.in_err-coordinate.was)

pub returns-in_err-coordinate-2 : goal.returns-in_err-coordinate-2
returns-in_err-coordinate-2 c =
    let long : length c.args.bits ≡ 4 = search rules in
    c.from_residual-in_err-coordinate-2.ensures
    ∙ off_grid c.args.s c.args.d c.args.bits long 1 (omega arith) (sym c.coordinate-2.ensures ∙ c.in_err-coordinate-2.was)

pub returns-in_err-coordinate-3 : goal.returns-in_err-coordinate-3
returns-in_err-coordinate-3 c =
    let long : length c.args.bits ≡ 4 = search rules in
    c.from_residual-in_err-coordinate-3.ensures
    ∙ off_grid c.args.s c.args.d c.args.bits long 2 (omega arith) (sym c.coordinate-3.ensures ∙ c.in_err-coordinate-3.was)

pub returns-in_err-coordinate-4 : goal.returns-in_err-coordinate-4
returns-in_err-coordinate-4 c =
    let long : length c.args.bits ≡ 4 = search rules in
    c.from_residual-in_err-coordinate-4.ensures
    ∙ off_grid c.args.s c.args.d c.args.bits long 3 (omega arith) (sym c.coordinate-4.ensures ∙ c.in_err-coordinate-4.was)

pub returns-then-rest_zero : goal.returns-then-rest_zero
returns-then-rest_zero c =
    let long : length c.args.bits ≡ 4 = search rules in
    four_read c.args.s c.args.d c.args.bits long c.requires _ _ _ _
    (sym c.coordinate.ensures ∙ c.in_ok-coordinate.was)
    (sym c.coordinate-2.ensures ∙ c.in_ok-coordinate-2.was)
    (sym c.coordinate-3.ensures ∙ c.in_ok-coordinate-3.was)
    (sym c.coordinate-4.ensures ∙ c.in_ok-coordinate-4.was)
    true (sym c.if-rest_zero.true ∙ c.rest_zero.ensures)

pub returns-else-rest_zero : goal.returns-else-rest_zero
returns-else-rest_zero c =
    let long : length c.args.bits ≡ 4 = search rules in
    four_read c.args.s c.args.d c.args.bits long c.requires _ _ _ _
    (sym c.coordinate.ensures ∙ c.in_ok-coordinate.was)
    (sym c.coordinate-2.ensures ∙ c.in_ok-coordinate-2.was)
    (sym c.coordinate-3.ensures ∙ c.in_ok-coordinate-3.was)
    (sym c.coordinate-4.ensures ∙ c.in_ok-coordinate-4.was)
    false (sym c.if-rest_zero.false ∙ c.rest_zero.ensures)
