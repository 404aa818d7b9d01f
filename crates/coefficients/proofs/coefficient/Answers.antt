-- The quotient of the two casts is the coefficient.
use Rattle.std.proofs.Common.{◌≡◌, ℕ, ◌^◌, ap, ◌∙◌, mod-eq_of_lt, arith, w16}
use mir.ValLaws.{to_z-of_z}
use Rattle.coefficients.proofs.Exact.{divided}
use Rattle.coefficients.proofs.coefficient.Goals as goal

pub returns : goal.returns
returns c =
    let e : c.power.result ≡ 2 ^ c.args.s = c.power.ensures ∙ ap (λ (k : ℕ). 2 ^ k) (mod-eq_of_lt (omega arith)) in
    simp (to_z-of_z w16 c.args.w c.ranges.w, e) (divided c.args.s c.requires c.args.w c.ranges.w)
