-- A product of two signed 16-bit numbers has a size of 2^30 at most, and so has room below 2^63 beside the rest.
use Rattle.std.proofs.Common.{rules, arith, ◌≡◌, ◌+◌, ◌<◌, ◌^◌, ◌≤◌, ℤ, nat_abs, ◌-ℤ◌, ◌*ℤ◌}
use mir.Syntax.{w16, w64}
use mir.Val.{SFits, to_z, of_z}
use mir.Facts.{to_z-of_z, sfits_widen}
use Rattle.integers.proofs.Machine.{read_difference}
use Rattle.integers.proofs.Parts.{abs_product, abs_sub}
use Rattle.labels.proofs.nearest.without.Goals as goal

module _ (e w x : ℤ) (fw : SFits w16 w) (fx : SFits w16 x) (small : nat_abs e ≤ 6442450944) where
  room : nat_abs e + nat_abs (w *ℤ x) < 2 ^ 63
  room = omega (arith, abs_product w16 fw fx)

  read : to_z w64 (of_z w64 (to_z w64 (of_z w64 e) -ℤ to_z w64 (of_z w64 (to_z w64 (of_z w64 w) *ℤ to_z w64 (of_z w64 x))))) ≡ e -ℤ w *ℤ x
  read =
      let gw : SFits w64 w = sfits_widen tt fw in
      let gx : SFits w64 x = sfits_widen tt fx in
      rw (to_z-of_z gw, to_z-of_z gx) (read_difference w64 e (w *ℤ x) room)

pub returns-clause-value : goal.returns-clause-value
returns-clause-value c =
    let a = c.args in
    let w : c.from.result ≡ a.w = search rules in
    let x : c.from-2.result ≡ a.x = search rules in
    rw (w, x) (read a.e a.w a.x c.ranges.w c.ranges.x c.requires)

pub returns-clause-small : goal.returns-clause-small
returns-clause-small c =
    let a = c.args in
    rw (returns-clause-value c) (omega (arith, abs_sub a.e (a.w *ℤ a.x), abs_product w16 c.ranges.w c.ranges.x))
