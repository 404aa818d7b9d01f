-- Half of the sum of two 16-bit numbers, as it is computed in 32 bits and by a shift. Assumes nothing.
use mathlib.Core.Path.{◌≡◌}
use native.Mathlib.Omega.{arith}
use lib.IntN.{ℤ, ◌+ℤ◌}
use lib.Signed.{shr_z, mag_shr}
use mir.Syntax.{w16, w32}
use mir.Val.{SFits, to_z, of_z}
use mir.ValLaws.{sfits_le}
use mir.Facts.{to_z-of_z, sfits_widen}
use Rattle.integers.specs.Integers.{floor_half}
use Rattle.integers.proofs.Parts.{apart, sum_parts, sfits_parts, parts_sfits, fits_add, abs_fits}
use Rattle.integers.proofs.Half.{half_is_shift, half_below, half_above}

module _ (lo hi : ℤ) (fl : SFits w16 lo) (fh : SFits w16 hi) where
  sum_fits : SFits w32 (lo +ℤ hi)
  sum_fits = fits_add w32 lo hi (omega (arith, abs_fits w16 fl, abs_fits w16 fh))

  shift_fits : SFits w32 (shr_z (lo +ℤ hi) 2)
  shift_fits = sfits_le (mag_shr (lo +ℤ hi) 2) sum_fits

  half_fits : SFits w16 (floor_half (lo +ℤ hi))
  half_fits =
      let z = lo +ℤ hi in
      let h = floor_half z in
      parts_sfits w16 h
      (omega (arith, sfits_parts w16 fl, sfits_parts w16 fh, sum_parts lo hi, apart z, half_below z, half_above z, apart h))
      (omega (arith, sfits_parts w16 fl, sfits_parts w16 fh, sum_parts lo hi, apart z, half_below z, half_above z, apart h))

  pub half_there :
      (x y : ℤ) →
      x ≡ lo →
      y ≡ hi →
      to_z w16 (of_z w16 (to_z w32 (of_z w32 (shr_z (to_z w32 (of_z w32 (to_z w32 (of_z w32 x) +ℤ to_z w32 (of_z w32 y)))) 2))))
      ≡ floor_half (lo +ℤ hi)
  half_there x y p q =
      rw (
        p,
        q,
        to_z-of_z (sfits_widen tt fl),
        to_z-of_z (sfits_widen tt fh),
        to_z-of_z sum_fits,
        to_z-of_z shift_fits,
        half_is_shift (lo +ℤ hi),
        to_z-of_z half_fits,
      )
