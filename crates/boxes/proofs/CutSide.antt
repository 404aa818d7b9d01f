-- The longest side is one of the 8. Where its low is below its high the middle m and m + 1 lie between the two, so both fit.
-- Assumes nothing.
use mathlib.Core.Path.{◌≡◌, sym, ◌∙◌, ap}
use mathlib.Core.Bool.{true, false}
use Prim.Native.Nat.{ℕ, ◌≤◌, ◌<◌}
use native.Mathlib.Omega.{arith}
use lib.IntN.{ℤ, pos, ◌+ℤ◌}
use lib.ListN.{length, get_or, set}
use lib.Signed.{lt_z, ◌≤ℤ◌}
use mir.Syntax.{w16}
use mir.Val.{SFits, to_z, of_z}
use mir.Facts.{to_z-of_z}
use Rattle.std.specs.Prelude.{Result, Ok, Err}
use Rattle.codes.specs.declared.Refusal.{Refusal}
use Rattle.integers.specs.Integers.{floor_half}
use Rattle.integers.proofs.Parts.{holds, le_parts, parts_le, sum_parts, pos_up, pos_dn, lt_z_true}
use Rattle.integers.proofs.Half.{middle_low, middle_high, middle_next}
use Rattle.integers.proofs.Signed.{fits_between}
use Rattle.boxes.specs.declared.Box.{Box}
use Rattle.boxes.specs.declared.Halves.{Halves}
use Rattle.boxes.specs.Boxes.{side_size, sides, side_at}
use Rattle.boxes.specs.Split.{longest_side, cut_answer}
use Rattle.boxes.proofs.Sides.{next_parts, side_two, side_few}
use Rattle.boxes.proofs.LongestSide.{sides_length, side_at_lem, largest_inside}
use Rattle.boxes.proofs.Splitting.{longest_cut, cut_wide, cut_narrow}

-- a box of 16 numbers and its longest side
pub record Longest (b : Box) (k : ℕ) : Type 0 where
  pub is : k ≡ longest_side b
  pub low : length b.low ≡ 8
  pub high : length b.high ≡ 8

module _ (b : Box) (k : ℕ) (long : Longest b k) where
  pub inside : k < 8
  inside =
      let same = sides_length b.low b.high (omega arith) in
      omega (arith, same, largest_inside (sides b.low b.high) (omega (arith, same)))

  abbrev lo : ℤ
  lo = get_or b.low k (pos 0)

  abbrev hi : ℤ
  hi = get_or b.high k (pos 0)

  size_is : side_at b (longest_side b) ≡ side_size lo hi
  size_is = ap (side_at b) (sym long.is) ∙ side_at_lem b.low b.high k (omega arith) (omega (arith, inside))

  pub side_narrow : lt_z lo hi ≡ false → Err Refusal.Box ≡ cut_answer b
  side_narrow few = sym (cut_narrow b (rw size_is (side_few lo hi few)))

  module _ (fits_lo : SFits w16 lo) (fits_hi : SFits w16 hi) (below : lt_z lo hi ≡ true) where
    abbrev m : ℤ
    m = floor_half (lo +ℤ hi)

    ordered : lo ≤ℤ hi
    ordered = parts_le lo hi (omega (arith, lt_z_true lo hi below))

    middle_fits : SFits w16 m
    middle_fits = fits_between w16 lo m hi (middle_low lo hi ordered) (middle_high lo hi ordered) fits_lo fits_hi

    next_fits : SFits w16 (m +ℤ pos 1)
    next_fits =
        let next = le_parts (middle_next lo hi (record { lt = holds below })) in
        let after = parts_le m (m +ℤ pos 1) (omega (arith, sum_parts m (pos 1), pos_up 1, pos_dn 1)) in
        let upto = parts_le (m +ℤ pos 1) hi (omega (arith, sum_parts m (pos 1), pos_up 1, pos_dn 1, next_parts m, next)) in
        fits_between w16 m (m +ℤ pos 1) hi after upto middle_fits fits_hi

    -- the middle, as it is found of the ends that are read
    module _ (n : ℤ) (found : n ≡ floor_half (to_z w16 (of_z w16 lo) +ℤ to_z w16 (of_z w16 hi))) where
      middle_back : to_z w16 (of_z w16 n) ≡ m
      middle_back =
          let is : n ≡ m = found ∙ rw (to_z-of_z fits_lo, to_z-of_z fits_hi) in
          ap (λ z. to_z w16 (of_z w16 z)) is ∙ to_z-of_z middle_fits

      pub next_back : SFits w16 (to_z w16 (of_z w16 n) +ℤ pos 1)
      next_back = rw middle_back next_fits

      pub side_cut :
          ◌≡◌ {A = Result Halves Refusal}
          (Ok
          (record {
            left = record { low = b.low; high = set b.high k (to_z w16 (of_z w16 n)) };
            right = record { low = set b.low k (to_z w16 (of_z w16 (to_z w16 (of_z w16 n) +ℤ pos 1))); high = b.high };
          }))
          (cut_answer b)
      side_cut =
          let two : 2 ≤ side_at b (longest_side b) = rw size_is (side_two lo hi below) in
          rw (middle_back, to_z-of_z next_fits) (longest_cut b k long.is ∙ sym (cut_wide b two))
