-- The four patterns of a line: those after the d-th are +0 where the coordinates are 0, so the coordinates decide check 12.
-- Assumes nothing.
use Rattle.std.proofs.Common.{◌≡◌, ℕ, zero, suc, ◌<◌, ◌≤◌, Bool, true, false, cond, ◌&&◌, eqb, List, [], ◌∷◌, map, length, get_or, drop, ℤ, pos, negsuc, nat_abs, sym, refl, ap, ◌∙◌, subst, arith, lit<, w16, SFits, to_z, of_z, Some, None, eq-eqb, ne_eqb, eqb-true}
use mathlib.Core.Bool.{false≢true, and-false}
use mir.ValLaws.{to_z-of_z}
use Rattle.std.specs.Result.{result_ok}
use borrow.Author.Tests.{eqb-false}
use Rattle.integers.specs.Integers.{all_zero}
use Rattle.codes.specs.declared.Refusal.TheVariants.{OffGrid}
use Rattle.codes.specs.Codes.{pass_if, unless_refused}
use Rattle.coefficients.specs.Coefficient.{pattern_of}
use Rattle.coefficients.specs.Grid.{coordinate_of, on_grid, reading_of}
use Rattle.coefficients.specs.Lines.{all_on_grid, all_plus_zero, check_grid}
use Rattle.coefficients.proofs.Grid.{on_grid_lem, found, coordinate_fits, number_read, no_number}

pub four : {A : Type 0} (z : A) (l : List A) → length l ≡ 4 → l ≡ get_or l 0 z ∷ get_or l 1 z ∷ get_or l 2 z ∷ get_or l 3 z ∷ []
four z [] e = absurd (omega arith)
four z (a ∷ []) e = absurd (omega arith)
four z (a ∷ b ∷ []) e = absurd (omega arith)
four z (a ∷ b ∷ c ∷ []) e = absurd (omega arith)
four z (a ∷ b ∷ c ∷ d ∷ []) e = refl
four z (a ∷ b ∷ c ∷ d ∷ x ∷ l) e = absurd (omega arith)

zero_fits : SFits w16 (pos 0)
zero_fits = record { sfits = lit< tt }

zero_pattern : (S : ℕ) (w : ℤ) → nat_abs w ≡ 0 → pattern_of S w ≡ 0
unfolding pattern_of
zero_pattern S (pos zero) e = refl
zero_pattern S (pos (suc n)) e = absurd (omega arith)
zero_pattern S (negsuc n) e = absurd (omega arith)

pub both : (a b : Bool) → a && b ≡ true → (a ≡ true) × (b ≡ true)
both true b e = (refl, e)
both false b e = absurd (false≢true e)

module _ (S : ℕ) (h : S ≤ 15) where
  -- of the patterns on the grid only +0 is read as 0
  zero_read : (p : ℕ) → on_grid S p ≡ true → eqb p 0 ≡ eqb (nat_abs (coordinate_of S p)) 0
  zero_read p g = by (eqb (nat_abs (coordinate_of S p)) 0) refl
    where
      by : (t : Bool) → eqb (nat_abs (coordinate_of S p)) 0 ≡ t → eqb p 0 ≡ t
      by true e = eq-eqb p 0 (sym (on_grid_lem S p g) ∙ zero_pattern S (coordinate_of S p) (eqb-true _ _ e))
      by false e =
          ne_eqb p 0 (λ z. eqb-false _ _ e (ap nat_abs (sym (found S h p (pos 0) zero_fits (zero_pattern S (pos 0) refl ∙ sym z)).1)))

  all_zero_read : (ps : List ℕ) → all_on_grid S ps ≡ true → all_plus_zero ps ≡ all_zero (map (coordinate_of S) ps)
  unfolding all_on_grid all_plus_zero all_zero
  all_zero_read [] g = refl
  all_zero_read (p ∷ ps) g = let e = both (on_grid S p) (all_on_grid S ps) g in rw (zero_read p e.0, all_zero_read ps e.1)

  pub rest_zero_read : (d : ℕ) (ps : List ℕ) → all_on_grid S ps ≡ true → all_plus_zero (drop d ps) ≡ all_zero (drop d (map (coordinate_of S) ps))
  unfolding all_on_grid
  rest_zero_read zero ps g = all_zero_read ps g
  rest_zero_read (suc d) [] g = all_zero_read [] g
  rest_zero_read (suc d) (p ∷ ps) g = rest_zero_read d ps (both (on_grid S p) (all_on_grid S ps) g).1

pub four_mapped : {A B : Type 0} (f : A → B) (z : A) (l : List A) → length l ≡ 4
    → f (get_or l 0 z) ∷ f (get_or l 1 z) ∷ f (get_or l 2 z) ∷ f (get_or l 3 z) ∷ [] ≡ map f l
four_mapped f z l e = ap (map f) (sym (four z l e))

-- ---- four patterns as they are read
module _ (S d : ℕ) (ps : List ℕ) (long : length ps ≡ 4) where
  -- one that no number has
  missing : (qs : List ℕ) (k : ℕ) → k < length qs → on_grid S (get_or qs k 0) ≡ false → all_on_grid S qs ≡ false
  unfolding all_on_grid
  missing [] k h e = absurd (omega arith)
  missing (q ∷ qs) zero h e = rw e refl
  missing (q ∷ qs) (suc k) h e = rw (missing qs k (omega arith) e) (and-false (on_grid S q))

  pub off_grid : (k : ℕ) → k < 4 → reading_of S (get_or ps k 0) ≡ None → None ≡ result_ok (unless_refused (check_grid d S ps) (map (coordinate_of S) ps))
  unfolding check_grid
  off_grid k h e = rw (missing ps k (omega arith) (no_number S (get_or ps k 0) e)) refl

  -- a coordinate as an array holds it
  kept : (k : ℕ) (w : ℤ) → reading_of S (get_or ps k 0) ≡ Some w
      → (on_grid S (get_or ps k 0) ≡ true) × (to_z w16 (of_z w16 w) ≡ coordinate_of S (get_or ps k 0))
  kept k w e =
      let r = number_read S (get_or ps k 0) w e in
      (r.0, to_z-of_z w16 w (subst (SFits w16) r.1 (coordinate_fits S (get_or ps k 0))) ∙ sym r.1)

  -- all four are some number's: what stands behind the d-th decides check 12
  pub four_read : S ≤ 15 → (a b c e : ℤ)
      → reading_of S (get_or ps 0 0) ≡ Some a → reading_of S (get_or ps 1 0) ≡ Some b
      → reading_of S (get_or ps 2 0) ≡ Some c → reading_of S (get_or ps 3 0) ≡ Some e
      → (t : Bool)
      → t ≡ all_zero (drop d (to_z w16 (of_z w16 a) ∷ to_z w16 (of_z w16 b) ∷ to_z w16 (of_z w16 c) ∷ to_z w16 (of_z w16 e) ∷ []))
      → cond t (Some (to_z w16 (of_z w16 a) ∷ to_z w16 (of_z w16 b) ∷ to_z w16 (of_z w16 c) ∷ to_z w16 (of_z w16 e) ∷ [])) None
      ≡ result_ok (unless_refused (check_grid d S ps) (map (coordinate_of S) ps))
  unfolding check_grid all_on_grid
  four_read h a b c e ra rb rc re t is =
      let k0 = kept 0 a ra in
      let k1 = kept 1 b rb in
      let k2 = kept 2 c rc in
      let k3 = kept 3 e re in
      let same = (λ i. k0.1 i ∷ k1.1 i ∷ k2.1 i ∷ k3.1 i ∷ []) ∙ four_mapped (coordinate_of S) 0 ps long in
      let all : all_on_grid S ps ≡ true = ap (all_on_grid S) (four 0 ps long) ∙ rw (k0.0, k1.0, k2.0, k3.0) refl in
      let rest = is ∙ ap (λ (l : List ℤ). all_zero (drop d l)) same ∙ sym (rest_zero_read S h d ps all) in
      by t (map (coordinate_of S) ps) same (ap (λ (b : Bool). b && all_plus_zero (drop d ps)) all ∙ sym rest)
    where
      by : (t : Bool) {g : Bool} {w : List ℤ} (l : List ℤ) → w ≡ l → g ≡ t → cond t (Some w) None ≡ result_ok (unless_refused (pass_if g OffGrid) l)
      by true l same e = rw (e, same) refl
      by false l same e = rw e refl
