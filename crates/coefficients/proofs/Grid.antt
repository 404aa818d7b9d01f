-- Reading one pattern: no two numbers have one pattern, so `coordinate_of` finds the number that has p, and `on_grid` says whether there is
-- one. Assumes nothing.
use Rattle.std.proofs.Common.{◌≡◌, ℕ, zero, suc, ◌^◌, ◌<◌, ◌≤◌, Bool, true, false, cond, not, T, eqb, ℤ, pos, negsuc, nat_abs, sym, refl, ap, ◌∙◌, subst, inl, inr, true≢false, le_refl, le_of_suc-le-suc, not-suc-le-zero, eq-or-lt_of_le, arith, lit<, eqb→eq, T_not, w16, SFits, Some, None, eq-eqb, ne_eqb, eqb-true}
use mathlib.Core.Bool.{false≢true}
use Rattle.std.specs.Option.{unwrap_or}
use native.Mathlib.Nat.{eq_of_mul-eq-mul_right}
use lib.Signed.{mag}
use lib.Ieee.{Float, nan, inf, fin, binary32, down, mul, of_int, of_bits, is_nan, nan_bits}
use lib.Ieee.Fits.{down_pos, eq→eqb}
use lib.Ieee.Exact.{HasValue}
use lib.Ieee.Bits.{nan_bits_is}
use Rattle.integers.proofs.Tests.{by_cond}
use Rattle.coefficients.specs.Coefficient.{pattern_of, coefficient_of}
use Rattle.coefficients.specs.Grid.{among, coordinate_of, on_grid, reading_of}
use Rattle.coefficients.proofs.Exact.{negative, coefficient_exact, multiplied}

-- ---- no two numbers have one pattern
same_parts : (v w : ℤ) → negative v ≡ negative w → nat_abs v ≡ nat_abs w → v ≡ w
same_parts (pos m) (pos n) s e = ap pos e
same_parts (pos m) (negsuc n) s e = absurd (false≢true s)
same_parts (negsuc m) (pos n) s e = absurd (true≢false s)
same_parts (negsuc m) (negsuc n) s e = cc

one_value : (x : Float) (s t : Bool) (a b c : ℕ) → HasValue x s a c → HasValue x t b c → (s ≡ t) × (a ≡ b)
one_value nan s t a b c p q = absurd p
one_value (inf u) s t a b c p q = absurd p
one_value (fin u m e) s t a b c p q = (sym p.0 ∙ q.0, eq_of_mul-eq-mul_right (down e) (down_pos e) a b (sym p.1 ∙ q.1))

pub pattern_unique : (S : ℕ) → S ≤ 15 → (v w : ℤ) → SFits w16 v → SFits w16 w → pattern_of S v ≡ pattern_of S w → v ≡ w
unfolding coefficient_of
pattern_unique S h v w f g e =
    let r = one_value (coefficient_of S w) (negative v) (negative w) (nat_abs v) (nat_abs w) (2 ^ S)
    (subst (λ (p : ℕ). HasValue (of_bits binary32 p) (negative v) (nat_abs v) (2 ^ S)) e (coefficient_exact S h v f))
    (coefficient_exact S h w g) in
    same_parts v w r.0 r.1

-- ---- the search
-- what holds of 0 and of every number in the range that has the pattern holds of the one found
among_is : (k S p : ℕ) (P : ℤ → Type 0) → ((w : ℤ) → mag w < k → pattern_of S w ≡ p → P w) → P (pos 0) → P (among k S p)
unfolding among
among_is zero S p P f z = z
among_is (suc k) S p P f z =
    by_cond P (eqb (pattern_of S (pos k)) p) (λ t. f (pos k) (le_refl (suc k)) (eqb→eq _ _ t))
    (λ _. by_cond P (eqb (pattern_of S (negsuc k)) p) (λ t. f (negsuc k) (le_refl (suc k)) (eqb→eq _ _ t))
    (λ _. among_is k S p P (λ w g. f w (omega arith)) z))

-- if one in the range has the pattern, the one found has it
among_has : (k S p : ℕ) (w : ℤ) → mag w < k → pattern_of S w ≡ p → pattern_of S (among k S p) ≡ p
unfolding among
among_has zero S p w h e = absurd (not-suc-le-zero h)
among_has (suc k) S p w h e =
    let has : ℤ → Type 0 = λ v. pattern_of S v ≡ p in
    let plus = eqb (pattern_of S (pos k)) p in
    let minus = eqb (pattern_of S (negsuc k)) p in
    by_cond has plus {x = pos k} (eqb→eq _ _)
    (λ t. by_cond has minus {x = negsuc k} {y = among k S p} (eqb→eq _ _)
    (λ u. among_has k S p w (next w h (λ q. T_not plus t (eq→eqb (ap (pattern_of S) q ∙ e)))
    (λ q. T_not minus u (eq→eqb (ap (pattern_of S) q ∙ e)))) e))
  where
    next : (w : ℤ) → mag w < suc k → (pos k ≡ w → ⊥) → (negsuc k ≡ w → ⊥) → mag w < k
    next (pos n) h p q = elim (eq-or-lt_of_le (le_of_suc-le-suc h)) [ inl e ↦ absurd (p (ap pos (sym e))) | inr l ↦ l ]
    next (negsuc n) h p q = elim (eq-or-lt_of_le (le_of_suc-le-suc h)) [ inl e ↦ absurd (q (ap negsuc (sym e))) | inr l ↦ l ]

-- ---- the laws of reading
pub coordinate_fits : (S p : ℕ) → SFits w16 (coordinate_of S p)
unfolding coordinate_of
coordinate_fits S p = among_is (2 ^ 15) S p (SFits w16) (λ w g e. record { sfits = g }) (record { sfits = lit< tt })

pub on_grid_lem : (S p : ℕ) → on_grid S p ≡ true → pattern_of S (coordinate_of S p) ≡ p
unfolding on_grid
on_grid_lem S p t = eqb-true (pattern_of S (coordinate_of S p)) p t

pub found : (S : ℕ) → S ≤ 15 → (p : ℕ) (w : ℤ) → SFits w16 w → pattern_of S w ≡ p → (true ≡ on_grid S p) × (w ≡ coordinate_of S p)
unfolding coordinate_of on_grid
found S h p w f e =
    let has : pattern_of S (coordinate_of S p) ≡ p = among_has (2 ^ 15) S p w f.sfits e in
    (sym (eq-eqb (pattern_of S (coordinate_of S p)) p has), pattern_unique S h w (coordinate_of S p) f (coordinate_fits S p) (e ∙ sym has))

pub missed : (S p : ℕ) → ((w : ℤ) → SFits w16 w → pattern_of S w ≡ p → ⊥) → (false ≡ on_grid S p) × (pos 0 ≡ coordinate_of S p)
unfolding coordinate_of on_grid
missed S p none = (
  sym (ne_eqb (pattern_of S (coordinate_of S p)) p (none (coordinate_of S p) (coordinate_fits S p))),
  among_is (2 ^ 15) S p (λ (w : ℤ). pos 0 ≡ w) (λ w g e. absurd (none w (record { sfits = g }) e)) refl,
)

-- ---- the number that a pattern stands for, and what has none
-- the value of w's pattern, times 2 ^ S, is w
pub scaled_back : (S : ℕ) → S ≤ 15 → (p : ℕ) (w : ℤ) → SFits w16 w → pattern_of S w ≡ p
    → mul binary32 (of_bits binary32 p) (of_int binary32 (pos (2 ^ S))) ≡ of_int binary32 w
unfolding coefficient_of
scaled_back S h p w f e = ap (λ (q : ℕ). mul binary32 (of_bits binary32 q) (of_int binary32 (pos (2 ^ S)))) (sym e) ∙ multiplied S h w f

value_no_nan : (x : Float) (s : Bool) (a c : ℕ) → HasValue x s a c → T (not (is_nan x))
unfolding is_nan
value_no_nan nan s a c v = absurd v
value_no_nan (inf t) s a c v = absurd v
value_no_nan (fin t m e) s a c v = tt

pub coefficient_no_nan : (S : ℕ) → S ≤ 15 → (w : ℤ) → SFits w16 w → T (not (is_nan (coefficient_of S w)))
coefficient_no_nan S h w f = value_no_nan (coefficient_of S w) (negative w) (nat_abs w) (2 ^ S) (coefficient_exact S h w f)

pub nan_missed : (S : ℕ) → S ≤ 15 → (p : ℕ) → T (nan_bits binary32 p) → (w : ℤ) → SFits w16 w → pattern_of S w ≡ p → ⊥
unfolding coefficient_of
nan_missed S h p t w f e =
    T_not (is_nan (of_bits binary32 p)) (subst (λ (q : ℕ). T (not (is_nan (of_bits binary32 q)))) e (coefficient_no_nan S h w f))
    (subst T (nan_bits_is binary32 p) t)

-- ---- the same as an answer
pub read_as : (S : ℕ) → S ≤ 15 → (p : ℕ) (w : ℤ) → SFits w16 w → pattern_of S w ≡ p → Some w ≡ reading_of S p
unfolding reading_of
read_as S h p w f e = let r = found S h p w f e in rw (sym r.0, sym r.1) refl

pub not_read : (S p : ℕ) → ((w : ℤ) → SFits w16 w → pattern_of S w ≡ p → ⊥) → None ≡ reading_of S p
unfolding reading_of
not_read S p none = rw (sym (missed S p none).0) refl

pub number_read : (S p : ℕ) (w : ℤ) → reading_of S p ≡ Some w → (on_grid S p ≡ true) × (coordinate_of S p ≡ w)
unfolding reading_of
number_read S p w e = by (on_grid S p) e
  where
    by : (t : Bool) → cond t (Some (coordinate_of S p)) None ≡ Some w → (t ≡ true) × (coordinate_of S p ≡ w)
    by true e = (refl, ap (λ o. unwrap_or o w) e)
    by false e = let z : ◌≡◌ {A = ℕ} 0 1 = cc in absurd (omega arith)

pub no_number : (S p : ℕ) → reading_of S p ≡ None → on_grid S p ≡ false
unfolding reading_of
no_number S p e = by (on_grid S p) e
  where
    by : (t : Bool) → cond t (Some (coordinate_of S p)) None ≡ None → t ≡ false
    by true e = let z : ◌≡◌ {A = ℕ} 0 1 = cc in absurd (omega arith)
    by false e = refl
