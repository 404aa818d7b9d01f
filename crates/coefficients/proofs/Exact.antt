-- w / 2 ^ S in single precision: rounding is exact at it, its bits are `pattern_of S w`, a quotient by 2 ^ S gives it, and a product with
-- 2 ^ S takes it back. Assumes nothing.
use Rattle.std.proofs.Common.{◌≡◌, ℕ, zero, suc, ◌+◌, ◌-◌, ◌*◌, ◌/◌, ◌^◌, ◌<◌, ◌≤◌, Bool, true, false, cond, not, T, eqb, ℤ, pos, negsuc, nat_abs, sym, refl, ap, ◌∙◌, subst, le_trans, le_of_eq, lt_of_lt_of_le, lt_of_le_of_lt, lt_irrefl, mul-le-mul_right, zero-lt-suc, mul_assoc, mul_comm, mul-pos, lt_of_not-le, zero-mul, mul-one, not-le_of_lt, mul-div_cancel, mul_left_comm, arith, lit<, pow_pos, pow_mono, pow-add, shl_lt, w16, SFits}
use lib.Signed.{non_neg, nat_abs-le}
use lib.Dec.{eqb-suc-zero}
use lib.Ieee.{Float, nan, inf, fin, Format, binary32, up, down, size, round, div, mul, of_int, of_bits, to_bits, unlike}
use lib.Ieee.Fits.{round-fits, down_pos, up_pos}
use lib.Ieee.Digits.{size-lt, size-le, size_reaches}
use lib.Ieee.Exact.{HasValue, round_exact}
use lib.Ieee.Scale.{round_same}
use lib.Ieee.Back.{round_whole}
use lib.Ieee.Bits.{of_bits-to_bits, cond_no}
use Rattle.coefficients.specs.Coefficient.{exponent_of, fraction_of, fields_of, pattern_of, coefficient_of}

abbrev pub negative : ℤ → Bool
negative w = not (non_neg w)

-- ---- how many digits n * 2 ^ j has
size_gt : (n j : ℕ) → 2 ^ j ≤ n → j < size n
size_gt n j h = lt_of_not-le (λ (g : size n ≤ j). not-le_of_lt (lt_of_lt_of_le (size-lt n) (pow_mono g)) h)

size_pos : (n : ℕ) → 0 < n → 0 < size n
size_pos n h = size_gt n 0 h

-- the leading digit of an n of z digits weighs 2 ^ (z - 1)
leading : (n : ℕ) → 0 < n → 2 ^ (size n - 1) ≤ n
leading n h = size_reaches n (size n - 1) (let z : 0 < size n = size_pos n h in omega arith)

size_shift : (n j : ℕ) → 0 < n → size (n * 2 ^ j) ≡ size n + j
size_shift n j h =
    let z : 0 < size n = size_pos n h in
    let below : size (n * 2 ^ j) ≤ size n + j = size-le (n * 2 ^ j) (size n + j) (shl_lt (size n) j (size-lt n)) in
    let above : size n - 1 + j < size (n * 2 ^ j) =
    size_gt (n * 2 ^ j) (size n - 1 + j) (le_trans (le_of_eq (pow-add 2 (size n - 1) j)) (mul-le-mul_right (2 ^ j) (leading n h))) in
    omega arith

-- an `i16` has at most 24 digits
pub short : (w : ℤ) → SFits w16 w → nat_abs w < 2 ^ 24
short w f = lt_of_le_of_lt (nat_abs-le w f.sfits) (lit< tt)

-- the sign's digit weighs 2 ^ 31
abbrev weight : Bool → ℕ
weight t = cond t (2 ^ 31) 0

-- the pattern of N of the format's smallest values, with the sign's weight: it keeps 24 leading digits, and says how many more there are
abbrev kept : ℕ → ℕ → ℕ
kept sign N = sign + (size N - 24) * 2 ^ 23 + N / 2 ^ (size N - 24)

-- ---- n / 2 ^ S is a value of the format, and these are its bits
module _ (S : ℕ) (h : S ≤ 15) where
  -- 2 ^ 149 of the format's smallest values make 1
  units : 2 ^ (149 - S) * 2 ^ S ≡ 2 ^ 149
  units = let e : 149 - S + S ≡ 149 = omega arith in sym (pow-add 2 (149 - S) S) ∙ ap (λ (x : ℕ). 2 ^ x) e

  rounded_exact : (s : Bool) (n : ℕ) → n < 2 ^ 24 → HasValue (round binary32 s n (2 ^ S)) s n (2 ^ S)
  rounded_exact s n small =
      round_exact binary32 s n (2 ^ S) n (149 - S) (pow_pos S) small
      (lt_of_lt_of_le (shl_lt 24 (149 - S) small) (let e : 24 + (149 - S) ≤ 277 = omega arith in pow_mono e))
      (ap (λ (x : ℕ). n * x) (sym units) ∙ sym (mul_assoc n (2 ^ (149 - S)) (2 ^ S)))

  -- the value counted in the format's smallest
  units_of : (m : ℕ) (e : ℤ) (n : ℕ) → m * up e * 2 ^ S ≡ n * down e → m * up e * 2 ^ 149 / down e ≡ n * 2 ^ (149 - S)
  units_of m e n v =
      ap (λ (x : ℕ). x / down e)
      (ap (λ (x : ℕ). m * up e * x) (sym units)
      ∙ mul_left_comm (m * up e) (2 ^ (149 - S)) (2 ^ S)
      ∙ ap (λ (x : ℕ). 2 ^ (149 - S) * x) v
      ∙ mul_left_comm (2 ^ (149 - S)) n (down e)
      ∙ sym (mul_assoc n (2 ^ (149 - S)) (down e)))
      ∙ mul-div_cancel (n * 2 ^ (149 - S)) (down_pos e)

  fields_kept : (sign n : ℕ) → 0 < n → n < 2 ^ 24 → kept (sign * 2 ^ 31) (n * 2 ^ (149 - S)) ≡ fields_of sign S n
  unfolding fields_of exponent_of fraction_of
  fields_kept sign n p small =
      let z = size n in
      let Z : 0 < z = size_pos n p in
      let L : z ≤ 24 = size-le n 24 small in
      let k = z + (149 - S) - 24 in
      let q = n * 2 ^ (24 - z) in
      let drop_first : n * 2 ^ (149 - S) ≡ q * 2 ^ k =
      ap (λ (x : ℕ). n * x) (ap (λ (x : ℕ). 2 ^ x) (shifts z L) ∙ pow-add 2 (24 - z) k) ∙ sym (mul_assoc n (2 ^ (24 - z)) (2 ^ k)) in
      let rest : n * 2 ^ (149 - S) / 2 ^ k ≡ q = ap (λ (x : ℕ). x / 2 ^ k) drop_first ∙ mul-div_cancel q (pow_pos k) in
      let top : 2 ^ 23 ≤ q =
      le_trans (le_of_eq (ap (λ (x : ℕ). 2 ^ x) (places z Z L) ∙ pow-add 2 (z - 1) (24 - z)))
      (mul-le-mul_right (2 ^ (24 - z)) (leading n p)) in
      ap (λ (x : ℕ). sign * 2 ^ 31 + (x - 24) * 2 ^ 23 + n * 2 ^ (149 - S) / 2 ^ (x - 24)) (size_shift n (149 - S) p)
      ∙ ap (λ (x : ℕ). sign * 2 ^ 31 + k * 2 ^ 23 + x) rest
      ∙ total (sign * 2 ^ 31) z q Z top
    where
      shifts : (z : ℕ) → z ≤ 24 → 149 - S ≡ 24 - z + (z + (149 - S) - 24)
      shifts z l = omega arith

      places : (z : ℕ) → 0 < z → z ≤ 24 → 23 ≡ z - 1 + (24 - z)
      places z p l = omega arith

      total : (c z q : ℕ) → 0 < z → 8388608 ≤ q → c + (z + (149 - S) - 24) * 8388608 + q ≡ c + (127 + (z - 1) - S) * 8388608 + (q - 8388608)
      total c z q p l = omega arith

  kept_bits : (t : Bool) (m : ℕ) (e : ℤ) (sign n : ℕ) → weight t ≡ sign * 2 ^ 31 → m * up e * 2 ^ S ≡ n * down e
      → to_bits binary32 (fin t m e) ≡ kept (sign * 2 ^ 31) (n * 2 ^ (149 - S))
  unfolding to_bits
  kept_bits t m e sign n s v = ap (kept (weight t)) (units_of m e n v) ∙ ap (λ (x : ℕ). kept x (n * 2 ^ (149 - S))) s

  kept_zero : kept 0 (0 * 2 ^ (149 - S)) ≡ 0
  unfolding size
  kept_zero = ap (kept 0) (zero-mul (2 ^ (149 - S)))

  bits_of : (x : Float) (w : ℤ) → nat_abs w < 2 ^ 24 → HasValue x (negative w) (nat_abs w) (2 ^ S) → to_bits binary32 x ≡ pattern_of S w
  unfolding pattern_of
  bits_of nan w small v = absurd v
  bits_of (inf t) w small v = absurd v
  bits_of (fin t m e) (pos zero) small v = kept_bits t m e 0 0 (ap weight v.0) v.1 ∙ kept_zero
  bits_of (fin t m e) (pos (suc n)) small v =
      kept_bits t m e 0 (suc n) (ap weight v.0) v.1 ∙ fields_kept 0 (suc n) (zero-lt-suc n) small
  bits_of (fin t m e) (negsuc n) small v = kept_bits t m e 1 (suc n) (ap weight v.0) v.1 ∙ fields_kept 1 (suc n) (zero-lt-suc n) small

  -- ---- the coefficient
  coefficient_rounded : (w : ℤ) → SFits w16 w → coefficient_of S w ≡ round binary32 (negative w) (nat_abs w) (2 ^ S)
  unfolding coefficient_of
  coefficient_rounded w f =
      let x = round binary32 (negative w) (nat_abs w) (2 ^ S) in
      ap (of_bits binary32) (sym (bits_of x w (short w f) (rounded_exact (negative w) (nat_abs w) (short w f))))
      ∙ of_bits-to_bits binary32 x (round-fits binary32 (negative w) (nat_abs w) (2 ^ S))

  pub coefficient_exact : (w : ℤ) → SFits w16 w → HasValue (coefficient_of S w) (negative w) (nat_abs w) (2 ^ S)
  coefficient_exact w f = rw (coefficient_rounded w f) (rounded_exact (negative w) (nat_abs w) (short w f))

  pub coefficient_bits : (w : ℤ) → SFits w16 w → to_bits binary32 (coefficient_of S w) ≡ pattern_of S w
  coefficient_bits w f = bits_of (coefficient_of S w) w (short w f) (coefficient_exact w f)

-- ---- a quotient and a product by p
same_sign : (t u s : Bool) → t ≡ s → u ≡ false → unlike t u ≡ s
same_sign t u s p q = ap (λ (x : Bool). unlike t x) q ∙ alone t ∙ p
  where
    alone : (t : Bool) → unlike t false ≡ t
    alone true = refl
    alone false = refl

quotient : (f : Format) (x y : Float) (s : Bool) (a p : ℕ) → 0 < p → HasValue x s a 1 → HasValue y false p 1 → div f x y ≡ round f s a p
unfolding div
quotient f nan y s a p P v w = absurd v
quotient f (inf t) y s a p P v w = absurd v
quotient f (fin t m e) nan s a p P v w = absurd w
quotient f (fin t m e) (inf u) s a p P v w = absurd w
quotient f (fin t m e) (fin u zero d) s a p P v w =
    absurd (lt_irrefl 0 (subst (λ (x : ℕ). 0 < x) (sym w.1 ∙ ap (λ (x : ℕ). x * 1) (zero-mul (up d)) ∙ zero-mul 1)
    (mul-pos P (down_pos d))))
quotient f (fin t m e) (fin u (suc n) d) s a p P v w =
    let k : m * up e ≡ a * down e = sym (mul-one (m * up e)) ∙ v.1 in
    let l : suc n * up d ≡ p * down d = sym (mul-one (suc n * up d)) ∙ w.1 in
    let r : a * down e * down d * p ≡ a * (p * down d * down e) = simp (mul_assoc, mul_comm, mul_left_comm) in
    cond_no (eqb (suc n) 0) _ _ (subst (λ (b : Bool). T (not b)) (sym (eqb-suc-zero n)) tt)
    ∙ ap (λ (b : Bool). round f b (m * up e * down d) (suc n * up d * down e)) (same_sign t u s v.0 w.0)
    ∙ round_same f s (m * up e * down d) (suc n * up d * down e) a p (mul-pos (mul-pos (zero-lt-suc n) (up_pos d)) (down_pos e)) P
    (ap (λ (x : ℕ). x * down d * p) k ∙ r ∙ ap (λ (x : ℕ). a * (x * down e)) (sym l))

product : (f : Format) (x y : Float) (s : Bool) (a p : ℕ) → HasValue x s a p → HasValue y false p 1 → mul f x y ≡ round f s a 1
unfolding mul
product f nan y s a p v w = absurd v
product f (inf t) y s a p v w = absurd v
product f (fin t m e) nan s a p v w = absurd w
product f (fin t m e) (inf u) s a p v w = absurd w
product f (fin t m e) (fin u n d) s a p v w =
    let l : n * up d ≡ p * down d = sym (mul-one (n * up d)) ∙ w.1 in
    ap (λ (b : Bool). round f b (m * up e * (n * up d)) (down e * down d)) (same_sign t u s v.0 w.0)
    ∙ round_same f s (m * up e * (n * up d)) (down e * down d) a 1 (mul-pos (down_pos e) (down_pos d)) (zero-lt-suc 0)
    (mul-one (m * up e * (n * up d)) ∙ ap (λ (x : ℕ). m * up e * x) l ∙ sym (mul_assoc (m * up e) p (down d))
    ∙ ap (λ (x : ℕ). x * down d) v.1 ∙ mul_assoc a (down e) (down d))

-- ---- of the cast w, by the cast 2 ^ S
int_rounded : (w : ℤ) → of_int binary32 w ≡ round binary32 (negative w) (nat_abs w) 1
unfolding of_int
int_rounded (pos n) = refl
int_rounded (negsuc n) = refl

pub int_exact : (w : ℤ) → nat_abs w < 2 ^ 24 → HasValue (of_int binary32 w) (negative w) (nat_abs w) 1
int_exact w small = rw (int_rounded w) (round_whole binary32 (negative w) (nat_abs w) (omega arith))

module _ (S : ℕ) (h : S ≤ 15) where
  power_exact : HasValue (of_int binary32 (pos (2 ^ S))) false (2 ^ S) 1
  power_exact = int_exact (pos (2 ^ S)) (lt_of_le_of_lt (pow_mono h) (lit< tt))

  pub divided : (w : ℤ) → SFits w16 w → div binary32 (of_int binary32 w) (of_int binary32 (pos (2 ^ S))) ≡ coefficient_of S w
  divided w f =
      quotient binary32 (of_int binary32 w) (of_int binary32 (pos (2 ^ S))) (negative w) (nat_abs w) (2 ^ S) (pow_pos S)
      (int_exact w (short w f)) power_exact
      ∙ sym (coefficient_rounded S h w f)

  pub multiplied : (w : ℤ) → SFits w16 w → mul binary32 (coefficient_of S w) (of_int binary32 (pos (2 ^ S))) ≡ of_int binary32 w
  multiplied w f =
      product binary32 (coefficient_of S w) (of_int binary32 (pos (2 ^ S))) (negative w) (nat_abs w) (2 ^ S) (coefficient_exact S h w f)
      power_exact ∙ sym (int_rounded w)
