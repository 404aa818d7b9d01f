-- The range of an `i16` among single-precision numbers: what passes the two tests of it can be cut to a whole number, which fits an `i16`;
-- and the cast of an `i16` passes them and is cut to itself. Assumes nothing.
use Rattle.std.proofs.Common.{◌≡◌, ℕ, zero, suc, ◌+◌, ◌*◌, ◌/◌, ◌^◌, ◌<◌, ◌≤◌, min, Bool, true, false, ◌&&◌, ◌||◌, T, eqb, ltb, ℤ, pos, negsuc, neg_ℤ, sym, subst, inl, inr, true≢false, le_of_eq, le_of_suc-le-suc, mul-le-mul_right, suc-mul, div-lt_iff_lt-mul, eq-or-lt_of_le, arith, lit<, le→leb, eqb→eq, ltb→lt, lt→ltb, w16, SFits, le-ltb, lt-ltb}
use lib.Signed.{mag}
use lib.Ieee.{Float, nan, inf, fin, binary32, up, down, le, lt, of_int, to_signed, in_float}
use lib.Ieee.Fits.{down_pos, eq→eqb, and_i}
use lib.Ieee.Exact.{HasValue}
use lib.Ieee.Back.{positive_back, negative_back}
use Rattle.coefficients.proofs.Exact.{short, int_exact}

-- the ends, as the logic has the code's literals
abbrev pub lowest : Float
lowest = fin true 1 (pos 15)

abbrev pub highest : Float
highest = fin false 32767 (pos 0)

-- ---- `≤` of two numbers as `le` tests it: less, or equal
at_most : (a b : ℕ) (equal signs : Bool) → (T equal → a ≡ b) → T (ltb a b || (equal && signs)) → a ≤ b
at_most a b equal signs e t = go (ltb a b) equal (ltb→lt a b) e t
  where
    go : (less equal : Bool) → (T less → a < b) → (T equal → a ≡ b) → T (less || (equal && signs)) → a ≤ b
    go true equal f e t = let h : a < b = f tt in omega arith
    go false true f e t = let h : a ≡ b = e tt in omega arith
    go false false f e t = absurd t

less : (a b : ℕ) (equal : Bool) → a < b → T (ltb a b || equal)
less a b equal h = rw (lt-ltb a b h) tt

less_or_equal : (a b : ℕ) (equal : Bool) → (a ≡ b → T equal) → a ≤ b → T (ltb a b || (equal && true))
less_or_equal a b equal e h =
    elim (eq-or-lt_of_le h) [ inl q ↦ rw (le-ltb a b (le_of_eq (sym q))) (and_i equal true (e q) tt) | inr l ↦ less a b (equal && true) l ]

-- ---- what passes both tests
pub record Cuttable (v : Float) : Type 0 where
  pub from : T (le (fin true 1 (pos 63)) v)
  pub to : T (lt v (fin false 1 (pos 63)))
  pub cut : SFits w16 (to_signed 63 v)

cut_le : (a D c : ℕ) → 0 < D → a * 1 ≤ c * D → a / D ≤ c
cut_le a D c P h = le_of_suc-le-suc ((div-lt_iff_lt-mul P).1 (let e : suc c * D ≡ c * D + D = suc-mul c D in omega arith))

negative_mag : (c : ℕ) → c ≤ 32768 → mag (neg_ℤ (pos (min c (2 ^ 63)))) < 32768
negative_mag c h = go (min c (2 ^ 63)) (omega arith)
  where
    go : (c : ℕ) → c ≤ 32768 → mag (neg_ℤ (pos c)) < 32768
    go zero h = lit< tt
    go (suc c) h = h

pub ranged : (v : Float) → T (le lowest v) → T (le v highest) → Cuttable v
unfolding le lt to_signed
ranged nan p q = absurd p
ranged (inf true) p q = absurd p
ranged (inf false) p q = absurd q
ranged (fin true m e) p q =
    let D : 0 < down e = down_pos e in
    let h : m * up e * 1 ≤ 32768 * down e =
    at_most (m * up e * 1) (32768 * down e) (eqb (32768 * down e) (m * up e * 1)) _ (λ t. sym (eqb→eq (32768 * down e) (m * up e * 1) t))
    p in
    record {
      from = less (m * up e * 1) (9223372036854775808 * down e) _ (omega arith);
      to = lt→ltb 0 (m * up e * 1 + 9223372036854775808 * down e) (omega arith);
      cut = record { sfits = negative_mag (m * up e / down e) (cut_le (m * up e) (down e) 32768 D h) };
    }
ranged (fin false m e) p q =
    let D : 0 < down e = down_pos e in
    let h : m * up e * 1 ≤ 32767 * down e =
    at_most (m * up e * 1) (32767 * down e) (eqb (m * up e * 1) (32767 * down e)) _ (eqb→eq (m * up e * 1) (32767 * down e)) q in
    let c : m * up e / down e ≤ 32767 = cut_le (m * up e) (down e) 32767 D h in
    record {
      from = less 0 (9223372036854775808 * down e + m * up e * 1) _ (omega arith);
      to = lt→ltb (m * up e * 1) (9223372036854775808 * down e) (omega arith);
      cut = record { sfits = omega arith };
    }

-- ---- the cast of an `i16`
size_le : (a n c D : ℕ) → n ≤ c → a ≡ n * D → a ≤ c * D
size_le a n c D h q = subst (λ (x : ℕ). x ≤ c * D) (sym q) (mul-le-mul_right D h)

above_lowest : (x : Float) (s : Bool) (n : ℕ) → n ≤ 32768 → HasValue x s n 1 → T (le lowest x)
unfolding le
above_lowest nan s n h v = absurd v
above_lowest (inf t) s n h v = absurd v
above_lowest (fin true m e) s n h v =
    less_or_equal (m * up e * 1) (32768 * down e) (eqb (32768 * down e) (m * up e * 1)) (λ q. eq→eqb (sym q))
    (size_le (m * up e * 1) n 32768 (down e) h v.1)
above_lowest (fin false m e) s n h v = less 0 (32768 * down e + m * up e * 1) _ (let d : 0 < down e = down_pos e in omega arith)

below_highest : (x : Float) (s : Bool) (n : ℕ) → (s ≡ false → n ≤ 32767) → HasValue x s n 1 → T (le x highest)
unfolding le
below_highest nan s n h v = absurd v
below_highest (inf t) s n h v = absurd v
below_highest (fin true m e) s n h v = less 0 (m * up e * 1 + 32767 * down e) _ (let d : 0 < down e = down_pos e in omega arith)
below_highest (fin false m e) s n h v =
    less_or_equal (m * up e * 1) (32767 * down e) (eqb (m * up e * 1) (32767 * down e)) (λ q. eq→eqb q)
    (size_le (m * up e * 1) n 32767 (down e) (h (sym v.0)) v.1)

pub int_low : (w : ℤ) → SFits w16 w → T (le lowest (of_int binary32 w))
int_low (pos n) f =
    above_lowest (of_int binary32 (pos n)) false n (let k : n < 32768 = f.sfits in omega arith) (int_exact (pos n) (short (pos n) f))
int_low (negsuc n) f = above_lowest (of_int binary32 (negsuc n)) true (suc n) f.sfits (int_exact (negsuc n) (short (negsuc n) f))

pub int_high : (w : ℤ) → SFits w16 w → T (le (of_int binary32 w) highest)
int_high (pos n) f =
    below_highest (of_int binary32 (pos n)) false n (λ _. let k : n < 32768 = f.sfits in omega arith) (int_exact (pos n) (short (pos n) f))
int_high (negsuc n) f =
    below_highest (of_int binary32 (negsuc n)) true (suc n) (λ q. absurd (true≢false q)) (int_exact (negsuc n) (short (negsuc n) f))

pub int_cut : (w : ℤ) → SFits w16 w → to_signed 63 (of_int binary32 w) ≡ w
unfolding in_float
int_cut (pos n) f = let k : n < 32768 = f.sfits in (positive_back binary32 63 n (le→leb n (2 ^ 24) (omega arith)) (omega arith)).1
int_cut (negsuc n) f = let k : n < 32768 = f.sfits in (negative_back binary32 63 n (lt→ltb n (2 ^ 24) (omega arith)) (omega arith)).1
