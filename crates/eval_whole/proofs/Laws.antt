-- Whole numbers up to 2 ^ 53 in size, as binary64 numbers: sums, differences, products, the order and casts are those of ℤ. Assumes
-- nothing.
use mathlib.Core.Path.{◌≡◌, refl, sym, ap, ap₂, ◌∙◌, subst}
use mathlib.Core.Bool.{Bool, true, false, not, ◌&&◌, cond}
use mathlib.Core.Logic.{⊎_elim}
use Prim.Native.Nat.{ℕ, zero, suc, ◌+◌, ◌-◌, ◌*◌, ◌^◌, ◌≤◌, ◌<◌}
use native.Mathlib.Nat.{mul-one, mul_comm, mul_assoc, mul_left_comm, mul-pos, mul-lt-mul_of_pos_right, mul-le-mul_right, add-mul, zero-mul}
use native.Mathlib.Nat.{mul-zero, zero-lt-suc, not-le_of_lt, lt_of_not-le}
use native.Mathlib.Omega.{arith}
use lib.Dec.{T, ltb, ltb→lt, lt→ltb, nltb→le, not_T, le→leb, leb-suc-suc}
use lib.IntN.{ℤ, pos, negsuc, neg_ℤ, nat_abs, ◌+ℤ◌, ◌-ℤ◌, ◌*ℤ◌, neg_ℤ-neg_ℤ}
use lib.Signed.{lt_z, non_neg}
use lib.Ieee.{Float, nan, inf, fin, binary64, up, down, round, neg, sum, add, sub, mul, lt, below, of_int, of_bits, in_float, unlike}
use lib.Ieee.Fits.{down_pos}
use lib.Ieee.Exact.{HasValue}
use lib.Ieee.Scale.{round_same}
use lib.Ieee.Back.{round_whole}
use Rattle.integers.proofs.Parts as P
use Rattle.integers.proofs.Parts.{from_parts, sum_parts, neg_up, neg_dn, pos_up, pos_dn}
use Rattle.integers.proofs.Tests.{by_cond, is_true, is_false, le_or_lt}
use Rattle.eval_whole.specs.Whole.{signed, Whole, zeroth, oneth, half}

-- the largest size
abbrev pub most : ℕ
most = 9007199254740992

-- ---- a fraction that is a whole number is rounded to it
exact : (s : Bool) (num c n : ℕ) → 0 < c → num ≡ n * c → n ≤ most → HasValue (round binary64 s num c) s n 1
exact s num c n C e h =
    rw (round_same binary64 s num c n 1 C (zero-lt-suc 0) (mul-one num ∙ e)) (round_whole binary64 s n h)

rounded : (s : Bool) (num c n : ℕ) {z : ℤ} → 0 < c → num ≡ n * c → n ≤ most → signed s n ≡ z → Whole (round binary64 s num c) z
rounded s num c n C e h i = record { sign = s; size = n; value = exact s num c n C e h; is = i }

-- ---- signs
module _ (n : ℕ) where
  signed_up : (s : Bool) → P.up (signed s n) ≡ cond s 0 n
  signed_up true = neg_up (pos n) ∙ pos_dn n
  signed_up false = pos_up n

  signed_dn : (s : Bool) → P.dn (signed s n) ≡ cond s n 0
  signed_dn true = neg_dn (pos n) ∙ pos_up n
  signed_dn false = pos_dn n

signed_not : (s : Bool) (n : ℕ) → signed (not s) n ≡ neg_ℤ (signed s n)
signed_not true n = sym (neg_ℤ-neg_ℤ (pos n))
signed_not false n = refl

-- a sum, by the parts
by_parts : (r s t : Bool) (n a b : ℕ) → cond r 0 n + (cond s a 0 + cond t b 0) ≡ cond s 0 a + cond t 0 b + cond r n 0
    → signed r n ≡ signed s a +ℤ signed t b
by_parts r s t n a b h =
    from_parts (signed r n) (signed s a +ℤ signed t b)
    (omega (
      arith,
      h,
      sum_parts (signed s a) (signed t b),
      signed_up n r,
      signed_dn n r,
      signed_up a s,
      signed_dn a s,
      signed_up b t,
      signed_dn b t,
    ))

-- ---- one fraction's denominator for both
module _ (c : ℕ) (C : 0 < c) where
  less_back : (a b : ℕ) → a * c < b * c → a < b
  less_back a b h = lt_of_not-le (λ (g : b ≤ a). not-le_of_lt h (mul-le-mul_right c g))

  le_back : (a b : ℕ) → a * c ≤ b * c → a ≤ b
  le_back a b h = ⊎_elim (λ (g : a ≤ b). g) (λ (g : b < a). absurd (not-le_of_lt (mul-lt-mul_of_pos_right g C) h)) (le_or_lt a b)

  ltb_scaled : (a b : ℕ) → ltb (a * c) (b * c) ≡ ltb a b
  ltb_scaled a b = go (ltb (a * c) (b * c)) refl
    where
      go : (t : Bool) → ltb (a * c) (b * c) ≡ t → t ≡ ltb a b
      go true e = sym (is_true (ltb a b) (lt→ltb a b (less_back a b (ltb→lt (a * c) (b * c) (rw e tt)))))
      go false e =
          sym (is_false (ltb a b) (not_T (ltb a b)
          (λ t. not-le_of_lt (mul-lt-mul_of_pos_right (ltb→lt a b t) C) (nltb→le (a * c) (b * c) (rw e tt)))))

  difference : (a b d : ℕ) → d + a ≡ b → b * c - a * c ≡ d * c
  difference a b d h = let e : d * c + a * c ≡ b * c = sym (add-mul d a c) ∙ ap (λ (x : ℕ). x * c) h in omega arith

-- ---- sums
sum_rest : (c : ℕ) → 0 < c → (s t : Bool) (a b : ℕ) → t ≡ not s → a + b ≤ most
    → Whole (cond (ltb (a * c) (b * c)) (round binary64 t (b * c - a * c) c) (round binary64 (s && ltb (b * c) (a * c)) (a * c - b * c) c))
    (signed s a +ℤ signed t b)
sum_rest c C s t a b e h =
    by_cond (λ (x : Float). Whole x (signed s a +ℤ signed t b)) (ltb (a * c) (b * c))
    (λ k. let l : a < b = less_back c C a b (ltb→lt (a * c) (b * c) k) in
    rounded t (b * c - a * c) c (b - a) C (difference c C a b (b - a) (omega arith)) (omega arith) (up_side s t l e))
    (λ k. let l : b ≤ a = le_back c C b a (nltb→le (a * c) (b * c) k) in
    rounded (s && ltb (b * c) (a * c)) (a * c - b * c) c (a - b) C (difference c C b a (a - b) (omega arith)) (omega arith)
    (down_side s t l e))
  where
    up_side : (s t : Bool) → a < b → t ≡ not s → signed t (b - a) ≡ signed s a +ℤ signed t b
    up_side true true l e = absurd (true≢ e)
      where
        true≢ : true ≡ false → ⊥
        true≢ p = subst T p tt
    up_side true false l e = by_parts false true false (b - a) a b (omega arith)
    up_side false true l e = by_parts true false true (b - a) a b (omega arith)
    up_side false false l e = absurd (subst T (sym e) tt)

    equal : (r : Bool) → b ≤ a → ltb (b * c) (a * c) ≡ r → signed r (a - b) ≡ signed true a +ℤ signed false b
    equal true l g = by_parts true true false (a - b) a b (omega arith)
    equal false l g =
        let m : a ≤ b = le_back c C a b (nltb→le (b * c) (a * c) (rw g tt)) in
        by_parts false true false (a - b) a b (omega arith)

    down_side : (s t : Bool) → b ≤ a → t ≡ not s → signed (s && ltb (b * c) (a * c)) (a - b) ≡ signed s a +ℤ signed t b
    down_side true true l e = absurd (subst T e tt)
    down_side true false l e = equal (ltb (b * c) (a * c)) l refl
    down_side false true l e = by_parts false false true (a - b) a b (omega arith)
    down_side false false l e = absurd (subst T (sym e) tt)

sum_whole : (c : ℕ) → 0 < c → (s t : Bool) (a b : ℕ) → a + b ≤ most → Whole (sum binary64 s (a * c) t (b * c) c) (signed s a +ℤ signed t b)
unfolding sum
sum_whole c C true true a b h =
    rounded true (a * c + b * c) c (a + b) C (sym (add-mul a b c)) h (by_parts true true true (a + b) a b (omega arith))
sum_whole c C true false a b h = sum_rest c C true false a b refl h
sum_whole c C false true a b h = sum_rest c C false true a b refl h
sum_whole c C false false a b h = rounded false (a * c + b * c) c (a + b) C (sym (add-mul a b c)) h refl

-- the magnitudes of two finite numbers, over one denominator
over_one : (x e d a : ℕ) → x * 1 ≡ a * e → x * d ≡ a * (e * d)
over_one x e d a p = ap (λ (z : ℕ). z * d) (sym (mul-one x) ∙ p) ∙ mul_assoc a e d

added : (x y : Float) (s t : Bool) (a b : ℕ) → HasValue x s a 1 → HasValue y t b 1 → (P : Float → Type 0)
    → ((c : ℕ) → 0 < c → P (sum binary64 s (a * c) t (b * c) c)) → P (add binary64 x y)
unfolding add
added nan y s t a b p q P f = absurd p
added (inf u) y s t a b p q P f = absurd p
added (fin u m e) nan s t a b p q P f = absurd q
added (fin u m e) (inf v) s t a b p q P f = absurd q
added (fin u m e) (fin v n d) s t a b p q P f =
    let k : m * up e * down d ≡ a * (down e * down d) = over_one (m * up e) (down e) (down d) a p.1 in
    let l : n * up d * down e ≡ b * (down e * down d) =
    over_one (n * up d) (down d) (down e) b q.1 ∙ ap (λ (z : ℕ). b * z) (mul_comm (down d) (down e)) in
    let r : sum binary64 u (m * up e * down d) v (n * up d * down e) (down e * down d)
    ≡ sum binary64 s (a * (down e * down d)) t (b * (down e * down d)) (down e * down d) =
    ap (λ (z : Bool). sum binary64 z (m * up e * down d) v (n * up d * down e) (down e * down d)) p.0
    ∙ ap (λ (z : Bool). sum binary64 s (m * up e * down d) z (n * up d * down e) (down e * down d)) q.0
    ∙ ap (λ (z : ℕ). sum binary64 s z t (n * up d * down e) (down e * down d)) k
    ∙ ap (λ (z : ℕ). sum binary64 s (a * (down e * down d)) t z (down e * down d)) l in
    subst P (sym r) (f (down e * down d) (mul-pos (down_pos e) (down_pos d)))

signed_abs : (s : Bool) (n : ℕ) → nat_abs (signed s n) ≡ n
signed_abs true zero = refl
signed_abs true (suc n) = refl
signed_abs false n = refl

size_is : {x : Float} {z : ℤ} (w : Whole x z) → w.size ≡ nat_abs z
size_is w = sym (signed_abs w.sign w.size) ∙ ap nat_abs w.is

pub add_whole : {x y : Float} {a b : ℤ} → Whole x a → Whole y b → nat_abs a + nat_abs b ≤ most → Whole (add binary64 x y) (a +ℤ b)
add_whole {x} {y} {a} {b} w v h =
    added x y w.sign v.sign w.size v.size w.value v.value (λ (r : Float). Whole r (a +ℤ b))
    (λ c C. subst (Whole (sum binary64 w.sign (w.size * c) v.sign (v.size * c) c)) (ap₂ ◌+ℤ◌ w.is v.is)
    (sum_whole c C w.sign v.sign w.size v.size (omega (arith, size_is w, size_is v))))

-- ---- the sign turned, and differences
negated : (x : Float) (s : Bool) (a : ℕ) → HasValue x s a 1 → HasValue (neg x) (not s) a 1
unfolding neg
negated nan s a p = p
negated (inf u) s a p = p
negated (fin u m e) s a p = (ap not p.0, p.1)

pub neg_whole : {x : Float} {a : ℤ} → Whole x a → Whole (neg x) (neg_ℤ a)
neg_whole {x} {a} w =
    record {
      sign = not w.sign;
      size = w.size;
      value = negated x w.sign w.size w.value;
      is = signed_not w.sign w.size
          ∙ ap neg_ℤ w.is;
    }

pub sub_whole : {x y : Float} {a b : ℤ} → Whole x a → Whole y b → nat_abs a + nat_abs b ≤ most → Whole (sub binary64 x y) (a -ℤ b)
unfolding sub
sub_whole {x} {y} {a} {b} w v h = add_whole w (neg_whole v) (omega (arith, P.abs_neg b))

-- ---- products
no_sign : (n : ℕ) → n ≡ 0 → neg_ℤ (pos n) ≡ pos n
no_sign n e = ap (λ (k : ℕ). neg_ℤ (pos k)) e ∙ sym (ap pos e)

signed_mul : (s t : Bool) (a b : ℕ) → signed (unlike s t) (a * b) ≡ signed s a *ℤ signed t b
signed_mul true true zero zero = refl
signed_mul true true zero (suc b) = sym (no_sign (0 * suc b) (zero-mul (suc b)))
signed_mul true true (suc a) zero = sym (no_sign (suc a * 0) (mul-zero (suc a)))
signed_mul true true (suc a) (suc b) = refl
signed_mul true false zero b = no_sign (0 * b) (zero-mul b)
signed_mul true false (suc a) b = refl
signed_mul false true a zero = no_sign (a * 0) (mul-zero a)
signed_mul false true a (suc b) = refl
signed_mul false false a b = refl

multiplied : (x y : Float) (s t : Bool) (a b : ℕ) → HasValue x s a 1 → HasValue y t b 1
    → mul binary64 x y ≡ round binary64 (unlike s t) (a * b) 1
unfolding mul
multiplied nan y s t a b p q = absurd p
multiplied (inf u) y s t a b p q = absurd p
multiplied (fin u m e) nan s t a b p q = absurd q
multiplied (fin u m e) (inf v) s t a b p q = absurd q
multiplied (fin u m e) (fin v n d) s t a b p q =
    let k : m * up e ≡ a * down e = sym (mul-one (m * up e)) ∙ p.1 in
    let l : n * up d ≡ b * down d = sym (mul-one (n * up d)) ∙ q.1 in
    let r : a * down e * (b * down d) ≡ a * b * (down e * down d) = simp (mul_assoc, mul_left_comm) in
    ap₂ (λ (y : Bool) (z : Bool). round binary64 (unlike y z) (m * up e * (n * up d)) (down e * down d)) p.0 q.0
    ∙ round_same binary64 (unlike s t) (m * up e * (n * up d)) (down e * down d) (a * b) 1 (mul-pos (down_pos e) (down_pos d))
    (zero-lt-suc 0)
    (mul-one (m * up e * (n * up d)) ∙ ap₂ ◌*◌ k l ∙ r)

pub mul_whole : {x y : Float} {a b : ℤ} → Whole x a → Whole y b → nat_abs (a *ℤ b) ≤ most → Whole (mul binary64 x y) (a *ℤ b)
mul_whole {x} {y} {a} {b} w v h =
    let e : w.size * v.size ≡ nat_abs (a *ℤ b) = ap₂ ◌*◌ (size_is w) (size_is v) ∙ sym (P.abs_mul a b) in
    subst (λ (r : Float). Whole r (a *ℤ b)) (sym (multiplied x y w.sign v.sign w.size v.size w.value v.value))
    (rounded (unlike w.sign v.sign) (w.size * v.size) 1 (w.size * v.size) (zero-lt-suc 0) (sym (mul-one (w.size * v.size)))
    (omega arith)
    (signed_mul w.sign v.sign w.size v.size ∙ ap₂ ◌*ℤ◌ w.is v.is))

-- ---- the order
below_scaled : (c : ℕ) → 0 < c → (s t : Bool) (a b : ℕ) → below s (a * c) t (b * c) ≡ lt_z (signed s a) (signed t b)
below_scaled c C false false a b = ltb_scaled c C a b
below_scaled c C false true a zero = sym (is_false (ltb a 0) (not_T (ltb a 0) (λ t. let h : a < 0 = ltb→lt a 0 t in omega arith)))
below_scaled c C false true a (suc b) = refl
below_scaled c C true false zero b =
    ap (λ (x : ℕ). ltb x (0 * c + b * c)) (sym (zero-mul c)) ∙ ap (λ (x : ℕ). ltb (0 * c) (x + b * c)) (zero-mul c)
    ∙ ap (ltb (0 * c)) (omega arith) ∙ ltb_scaled c C 0 b
below_scaled c C true false (suc a) b =
    is_true (ltb 0 (suc a * c + b * c)) (lt→ltb 0 (suc a * c + b * c) (let h : 0 < suc a * c = mul-pos (zero-lt-suc a) C in omega arith))
below_scaled c C true true zero zero = ltb_scaled c C 0 0
below_scaled c C true true zero (suc b) =
    ltb_scaled c C (suc b) 0 ∙ is_false (ltb (suc b) 0) (not_T (ltb (suc b) 0) (λ t. let h : suc b < 0 = ltb→lt (suc b) 0 t in omega arith))
below_scaled c C true true (suc a) zero = ltb_scaled c C 0 (suc a) ∙ is_true (ltb 0 (suc a)) (lt→ltb 0 (suc a) (zero-lt-suc a))
below_scaled c C true true (suc a) (suc b) = ltb_scaled c C (suc b) (suc a) ∙ leb-suc-suc (suc b) a

compared : (x y : Float) (s t : Bool) (a b : ℕ) → HasValue x s a 1 → HasValue y t b 1 → lt x y ≡ lt_z (signed s a) (signed t b)
unfolding lt
compared nan y s t a b p q = absurd p
compared (inf u) y s t a b p q = absurd p
compared (fin u m e) nan s t a b p q = absurd q
compared (fin u m e) (inf v) s t a b p q = absurd q
compared (fin u m e) (fin v n d) s t a b p q =
    let k : m * up e * down d ≡ a * (down e * down d) = over_one (m * up e) (down e) (down d) a p.1 in
    let l : n * up d * down e ≡ b * (down e * down d) =
    over_one (n * up d) (down d) (down e) b q.1 ∙ ap (λ (z : ℕ). b * z) (mul_comm (down d) (down e)) in
    ap₂ (λ (y : Bool) (z : Bool). below y (m * up e * down d) z (n * up d * down e)) p.0 q.0
    ∙ ap₂ (λ (y : ℕ) (z : ℕ). below s y t z) k l
    ∙ below_scaled (down e * down d) (mul-pos (down_pos e) (down_pos d)) s t a b

pub lt_whole : {x y : Float} {a b : ℤ} → Whole x a → Whole y b → lt x y ≡ lt_z a b
lt_whole {x} {y} w v = compared x y w.sign v.sign w.size v.size w.value v.value ∙ ap₂ lt_z w.is v.is

-- what an `if` on the order picks
pub pick_whole : {x y u v : Float} {a b c d : ℤ} → Whole x a → Whole y b → Whole u c → Whole v d
    → Whole (cond (lt x y) u v) (cond (lt_z a b) c d)
pick_whole {x} {y} {u} {v} {a} {b} {c} {d} p q r s = rw (lt_whole p q) (go (lt_z a b))
  where
    go : (t : Bool) → Whole (cond t u v) (cond t c d)
    go true = r
    go false = s

-- ---- casts
negative : ℤ → Bool
negative z = not (non_neg z)

int_value : (z : ℤ) → nat_abs z ≤ most → HasValue (of_int binary64 z) (negative z) (nat_abs z) 1
unfolding of_int negative
int_value (pos n) h = round_whole binary64 false n h
int_value (negsuc n) h = round_whole binary64 true (suc n) h

int_is : (z : ℤ) → signed (negative z) (nat_abs z) ≡ z
unfolding negative
int_is (pos n) = refl
int_is (negsuc n) = refl

pub cast_whole : (z : ℤ) → nat_abs z ≤ most → Whole (of_int binary64 z) z
cast_whole z h = record { sign = negative z; size = nat_abs z; value = int_value z h; is = int_is z }

-- a cast to a double asks this
pub cast_asks : (z : ℤ) → nat_abs z ≤ most → T (in_float binary64 z)
unfolding in_float
cast_asks (pos n) h = le→leb n (2 ^ 53) h
cast_asks (negsuc n) h = lt→ltb n (2 ^ 53) h

-- 0, 1 and 2^52
pub zero_whole : Whole zeroth (pos 0)
unfolding of_bits
zero_whole = record { sign = false; size = 0; value = (refl, refl); is = refl }

pub one_whole : Whole oneth (pos 1)
unfolding of_bits
one_whole = record { sign = false; size = 1; value = (refl, refl); is = refl }

pub half_whole : Whole half (pos 4503599627370496)
unfolding of_bits
half_whole = record { sign = false; size = 4503599627370496; value = (refl, refl); is = refl }

-- 0 is +0 when it is cast, and so is 0 times what is not negative
pub zero_cast : of_int binary64 (pos 0) ≡ zeroth
unfolding of_int of_bits
zero_cast = refl

pub zero_times : (n : ℕ) → n ≤ most → mul binary64 (of_int binary64 (pos 0)) (of_int binary64 (pos n)) ≡ zeroth
unfolding of_int of_bits negative
zero_times n h =
    multiplied (of_int binary64 (pos 0)) (of_int binary64 (pos n)) false false 0 n (int_value (pos 0) (omega arith)) (int_value (pos n) h)
    ∙ ap (λ (k : ℕ). round binary64 false k 1) (zero-mul n)
