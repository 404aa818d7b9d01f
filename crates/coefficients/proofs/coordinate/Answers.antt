-- If some w has the pattern p, then p's value times 2 ^ s is w: it lies in the range, is cut to w, and w's coefficient has p's bits. Where
-- one of these fails, no w has it.
use Rattle.std.proofs.Common.{◌≡◌, ℕ, ◌%◌, ◌^◌, ◌<◌, ◌≤◌, Bool, true, false, not, Some, T, ℤ, pos, sym, ap, ◌∙◌, subst, lt_of_lt_of_le, mod-eq_of_lt, arith, lit≤, lt→ltb, w16, w64, SFits, to_z, of_z}
use lib.Arith.{le→nltb}
use lib.Ieee.{Float, binary32, mul, of_int, of_bits, neg, le, to_bits, to_signed, nan_bits}
use lib.Ieee.Bits.{nan_bits_above}
use mir.ValLaws.{to_z-of_z}
use Rattle.coefficients.specs.Coefficient.{pattern_of, coefficient_of}
use Rattle.coefficients.proofs.Exact.{coefficient_bits}
use Rattle.coefficients.proofs.Range.{Cuttable, lowest, highest, ranged, int_low, int_high, int_cut}
use Rattle.coefficients.proofs.Grid.{read_as, not_read, scaled_back, coefficient_no_nan, nan_missed}
use Rattle.coefficients.proofs.coordinate.Goals as goal

-- v, as the code has it
abbrev value : ℕ → ℕ → Float
value p power = mul binary32 (of_bits binary32 p) (of_int binary32 (pos power))

value-back : (s p power : ℕ) → s ≤ 15 → power ≡ 2 ^ (s % 16) → (w : ℤ) → SFits w16 w → pattern_of s w ≡ p → value p power ≡ of_int binary32 w
value-back s p power h is w f e =
    let q : power ≡ 2 ^ s = is ∙ ap (λ (k : ℕ). 2 ^ k) (mod-eq_of_lt (omega arith)) in
    rw q (scaled_back s h p w f e)

-- v lies in the range
cuttable : (v : Float) → le lowest v ≡ true → le v highest ≡ true → Cuttable v
cuttable v low high = ranged v (subst T (sym low) tt) (subst T (sym high) tt)

-- a coordinate as it goes through the casts
whole-read : (z : ℤ) → SFits w16 z → to_z w64 (of_z w64 z) ≡ z
whole-read z f = to_z-of_z w64 z (record { sfits = lt_of_lt_of_le f.sfits (lit≤ tt) })

cast-read : (z : ℤ) → SFits w16 z → to_z w16 (of_z w16 (to_z w64 (of_z w64 z))) ≡ z
cast-read z f = ap (λ (y : ℤ). to_z w16 (of_z w16 y)) (whole-read z f) ∙ to_z-of_z w16 z f

nan : (p : ℕ) → 2139095040 < p % 2147483648 → T (nan_bits binary32 p)
nan p h = subst T (sym (nan_bits_above binary32 p)) (lt→ltb 2139095040 (p % 2147483648) h)

-- a test that fails of v, though it holds of every w's cast
refuted : (test : Float → Bool) (x y : Float) → test x ≡ false → x ≡ y → T (test y) → ⊥
refuted test x y f e t = subst T (ap test (sym e) ∙ f) t

pub returns-then-p-gt2139095040 : goal.returns-then-p-gt2139095040
returns-then-p-gt2139095040 c =
    not_read c.args.s c.args.p (nan_missed c.args.s c.requires c.args.p (nan c.args.p c.if-p-gt2139095040.true))

pub float_from_bits-v : goal.float_from_bits-v
float_from_bits-v c =
    subst (λ (b : Bool). T (not b)) (sym (nan_bits_above binary32 c.args.p))
    (le→nltb 2139095040 (c.args.p % 2147483648) c.if-p-gt2139095040.false)

pub truncating_f32_to_i64-w-requires : goal.truncating_f32_to_i64-w-requires
unfolding of_bits neg
truncating_f32_to_i64-w-requires c =
    let k = cuttable (value c.args.p c.power.result) c.if-v.true c.if-v-2.true in
    record { lower_bound = k.from; upper_bound = k.to }

pub overflow_cast-w : goal.overflow_cast-w
unfolding of_bits neg
overflow_cast-w c =
    let k = cuttable (value c.args.p c.power.result) c.if-v.true c.if-v-2.true in
    let f = subst (SFits w16) (sym c.truncating_f32_to_i64-w.ensures) k.cut in
    rw (whole-read c.truncating_f32_to_i64-w.result f) f

pub float_to_bits-coefficient : goal.float_to_bits-coefficient
unfolding of_bits neg
float_to_bits-coefficient c =
    let k = cuttable (value c.args.p c.power.result) c.if-v.true c.if-v-2.true in
    let z = c.truncating_f32_to_i64-w.result in
    let f = subst (SFits w16) (sym c.truncating_f32_to_i64-w.ensures) k.cut in
    let made = c.coefficient.ensures ∙ ap (coefficient_of c.args.s) (cast-read z f) in
    rw made (coefficient_no_nan c.args.s c.requires z f)

pub returns-then-coefficient-p : goal.returns-then-coefficient-p
unfolding of_bits neg
returns-then-coefficient-p c =
    let k = cuttable (value c.args.p c.power.result) c.if-v.true c.if-v-2.true in
    let z = c.truncating_f32_to_i64-w.result in
    let f = subst (SFits w16) (sym c.truncating_f32_to_i64-w.ensures) k.cut in
    let made = c.coefficient.ensures ∙ ap (coefficient_of c.args.s) (cast-read z f) in
    let bits = ap (to_bits binary32) made ∙ coefficient_bits c.args.s c.requires z f in
    ap Some (cast-read z f) ∙ read_as c.args.s c.requires c.args.p z f (sym bits ∙ c.if-coefficient-p.true)

pub returns-else-coefficient-p : goal.returns-else-coefficient-p
unfolding of_bits neg
returns-else-coefficient-p c =
    let k = cuttable (value c.args.p c.power.result) c.if-v.true c.if-v-2.true in
    let z = c.truncating_f32_to_i64-w.result in
    let f = subst (SFits w16) (sym c.truncating_f32_to_i64-w.ensures) k.cut in
    let made = c.coefficient.ensures ∙ ap (coefficient_of c.args.s) (cast-read z f) in
    let bits = ap (to_bits binary32) made ∙ coefficient_bits c.args.s c.requires z f in
    not_read c.args.s c.args.p
    (λ w g e.
    let same : z ≡ w =
    c.truncating_f32_to_i64-w.ensures
    ∙ ap (to_signed 63) (value-back c.args.s c.args.p c.power.result c.requires c.power.ensures w g e) ∙ int_cut w g in
    c.if-coefficient-p.false (bits ∙ ap (pattern_of c.args.s) same ∙ e))

pub returns-else-v-2 : goal.returns-else-v-2
unfolding of_bits neg
returns-else-v-2 c =
    let v = value c.args.p c.power.result in
    not_read c.args.s c.args.p
    (λ w f e. refuted (λ (x : Float). le x highest) v (of_int binary32 w) c.if-v-2.false
    (value-back c.args.s c.args.p c.power.result c.requires c.power.ensures w f e) (int_high w f))

pub returns-else-v : goal.returns-else-v
unfolding of_bits neg
returns-else-v c =
    let v = value c.args.p c.power.result in
    not_read c.args.s c.args.p
    (λ w f e. refuted (le lowest) v (of_int binary32 w) c.if-v.false
    (value-back c.args.s c.args.p c.power.result c.requires c.power.ensures w f e) (int_low w f))
