-- A whole number below 2^52 is the lowest 52 bits of itself plus 2^52. Assumes nothing.
use mathlib.Core.Path.{◌≡◌, sym, ap, ◌∙◌, subst}
use mathlib.Core.Bool.{Bool, true, false, not, cond, true≢false}
use mathlib.Core.Logic.{⊎_elim}
use Prim.Native.Nat.{ℕ, zero, suc, ◌+◌, ◌-◌, ◌*◌, ◌/◌, ◌^◌, ◌≤◌, ◌<◌}
use native.Mathlib.Nat.{mul-one, mul_right_comm, mul-div_cancel, mul-le-mul_right}
use native.Mathlib.Omega.{arith}
use lib.Dec.{T, leb, le→leb}
use lib.Signed.{non_neg}
use lib.IntN.{pos, nat_abs}
use lib.Pow.{pow-add, pow_pos, pow_mono, shl_lt}
use lib.Ieee.{Float, nan, inf, fin, binary64, low, up, down, size, add, lt, of_bits, to_bits, is_nan}
use lib.Ieee.Digits.{size-lt, size-le}
use lib.Ieee.Fits.{down_pos}
use lib.Ieee.Exact.{HasValue}
use Rattle.integers.specs.Integers.{max_z}
use Rattle.integers.proofs.Tests.{by_cond, is_true, le_or_lt}
use Rattle.eval_whole.specs.Whole.{signed, Whole, larger_of, half, counted}
use Rattle.eval_whole.proofs.Laws.{add_whole, half_whole}
use Rattle.eval_whole.proofs.Picks.{max_whole}

-- how many digits n × 2^l has, for an n of p + 1 digits
digits : (n l p : ℕ) → 2 ^ p ≤ n → n < 2 ^ suc p → size (n * 2 ^ l) ≡ suc p + l
digits n l p low high =
    let most = size-le (n * 2 ^ l) (suc p + l) (shl_lt (suc p) l high) in
    ⊎_elim
    (λ (g : suc p + l ≤ size (n * 2 ^ l)). omega arith)
    (λ (g : size (n * 2 ^ l) < suc p + l).
    let few : size (n * 2 ^ l) ≤ p + l = omega arith in
    let below = size-lt (n * 2 ^ l) in
    let above : 2 ^ p * 2 ^ l ≤ n * 2 ^ l = mul-le-mul_right (2 ^ l) low in
    absurd (omega (arith, pow_mono few, pow-add 2 p l)))
    (le_or_lt (suc p + l) (size (n * 2 ^ l)))

-- the bits of a magnitude n in units of 2^-l, for an n of p + 1 digits, where b is the weight of the exponent's field
fields : (n l p b m c : ℕ) → 0 < c → 2 ^ p ≤ n → n < 2 ^ suc p → m ≡ n * c
    → 0 + (size (m * 2 ^ l / c) - suc p) * b + m * 2 ^ l / c / 2 ^ (size (m * 2 ^ l / c) - suc p) ≡ l * b + n
fields n l p b m c C low high e =
    let q : m * 2 ^ l / c ≡ n * 2 ^ l =
    ap (λ (x : ℕ). x * 2 ^ l / c) e ∙ ap (λ (x : ℕ). x / c) (mul_right_comm n c (2 ^ l)) ∙ mul-div_cancel (n * 2 ^ l) C in
    let k : size (n * 2 ^ l) - suc p ≡ l = omega (arith, digits n l p low high) in
    rw q (rw k (omega (arith, mul-div_cancel n (pow_pos l))))

bits_of : (x : Float) (n : ℕ) → HasValue x false n 1 → 2 ^ 52 ≤ n → n < 2 ^ 53 → to_bits binary64 x ≡ 1074 * 2 ^ 52 + n
unfolding to_bits
bits_of nan n v low high = absurd v
bits_of (inf s) n v low high = absurd v
bits_of (fin true m e) n v low high = absurd (true≢false v.0)
bits_of (fin false m e) n v low high =
    fields n 1074 52 (2 ^ 52) (m * up e) (down e) (down_pos e) low high (sym (mul-one (m * up e)) ∙ v.1)

-- the sign of a whole number above 0
positive : {x : Float} {n : ℕ} → 0 < n → Whole x (pos n) → HasValue x false n 1
positive {x} {n} h w = go w.sign w.size w.value w.is
  where
    go : (s : Bool) (k : ℕ) → HasValue x s k 1 → signed s k ≡ pos n → HasValue x false n 1
    go false k v e = subst (λ (j : ℕ). HasValue x false j 1) (ap nat_abs e) v
    go true zero v e = absurd (let z : 0 ≡ n = ap nat_abs e in omega arith)
    go true (suc k) v e = absurd (subst T (sym (ap non_neg e)) tt)

pub count_whole : {x : Float} {n : ℕ} → Whole x (pos n) → n < 4503599627370496 → counted x ≡ n
unfolding counted max_z
count_whole {x} {n} w h =
    let y = add_whole w half_whole (omega arith) in
    let z : Whole (larger_of half (add binary64 x half)) (pos (n + 4503599627370496)) = subst (Whole _) larger_is (max_whole half_whole y) in
    omega (
      arith,
      bits_of (larger_of half (add binary64 x half)) (n + 4503599627370496) (positive (omega arith) z) (omega arith)
          (omega arith),
    )
  where
    larger_is : max_z (pos 4503599627370496) (pos (n + 4503599627370496)) ≡ pos (n + 4503599627370496)
    larger_is =
        ap (λ (t : Bool). cond t (pos (n + 4503599627370496)) (pos 4503599627370496))
        (is_true (leb 4503599627370496 (n + 4503599627370496)) (le→leb 4503599627370496 (n + 4503599627370496) (omega arith)))

-- what a conversion to bits asks
pub larger_number : (y : Float) → T (not (is_nan (larger_of half y)))
unfolding lt is_nan of_bits
larger_number nan = tt
larger_number (inf false) = tt
larger_number (inf true) = tt
larger_number (fin s m e) = by_cond (λ (x : Float). T (not (is_nan x))) (lt half (fin s m e)) (λ t. tt) (λ t. tt)

pub count_small : (x : Float) → counted x < 4503599627370496
unfolding counted
count_small x = omega arith
