-- Numbers in decimal: their digits one by one, and how many there are. Assumes nothing.
use mathlib.Core.Bool.{true}
use mathlib.Core.List.{◌++◌}
use mathlib.Core.Logic.{⊎_elim}
use mathlib.Core.Path.{◌≡◌, refl, sym, ap, ◌∙◌}
use borrow.Author.Tests.{lt-ltb, le-ltb}
use Prim.Native.Nat.{ℕ, zero, suc, ◌+◌, ◌/◌, ◌%◌, ◌^◌, ◌≤◌, ◌<◌}
use native.Mathlib.Nat.{div-lt_iff_lt-mul, pow-suc}
use native.Mathlib.Omega.{arith}
use lib.Dec.{T}
use lib.IntN.{ℤ, pos, negsuc, nat_abs}
use lib.ListN.{length, length-append}
use lib.Signed.{non_neg, lt_z}
use mir.Syntax.{w16, w64}
use mir.Val.{Fits, SFits}
use Rattle.integers.proofs.Parts.{abs_fits, lt_z_true, pos_up, pos_dn}
use Rattle.integers.proofs.Tests.{le_or_lt}
use Rattle.decimal.specs.Text.{ascii, byte, digits_of, decimal, signed}

pub last_digit : (k n : ℕ) → n < 10 → digits_of (suc k) n ≡ byte (48 + n)
unfolding digits_of
last_digit k n h = rw (lt-ltb n 10 h)

pub more_digits : (k n : ℕ) → 10 ≤ n → digits_of (suc k) n ≡ digits_of k (n / 10) ++ byte (48 + n % 10)
unfolding digits_of
more_digits k n h = rw (le-ltb n 10 h)

-- any number of digits above n is enough
enough : (j k n : ℕ) → n < j → n < k → digits_of j n ≡ digits_of k n
enough zero k n h g = absurd (omega arith)
enough (suc j) zero n h g = absurd (omega arith)
enough (suc j) (suc k) n h g =
    ⊎_elim
    (λ wide. more_digits j n wide ∙ ap (λ l. l ++ byte (48 + n % 10)) (enough j k (n / 10) (omega arith) (omega arith))
    ∙ sym (more_digits k n wide))
    (λ small. last_digit j n small ∙ sym (last_digit k n small))
    (le_or_lt 10 n)

pub decimal_one : (n : ℕ) → n < 10 → decimal n ≡ byte (48 + n)
unfolding decimal
decimal_one n h = last_digit n n h

pub decimal_more : (n : ℕ) → 10 ≤ n → decimal n ≡ decimal (n / 10) ++ byte (48 + n % 10)
unfolding decimal
decimal_more n h = more_digits n n h ∙ ap (λ l. l ++ byte (48 + n % 10)) (enough n (suc (n / 10)) (n / 10) (omega arith) (omega arith))

-- a number below 10 ^ (j + 1) has at most j + 1 digits
few : (j k n : ℕ) → n < 10 ^ suc j → length (digits_of k n) ≤ suc j
unfolding digits_of
few j zero n h = omega arith
few zero (suc k) n h = rw (last_digit k n h) (omega arith)
few (suc j) (suc k) n h =
    ⊎_elim
    (λ wide.
    let less : n / 10 < 10 ^ suc j = (div-lt_iff_lt-mul {k = 10} {x = n} {y = 10 ^ suc j} (omega arith)).1 (rw pow-suc at h) in
    rw (more_digits k n wide) (omega (arith, length-append (digits_of k (n / 10)) (byte (48 + n % 10)), few j k (n / 10) less)))
    (λ small. rw (last_digit k n small) (omega arith))
    (le_or_lt 10 n)

pub decimal_few : (j n : ℕ) → n < 10 ^ suc j → length (decimal n) ≤ suc j
unfolding decimal
decimal_few j n h = few j (suc n) n h

-- a number of 64 bits has at most 20 digits, and the size of one of 16 bits at most 5
pub decimal_short : {n : ℕ} → Fits w64 n → length (decimal n) ≤ 20
decimal_short {n} h = decimal_few 19 n (omega (arith, h.fits))

pub size_short : (w : ℤ) → SFits w16 w → length (decimal (nat_abs w)) ≤ 5
size_short w h = decimal_few 4 (nat_abs w) (omega (arith, abs_fits w16 h))

pub signed_negative : (w : ℤ) → lt_z w (pos 0) ≡ true → signed w ≡ ascii "-" ++ decimal (nat_abs w)
unfolding signed
signed_negative (pos n) h = absurd (omega (arith, lt_z_true (pos n) (pos 0) h, pos_up n, pos_dn n, pos_up 0, pos_dn 0))
signed_negative (negsuc n) h = refl

pub signed_other : (w : ℤ) → T (non_neg w) → signed w ≡ decimal (nat_abs w)
unfolding signed
signed_other (pos n) h = refl
signed_other (negsuc n) h = absurd h
