-- The laws of numbers in decimal, by the digits: the last one behind those of n / 10. Assumes nothing.
use mathlib.Core.List.{List, [], ◌∷◌, ◌++◌}
use mathlib.Core.Logic.{⊎_elim}
use mathlib.Core.Path.{◌≡◌, refl, ◌∙◌}
use Prim.Native.Nat.{ℕ, zero, suc, ◌+◌, ◌-◌, ◌*◌, ◌/◌, ◌%◌, ◌≤◌, ◌<◌}
use native.Mathlib.Nat.{lt-suc_self}
use native.Mathlib.Omega.{arith}
use lib.ListN.{get_or}
use Rattle.integers.proofs.Lists.{all_append}
use Rattle.integers.proofs.Tests.{le_or_lt}
use Rattle.integers.specs.Lists.{All, none, also}
use Rattle.decimal.specs.Laws.{DecimalLaws, value_behind}
use Rattle.decimal.specs.Text.{byte, digits_of, decimal, signed}
use Rattle.decimal.proofs.Decimal.{last_digit, more_digits}

value_more : (m : ℕ) (bs : List ℕ) (b : ℕ) → value_behind m (bs ++ byte b) ≡ 10 * value_behind m bs + (b - 48)
unfolding value_behind
value_more m [] b = refl
value_more m (a ∷ bs) b = value_more (10 * m + (a - 48)) bs b

-- the first of more bytes, where there is one
first_kept : (bs cs : List ℕ) → 49 ≤ get_or bs 0 0 → 49 ≤ get_or (bs ++ cs) 0 0
first_kept [] cs h = absurd (omega arith)
first_kept (b ∷ bs) cs h = h

-- by the number of digits: n has one, or its last one stands behind those of n / 10
module _ {ℓ} (P : ℕ → List ℕ → Type ℓ) (one : (n : ℕ) → n < 10 → P n (byte (48 + n)))
    (more : (n : ℕ) (bs : List ℕ) → 10 ≤ n → P (n / 10) bs → P n (bs ++ byte (48 + n % 10))) where
  by_digits : (k n : ℕ) → n < k → P n (digits_of k n)
  by_digits zero n h = absurd (omega arith)
  by_digits (suc k) n h =
      ⊎_elim
      (λ wide. rw (more_digits k n wide) (more n (digits_of k (n / 10)) wide (by_digits k (n / 10) (omega arith))))
      (λ small. rw (last_digit k n small) (one n small))
      (le_or_lt 10 n)

  of_decimal : (n : ℕ) → P n (decimal n)
  unfolding decimal
  of_decimal n = by_digits (suc n) n (lt-suc_self n)

pub decimal_laws : DecimalLaws
unfolding decimal digits_of signed value_behind
decimal_laws =
    record {
      reads =
          of_decimal (λ n bs. value_behind 0 bs ≡ n) (λ n small. omega arith)
          (λ n bs wide e. value_more 0 bs (48 + n % 10) ∙ omega (arith, e));
      digits =
          of_decimal (λ n bs. All (λ b. (48 ≤ b) × (b ≤ 57)) bs) (λ n small. also (omega arith, omega arith) none)
          (λ n bs wide h. all_append h (also (omega arith, omega arith) none));
      leading =
          of_decimal (λ n bs. 1 ≤ n → 49 ≤ get_or bs 0 0) (λ n small some. omega arith)
          (λ n bs wide h some. first_kept bs (byte (48 + n % 10)) (h (omega arith)));
      nought = refl;
      lowest = refl;
    }
