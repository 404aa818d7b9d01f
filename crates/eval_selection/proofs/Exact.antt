-- A number that fits what is selected is it, and the (q + 1)-th largest fits. Assumes nothing.
use mathlib.Core.Path.{◌≡◌, sym}
use mathlib.Core.Logic.{⊎_elim}
use Prim.Native.Nat.{ℕ, zero, suc, ◌+◌, ◌≤◌, ◌<◌, min}
use native.Mathlib.Omega.{arith}
use borrow.Author.Tests.{le-leb, lt-leb}
use Rattle.integers.proofs.Tests.{le_or_lt}
use Rattle.ranks.specs.Largest.{nth_largest}
use Rattle.ranks.proofs.Largest.{largest}
use Rattle.eval_selection.specs.Selection.{first_few, selected}
use Rattle.eval_selection.specs.Laws.{SelectsLargest}

-- r fits
pub record Selected (over : ℕ → ℕ) (q cap r : ℕ) : Type 0 where
  pub within : r ≤ cap
  pub few : r < cap → over r ≤ q
  pub least : (a : ℕ) → a < r → q < over a

module _ (over : ℕ → ℕ) (q r : ℕ) (least : (b : ℕ) → b < r → q < over b) where
  first_is : (a n : ℕ) → a ≤ r → r ≤ a + n → (r < a + n → over r ≤ q) → first_few over q a n ≡ r
  unfolding first_few
  first_is a zero low high few = omega arith
  first_is a (suc n) low high few =
      ⊎_elim
      (λ (h : r ≤ a). let e : a ≡ r = omega arith in rw e (rw (le-leb (over r) q (few (omega arith)))))
      (λ (h : a < r). rw (lt-leb _ _ (least a h)) (first_is (suc a) n (omega arith) (omega arith) (λ l. few (omega arith))))
      (le_or_lt r a)

pub selected_is : {over : ℕ → ℕ} {q cap r : ℕ} → Selected over q cap r → r ≡ selected over q cap
unfolding selected
selected_is {over} {q} {cap} {r} s =
    let within = s.within in
    sym (first_is over q r s.least 0 cap (omega arith) (omega arith) (λ l. s.few (omega arith)))

pub selects_largest : SelectsLargest
selects_largest over q cap sizes same small =
    let law = largest q sizes in
    let v = nth_largest q sizes in
    sym (selected_is (record {
      within = omega arith;
      few = λ l. let e : min v cap ≡ v = omega arith in rw e (omega (arith, law.few, same v small));
      least = λ a l. omega (arith, same a (omega arith), (law.reaches a).1 (omega arith));
    }))
