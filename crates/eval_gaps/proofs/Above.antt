-- Numbers above a mark, one after the other. Assumes nothing.
use mathlib.Core.Path.{◌≡◌, refl, sym, ap, ◌∙◌, subst}
use mathlib.Core.Bool.{Bool, true, false, ◌&&◌}
use mathlib.Core.List.{List}
use mathlib.Core.Logic.{⊎_elim}
use Prim.Native.Nat.{ℕ, zero, suc, ◌+◌, ◌≤◌, ◌<◌}
use native.Mathlib.Nat.{eq-or-lt_of_le}
use native.Mathlib.Numerals.{add-one}
use native.Mathlib.Omega.{arith}
use lib.Dec.{T}
use lib.Ieee.{Float, lt}
use Rattle.integers.proofs.Tests.{is_true, and_parts}
use Rattle.eval_lanes.specs.Lanes.{lane}
use Rattle.eval_gaps.specs.Gaps.{all_above}

turned : (s t : Bool) → s && t ≡ t && s
turned true true = refl
turned true false = refl
turned false true = refl
turned false false = refl

module _ (mark : Float) (ys : List Float) where
  -- one number more
  above_more : (k : ℕ) → all_above mark ys (k + 1) ≡ lt mark (lane ys k) && all_above mark ys k
  unfolding all_above
  above_more k = ap (all_above mark ys) (add-one k)

  pub none_above : true ≡ all_above mark ys 0
  unfolding all_above
  none_above = refl

  pub next_above : (xs : List Float) (k : ℕ) (above : Bool) → lane xs k ≡ lane ys k → above ≡ all_above mark ys k
      → above && lt mark (lane xs k) ≡ all_above mark ys (k + 1)
  next_above xs k above e f = rw e (rw f (turned (all_above mark ys k) (lt mark (lane ys k)) ∙ sym (above_more k)))

  -- where all lie above, each does
  pub each_above : (n : ℕ) → all_above mark ys n ≡ true → (k : ℕ) → k < n → lt mark (lane ys k) ≡ true
  unfolding all_above
  each_above zero e k h = absurd (omega arith)
  each_above (suc n) e k h =
      let both = and_parts (lt mark (lane ys n)) (all_above mark ys n) (subst T (sym e) tt) in
      let l : k ≤ n = omega arith in
      ⊎_elim
      (λ (q : k ≡ n). subst (λ (i : ℕ). lt mark (lane ys i) ≡ true) (sym q) (is_true _ both.0))
      (λ (q : k < n). each_above n (is_true _ both.1) k q)
      (eq-or-lt_of_le l)
