-- A box by a number that was found of its bound, up to one more than the ceiling. Assumes nothing.
use mathlib.Core.Path.{◌≡◌, refl, sym, ap, ◌∙◌}
use mathlib.Core.Bool.{Bool, true, false, cond, ◌&&◌}
use mathlib.Core.List.{List}
use mathlib.Core.Logic.{⊎_elim}
use Prim.Native.Nat.{ℕ, ◌≤◌, ◌<◌, min}
use native.Mathlib.Omega.{arith}
use borrow.Author.Tests.{le-leb, lt-leb, eqb-true, eqb-false}
use lib.Dec.{leb, eqb}
use lib.IntN.{ℤ}
use Rattle.integers.proofs.Tests.{le_or_lt}
use Rattle.boxes.specs.declared.Box.{Box}
use Rattle.boxes.specs.Boxes.{volume}
use Rattle.boxes.specs.Laws.{Bounds}
use Rattle.range_search.specs.RangeSearch.{Found, keeps, widen, costed}
use Rattle.branching.specs.Branching.{just_above}
use Rattle.ranges.specs.declared.step.Tested.TheVariants.{Counted, Kept, Dropped}
use Rattle.ranges.specs.Inside.{tested_by, is_counted, is_kept}

-- as far as one more than the ceiling decides as the whole bound does
same_test : (a x K : ℕ) → x ≡ min a (just_above K) → a < 18446744073709551615 → leb x K ≡ leb a K
same_test a x K is small =
    ⊎_elim (λ (le : a ≤ K). le-leb x K (omega arith) ∙ sym (le-leb a K le))
    (λ (lt : K < a). lt-leb x K (omega arith) ∙ sym (lt-leb a K lt)) (le_or_lt a K)

module _ (cost : List ℤ → ℕ) (bound : Box → ℕ) (laws : Bounds cost bound) (K : ℕ) (b : Box) (some : 1 ≤ volume b) (x : ℕ)
    (is : x ≡ min (bound b) (just_above K)) (small : bound b < 18446744073709551615) where
  test : leb x K ≡ leb (bound b) K
  test = same_test (bound b) x K is small

  -- it is kept
  pub kept_same : is_kept (tested_by b x K) ≡ keeps bound K b
  unfolding keeps
  kept_same = rw test (by (leb (bound b) K) (eqb (volume b) 1) refl)
    where
      by : (low one : Bool) → eqb (volume b) 1 ≡ one → is_kept (cond low (cond one Counted Kept) Dropped) ≡ (low && leb 2 (volume b))
      by false one e = refl
      by true true e = let volume-one = eqb-true (volume b) 1 e in sym (lt-leb 2 (volume b) (omega arith))
      by true false e =
          let other : volume b ≡ 1 → ⊥ = eqb-false (volume b) 1 e in
          sym (le-leb 2 (volume b) (omega arith))

  -- its one vector is found
  pub costed_same : (found : Found) → cond (is_counted (tested_by b x K)) (widen found b.low) found ≡ costed cost K found b
  unfolding costed
  costed_same found = ap (λ (t : Bool). cond t (widen found b.low) found) counts
    where
      by : (low one : Bool) → leb (bound b) K ≡ low → eqb (volume b) 1 ≡ one →
          is_counted (cond low (cond one Counted Kept) Dropped) ≡ (one && leb (cost b.low) K)
      by true true l e = sym (rw (← laws.tight b (eqb-true (volume b) 1 e)) l)
      by true false l e = refl
      by false true l e = sym (rw (← laws.tight b (eqb-true (volume b) 1 e)) l)
      by false false l e = refl

      counts : is_counted (tested_by b x K) ≡ (eqb (volume b) 1 && leb (cost b.low) K)
      counts = rw test (by (leb (bound b) K) (eqb (volume b) 1) refl refl)
