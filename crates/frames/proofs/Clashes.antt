-- Laws of clashes: none between records of different frames, and none between equal records. Assumes nothing.
use borrow.Author.Tests.{eq-eqb, ne_eqb, eqb-true}
use mathlib.Core.Path.{◌≡◌, refl, sym, ap, ◌∙◌}
use mathlib.Core.Bool.{Bool, true, false}
use mathlib.Core.List.{List, [], ◌∷◌}
use Prim.Native.Nat.{ℕ}
use native.Mathlib.Omega.{arith}
use lib.Dec.{eqb}
use Rattle.integers.specs.Lists.{none, also}
use Rattle.frames.specs.Frames.{frame_of, same, clash, clashes_with, clashes}
use Rattle.frames.proofs.Rising.{Above, both_true}

pub same_equal : (r s : List ℕ) → same r s ≡ true → r ≡ s
unfolding same
same_equal [] [] e = refl
same_equal [] (b ∷ s) e = let z : ◌≡◌ {A = ℕ} 0 1 = cc in absurd (omega arith)
same_equal (a ∷ r) [] e = let z : ◌≡◌ {A = ℕ} 0 1 = cc in absurd (omega arith)
same_equal (a ∷ r) (b ∷ s) e =
    let p = both_true (eqb a b) (same r s) e in
    rw (eqb-true a b p.0, same_equal r s p.1)

pub equal_same : (r : List ℕ) → same r r ≡ true
unfolding same
equal_same [] = refl
equal_same (a ∷ r) = rw (eq-eqb a a refl, equal_same r)

-- a record does not clash with those of higher frames, nor those with it
pub none_above : (r : List ℕ) {ss : List (List ℕ)} → Above (frame_of r) ss → clashes_with r ss ≡ false
unfolding clashes_with clash
none_above r none = refl
none_above r (also {x} h hs) =
    let n : frame_of r ≡ frame_of x → ⊥ = λ e. omega arith in
    rw (ne_eqb _ _ n, none_above r hs)

pub none_below : (s : List ℕ) (ss : List (List ℕ)) {rs : List (List ℕ)} → Above (frame_of s) rs → clashes rs (s ∷ ss) ≡ clashes rs ss
unfolding clashes clashes_with clash
none_below s ss none = refl
none_below s ss (also {x} h hs) =
    let n : frame_of x ≡ frame_of s → ⊥ = λ e. omega arith in
    rw (ne_eqb _ _ n, none_below s ss hs)

pub clash_found : (r s : List ℕ) (rs ss : List (List ℕ)) → frame_of r ≡ frame_of s → (r ≡ s → ⊥) → clashes (r ∷ rs) (s ∷ ss) ≡ true
unfolding clashes clashes_with clash
clash_found r s rs ss h n = rw (eq-eqb _ _ h, differ (same r s) (λ e. n (same_equal r s e)))
  where
    differ : (t : Bool) → (t ≡ true → ⊥) → t ≡ false
    differ true f = absurd (f refl)
    differ false f = refl

-- nor do equal records clash, where both lists rise
twice : (r : List ℕ) (rs ss : List (List ℕ)) → Above (frame_of r) rs → Above (frame_of r) ss → clashes (r ∷ rs) (r ∷ ss) ≡ clashes rs ss
unfolding clashes clashes_with clash
twice r rs ss a b = rw (eq-eqb (frame_of r) (frame_of r) refl, equal_same r, none_above r b) (none_below r ss a)

pub common :
    {r s : List ℕ} {rs ss : List (List ℕ)} → r ≡ s → Above (frame_of r) rs → Above (frame_of s) ss →
    clashes (r ∷ rs) (s ∷ ss) ≡ clashes rs ss
common {r} {s} {rs} {ss} e a b =
    let k : Above (frame_of r) ss = rw e b in
    ap (λ (q : List ℕ). clashes (r ∷ rs) (q ∷ ss)) (sym e) ∙ twice r rs ss a k
