-- What has been found: one vector more, and one box more. Assumes nothing.
use mathlib.Core.Path.{◌≡◌, refl, ap, sym, ◌∙◌}
use mathlib.Core.Bool.{Bool, ◌&&◌}
use mathlib.Core.List.{List, [], ◌∷◌}
use Prim.Native.Nat.{ℕ, zero, suc, ◌≤◌}
use native.Mathlib.Omega.{arith}
use borrow.Author.Tests.{eq-eqb, le-leb}
use lib.Dec.{leb, eqb, leb→le}
use lib.IntN.{ℤ, pos}
use lib.ListN.{length, get_or}
use lib.Signed.{≤ℤ_refl}
use Rattle.integers.proofs.Order.{≤ℤ-trans, max_left, max_right, min_left, min_right, max_either, min_either}
use Rattle.integers.proofs.Tests.{by_cond, and_parts}
use Rattle.boxes.specs.declared.Box.{Box}
use Rattle.boxes.specs.Boxes.{Between, empty, side, InBox, volume}
use Rattle.boxes.proofs.Volume.{between_length, low_in}
use Rattle.range_search.specs.RangeSearch.{Found, nothing, ends, least, greatest, widen, costed}
use Rattle.range_search.specs.Ranged.{Has}

-- v lies in what has been found
abbrev pub Inside : Found → List ℤ → Type 0
Inside nothing v = ⊥
Inside (ends b) v = InBox v b

pub length_least : (ls v : List ℤ) → length (least ls v) ≡ length ls
unfolding least
length_least [] v = refl
length_least (l ∷ ls) [] = refl
length_least (l ∷ ls) (x ∷ v) = ap suc (length_least ls v)

pub length_greatest : (hs v : List ℤ) → length (greatest hs v) ≡ length hs
unfolding greatest
length_greatest [] v = refl
length_greatest (h ∷ hs) [] = refl
length_greatest (h ∷ hs) (x ∷ v) = ap suc (length_greatest hs v)

-- what lies between two lies between them once they are wider
wider : {u ls hs : List ℤ} (v : List ℤ) → Between u ls hs → Between u (least ls v) (greatest hs v)
unfolding least greatest
wider v empty = empty
wider [] (side p q b) = side p q b
wider (y ∷ v) (side {l = l} {h = h} p q b) =
    side (≤ℤ-trans (min_left l y) p) (≤ℤ-trans q (max_left h y)) (wider v b)

-- and so does the new vector
reached : (v ls hs : List ℤ) → length ls ≡ length v → length hs ≡ length v → Between v (least ls v) (greatest hs v)
unfolding least greatest
reached [] [] [] e f = empty
reached [] [] (h ∷ hs) e f = absurd (omega arith)
reached [] (l ∷ ls) hs e f = absurd (omega arith)
reached (x ∷ v) [] hs e f = absurd (omega arith)
reached (x ∷ v) (l ∷ ls) [] e f = absurd (omega arith)
reached (x ∷ v) (l ∷ ls) (h ∷ hs) e f = side (min_right l x) (max_right h x) (reached v ls hs (omega arith) (omega arith))

itself : (v : List ℤ) → Between v v v
itself [] = empty
itself (x ∷ v) = side (≤ℤ_refl x) (≤ℤ_refl x) (itself v)

-- the ends, coordinate by coordinate: one of the old and of the new
least_at_lem : (P : ℤ → Type 0) (ls v : List ℤ) (k : ℕ) → P (get_or ls k (pos 0)) → P (get_or v k (pos 0)) → P (get_or (least ls v) k (pos 0))
unfolding least
least_at_lem P [] v k p q = p
least_at_lem P (l ∷ ls) [] k p q = p
least_at_lem P (l ∷ ls) (x ∷ v) zero p q = min_either P l x p q
least_at_lem P (l ∷ ls) (x ∷ v) (suc k) p q = least_at_lem P ls v k p q

greatest_at : (P : ℤ → Type 0) (hs v : List ℤ) (k : ℕ) → P (get_or hs k (pos 0)) → P (get_or v k (pos 0)) → P (get_or (greatest hs v) k (pos 0))
unfolding greatest
greatest_at P [] v k p q = p
greatest_at P (h ∷ hs) [] k p q = p
greatest_at P (h ∷ hs) (x ∷ v) zero p q = max_either P h x p q
greatest_at P (h ∷ hs) (x ∷ v) (suc k) p q = greatest_at P hs v k p q

module _ (cost : List ℤ → ℕ) (K : ℕ) (box : Box) where
  -- the ends of what has been found are values of vectors that count
  pub data Ends : Found → Type 0 where
    neither : Ends nothing
    both :
        (b : Box) →
        length b.low ≡ length box.low →
        length b.high ≡ length box.low →
        ((k : ℕ) → Has cost K box k (get_or b.low k (pos 0))) →
        ((k : ℕ) → Has cost K box k (get_or b.high k (pos 0))) →
        Ends (ends b)

  module _ (v : List ℤ) (i : InBox v box) where
    pub widen_ends : {found : Found} → cost v ≤ K → Ends found → Ends (widen found v)
    unfolding widen
    widen_ends cheap neither =
        let has : (k : ℕ) → Has cost K box k (get_or v k (pos 0)) = λ k. record { vector = v; inside = i; cheap = cheap; value = refl } in
        let n = (between_length i.between).0 in
        both (record { low = v; high = v }) n n has has
    widen_ends cheap (both b m n low high) =
        let has : (k : ℕ) → Has cost K box k (get_or v k (pos 0)) = λ k. record { vector = v; inside = i; cheap = cheap; value = refl } in
        both (record { low = least b.low v; high = greatest b.high v })
        (length_least b.low v ∙ m) (length_greatest b.high v ∙ n)
        (λ k. least_at_lem (Has cost K box k) b.low v k (low k) (has k))
        (λ k. greatest_at (Has cost K box k) b.high v k (high k) (has k))

    pub widen_new : {found : Found} → Ends found → Inside (widen found v) v
    unfolding widen
    widen_new neither = record { between = itself v }
    widen_new (both b m n low high) =
        let e = (between_length i.between).0 in
        record { between = reached v b.low b.high (m ∙ sym e) (n ∙ sym e) }

  pub widen_stays : (found : Found) (v u : List ℤ) → Inside found u → Inside (widen found v) u
  unfolding widen
  widen_stays nothing v u i = absurd i
  widen_stays (ends b) v u i = record { between = wider v i.between }

  -- v need not be looked at: it costs more than K, or lies in what has been found
  abbrev pub Settled : Found → List ℤ → Type 0
  Settled found v = cost v ≤ K → Inside found v

  module _ (found : Found) (b : Box) where
    abbrev counts : Bool
    counts = eqb (volume b) 1 && leb (cost b.low) K

    pub costed_stays : (v : List ℤ) → Settled found v → Settled (costed cost K found b) v
    unfolding costed
    costed_stays v s = by_cond (λ f. Settled f v) counts (λ t k. widen_stays found b.low v (s k)) (λ t. s)

    module _ (held : Ends found) (inside : (v : List ℤ) → InBox v b → InBox v box) (some : 1 ≤ volume b) where
      pub costed_ends : Ends (costed cost K found b)
      unfolding costed
      costed_ends =
          by_cond Ends counts
          (λ t. let p = and_parts (eqb (volume b) 1) (leb (cost b.low) K) t in
          widen_ends b.low (inside b.low (low_in b some)) (leb→le _ _ p.1) held)
          (λ t. held)

      pub costed_new : volume b ≡ 1 → Settled (costed cost K found b) b.low
      unfolding costed
      costed_new one cheap =
          rw (eq-eqb (volume b) 1 one, le-leb (cost b.low) K cheap)
          (widen_new b.low (inside b.low (low_in b some)) held)
