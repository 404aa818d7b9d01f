-- A box of one vector, side by side. Assumes nothing.
use Rattle.std.proofs.Common.{◌≡◌, refl, sym, ap, ◌∙◌, Bool, true, false, ◌&&◌, List, [], ◌∷◌, ℕ, zero, suc, ◌*◌, arith, ℤ, eqb, int_eq}
use Rattle.std.proofs.lemmas.Bool.Decides.{Decides-int_eq}
use mathlib.Core.Bool.{true≢false}
use borrow.Author.Tests.{ne_eqb}
use lib.Pointwise.{pointwise}
use lib.Signed.{≤ℤ_refl}
use Rattle.boxes.specs.Boxes.{side_size, sides, product}
use Rattle.boxes.proofs.Sides.{size_parts, side_only, side_some}

both_one : (a b : ℕ) → a * b ≡ 1 → (a ≡ 1) × (b ≡ 1)
both_one zero b h = absurd (omega arith)
both_one (suc a) zero h = absurd (omega arith)
both_one (suc a) (suc b) h = (omega arith, omega arith)

-- equal ends: the sides behind decide. Other ends: the side has no number, or more than one.
one_side : (l h : ℤ) (equal : Bool) → int_eq l h ≡ equal → (later : ℕ) → (equal && eqb later 1) ≡ eqb (side_size l h * later) 1
one_side l h true e later =
    let same : l ≡ h = (Decides-int_eq l h).0 e in
    let one : side_size l h ≡ 1 = rw (← same) (omega (arith, size_parts l l)) in
    let all : side_size l h * later ≡ later = rw one (omega arith) in
    rw all
one_side l h false e later =
    sym
    (ne_eqb (side_size l h * later) 1
    (λ q.
    let one = (both_one (side_size l h) later q).0 in
    let p = side_some l h (omega arith) in
    true≢false (sym ((Decides-int_eq l h).1 (sym (side_only l h h one p (≤ℤ_refl h)))) ∙ e)))

pub one_vector_lem : (ls hs : List ℤ) → pointwise int_eq ls hs ≡ eqb (product (sides ls hs)) 1
unfolding sides product
one_vector_lem [] [] = refl
one_vector_lem [] (h ∷ hs) = refl
one_vector_lem (l ∷ ls) [] = refl
one_vector_lem (l ∷ ls) (h ∷ hs) =
    ap (λ (t : Bool). int_eq l h && t) (one_vector_lem ls hs) ∙ one_side l h (int_eq l h) refl (product (sides ls hs))
