-- Parts laid into a buffer one after the other: those before place n are laid, and the rest is as it was. Assumes nothing.
use mathlib.Core.Path.{◌≡◌, refl, sym, ap, ap₂, ◌∙◌}
use mathlib.Core.List.{List, [], ◌∷◌, ◌++◌, map, map-append, append_assoc, append-nil, flatten}
use Prim.Native.Nat.{ℕ, suc, ◌+◌, ◌≤◌, ◌<◌}
use native.Mathlib.Omega.{arith}
use lib.ListN.{length, take, drop, get_or, length-append, length-drop, drop_of_length-le}
use lib.Seq.{length-take-le, take_at, take_all, take-suc, drop-drop, drop-append-add}
use Rattle.c_buffers.specs.Buffers.{filled}
use Rattle.c_buffers.proofs.Buffers.{filled_whole}
use Rattle.c_peel.specs.Inside.{laid}

-- a part that a leaf filled
pub laid_part : {A : Type 0} (out from part : List A) (a n : ℕ) → n ≡ length from → a + length from ≤ length out →
    part ≡ filled (take n (drop a out)) from → take a out ++ (part ++ drop n (drop a out)) ≡ laid out a from
laid_part {A = A} out from part a n e h w =
    let room : length (take n (drop a out)) ≡ length from = length-take-le n (drop a out) (omega (arith, length-drop a out)) ∙ e in
    ap₂ (λ (x y : List A). take a out ++ (x ++ y)) (w ∙ filled_whole (take n (drop a out)) from room)
    (drop-drop n a out ∙ ap (λ (k : ℕ). drop (a + k) out) e)

-- one more part at the end
flatten_more : {A : Type 0} (xs : List (List A)) (x : List A) → flatten (xs ++ (x ∷ [])) ≡ flatten xs ++ x
unfolding flatten
flatten_more [] x = append-nil x
flatten_more {A = A} (y ∷ xs) x = ap (λ (l : List A). y ++ l) (flatten_more xs x) ∙ sym (append_assoc y (flatten xs) x)

module _ {A : Type 0} {B : Type 0} (f : A → List B) (parts : List A) (old : List B) where
  pub record Laid (k n : ℕ) (out : List B) : Type 0 where
    pub long : length (flatten (map f (take k parts))) ≡ n
    pub whole : out ≡ flatten (map f (take k parts)) ++ drop n old

  pub none_laid : Laid 0 0 old
  unfolding flatten
  none_laid = record { long = refl; whole = refl }

  pub one_laid : (k n n' : ℕ) (out after : List B) (d : A) → k < length parts → n' ≡ n + length (f (get_or parts k d)) →
      after ≡ laid out n (f (get_or parts k d)) →
      Laid k n out →
      Laid (k + 1) n' after
  one_laid k n n' out after d h w l g =
      let a = get_or parts k d in
      let before = flatten (map f (take k parts)) in
      let next : flatten (map f (take (k + 1) parts)) ≡ before ++ f a =
      let plus : k + 1 ≡ suc k = omega arith in
      ap (λ (xs : List A). flatten (map f xs))
      (ap (λ (j : ℕ). take j parts) plus ∙ take-suc parts k d h)
      ∙ ap flatten (map-append f (take k parts) (a ∷ []))
      ∙ flatten_more (map f (take k parts)) (f a) in
      let behind : drop (n + length (f a)) out ≡ drop (n + length (f a)) old =
      ap (drop (n + length (f a))) g.whole
      ∙ ap (λ (j : ℕ). drop (j + length (f a)) (before ++ drop n old)) (sym g.long)
      ∙ drop-append-add before (drop n old) (length (f a))
      ∙ drop-drop (length (f a)) n old in
      record {
        long = ap length next ∙ length-append before (f a) ∙ omega (arith, g.long, w);
        whole =
            l
            ∙ ap₂ (λ (x y : List B). x ++ (f a ++ y)) (ap (take n) g.whole ∙ take_at before (drop n old) n g.long) behind
            ∙ sym (append_assoc before (f a) (drop (n + length (f a)) old))
            ∙ ap₂ (λ (x : List B) (j : ℕ). x ++ drop j old) (sym next) (sym w);
      }

  pub still_long : (k n : ℕ) (out : List B) → n ≤ length old → Laid k n out → length out ≡ length old
  still_long k n out h g =
      ap length g.whole
      ∙ length-append (flatten (map f (take k parts))) (drop n old)
      ∙ omega (arith, g.long, length-drop n old)

  pub all_laid : (k n : ℕ) (out : List B) → length parts ≤ k → length old ≤ n → Laid k n out → out ≡ flatten (map f parts)
  all_laid k n out h j g =
      g.whole
      ∙ ap₂ (λ (x : List A) (y : List B). flatten (map f x) ++ y) (take_all k parts h) (drop_of_length-le old {i = n} j)
      ∙ append-nil (flatten (map f parts))
