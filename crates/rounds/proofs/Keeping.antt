-- Laws of the elements of a list that pass a test. Assumes nothing.
use mathlib.Core.Path.{◌≡◌, refl, ap}
use mathlib.Core.Bool.{Bool, true, false, cond, ◌&&◌}
use mathlib.Core.List.{List, [], ◌∷◌}
use Rattle.integers.specs.Lists.{All, none, also}
use Rattle.certificate.specs.Search.{keep_if}

module _ {A : Type 0} where
  -- tests that say the same
  pub keep_same : (p p' : A → Bool) → ((x : A) → p x ≡ p' x) → (xs : List A) → keep_if p xs ≡ keep_if p' xs
  keep_same p p' same [] = refl
  keep_same p p' same (x ∷ xs) = rw (same x, keep_same p p' same xs) refl

  -- a test that passes all
  pub keep_all : (p : A → Bool) → ((x : A) → p x ≡ true) → (xs : List A) → keep_if p xs ≡ xs
  keep_all p all [] = refl
  keep_all p all (x ∷ xs) = rw (all x, keep_all p all xs) refl

  -- two tests, one after the other
  pub keep_twice : (p p' : A → Bool) (xs : List A) → keep_if p' (keep_if p xs) ≡ keep_if (λ x. p x && p' x) xs
  keep_twice p p' [] = refl
  keep_twice p p' (x ∷ xs) = one (p x) (keep_if p xs) (keep_if (λ y. p y && p' y) xs) (keep_twice p p' xs)
    where
      one : (b : Bool) (ys zs : List A) → keep_if p' ys ≡ zs → keep_if p' (cond b (x ∷ ys) ys) ≡ cond (b && p' x) (x ∷ zs) zs
      one true ys zs e = ap (λ (l : List A). cond (p' x) (x ∷ l) l) e
      one false ys zs e = e

  -- what passed
  pub keep_passed : (p : A → Bool) (xs : List A) → All (λ x. p x ≡ true) (keep_if p xs)
  keep_passed p [] = none
  keep_passed p (x ∷ xs) = one (p x) refl (keep_if p xs) (keep_passed p xs)
    where
      one : (b : Bool) → p x ≡ b → (ys : List A) → All (λ y. p y ≡ true) ys → All (λ y. p y ≡ true) (cond b (x ∷ ys) ys)
      one true e ys h = also e h
      one false e ys h = h
