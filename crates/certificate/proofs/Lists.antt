-- Sums over a list, the elements that pass a test, and a list with one element taken out. Assumes nothing.
use mathlib.Core.Path.{◌≡◌, refl}
use mathlib.Core.Bool.{Bool, not}
use mathlib.Core.List.{List, [], ◌∷◌, ◌++◌}
use Prim.Native.Nat.{ℕ, zero, suc, ◌+◌, ◌*◌, ◌≤◌, ◌<◌}
use native.Mathlib.Omega.{arith}
use lib.Dec.{T}
use lib.ListN.{length, get_or, take, drop}
use Rattle.integers.specs.Lists.{All, none, also}
use Rattle.integers.proofs.Lists.{all_head, all_tail, all_map, all_of}
use Rattle.integers.proofs.Tests.{by_cond, is_true, is_false}
use Rattle.certificate.specs.Search.{keep_if}

module _ {A : Type 0} where
  abbrev pub sum : (A → ℕ) → List A → ℕ
  sum f [] = 0
  sum f (x ∷ xs) = f x + sum f xs

  -- `Takes x ys zs`: ys with one x taken out is zs
  pub data Takes (x : A) : List A → List A → Type 0 where
    here : {xs : List A} → Takes x (x ∷ xs) xs
    there : {y : A} {ys zs : List A} → Takes x ys zs → Takes x (y ∷ ys) (y ∷ zs)

  pub sum_append : (f : A → ℕ) (xs ys : List A) → sum f (xs ++ ys) ≡ sum f xs + sum f ys
  sum_append f [] ys = omega arith
  sum_append f (x ∷ xs) ys = omega (arith, sum_append f xs ys)

  -- n to each
  pub sum_each : (f : A → ℕ) (n : ℕ) {xs : List A} → All (λ x. n ≤ f x) xs → n * length xs ≤ sum f xs
  sum_each f n none = omega arith
  sum_each f n (also h hs) = omega (arith, sum_each f n hs)

  -- what is kept has passed
  pub all_kept {ℓ} : {P : A → Type ℓ} {xs : List A} (p : A → Bool) → All P xs → All (λ x. T (p x) × P x) (keep_if p xs)
  all_kept p none = none
  all_kept {P} p (also {x} h hs) =
      let kept = all_kept p hs in
      by_cond (All (λ x. T (p x) × P x)) (p x) (λ t. also (t, h) kept) (λ t. kept)

  pub passed_kept : (p : A → Bool) (xs : List A) → All (λ x. T (p x)) (keep_if p xs)
  passed_kept p xs = all_map (λ x h. h.0) (all_kept {P = λ x. Unit {0}} p (all_of (λ x. tt) xs))

  -- what holds of the kept ones and of whatever fails holds of all
  pub kept-all {ℓ ℓ'} :
      {P : A → Type ℓ} {R : A → Type ℓ'} {xs : List A} (p : A → Bool) →
      ((x : A) → R x → T (not (p x)) → P x) →
      All R xs →
      All P (keep_if p xs) →
      All P xs
  kept-all p f none k = none
  kept-all {P} p f (also {x} {xs} h hs) k =
      by_cond (λ ys. All P ys → All P (x ∷ xs)) (p x)
      (λ t k. also (all_head k) (kept-all p f hs (all_tail k)))
      (λ t k. also (f x h t) (kept-all p f hs k))
      k

  pub sum_kept : (f : A → ℕ) (p : A → Bool) (xs : List A) → sum f (keep_if p xs) ≤ sum f xs
  sum_kept f p [] = omega arith
  sum_kept f p (x ∷ xs) =
      let kept = sum_kept f p xs in
      by_cond (λ ys. sum f ys ≤ f x + sum f xs) (p x) (λ t. omega arith) (λ t. omega arith)

  -- one part of the list after the other
  pub append_kept : (p : A → Bool) (xs ys : List A) → keep_if p (xs ++ ys) ≡ keep_if p xs ++ keep_if p ys
  append_kept p [] ys = refl
  append_kept p (x ∷ xs) ys =
      by_cond (λ kept. keep_if p (x ∷ (xs ++ ys)) ≡ kept ++ keep_if p ys) (p x)
      (λ t. rw (is_true (p x) t, append_kept p xs ys))
      (λ t. rw (is_false (p x) t, append_kept p xs ys))

  pub length_kept : (p : A → Bool) (xs : List A) → length (keep_if p xs) ≤ length xs
  length_kept p [] = omega arith
  length_kept p (x ∷ xs) =
      let rest = length_kept p xs in
      by_cond (λ (kept : List A). length kept ≤ suc (length xs)) (p x) (λ t. omega arith) (λ t. omega arith)

  -- the element at a place is taken out by what stands before and after it
  pub takes_at : (d : A) (xs : List A) (k : ℕ) → k < length xs → Takes (get_or xs k d) xs (take k xs ++ drop (suc k) xs)
  takes_at d [] k inside = absurd (omega arith)
  takes_at d (x ∷ xs) zero inside = here
  takes_at d (x ∷ xs) (suc k) inside = there (takes_at d xs k (omega arith))

  pub takes_all {ℓ} : {P : A → Type ℓ} {x : A} {ys zs : List A} → Takes x ys zs → All P ys → P x × All P zs
  takes_all here (also h hs) = (h, hs)
  takes_all (there t) (also h hs) = let r = takes_all t hs in (r.0, also h r.1)

  pub all-takes {ℓ} : {P : A → Type ℓ} {x : A} {ys zs : List A} → Takes x ys zs → P x → All P zs → All P ys
  all-takes here p h = also p h
  all-takes (there t) p (also h hs) = also h (all-takes t p hs)

  pub takes_sum : (f : A → ℕ) {x : A} {ys zs : List A} → Takes x ys zs → sum f ys ≡ f x + sum f zs
  takes_sum f here = refl
  takes_sum f (there t) = omega (arith, takes_sum f t)

  -- what holds of each element holds at each place
  pub all-at {ℓ} : {P : A → Type ℓ} {xs : List A} (d : A) → All P xs → (k : ℕ) → k < length xs → P (get_or xs k d)
  all-at d none k inside = absurd (omega arith)
  all-at d (also h hs) zero inside = h
  all-at d (also h hs) (suc k) inside = all-at d hs k (omega arith)
