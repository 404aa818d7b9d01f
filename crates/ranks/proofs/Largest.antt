-- The (q + 1)-th largest of a list is the least number that at most q of it exceed; so it never falls when one element grows. Assumes
-- nothing.
use mathlib.Core.Path.{◌≡◌, refl}
use mathlib.Core.Bool.{cond}
use mathlib.Core.List.{List, [], ◌∷◌, ◌++◌}
use mathlib.Core.Logic.{⊎_elim}
use Prim.Native.Nat.{ℕ, zero, suc, ◌+◌, ◌≤◌, ◌<◌}
use native.Mathlib.Omega.{arith}
use native.Mathlib.Nat.{le_refl, le_trans}
use lib.Dec.{leb, ltb, leb→le, nleb→lt, ltb→lt, nltb→le}
use lib.ListN.{get_or}
use Rattle.integers.specs.Lists.{All, none, also}
use Rattle.integers.proofs.Lists.{all_map}
use Rattle.integers.proofs.Tests.{by_cond, le_or_lt}
use Rattle.ranks.specs.Largest.{insert_down, sort_down, nth_largest}
use Rattle.ranks.specs.Laws.{exceeding, Largest, LargestRises, Examples}

-- 1 if x exceeds a, else 0
abbrev one : ℕ → ℕ → ℕ
one a x = cond (ltb a x) 1 0

one_le : (a x : ℕ) → x ≤ a → one a x ≡ 0
one_le a x h = by_cond (λ n. n ≡ 0) (ltb a x) (λ t. absurd (omega (arith, ltb→lt a x t))) (λ t. refl)

one_lt : (a x : ℕ) → a < x → one a x ≡ 1
one_lt a x h = by_cond (λ n. n ≡ 1) (ltb a x) (λ t. refl) (λ t. absurd (omega (arith, nltb→le a x t)))

one_few : (a x : ℕ) → one a x ≤ 1
one_few a x = by_cond (λ n. n ≤ 1) (ltb a x) (λ t. omega arith) (λ t. omega arith)

-- it falls as a grows and rises with x
one_mono : (a b x y : ℕ) → a ≤ b → x ≤ y → one b x ≤ one a y
one_mono a b x y h k =
    by_cond (λ n. n ≤ one a y) (ltb b x) (λ t. omega (arith, one_lt a y (omega (arith, ltb→lt b x t)))) (λ t. omega arith)

pub exceeding_more : (a x : ℕ) (xs : List ℕ) → exceeding a (x ∷ xs) ≡ one a x + exceeding a xs
unfolding exceeding
exceeding_more a x xs =
    by_cond (λ n. n ≡ one a x + exceeding a xs) (ltb a x)
    (λ t. omega (arith, one_lt a x (ltb→lt a x t))) (λ t. omega (arith, one_le a x (nltb→le a x t)))

pub exceeding_append : (a : ℕ) (xs ys : List ℕ) → exceeding a (xs ++ ys) ≡ exceeding a xs + exceeding a ys
unfolding exceeding
exceeding_append a [] ys = omega arith
exceeding_append a (x ∷ xs) ys = omega (arith, exceeding_more a x (xs ++ ys), exceeding_more a x xs, exceeding_append a xs ys)

-- fewer exceed a larger number
pub exceeding_falls : (a b : ℕ) → a ≤ b → (xs : List ℕ) → exceeding b xs ≤ exceeding a xs
unfolding exceeding
exceeding_falls a b h [] = omega arith
exceeding_falls a b h (x ∷ xs) =
    omega (arith, exceeding_more a x xs, exceeding_more b x xs, one_mono a b x x h (le_refl x), exceeding_falls a b h xs)

none_exceed : {a : ℕ} {xs : List ℕ} → All (λ x. x ≤ a) xs → exceeding a xs ≡ 0
unfolding exceeding
none_exceed none = refl
none_exceed {a} (also {x} {xs} h hs) = omega (arith, exceeding_more a x xs, one_le a x h, none_exceed hs)

-- a list that falls
data Falls : List ℕ → Type 0 where
  nil : Falls []
  then : {x : ℕ} {xs : List ℕ} → All (λ y. y ≤ x) xs → Falls xs → Falls (x ∷ xs)

insert_all : {P : ℕ → Type 0} (a : ℕ) {xs : List ℕ} → P a → All P xs → All P (insert_down a xs)
unfolding insert_down
insert_all a p none = also p none
insert_all {P} a p (also {x} {xs} h hs) = by_cond (All P) (leb x a) (λ t. also p (also h hs)) (λ t. also h (insert_all a p hs))

insert_falls : (a : ℕ) {xs : List ℕ} → Falls xs → Falls (insert_down a xs)
unfolding insert_down
insert_falls a nil = then none nil
insert_falls a (then {x} {xs} h f) =
    by_cond Falls (leb x a)
    (λ t. let le = leb→le x a t in then (also le (all_map (λ y k. omega arith) h)) (then h f))
    (λ t. let less = nleb→lt x a t in then (insert_all a (omega arith) h) (insert_falls a f))

sort_falls : (xs : List ℕ) → Falls (sort_down xs)
unfolding sort_down
sort_falls [] = nil
sort_falls (x ∷ xs) = insert_falls x (sort_falls xs)

-- sorting keeps how many exceed a number
exceeding_insert : (a x : ℕ) (xs : List ℕ) → exceeding a (insert_down x xs) ≡ one a x + exceeding a xs
unfolding insert_down
exceeding_insert a x [] = exceeding_more a x []
exceeding_insert a x (y ∷ ys) =
    by_cond (λ l. exceeding a l ≡ one a x + exceeding a (y ∷ ys)) (leb y x)
    (λ t. exceeding_more a x (y ∷ ys))
    (λ t. omega (arith, exceeding_more a y (insert_down x ys), exceeding_more a y ys, exceeding_insert a x ys))

exceeding_sort : (a : ℕ) (xs : List ℕ) → exceeding a (sort_down xs) ≡ exceeding a xs
unfolding sort_down
exceeding_sort a [] = refl
exceeding_sort a (x ∷ xs) = omega (arith, exceeding_insert a x (sort_down xs), exceeding_more a x xs, exceeding_sort a xs)

-- place q of a list that falls
few_exceed : {xs : List ℕ} → Falls xs → (q : ℕ) → exceeding (get_or xs q 0) xs ≤ q
unfolding exceeding
few_exceed nil q = omega arith
few_exceed (then {x} {xs} h f) zero = omega (arith, exceeding_more x x xs, one_le x x (le_refl x), none_exceed h)
few_exceed (then {x} {xs} h f) (suc q) =
    omega (arith, exceeding_more (get_or xs q 0) x xs, one_few (get_or xs q 0) x, few_exceed f q)

least_exceeded : {xs : List ℕ} → Falls xs → (q a : ℕ) → exceeding a xs ≤ q → get_or xs q 0 ≤ a
least_exceeded nil q a h = omega arith
least_exceeded (then {x} {xs} h f) zero a few =
    ⊎_elim (λ low. low) (λ high. absurd (omega (arith, exceeding_more a x xs, one_lt a x high))) (le_or_lt x a)
least_exceeded (then {x} {xs} h f) (suc q) a few =
    ⊎_elim
    (λ low. least_exceeded f q a (omega (arith, none_exceed {a = a} (all_map (λ y le. le_trans le low) h))))
    (λ high. least_exceeded f q a (omega (arith, exceeding_more a x xs, one_lt a x high)))
    (le_or_lt x a)

pub largest : (q : ℕ) (xs : List ℕ) → Largest q xs
unfolding nth_largest
largest q xs =
    let few : exceeding (nth_largest q xs) xs ≤ q =
    omega (arith, few_exceed (sort_falls xs) q, exceeding_sort (nth_largest q xs) xs) in
    let least : (a : ℕ) → exceeding a xs ≤ q → nth_largest q xs ≤ a =
    λ a h. least_exceeded (sort_falls xs) q a (omega (arith, exceeding_sort a xs)) in
    let at_most : (a : ℕ) → nth_largest q xs ≤ a → exceeding a xs ≤ q =
    λ a h. le_trans (exceeding_falls (nth_largest q xs) a h xs) few in
    record {
      few = few;
      least = least;
      at_most = λ a. (least a, at_most a);
      reaches = λ a. (
        λ h. ⊎_elim (λ k. absurd (omega (arith, at_most a k))) (λ k. k) (le_or_lt (nth_largest q xs) a),
        λ h. ⊎_elim (λ k. absurd (omega (arith, least a k))) (λ k. k) (le_or_lt (exceeding a xs) q),
      );
      most = λ a h. least a (omega (arith, none_exceed h));
    }

-- more exceed a number where one element has grown
exceeding_grows : (c : ℕ) (xs ys : List ℕ) (a b : ℕ) → a ≤ b → exceeding c (xs ++ a ∷ ys) ≤ exceeding c (xs ++ b ∷ ys)
exceeding_grows c xs ys a b h =
    omega (
      arith,
      exceeding_append c xs (a ∷ ys),
      exceeding_append c xs (b ∷ ys),
      exceeding_more c a ys,
      exceeding_more c b ys,
      one_mono c c a b (le_refl c) h,
    )

pub nth_largest_rises : LargestRises
nth_largest_rises q =
    record {
      grows = λ xs ys a b h.
          let most = nth_largest q (xs ++ b ∷ ys) in
          (largest q (xs ++ a ∷ ys)).least most (le_trans (exceeding_grows most xs ys a b h) (largest q (xs ++ b ∷ ys)).few);
    }

pub examples_hold : Examples
unfolding nth_largest sort_down insert_down
examples_hold = record { max_0 = refl; max_1 = refl; max_2 = refl; max_3 = refl; max_4 = refl }
