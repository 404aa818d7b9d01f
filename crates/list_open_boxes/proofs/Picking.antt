-- What is picked of a list by a test of its places, for any test. Assumes nothing.
use mathlib.Core.Path.{◌≡◌, refl, sym, ap, ◌∙◌}
use mathlib.Core.Bool.{Bool, true, false, cond, ◌&&◌}
use mathlib.Core.List.{List, [], ◌∷◌, ◌++◌, append_assoc, append-nil, map, map-append}
use mathlib.Core.Logic.{⊎_elim}
use Prim.Native.Nat.{ℕ, zero, suc, ◌+◌, ◌≤◌, ◌<◌}
use native.Mathlib.Numerals.{add-one}
use native.Mathlib.Omega.{arith}
use lib.Dec.{ltb}
use lib.ListN.{length, get_or, take, length-append, length-take, get_or-append}
use lib.Seq.{get_or_at, take_all, take-append-le}
use borrow.Author.Tests.{eq-eqb, ne_eqb, lt-ltb, le-ltb}
use lib.Dec.{eqb}
use Rattle.integers.specs.Lists.{All, none, also}
use Rattle.integers.proofs.Lists.{all_append}
use Rattle.integers.proofs.Tests.{le_or_lt}
use Rattle.certificate.specs.Search.{keep_if}
use Rattle.certificate.proofs.Lists.{append_kept}
use Rattle.list_open_boxes.specs.OpenBoxes.{others_than, picked, number}

pub one_at_most : (k : Bool) → cond k 1 0 ≤ 1
one_at_most true = omega arith
one_at_most false = omega arith

if_length : {A : Type 0} (k : Bool) (x : A) → length (cond k (x ∷ []) []) ≡ cond k 1 0
if_length true x = refl
if_length false x = refl

pub if_map : {A C : Type 0} (h : A → C) (k : Bool) (x : A) → map h (cond k (x ∷ []) []) ≡ cond k (h x ∷ []) []
if_map h true x = refl
if_map h false x = refl

-- One more behind a list of which as many are taken as there is room for: it is taken too where there is room left.
module _ {A : Type 0} (room : ℕ) (xs : List A) (x : A) where
  pub taken_one : (kept : Bool) →
      take room (xs ++ cond kept (x ∷ []) []) ≡ take room xs ++ cond (kept && ltb (length (take room xs)) room) (x ∷ []) []
  taken_one false = rw (append-nil xs, append-nil (take room xs))
  taken_one true =
      let few = length-take room xs in
      ⊎_elim
      (λ (full : room ≤ length xs).
      rw (le-ltb (length (take room xs)) room (omega arith)) (take-append-le room xs (x ∷ []) full ∙ sym (append-nil (take room xs))))
      (λ (free : length xs < room).
      rw (lt-ltb (length (take room xs)) room (omega arith))
      (take_all room (xs ++ (x ∷ [])) (omega (arith, length-append xs (x ∷ []))) ∙ rw (take_all room xs (omega arith))))
      (le_or_lt room (length xs))

pub picked_more : {A : Type 0} (f : ℕ → A) (q : ℕ → Bool) (n : ℕ) → picked f q (n + 1) ≡ picked f q n ++ cond (q n) (f n ∷ []) []
unfolding picked
picked_more f q n = rw add-one

pub number_none : (q : ℕ → Bool) → number q 0 ≡ 0
unfolding number
number_none q = refl

pub number_more : (q : ℕ → Bool) (n : ℕ) → number q (n + 1) ≡ number q n + cond (q n) 1 0
unfolding number
number_more q n = rw add-one

pub number_few : (q : ℕ → Bool) (n : ℕ) → number q n ≤ n
unfolding number
number_few q zero = omega arith
number_few q (suc n) = omega (arith, number_few q n, one_at_most (q n))

pub picked_length : {A : Type 0} (f : ℕ → A) (q : ℕ → Bool) (n : ℕ) → length (picked f q n) ≡ number q n
unfolding picked number
picked_length f q zero = refl
picked_length f q (suc n) =
    length-append (picked f q n) (cond (q n) (f n ∷ []) []) ∙ omega (arith, picked_length f q n, if_length (q n) (f n))

-- places by places, through a function
pub picked_map :
    {A C : Type 0} (h : A → C) (f : ℕ → A) (g : ℕ → C) (q : ℕ → Bool) (n : ℕ) → ((k : ℕ) → k < n → q k ≡ true → g k ≡ h (f k)) →
    picked g q n ≡ map h (picked f q n)
unfolding picked
picked_map h f g q zero same = refl
picked_map h f g q (suc n) same =
    let rest = picked_map h f g q n (λ k l. same k (omega arith)) in
    rw (rest, map-append h (picked f q n) (cond (q n) (f n ∷ []) [])) (ap (λ l. map h (picked f q n) ++ l) (last (q n) refl))
  where
    last : (b : Bool) → q n ≡ b → cond b (g n ∷ []) [] ≡ map h (cond b (f n ∷ []) [])
    last true e = rw (same n (omega arith) e)
    last false e = refl

-- by two tests that agree
pub picked_agree : {A : Type 0} (f : ℕ → A) (q r : ℕ → Bool) (n : ℕ) → ((k : ℕ) → k < n → q k ≡ r k) → picked f q n ≡ picked f r n
unfolding picked
picked_agree f q r zero agree = refl
picked_agree f q r (suc n) agree = rw (picked_agree f q r n (λ k l. agree k (omega arith)), agree n (omega arith))

-- what holds of each place that passes holds of all that is picked
pub all_picked :
    {A : Type 0} {P : A → Type 0} (f : ℕ → A) (q : ℕ → Bool) (n : ℕ) → ((k : ℕ) → k < n → q k ≡ true → P (f k)) → All P (picked f q n)
unfolding picked
all_picked f q zero each = none
all_picked {P} f q (suc n) each = all_append (all_picked f q n (λ k l. each k (omega arith))) (last (q n) refl)
  where
    last : (b : Bool) → q n ≡ b → All P (cond b (f n ∷ []) [])
    last true e = also (each n (omega arith) e) none
    last false e = none

-- what is picked by a further test is what that test keeps
pub picked_kept :
    {A : Type 0} (p : A → Bool) (f : ℕ → A) (q o : ℕ → Bool) (n : ℕ) → ((k : ℕ) → k < n → q k ≡ cond (o k) (p (f k)) false) →
    picked f q n ≡ keep_if p (picked f o n)
unfolding picked
picked_kept p f q o zero decides = refl
picked_kept p f q o (suc n) decides =
    rw (
      picked_kept p f q o n (λ k l. decides k (omega arith)),
      decides n (omega arith),
      append_kept p (picked f o n)
          (cond (o n) (f n ∷ []) []),
    )
    (ap (λ l. keep_if p (picked f o n) ++ l) (last (o n)))
  where
    last : (b : Bool) → cond (cond b (p (f n)) false) (f n ∷ []) [] ≡ keep_if p (cond b (f n ∷ []) [])
    last true = refl
    last false = refl

-- One place that passes: what is picked before it, the thing there, and the rest; and without it where nothing else changes.
pub record Parted {A : Type 0} (f : ℕ → A) (q others : ℕ → Bool) (at n : ℕ) : Type 0 where
  pub rest : List A
  pub whole : picked f q n ≡ picked f q at ++ (f at ∷ rest)
  pub left : picked f others n ≡ picked f q at ++ rest

pub parted :
    {A : Type 0} (f : ℕ → A) (q others : ℕ → Bool) (at n : ℕ) → at < n → q at ≡ true →
    ((k : ℕ) → k < n → others k ≡ cond (eqb k at) false (q k)) → Parted f q others at n
unfolding picked
parted f q others at zero less passes same = absurd (omega arith)
parted f q others at (suc n) less passes same =
    ⊎_elim
    (λ (last : n ≤ at).
    let e : n ≡ at = omega arith in
    let before : (k : ℕ) → k < n → others k ≡ q k = λ k l. same k (omega arith) ∙ rw (ne_eqb k at (λ x. absurd (omega arith))) in
    record {
      rest = [];
      whole = rw (e, passes);
      left = rw (picked_agree f others q n before, same n (omega arith), eq-eqb n at e, e);
    })
    (λ (early : at < n).
    let p = parted f q others at n early passes (λ k l. same k (omega arith)) in
    let tail = cond (q n) (f n ∷ []) [] in
    record {
      rest = p.rest ++ tail;
      whole = rw p.whole (append_assoc (picked f q at) (f at ∷ p.rest) tail);
      left = rw (p.left, same n (omega arith), ne_eqb n at (λ x. absurd (omega arith))) (append_assoc (picked f q at) p.rest tail);
    })
    (le_or_lt n at)

-- where all places pass, all is picked
pub picked_all : {A : Type 0} (f : ℕ → A) (q : ℕ → Bool) (n : ℕ) → ((k : ℕ) → k < n → q k ≡ true) → picked f q n ≡ picked f (λ k. true) n
unfolding picked
picked_all f q zero all = refl
picked_all f q (suc n) all = rw (picked_all f q n (λ k h. all k (omega arith)), all n (omega arith))

picked_whole : {A : Type 0} (f : ℕ → A) (q : ℕ → Bool) (n : ℕ) → ((k : ℕ) → k < n → q k ≡ true) → length (picked f q n) ≡ n
unfolding picked
picked_whole f q zero all = refl
picked_whole f q (suc n) all =
    rw (all n (omega arith)) (length-append (picked f q n) (f n ∷ []) ∙ omega (arith, picked_whole f q n (λ k h. all k (omega arith))))

-- up to a place that does not pass, all stand where they stood
pub picked_at :
    {A : Type 0} (f : ℕ → A) (q : ℕ → Bool) (x : A) (k n : ℕ) → k < n → ((j : ℕ) → j ≤ k → q j ≡ true) →
    (k < length (picked f q n)) × (get_or (picked f q n) k x ≡ f k)
unfolding picked
picked_at f q x k zero less all = absurd (omega arith)
picked_at f q x k (suc n) less all =
    ⊎_elim
    (λ (last : n ≤ k).
    let e : k ≡ n = omega arith in
    let before = picked_whole f q n (λ j h. all j (omega arith)) in
    rw (e, all n last) (omega (arith, length-append (picked f q n) (f n ∷ [])), get_or_at (picked f q n) (f n) [] x n before))
    (λ (early : k < n).
    let p = picked_at f q x k n early all in
    let rest = cond (q n) (f n ∷ []) [] in
    (omega (arith, p.0, length-append (picked f q n) rest), get_or-append (picked f q n) rest x k p.0 ∙ p.1))
    (le_or_lt n k)

-- where two things agree at each place, what is picked of them is the same
pub picked_same : {A : Type 0} (f g : ℕ → A) (q : ℕ → Bool) (n : ℕ) → ((k : ℕ) → k < n → g k ≡ f k) → picked g q n ≡ picked f q n
unfolding picked
picked_same f g q zero same = refl
picked_same f g q (suc n) same = rw (picked_same f g q n (λ k h. same k (omega arith)), same n (omega arith))

pub other : (at k : ℕ) → (k ≡ at → ⊥) → others_than at k ≡ true
other at k ne = rw (ne_eqb k at ne)

-- all but one place, where what stands behind it has moved by one
pub picked_moved :
    {A : Type 0} (f g : ℕ → A) (at m : ℕ) → at ≤ m →
    ((j : ℕ) → j < at → g j ≡ f j) →
    ((j : ℕ) → at ≤ j → j < m → g j ≡ f (j + 1)) →
    picked f (others_than at) (suc m) ≡ picked g (λ k. true) m
unfolding picked
picked_moved f g at zero few before behind = let e : at ≡ 0 = omega arith in rw e
picked_moved f g at (suc m) few before behind =
    ⊎_elim
    (λ (last : suc m ≤ at).
    let e : suc m ≡ at = omega arith in
    rw (eq-eqb (suc m) at e)
    (append-nil (picked f (others_than at) (suc m))
    ∙ picked_all f (others_than at) (suc m) (λ k h. other at k (λ same. absurd (omega arith)))
    ∙ sym (picked_same f g (λ k. true) (suc m) (λ k h. before k (omega arith)))))
    (λ (past : at < suc m).
    let rest = picked_moved f g at m (omega arith) before (λ j h k. behind j h (omega arith)) in
    let here : g m ≡ f (suc m) = rw add-one at (behind m (omega arith) (omega arith)) in
    rw (ne_eqb (suc m) at (λ same. absurd (omega arith)), here) (ap (λ l. l ++ (f (suc m) ∷ [])) rest))
    (le_or_lt (suc m) at)
