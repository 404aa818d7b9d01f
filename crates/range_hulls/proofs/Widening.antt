-- The ends with one vector more, coordinate by coordinate from the first on. Assumes nothing.
use mathlib.Core.Path.{◌≡◌, refl, sym, ap, subst, ◌∙◌}
use mathlib.Core.List.{List, [], ◌∷◌, append-nil}
use Prim.Native.Nat.{ℕ, zero, suc, ◌+◌, ◌≤◌, ◌<◌}
use native.Mathlib.Numerals.{add-one}
use native.Mathlib.Omega.{arith}
use lib.IntN.{ℤ, pos}
use lib.ListN.{length, get_or, set, take, drop, drop_of_length-le}
use Rattle.std.specs.Int.{int_min, int_max}
use Rattle.std.proofs.lemmas.Int.{ints}
use lib.Seq.{paste, paste-suc, drop-paste, get_or-drop, take_all}
use Rattle.integers.specs.Integers.{min_z, max_z}
use Rattle.range_search.specs.RangeSearch.{least, greatest}
use Rattle.range_search.proofs.Found.{length_least, length_greatest}

pub least_get_d : (ls v : List ℤ) (k : ℕ) → k < length ls → k < length v
    → get_or (least ls v) k (pos 0) ≡ min_z (get_or ls k (pos 0)) (get_or v k (pos 0))
unfolding least
least_get_d [] v k h j = absurd (omega arith)
least_get_d (l ∷ ls) [] k h j = absurd (omega arith)
least_get_d (l ∷ ls) (x ∷ v) zero h j = refl
least_get_d (l ∷ ls) (x ∷ v) (suc k) h j = least_get_d ls v k (omega arith) (omega arith)

pub greatest_get_d : (hs v : List ℤ) (k : ℕ) → k < length hs → k < length v
    → get_or (greatest hs v) k (pos 0) ≡ max_z (get_or hs k (pos 0)) (get_or v k (pos 0))
unfolding greatest
greatest_get_d [] v k h j = absurd (omega arith)
greatest_get_d (y ∷ hs) [] k h j = absurd (omega arith)
greatest_get_d (y ∷ hs) (x ∷ v) zero h j = refl
greatest_get_d (y ∷ hs) (x ∷ v) (suc k) h j = greatest_get_d hs v k (omega arith) (omega arith)

-- a list of which the first k are those of another, ns
module _ (ls ns : List ℤ) (same : length ns ≡ length ls) where
  abbrev pub first_of : ℕ → List ℤ
  first_of k = paste ls 0 ns k

  -- the next one is as it was
  pub next_same : (k : ℕ) → k ≤ length ls → get_or (first_of k) k (pos 0) ≡ get_or ls k (pos 0)
  next_same k h =
      let zero_k : 0 + k ≡ k = omega arith in
      let rest : drop k (first_of k) ≡ drop k ls =
      subst (λ (j : ℕ). drop j (first_of k) ≡ drop j ls) zero_k (drop-paste ls 0 ns k (omega arith) (omega arith)) in
      let none : k + 0 ≡ k = omega arith in
      sym (rw none at (get_or-drop k (first_of k) 0 (pos 0)))
      ∙ ap (λ (l : List ℤ). get_or l 0 (pos 0)) rest
      ∙ rw none at (get_or-drop k ls 0 (pos 0))

  -- and one more
  pub first_more : (k : ℕ) (z : ℤ) → k < length ls → z ≡ get_or ns k (pos 0) → set (first_of k) k z ≡ first_of (k + 1)
  first_more k z h is =
      let zero_k : 0 + k ≡ k = omega arith in
      rw (is, add-one)
      (subst (λ (j : ℕ). set (first_of k) j (get_or ns k (pos 0)) ≡ first_of (suc k)) zero_k
      (paste-suc ls 0 ns k (pos 0) (omega arith) (omega arith)))

  pub first_all : (k : ℕ) → k ≡ length ls → first_of k ≡ ns
  first_all k is =
      let past : length ls ≤ 0 + k = omega arith in
      rw (drop_of_length-le ls past) (append-nil (take k ns) ∙ take_all k ns (omega arith))

-- the library's smaller and larger of two numbers
min_is : (a b : ℤ) → int_min a b ≡ min_z a b
unfolding min_z
min_is a b = grind (arith, ints)

max_is : (a b : ℤ) → int_max a b ≡ max_z a b
unfolding max_z
max_is a b = grind (arith, ints)

-- one turn: the number at k is read, and the smaller or the larger of it and the vector's is stored
module _ (ls v : List ℤ) (k : ℕ) (inside : k < length ls) (inside-v : k < length v) where
  abbrev pub low_with : ℕ → List ℤ
  low_with j = first_of ls (least ls v) (length_least ls v) j

  abbrev pub high_with : ℕ → List ℤ
  high_with j = first_of ls (greatest ls v) (length_greatest ls v) j

  pub lower_turn : (low : List ℤ) → low ≡ low_with k → set low k (int_min (get_or low k (pos 0)) (get_or v k (pos 0))) ≡ low_with (k + 1)
  lower_turn low is =
      let x = get_or v k (pos 0) in
      let here : get_or low k (pos 0) ≡ get_or ls k (pos 0) =
      ap (λ (l : List ℤ). get_or l k (pos 0)) is ∙ next_same ls (least ls v) (length_least ls v) k (omega arith) in
      let value : int_min (get_or low k (pos 0)) x ≡ get_or (least ls v) k (pos 0) =
      min_is (get_or low k (pos 0)) x ∙ ap (λ (z : ℤ). min_z z x) here ∙ sym (least_get_d ls v k inside inside-v) in
      ap (λ (l : List ℤ). set l k (int_min (get_or low k (pos 0)) x)) is
      ∙ first_more ls (least ls v) (length_least ls v) k _ inside value

  pub higher_turn : (high : List ℤ) → high ≡ high_with k → set high k (int_max (get_or high k (pos 0)) (get_or v k (pos 0))) ≡ high_with (k + 1)
  higher_turn high is =
      let x = get_or v k (pos 0) in
      let here : get_or high k (pos 0) ≡ get_or ls k (pos 0) =
      ap (λ (l : List ℤ). get_or l k (pos 0)) is ∙ next_same ls (greatest ls v) (length_greatest ls v) k (omega arith) in
      let value : int_max (get_or high k (pos 0)) x ≡ get_or (greatest ls v) k (pos 0) =
      max_is (get_or high k (pos 0)) x ∙ ap (λ (z : ℤ). max_z z x) here ∙ sym (greatest_get_d ls v k inside inside-v) in
      ap (λ (l : List ℤ). set l k (int_max (get_or high k (pos 0)) x)) is
      ∙ first_more ls (greatest ls v) (length_greatest ls v) k _ inside value
