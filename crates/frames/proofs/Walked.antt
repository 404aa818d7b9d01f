-- The walk through two stores: where it begins, one step, and where it ends. Assumes nothing.
use mathlib.Core.Path.{◌≡◌, refl, sym, ap, ◌∙◌}
use mathlib.Core.Bool.{true}
use mathlib.Core.List.{List, [], ◌∷◌, ◌++◌, flatten}
use mathlib.Core.Logic.{⊎_elim}
use Prim.Native.Nat.{ℕ, ◌+◌, ◌%◌, ◌≤◌, ◌<◌}
use native.Mathlib.Nat.{add-zero}
use native.Mathlib.Omega.{arith}
use lib.ListN.{length, take, drop, length-append, length-drop}
use lib.Seq.{take_at, drop_at, drop-drop}
use Rattle.integers.proofs.Lists.{all_head}
use Rattle.integers.proofs.Tests.{le_or_lt}
use Rattle.frames.specs.Walk.{from, stride}
use Rattle.frames.specs.Frames.{records_of, clashes, union, merged}
use Rattle.frames.proofs.Records.{records_long, records_next, records_end}
use Rattle.frames.proofs.Rising.{Rises}
use Rattle.frames.proofs.Union.{union_all}
use Rattle.frames.proofs.Steps.{first, next, after, strides, stays, goes, union_next, next_first, next_second, both_strides}
use Rattle.frames.proofs.Steps.{clash_next, clashes_after, rises_after}

-- n bytes of the merged store are passed: those of the first i bytes of the one and the first j of the other
pub record Walked (first second : List ℕ) (i j n : ℕ) : Type 0 where
  pub in_first : i ≤ length first
  pub in_second : j ≤ length second
  pub first_whole : i % 12 ≡ 0
  pub second_whole : j % 12 ≡ 0
  pub in_merged : n ≤ length (merged first second)
  pub left : drop n (merged first second) ≡ flatten (union (from first i) (from second j))

-- one of the two stores, from byte i on, beside the records that are left of the other
record Passed (s : List ℕ) (i : ℕ) (others : List (List ℕ)) (k : ℕ) : Type 0 where
  pub inside : i + k ≤ length s
  pub whole : (i + k) % 12 ≡ 0
  pub rest : from s (i + k) ≡ after (from s i) others
  pub record_here : k ≡ 12 → first (from s i) ≡ take 12 (drop i s)

module _ (s : List ℕ) (i : ℕ) (inside : i ≤ length s) (whole : i % 12 ≡ 0) (all : length s % 12 ≡ 0) (others : List (List ℕ)) where
  at_end : length s < i + 12 → stride (from s i) others ≡ 0
  unfolding stride
  at_end h = rw (records_end s i h)

  onward : i + 12 ≤ length s → stride (from s i) others ≡ 12 → Passed s i others 12
  onward h e =
      let n : from s i ≡ take 12 (drop i s) ∷ from s (i + 12) = records_next s i h in
      record {
        inside = h;
        whole = omega arith;
        rest = rw n (sym (goes (take 12 (drop i s)) (from s (i + 12)) others (rw n at e)));
        record_here = λ k. rw n;
      }

  passed : Passed s i others (stride (from s i) others)
  passed =
      ⊎_elim
      (λ e.
      let n : from s (i + 0) ≡ after (from s i) others = rw (add-zero, stays (from s i) others e) in
      rw e (record { inside = omega arith; whole = rw add-zero whole; rest = n; record_here = λ k. absurd (omega arith) }))
      (λ e.
      ⊎_elim (λ h. rw e (onward h e)) (λ h. absurd (omega (arith, at_end h))) (le_or_lt (i + 12) (length s)))
      (strides (from s i) others)

  left_over : i < length s → 0 < length (from s i)
  left_over h = let k : i + 12 ≤ length s = omega arith in rw (records_next s i k) (omega arith)

-- One step of the walk, f bytes on in the one and s in the other: which record is passed, and whether it clashes.
pub record Step (one two : List ℕ) (i j n f s : ℕ) : Type 0 where
  pub walked : Walked one two (i + f) (j + s) (n + 12)
  pub forward : 12 ≤ f + s
  pub both_go : f ≡ s → f ≡ 12
  pub from_one : f ≡ 12 → take 12 (drop n (merged one two)) ≡ take 12 (drop i one)
  pub from_two : (f ≡ 12 → ⊥) → (s ≡ 12) × (take 12 (drop n (merged one two)) ≡ take 12 (drop j two))
  pub clash_here : f ≡ s → (take 12 (drop i one) ≡ take 12 (drop j two) → ⊥) → clashes (from one i) (from two j) ≡ true
  pub clashes_left :
      Rises (from one i) → Rises (from two j) → (f ≡ s → take 12 (drop i one) ≡ take 12 (drop j two)) →
      clashes (from one i) (from two j) ≡ clashes (from one (i + f)) (from two (j + s))
  pub one_rises : Rises (from one i) → Rises (from one (i + f))
  pub two_rises : Rises (from two j) → Rises (from two (j + s))

module _ (one two : List ℕ) (whole-one : length one % 12 ≡ 0) (whole-two : length two % 12 ≡ 0) where
  pub begun : Walked one two 0 0 0
  unfolding merged
  begun = record {
    in_first = omega arith;
    in_second = omega arith;
    first_whole = refl;
    second_whole = refl;
    in_merged = omega arith;
    left = refl;
  }

  module _ (i j n : ℕ) (w : Walked one two i j n) where
    pub ended : length one + length two ≤ i + j → n ≡ length (merged one two)
    unfolding flatten union
    ended h =
        let a : from one i ≡ [] = records_end one i (omega arith) in
        let b : from two j ≡ [] = records_end two j (omega arith) in
        let e : drop n (merged one two) ≡ [] = rw (w.left, a, b) refl in
        omega (arith, length-drop n (merged one two), ap length e)

    pub more_left : n < length (merged one two) → i + j < length one + length two
    more_left h = ⊎_elim (λ k. absurd (omega (arith, ended k))) (λ k. k) (le_or_lt (length one + length two) (i + j))

    passed_one : Passed one i (from two j) (stride (from one i) (from two j))
    passed_one = passed one i w.in_first w.first_whole whole-one (from two j)

    passed_two : Passed two j (from one i) (stride (from two j) (from one i))
    passed_two = passed two j w.in_second w.second_whole whole-two (from one i)

    -- something is left: of the one the records A, of the other B
    module _ (more : i + j < length one + length two) where
      A : List (List ℕ)
      A = from one i

      B : List (List ℕ)
      B = from two j

      some : 0 < length A + length B
      unfolding A B
      some =
          ⊎_elim
          (λ h. omega (arith, left_over two j w.in_second w.second_whole whole-two (from one i) (omega arith)))
          (λ h. omega (arith, left_over one i w.in_first w.first_whole whole-one (from two j) h))
          (le_or_lt (length one) i)

      split : drop n (merged one two) ≡ next A B ++ flatten (union (after A B) (after B A))
      unfolding flatten A B
      split = w.left ∙ ap flatten (union_next A B some)

      long : length (next A B) ≡ 12
      unfolding A B
      long = all_head (rw (union_next A B some) at (union_all (records_long (drop i one)) (records_long (drop j two))))

      here : take 12 (drop n (merged one two)) ≡ next A B
      here = rw split (take_at _ _ 12 long)

      onwards : Walked one two (i + stride A B) (j + stride B A) (n + 12)
      unfolding A B
      onwards =
          let p = passed_one in
          let q = passed_two in
          record {
            in_first = p.inside;
            in_second = q.inside;
            first_whole = p.whole;
            second_whole = q.whole;
            in_merged = omega (arith, length-drop n (merged one two), simp length-append at (ap length split), long);
            left = rw (p.rest, q.rest, ← drop-drop 12 n, split) (drop_at (next A B) _ 12 long);
          }

      both : stride A B ≡ stride B A → stride A B ≡ 12
      both = both_strides A B some

      -- where both go on, both have a record
      heads : stride A B ≡ stride B A → (first A ≡ take 12 (drop i one)) × (first B ≡ take 12 (drop j two))
      unfolding A B
      heads e = (passed_one.record_here (both e), passed_two.record_here (sym e ∙ both e))

      forwards : 12 ≤ stride A B + stride B A
      forwards = ⊎_elim (λ z. omega (arith, (next_second A B some (λ t. omega arith)).1)) (λ t. omega arith) (strides A B)

      strode : Step one two i j n (stride A B) (stride B A)
      unfolding A B
      strode = record {
        walked = onwards;
        forward = forwards;
        both_go = both;
        from_one = λ t. here ∙ next_first A B t ∙ passed_one.record_here t;
        from_two = λ f. let k = next_second A B some f in (k.1, here ∙ k.0 ∙ passed_two.record_here k.1);
        clash_here = λ e d. clash_next A B (both e) (sym e ∙ both e) (λ h. d (sym (heads e).0 ∙ h ∙ (heads e).1));
        clashes_left = λ p q e. rw (passed_one.rest, passed_two.rest) (clashes_after p q (λ k. (heads k).0 ∙ e k ∙ sym (heads k).1));
        one_rises = λ p. rw passed_one.rest (rises_after B p);
        two_rises = λ q. rw passed_two.rest (rises_after A q);
      }

      pub step : (f s : ℕ) → f ≡ stride (from one i) (from two j) → s ≡ stride (from two j) (from one i) → Step one two i j n f s
      unfolding A B
      step f s e k = rw (e, k) strode

-- the walk that counts: the clashes of both stores are those of what is left
pub record Counting (first second : List ℕ) (i j n : ℕ) : Type 0 where
  pub walked : Walked first second i j n
  pub few : n ≤ i + j
  pub first_rises : Rises (from first i)
  pub second_rises : Rises (from second j)
  pub clashes_left : clashes (records_of first) (records_of second) ≡ clashes (from first i) (from second j)
