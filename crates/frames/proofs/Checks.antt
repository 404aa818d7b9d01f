-- What the checks of two stores come to, one after the other. Assumes nothing.
use borrow.Author.Tests.{eqb-true, le-leb, lt-leb}
use mathlib.Core.Path.{◌≡◌, refl, sym, ◌∙◌}
use mathlib.Core.Bool.{Bool, true, false, cond, ◌&&◌}
use mathlib.Core.List.{List, [], ◌∷◌}
use Prim.Native.Nat.{ℕ, ◌%◌, ◌≤◌, ◌<◌}
use native.Mathlib.Omega.{arith}
use lib.Dec.{eqb, eqb→eq}
use lib.ListN.{length}
use Rattle.std.specs.Prelude.{Ok, Err, OnOk}
use Rattle.integers.proofs.Tests.{and_parts}
use Rattle.codes.specs.declared.Refusal.{Refusal}
use Rattle.codes.specs.declared.Refusal.TheVariants.{Length, Order}
use Rattle.codes.specs.Codes.{Check, pass, in_order, unless_refused, within}
use Rattle.codes.proofs.Checks.{passed, first_passed, others_passed}
use Rattle.codes.proofs.Laws.{in_order_one, in_order_group, after_refusal}
use Rattle.points.specs.Points.{check_store}
use Rattle.frames.specs.Frames.{records_of, frames_of, rising, union, merged}
use Rattle.frames.specs.Frames.{check_either, check_order, check_clash, check_union, check_both, union_answer}
use Rattle.frames.proofs.Union.{merged_length}

-- what the outcome of a call tells of its checks
pub told_refused : (c : Check) (n : ℕ) (r : Refusal) → unless_refused c n ≡ Err r → c ≡ Err r
told_refused (Ok _) n r e = let z : ◌≡◌ {A = ℕ} 0 1 = cc in absurd (omega arith)
told_refused (Err q) n r e = cc

pub told_value : (c : Check) (n m : ℕ) → unless_refused c n ≡ Ok m → (c ≡ pass) × (m ≡ n)
told_value (Ok _) n m e = (refl, cc)
told_value (Err q) n m e = let z : ◌≡◌ {A = ℕ} 0 1 = cc in absurd (omega arith)

-- an empty store and one that check 1 accepts have whole records
pub either_whole : (bytes : ℕ) → check_either bytes ≡ pass → bytes % 12 ≡ 0
unfolding check_either check_store
either_whole bytes e = by (eqb bytes 0) refl e
  where
    by : (t : Bool) → eqb bytes 0 ≡ t → cond t pass (check_store bytes) ≡ pass → bytes % 12 ≡ 0
    by true k h = rw (eqb-true bytes 0 k)
    by false k h =
        let a = within 1 bytes 49152 in
        let b = eqb (bytes % 12) 0 in
        eqb→eq (bytes % 12) 0 (and_parts a b (passed (a && b) Length h)).1

-- and so has one that check 1 accepts
pub either_passed : (bytes : ℕ) (c : Check) → (bytes ≡ 0 → ⊥) → c ≡ check_store bytes → OnOk c (bytes % 12 ≡ 0)
unfolding check_store
either_passed bytes (Ok _) some e =
    let a = within 1 bytes 49152 in
    let b = eqb (bytes % 12) 0 in
    eqb→eq (bytes % 12) 0 (and_parts a b (passed (a && b) Length (sym e))).1
either_passed bytes (Err r) some e = tt

module _ (first second : List ℕ) where
  -- check 1 of each
  abbrev pub lengths : Check
  lengths = in_order (check_either (length first) ∷ check_either (length second) ∷ [])

  pub lengths_pass : check_either (length first) ≡ pass → check_either (length second) ≡ pass → lengths ≡ pass
  unfolding in_order
  lengths_pass p q = rw (p, q) refl

  pub lengths_refused : (r : Refusal) → lengths ≡ Err r → union_answer first second ≡ Err r
  unfolding union_answer check_both
  lengths_refused r e = rw (after_refusal (check_either (length first) ∷ check_either (length second) ∷ []) _ r e)

  module _ (good : lengths ≡ pass) where
    pub whole : (length first % 12 ≡ 0) × (length second % 12 ≡ 0)
    whole = (either_whole _ (first_passed _ _ good), either_whole _ (first_passed _ _ (others_passed _ _ good)))

    -- the checks behind the lengths decide
    behind_lengths : check_both first second ≡ in_order (check_order first second ∷ check_clash first second ∷ check_union first second ∷ [])
    unfolding check_both in_order
    behind_lengths =
        sym
        (in_order_group (check_either (length first) ∷ check_either (length second) ∷ [])
        (check_order first second ∷ check_clash first second ∷ check_union first second ∷ []))
        ∙ rw good refl

    pub first_falls : rising (frames_of first) ≡ false → union_answer first second ≡ Err Order
    unfolding union_answer check_order in_order
    first_falls e = rw (behind_lengths, e)

    pub second_falls : rising (frames_of first) ≡ true → rising (frames_of second) ≡ false → union_answer first second ≡ Err Order
    unfolding union_answer check_order in_order
    second_falls e k = rw (behind_lengths, e, k)

    -- where the frames of both rise, what the count says and its size decide
    module _ (one : rising (frames_of first) ≡ true) (two : rising (frames_of second) ≡ true) where
      behind_order : check_both first second ≡ in_order (check_clash first second ∷ check_union first second ∷ [])
      unfolding check_order in_order
      behind_order = rw (behind_lengths, one, two)

      pub clash_refused :
          (r : Refusal) → unless_refused (check_clash first second) (length (merged first second)) ≡ Err r →
          union_answer first second ≡ Err r
      unfolding union_answer in_order
      clash_refused r e = let k : check_clash first second ≡ Err r = told_refused _ _ _ e in rw (behind_order, k)

      module _ (bytes : ℕ) (counted : unless_refused (check_clash first second) (length (merged first second)) ≡ Ok bytes) where
        its_length : bytes ≡ length (merged first second)
        its_length = (told_value (check_clash first second) _ bytes counted).1

        behind_clash : check_both first second ≡ check_union first second
        unfolding in_order
        behind_clash = rw (behind_order, (told_value (check_clash first second) _ bytes counted).0) (in_order_one (check_union first second))

        pub union_over : 49152 < bytes → union_answer first second ≡ Err Length
        unfolding union_answer check_union
        union_over h =
            let many : 4096 < length (union (records_of first) (records_of second)) = omega (arith, its_length, merged_length first second) in
            rw (behind_clash, lt-leb _ _ many)

        pub union_counted : bytes ≤ 49152 → union_answer first second ≡ Ok bytes
        unfolding union_answer check_union
        union_counted h =
            let few : length (union (records_of first) (records_of second)) ≤ 4096 = omega (arith, its_length, merged_length first second) in
            rw (behind_clash, le-leb _ _ few, its_length)
