-- A step leaves the definition's state after a split: the rows before the last are all kept, and of the halves those that are, behind them.
-- Assumes nothing.
use mathlib.Core.Path.{◌≡◌, refl, sym, ap, subst, ◌∙◌}
use mathlib.Core.Bool.{Bool, true, false, cond}
use mathlib.Core.List.{List, [], ◌∷◌, ◌++◌, append_assoc}
use Prim.Native.Nat.{ℕ, suc, ◌+◌, ◌-◌, ◌/◌, ◌≤◌, ◌<◌, min, max}
use native.Mathlib.Omega.{arith}
use lib.Dec.{T}
use Rattle.std.specs.Prelude.{Option, Some, None}
use lib.IntN.{ℤ}
use lib.ListN.{length, length-append}
use Rattle.integers.specs.Lists.{All, none, also}
use Rattle.integers.proofs.Lists.{append-all}
use Rattle.integers.proofs.Tests.{is_true}
use Rattle.boxes.specs.declared.Box.{Box}
use Rattle.boxes.specs.Split.{left_half, right_half}
use Rattle.boxes.specs.Laws.{Bounds, Halved}
use Rattle.boxes.proofs.Halving.{halved}
use Rattle.list_rows.specs.Rows.{row_count, rows_of}
use Rattle.list_rows.proofs.Rows.{rows_more, rows_length, row_whole}
use Rattle.certificate.specs.Search.{keep_if}
use Rattle.certificate.proofs.Lists.{append_kept}
use Rattle.range_search.specs.RangeSearch.{Found, keeps, widen, costed, split}
use Rattle.range_search.proofs.Last.{cuts_last}
use Rattle.range_hulls.specs.Hulls.{found_of}
use Rattle.branching.specs.Branching.{just_above}
use Rattle.ranges.specs.declared.step.State.{State}
use Rattle.ranges.specs.declared.step.Tested.{Tested}
use Rattle.ranges.specs.Inside.{tested_by, is_counted, is_kept, pushed, place_after, state_in, last_in, Within, Steppable, StepOutcome}
use Rattle.ranges.proofs.Testing.{kept_same, costed_same}
use Rattle.ranges.proofs.Pushing.{left_whole, right_whole, within_later, within_along, push_rows, push_within}

-- what is kept again is all there
all_kept : (keep : Box → Bool) {bs : List Box} → All (λ b. T (keep b)) bs → keep_if keep bs ≡ bs
all_kept keep none = refl
all_kept keep (also {x} h hs) = rw (is_true (keep x) h, all_kept keep hs)

-- two behind others, one after the other
two_kept : (xs : List Box) (l r : Box) (kl kr : Bool)
    → (xs ++ cond kl (l ∷ []) []) ++ cond kr (r ∷ []) [] ≡ xs ++ cond kl (l ∷ cond kr (r ∷ []) []) (cond kr (r ∷ []) [])
two_kept xs l r true kr = append_assoc xs (l ∷ []) (cond kr (r ∷ []) [])
two_kept xs l r false kr = append_assoc xs [] (cond kr (r ∷ []) [])

module _ (cost : List ℤ → ℕ) (bound : Box → ℕ) (K : ℕ) (t : List ℤ) (s : State) (h : Steppable bound K t s) where
  abbrev at : ℕ
  at = s.«open» - 1

  abbrev b : Box
  b = last_in t s

  abbrev kl : Bool
  kl = keeps bound K (left_half b)

  abbrev kr : Bool
  kr = keeps bound K (right_half b)

  -- the last open box stands behind the others
  behind : rows_of t s.«open» ≡ rows_of t at ++ (b ∷ [])
  behind =
      let next : at + 1 ≡ s.«open» = omega (arith, h.some) in
      subst (λ (n : ℕ). rows_of t n ≡ rows_of t at ++ (b ∷ [])) next (rows_more t at)

  -- the list after the split
  pub split_list : (split cost bound K (state_in t s)).list
      ≡ rows_of t at ++ cond kl (left_half b ∷ cond kr (right_half b ∷ []) []) (cond kr (right_half b ∷ []) [])
  split_list =
      (cuts_last cost bound K (state_in t s) (rows_of t at) b).list behind
      ∙ append_kept (keeps bound K) (rows_of t at) (left_half b ∷ right_half b ∷ [])
      ∙ ap (λ (xs : List Box). xs ++ keep_if (keeps bound K) (left_half b ∷ right_half b ∷ []))
      (all_kept (keeps bound K) (append-all (rows_of t at) (subst (All (λ d. T (keeps bound K d))) behind h.kept)).0)

  split_found : (split cost bound K (state_in t s)).found ≡ costed cost K (costed cost K (found_of s.hull) (left_half b)) (right_half b)
  split_found = (cuts_last cost bound K (state_in t s) (rows_of t at) b).found behind

  abbrev between : ℕ
  between = place_after at kl

  abbrev number : ℕ
  number = place_after between kr

  pub split_number : length (split cost bound K (state_in t s)).list ≡ number
  split_number =
      ap length split_list
      ∙ length-append (rows_of t at) (cond kl (left_half b ∷ cond kr (right_half b ∷ []) []) (cond kr (right_half b ∷ []) []))
      ∙ counted kl kr
    where
      counted : (x y : Bool) →
          length (rows_of t at) + length (cond x (left_half b ∷ cond y (right_half b ∷ []) []) (cond y (right_half b ∷ []) []))
          ≡ place_after (place_after at x) y
      counted true true = omega (arith, rows_length t at)
      counted true false = omega (arith, rows_length t at)
      counted false true = omega (arith, rows_length t at)
      counted false false = omega (arith, rows_length t at)

  -- both halves are written, each if it is kept
  module _ (few : number ≤ row_count t) where
    abbrev one : List ℤ
    one = pushed t at (left_half b) kl

    abbrev both : List ℤ
    both = pushed one between (right_half b) kr

    first_within : Within between t one
    first_within = push_within t at (left_half b) (left_whole b (row_whole t at)) kl

    second_within : Within number one both
    second_within = push_within one between (right_half b) (right_whole b (row_whole t at)) kr

    later : between ≤ number
    later = by kr
      where
        by : (x : Bool) → between ≤ place_after between x
        by true = omega arith
        by false = omega arith

    pub both_within : Within number t both
    both_within = within_along (within_later later first_within) second_within

    same_room : row_count one ≡ row_count t
    same_room = ap (λ (n : ℕ). n / 16) first_within.long

    pub both_rows : rows_of both number ≡ (split cost bound K (state_in t s)).list
    both_rows =
        push_rows one between (right_half b) (right_whole b (row_whole t at)) kr (omega (arith, same_room))
        ∙ ap (λ (xs : List Box). xs ++ cond kr (right_half b ∷ []) [])
        (push_rows t at (left_half b) (left_whole b (row_whole t at)) kl (omega (arith, later)))
        ∙ two_kept (rows_of t at) (left_half b) (right_half b) kl kr
        ∙ sym split_list

    -- the state after the split
    pub split_state :
        (r : State) → found_of r.hull ≡ costed cost K (costed cost K (found_of s.hull) (left_half b)) (right_half b) →
        r.«open» ≡ number → r.count ≡ s.count + 1 → r.peak ≡ max s.peak number →
        state_in both r ≡ split cost bound K (state_in t s)
    unfolding split
    split_state r found is_open count peak =
        let list : rows_of both r.«open» ≡ (split cost bound K (state_in t s)).list = rw is_open both_rows in
        let next : r.count ≡ suc s.count = omega arith in
        let longest : r.peak ≡ max s.peak (length (split cost bound K (state_in t s)).list) = rw split_number peak in
        rw (found ∙ sym split_found, list, next, longest)

  -- what a step finds of the halves, up to one more than the ceiling, and what it does by that
  module _ (laws : Bounds cost bound) (left right : Box) (is-left : left ≡ left_half b) (is_right : right ≡ right_half b) (x y : ℕ)
      (fx : x ≡ min (bound left) (just_above K)) (fy : y ≡ min (bound right) (just_above K))
      (p q : Tested) (is-p : p ≡ tested_by left x K) (is-q : q ≡ tested_by right y K) where
    halves : Halved b
    halves = halved b h.two

    fx_half : x ≡ min (bound (left_half b)) (just_above K)
    fx_half = fx ∙ ap (λ (d : Box). min (bound d) (just_above K)) is-left

    fy_half : y ≡ min (bound (right_half b)) (just_above K)
    fy_half = fy ∙ ap (λ (d : Box). min (bound d) (just_above K)) is_right

    p_half : p ≡ tested_by (left_half b) x K
    p_half = is-p ∙ ap (λ (d : Box). tested_by d x K) is-left

    q_half : q ≡ tested_by (right_half b) y K
    q_half = is-q ∙ ap (λ (d : Box). tested_by d y K) is_right

    left_kept : is_kept p ≡ kl
    left_kept =
        ap is_kept p_half
        ∙ kept_same cost bound laws K (left_half b) halves.left_some x fx_half h.left_limit

    right_kept : is_kept q ≡ kr
    right_kept =
        ap is_kept q_half
        ∙ kept_same cost bound laws K (right_half b) halves.right_some y fy_half h.right_limit

    left_found : (found : Found) → cond (is_counted p) (widen found left.low) found ≡ costed cost K found (left_half b)
    left_found found =
        rw (p_half, is-left) (costed_same cost bound laws K (left_half b) halves.left_some x fx_half h.left_limit found)

    right_found : (found : Found) → cond (is_counted q) (widen found right.low) found ≡ costed cost K found (right_half b)
    right_found found =
        rw (q_half, is_right) (costed_same cost bound laws K (right_half b) halves.right_some y fy_half h.right_limit found)

    module _ (i j : ℕ) (is-i : i ≡ cond (is_kept p) 1 0) (is-j : j ≡ cond (is_kept q) 1 0) where
      between_is : at + i ≡ between
      between_is = ap (λ (n : ℕ). at + n) (is-i ∙ ap (λ (k : Bool). cond k 1 0) left_kept)

      pub number_is : at + i + j ≡ number
      number_is =
          ap (λ (n : ℕ). n + j) between_is ∙ ap (λ (n : ℕ). between + n) (is-j ∙ ap (λ (k : Bool). cond k 1 0) right_kept)

      pub full_step : row_count t < at + i + j → StepOutcome cost bound K t s None t
      full_step many = record { full = omega (arith, number_is, split_number); kept = refl }

      pub made_step :
          at + i + j ≤ row_count t →
          (u₁ u : List ℤ) → u₁ ≡ pushed t at left (is_kept p) → u ≡ pushed u₁ (at + i) right (is_kept q) →
          (h₁ : Option Box) → found_of h₁ ≡ cond (is_counted p) (widen (found_of s.hull) left.low) (found_of s.hull) →
          (r : State) →
          found_of r.hull ≡ cond (is_counted q) (widen (found_of h₁) right.low) (found_of h₁) →
          r.«open» ≡ at + i + j → r.count ≡ s.count + 1 → r.peak ≡ max s.peak (at + i + j) →
          StepOutcome cost bound K t s (Some r) u
      made_step few u₁ u is_one is-u h₁ found-one r found is_open is-count is-peak =
          let room : number ≤ row_count t = omega (arith, number_is) in
          let is_both : u ≡ both room =
          is-u ∙ rw (is_one, left_kept, right_kept, is-left, is_right, between_is) in
          let found_both : found_of r.hull ≡ costed cost K (costed cost K (found_of s.hull) (left_half b)) (right_half b) =
          found ∙ right_found (found_of h₁)
          ∙ ap (λ (f : Found). costed cost K f (right_half b)) (found-one ∙ left_found (found_of s.hull)) in
          record {
            room = omega (arith, number_is, split_number);
            state =
                rw is_both (split_state room r found_both (is_open ∙ number_is) is-count
                (is-peak ∙ ap (max s.peak) number_is));
            within = rw is_both (within_later (omega (arith, number_is)) (both_within room));
          }
