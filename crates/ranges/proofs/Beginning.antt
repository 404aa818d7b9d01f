-- The beginning: the given box is the first row, if it is kept. Assumes nothing.
use mathlib.Core.Path.{◌≡◌, refl, sym, ap, subst, ◌∙◌}
use mathlib.Core.Bool.{Bool, true, false, cond}
use mathlib.Core.List.{List, [], ◌∷◌}
use Prim.Native.Nat.{ℕ, ◌≤◌, ◌<◌, min}
use native.Mathlib.Omega.{arith}
use lib.IntN.{ℤ}
use lib.ListN.{length}
use Rattle.boxes.specs.declared.Box.{Box}
use Rattle.boxes.specs.Boxes.{volume}
use Rattle.boxes.specs.Laws.{Bounds}
use Rattle.list_rows.specs.Rows.{row_count, rows_of}
use Rattle.list_rows.proofs.Rows.{Whole}
use Rattle.range_search.specs.RangeSearch.{nothing, keeps, widen, costed, begin}
use Rattle.range_hulls.specs.Hulls.{found_of}
use Rattle.branching.specs.Branching.{just_above}
use Rattle.ranges.specs.declared.step.State.{State}
use Rattle.ranges.specs.declared.step.Tested.{Tested}
use Rattle.ranges.specs.Inside.{tested_by, is_counted, is_kept, pushed, Within, Begun}
use Rattle.ranges.proofs.Testing.{kept_same, costed_same}
use Rattle.ranges.proofs.Pushing.{push_rows, push_within}

module _ (cost : List ℤ → ℕ) (bound : Box → ℕ) (laws : Bounds cost bound) (K : ℕ) (box : Box) (some : 1 ≤ volume box) (w : Whole box)
    (small : bound box < 18446744073709551615) (t : List ℤ) (room : 1 ≤ row_count t) (x : ℕ)
    (is_x : x ≡ min (bound box) (just_above K)) (p : Tested) (is-p : p ≡ tested_by box x K) where
  kept : is_kept p ≡ keeps bound K box
  kept = ap is_kept is-p ∙ kept_same cost bound laws K box some x is_x small

  -- the box alone, or nothing
  begin_list : (begin cost bound K box).list ≡ cond (is_kept p) (box ∷ []) []
  unfolding begin
  begin_list = rw kept

  rows : rows_of (pushed t 0 box (is_kept p)) (cond (is_kept p) 1 0) ≡ cond (is_kept p) (box ∷ []) []
  unfolding rows_of
  rows = by (is_kept p)
    where
      by : (k : Bool) → rows_of (pushed t 0 box k) (cond k 1 0) ≡ cond k (box ∷ []) []
      by true = push_rows t 0 box w true (omega arith)
      by false = refl

  first_within : (k : Bool) → Within (cond k 1 0) t (pushed t 0 box k)
  first_within true = push_within t 0 box w true
  first_within false = push_within t 0 box w false

  pub begun : (r : State) → found_of r.hull ≡ cond (is_counted p) (widen nothing box.low) nothing → r.«open» ≡ cond (is_kept p) 1 0 →
      r.count ≡ 0 → r.peak ≡ cond (is_kept p) 1 0 → Begun cost bound K box t r (pushed t 0 box (is_kept p))
  unfolding begin
  begun r found is_open count peak =
      let is_found : found_of r.hull ≡ costed cost K nothing box =
      found ∙ subst (λ (d : Tested). cond (is_counted d) (widen nothing box.low) nothing ≡ costed cost K nothing box) (sym is-p)
      (costed_same cost bound laws K box some x is_x small nothing) in
      let list : rows_of (pushed t 0 box (is_kept p)) r.«open» ≡ (begin cost bound K box).list = rw is_open rows ∙ sym begin_list in
      let long : r.peak ≡ length (begin cost bound K box).list = peak ∙ by (is_kept p) ∙ ap length (sym begin_list) in
      record {
        state = rw (is_found, list, count, long);
        within = rw peak (first_within (is_kept p));
      }
    where
      by : (k : Bool) → cond k 1 0 ≡ length (cond k (box ∷ []) [])
      by true = refl
      by false = refl
