-- The records of a window, and that the checks which let a pass through let through each of its windows. Assumes nothing.
use mathlib.Core.Path.{◌≡◌, refl, sym, ap, ◌∙◌}
use mathlib.Core.Bool.{Bool, true, false, cond, ◌&&◌}
use mathlib.Core.List.{List, [], ◌∷◌, ◌++◌}
use Prim.Native.Nat.{ℕ, suc, ◌+◌, ◌-◌, ◌*◌, ◌/◌, ◌%◌, ◌≤◌, ◌<◌}
use native.Mathlib.Omega.{arith}
use borrow.Author.Tests.{le-leb, eq-eqb}
use lib.IntN.{ℤ}
use lib.ListN.{length, take, drop, length-drop, take-append-drop}
use lib.Seq.{length-take-le}
use Rattle.std.specs.Prelude.{Err}
use Rattle.integers.specs.Lists.{All, none, also}
use Rattle.integers.specs.Integers.{all_zero}
use Rattle.integers.proofs.Lists.{all_head, all_tail}
use Rattle.integers.proofs.Tests.{and_both}
use Rattle.codes.specs.declared.Refusal.{Refusal}
use Rattle.codes.specs.declared.Refusal.TheVariants.{Stray}
use Rattle.codes.specs.Codes.{Check, pass, in_order}
use Rattle.codes.proofs.Checks.{refused_not_passed, passes}
use Rattle.boxes.specs.Boxes.{InBox, at_most, check_start}
use Rattle.boxes.specs.declared.Box.{Box}
use Rattle.boxes.proofs.Volume.{between_at_most}
use Rattle.jobs.specs.declared.Job.{Job}
use Rattle.points.specs.declared.Point.{Point}
use Rattle.points.specs.Points.{xs, points_of, check_store, stray_from, check_stray}
use Rattle.points.proofs.Laws.{stray_after}
use Rattle.points.proofs.Parts.{points_append}
use Rattle.model_checks.specs.Checks.{check_model}
use Rattle.search_checks.specs.Checks.{check_job, check_search}
use Rattle.window_checks.specs.Checks.{window_at, window_count, check_windows}
use Rattle.window_checks.proofs.Passed.{given_all, records_few, given, window_given, table_given, bounds_given, window_there}
use Rattle.window_runs.specs.Windows.{starting_at}

-- checks that all pass
all_pass : {cs : List Check} → All (λ c. c ≡ pass) cs → in_order cs ≡ pass
unfolding in_order
all_pass none = refl
all_pass (also e es) = rw e (all_pass es)

-- a vector of the box passes check 6
pub start_passes : (b : Box) (v : List ℤ) → InBox v b → check_start b v ≡ pass
unfolding check_start
start_passes b v i =
    let ends = between_at_most i.between in
    passes (at_most b.low v && at_most v b.high) Refusal.Start (and_both (at_most b.low v) (at_most v b.high) ends.0 ends.1)

-- where no record is stray, none is in a part of them
module _ (d : ℕ) where
  one_clear : (i j : ℕ) (clear : Bool) (c c' : Check) → (c ≡ pass → c' ≡ pass) → cond clear c (Err (Stray i)) ≡ pass
      → cond clear c' (Err (Stray j)) ≡ pass
  one_clear i j true c c' f e = f e
  one_clear i j false c c' f e = refused_not_passed (Stray i) e

  clear_anywhere : (i j : ℕ) (qs : List Point) → stray_from d i qs ≡ pass → stray_from d j qs ≡ pass
  unfolding stray_from
  clear_anywhere i j [] e = refl
  clear_anywhere i j (q ∷ qs) e = one_clear i j (all_zero (drop d (xs q))) _ _ (clear_anywhere (suc i) (suc j) qs) e

  clear_front : (i : ℕ) (qs rs : List Point) → stray_from d i (qs ++ rs) ≡ pass → stray_from d i qs ≡ pass
  unfolding stray_from
  clear_front i [] rs e = refl
  clear_front i (q ∷ qs) rs e = one_clear i i (all_zero (drop d (xs q))) _ _ (clear_front (suc i) qs rs) e

  clear_behind : (i : ℕ) (qs rs : List Point) → stray_from d i (qs ++ rs) ≡ pass → stray_from d i rs ≡ pass
  clear_behind i qs rs e =
      clear_anywhere (i + length qs) i rs (sym (stray_after d i qs rs (clear_front i qs rs e)) ∙ e)

-- k records from the n-th on
module _ (store : List ℕ) (n k : ℕ) (there : 12 * n + 12 * k ≤ length store) where
  abbrev part : List ℕ
  part = take (12 * k) (drop (12 * n) store)

  part_long : length part ≡ 12 * k
  part_long = length-take-le (12 * k) (drop (12 * n) store) (omega (arith, length-drop (12 * n) store))

  abbrev front : List ℕ
  front = take (12 * n) store

  abbrev behind : List ℕ
  behind = drop (12 * k) (drop (12 * n) store)

  three_parts : points_of store ≡ points_of front ++ (points_of part ++ points_of behind)
  three_parts =
      let front_long : length front ≡ 12 * n = length-take-le (12 * n) store (omega arith) in
      ap points_of (sym (take-append-drop (12 * n) store))
      ∙ points_append front (drop (12 * n) store) (omega (arith, front_long))
      ∙ ap (λ (qs : List Point). points_of front ++ qs)
      (ap points_of (sym (take-append-drop (12 * k) (drop (12 * n) store))) ∙ points_append part behind (omega (arith, part_long)))

  part_clear : (d : ℕ) → check_stray d (points_of store) ≡ pass → check_stray d (points_of part) ≡ pass
  unfolding check_stray
  part_clear d e =
      clear_front d 0 (points_of part) (points_of behind)
      (clear_behind d 0 (points_of front) (points_of part ++ points_of behind) (ap (stray_from d 0) (sym three_parts) ∙ e))

-- a store of k records
store_passes : (bytes k : ℕ) → bytes ≡ 12 * k → 1 ≤ k → k ≤ 4096 → check_store bytes ≡ pass
unfolding check_store
store_passes bytes k e some few =
    rw (le-leb 1 bytes (omega arith), le-leb bytes 49152 (omega arith), eq-eqb (bytes % 12) 0 (omega arith))

-- a window is what is lent of the store
pub window_lent : (store : List ℕ) (k h i : ℕ) →
    take ((12 * (i * h) + 12 * k) - 12 * (i * h)) (drop (12 * (i * h)) store) ≡ window_at store k h i
unfolding window_at
window_lent store k h i =
    let size : (12 * (i * h) + 12 * k) - 12 * (i * h) ≡ 12 * k = omega arith in
    rw size refl

-- where the checks let a pass through, a search accepts each window, from any vector of the box
module _ (store : List ℕ) (job : Job) (k h numbers entries room : ℕ) (ok : check_windows store job k h numbers entries room ≡ pass) where
  pub window_accepted : (i : ℕ) → i < window_count (length store / 12) k h → (v : List ℤ) → InBox v job.domain
      → check_search (window_at store k h i) (starting_at job v) numbers entries ≡ pass
  unfolding check_search check_job check_model window_at
  window_accepted i below v vector =
      let there = window_there store job k h numbers entries room ok i below in
      let long = part_long store (i * h) k there in
      let seven = given store job k h numbers entries room ok in
      let g = given_all store job k seven in
      let w = window_given store job k h numbers entries room ok in
      let records : length (window_at store k h i) / 12 ≡ k = omega (arith, long) in
      let few : k ≤ 4096 = omega (arith, w.few, records_few store job k seven) in
      all_pass
      (also
      (all_pass
      (also
      (all_pass
      (also (store_passes (length (window_at store k h i)) k long w.some few)
      (also (all_head (all_tail g))
      (also (all_head (all_tail (all_tail g)))
      (also (rw records (all_head (all_tail (all_tail (all_tail g))))) none)))))
      (also (all_head (all_tail (all_tail (all_tail (all_tail g)))))
      (also (start_passes job.domain v vector)
      (also
      (part_clear store (i * h) k there job.model.d
      (all_head (all_tail (all_tail (all_tail (all_tail (all_tail (all_tail g))))))))
      none)))))
      (also (table_given store job k h numbers entries room ok)
      (also (bounds_given store job k h numbers entries room ok) none)))
