-- What a merged store is, and that its points are those of its records. Assumes nothing.
use borrow.Author.Tests.{le-leb, eq-eqb}
use mathlib.Core.Path.{◌≡◌, refl, sym, ap, ◌∙◌}
use mathlib.Core.List.{List, [], ◌∷◌, ◌++◌, map, map-append, flatten}
use Prim.Native.Nat.{ℕ, zero, suc, ◌+◌, ◌*◌, ◌/◌, ◌%◌, ◌≤◌, ◌<◌}
use native.Mathlib.Omega.{arith}
use lib.ListN.{length, take, drop}
use lib.Seq.{drop-drop}
use Rattle.integers.specs.Lists.{over}
use Rattle.codes.specs.Codes.{pass, in_order}
use Rattle.fields.specs.Buffers.{check_room}
use Rattle.points.specs.declared.Point.{Point}
use Rattle.points.specs.Points.{record_at, point_at, first_points, points_of, check_store}
use Rattle.frames.specs.Frames.{first_records, records_of, rising, clashes, union, merged}
use Rattle.frames.specs.Frames.{check_either, check_order, check_clash, check_union, check_both, union_answer}
use Rattle.std.specs.Prelude.{Ok}
use Rattle.frames.proofs.Checks.{told_value}
use Rattle.frames.proofs.Passed.{both_rise, no_clashes, few}
use Rattle.frames.proofs.Records.{records_flatten, record_point}
use Rattle.frames.proofs.Rising.{rises, rises_true}
use Rattle.frames.proofs.Union.{union_long, merged_length}
use Rattle.merge.specs.Laws.{Merged, AllMerged, EmptyMerged, RecordPoints}
use Rattle.merge.specs.Merge.{check_merge, merge_answer, output_after}
use Rattle.merge.proofs.Union.{union_rises, union_found, agree, union_first, union_second}

-- both stores passed, and the bytes are those of the union
pub counted : (first second : List ℕ) (bytes : ℕ) → union_answer first second ≡ Ok bytes
    → (check_both first second ≡ pass) × (bytes ≡ length (merged first second))
unfolding union_answer
counted first second bytes e = told_value (check_both first second) (length (merged first second)) bytes e

module _ (first second : List ℕ) (e : check_both first second ≡ pass) where
  its_records : records_of (merged first second) ≡ union (records_of first) (records_of second)
  unfolding merged
  its_records = records_flatten (union_long first second)

  stored : 0 < length (merged first second) → check_store (length (merged first second)) ≡ pass
  unfolding check_store
  stored h =
      let n = merged_length first second in
      let low : 1 ≤ length (merged first second) = omega arith in
      let high : length (merged first second) ≤ 49152 = omega (arith, few first second e) in
      let whole : length (merged first second) % 12 ≡ 0 = omega arith in
      rw (le-leb _ _ low, le-leb _ _ high, eq-eqb _ _ whole)

  the_merged : Merged first second
  the_merged = record {
    rises = rw its_records (rises_true (union_rises (rises _ (both_rise first second e).0) (rises _ (both_rise first second e).1)));
    found = λ m. union_found (records_of first) (records_of second) (rw its_records at m);
    of_first = λ m. rw its_records (union_first (records_of first) (records_of second) m);
    of_second = λ m. rw its_records (union_second (records_of first) (records_of second) (agree _ _ (no_clashes first second e)) m);
    a_store = stored;
  }

pub all_merged : AllMerged
all_merged = the_merged

-- all checks of two empty stores pass, for every output
both_empty : check_both [] [] ≡ pass
unfolding check_both check_either check_order check_clash check_union in_order union clashes rising records_of first_records
both_empty = refl

empty_passes : (out : List ℕ) → check_merge [] [] out ≡ pass
unfolding check_merge check_room in_order merged union records_of first_records flatten
empty_passes out = rw (both_empty, le-leb 0 (length out) (omega arith))

pub empty_merged : EmptyMerged
unfolding merge_answer output_after merged union records_of first_records flatten over
empty_merged out = (rw (empty_passes out), rw (empty_passes out))

-- one more record at the end
records_more : (n : ℕ) (s : List ℕ) → first_records (suc n) s ≡ first_records n s ++ (take 12 (drop (n * 12) s) ∷ [])
unfolding first_records
records_more zero s = refl
records_more (suc n) s =
    let o : 12 + n * 12 ≡ suc n * 12 = omega arith in
    ap (λ (rs : List (List ℕ)). take 12 s ∷ rs) (records_more n (drop 12 s)) ∙ rw (drop-drop, o)

first_points_lem : (n : ℕ) (s : List ℕ) → first_points s n ≡ map (λ (r : List ℕ). record_at r 0) (first_records n s)
unfolding first_points first_records point_at
first_points_lem zero s = refl
first_points_lem (suc n) s =
    let f : List ℕ → Point = λ r. record_at r 0 in
    let last : List (List ℕ) = take 12 (drop (n * 12) s) ∷ [] in
    rw (first_points_lem n s, ← record_point s (n * 12)) (sym (map-append f (first_records n s) last))
    ∙ sym (ap (map f) (records_more n s))

pub record_points : RecordPoints
unfolding points_of records_of
record_points s = first_points_lem (length s / 12) s
