-- What a merged store is, of every two that pass their checks, whatever the output.
use Rattle.codes.specs.Codes.{pass}
use Rattle.std.specs.Prelude.{true, ◌⊎◌, ◌≡◌, ℕ, ◌<◌, length, Ok}
use mathlib.Core.List.{List, [], map, Memᴰ}
use Rattle.points.specs.Points.{record_at, points_of, check_store}
use Rattle.frames.specs.Frames.{records_of, frames_of, rising, merged, check_both}
use Rattle.merge.specs.Merge.{merge_answer, output_after}

pub record Merged (first second : List ℕ) : Type 0 where
  -- "The outcome rises strictly"
  pub rises : rising (frames_of (merged first second)) ≡ true
  -- "and holds exactly the records found in either."
  pub found : {r : List ℕ} → Memᴰ r (records_of (merged first second)) → Memᴰ r (records_of first) ⊎ Memᴰ r (records_of second)
  pub of_first : {r : List ℕ} → Memᴰ r (records_of first) → Memᴰ r (records_of (merged first second))
  pub of_second : {r : List ℕ} → Memᴰ r (records_of second) → Memᴰ r (records_of (merged first second))
  -- "A merged store is fitted and certified as any other": check 1 passes, unless it is empty, and no other check asks how it came about.
  pub a_store : 0 < length (merged first second) → check_store (length (merged first second)) ≡ pass

abbrev pub AllMerged : Type 0
AllMerged = (first second : List ℕ) → check_both first second ≡ pass → Merged first second

-- "two empty ones give an empty one"
abbrev pub EmptyMerged : Type 0
EmptyMerged = (out : List ℕ) → (merge_answer [] [] out ≡ Ok 0) × (output_after [] [] out ≡ out)

-- The points that a search reads are those of the records, in order, so the frame numbers here are the points' own.
abbrev pub RecordPoints : Type 0
RecordPoints = (store : List ℕ) → points_of store ≡ map (λ (r : List ℕ). record_at r 0) (records_of store)
