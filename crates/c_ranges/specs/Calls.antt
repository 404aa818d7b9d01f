-- The ranges of all coefficients through the C interface.
use Rattle.codes.specs.Codes.{Outcome, pass}
use Rattle.std.specs.Prelude.{◌≡◌, Bool, true, false, ◌&&◌, List, [], ◌∷◌, ℕ, eqb, ℤ, length, get_or, Ok, Err}
use Rattle.std.specs.Float.{binary32}
use Rattle.std.specs.Float.Ieee.{to_bits}
use Rattle.jobs.specs.declared.Job.{Job}
use Rattle.jobs.specs.declared.Model.{Model}
use Rattle.range_hulls.specs.declared.Range.{Range}
use Rattle.range_hulls.specs.declared.Range.TheVariants.{One, Between, Nothing}
use Rattle.ranges.specs.declared.Kind.{Kind}
use Rattle.ranges.specs.declared.Kind.TheVariants.{Finished, Spent, Full}
use Rattle.ranges.specs.declared.Kind.TheVariants as kinds
use Rattle.ranges.specs.declared.Answer.{Answer}
use Rattle.ranges.specs.Ranges.{kind_number, check_lent, ranges_answer, TableRanged, RangesCertified}
use Rattle.c_boundary.specs.Boundary.{Call, if_lengths, if_accepted, job_from}

-- the kind by its number, or the refusal
abbrev pub outcome_of : Kind → Outcome
outcome_of Finished = Ok (kind_number Finished)
outcome_of Spent = Ok (kind_number Spent)
outcome_of Full = Ok (kind_number Full)
outcome_of (kinds.Refused why) = Err why

-- "one single-precision value, a low and a high value, or none": 1, 2 and 0
abbrev pub case_of : Range → ℕ
case_of (One w) = 1
case_of (Between low high) = 2
case_of Nothing = 0

-- the bits of the low end and of the high end: one value has both equal, none 0 and 0
abbrev pub low_bits : Range → ℕ
low_bits (One w) = to_bits binary32 w
low_bits (Between low high) = to_bits binary32 low
low_bits Nothing = 0

abbrev pub high_bits : Range → ℕ
high_bits (One w) = to_bits binary32 w
high_bits (Between low high) = to_bits binary32 high
high_bits Nothing = 0

-- the range of a coordinate, the first being 0
abbrev pub range_at : List Range → ℕ → Range
range_at slots k = get_or slots k Nothing

-- of each coordinate in order, its case; and the bits of its low end and of its high end
abbrev pub cases_of : List Range → List ℕ
cases_of slots =
    case_of (range_at slots 0) ∷ case_of (range_at slots 1) ∷ case_of (range_at slots 2) ∷ case_of (range_at slots 3)
    ∷ case_of (range_at slots 4) ∷ case_of (range_at slots 5) ∷ case_of (range_at slots 6) ∷ case_of (range_at slots 7) ∷ []

abbrev pub patterns_of : List Range → List ℕ
patterns_of slots =
    low_bits (range_at slots 0) ∷ high_bits (range_at slots 0) ∷ low_bits (range_at slots 1) ∷ high_bits (range_at slots 1)
    ∷ low_bits (range_at slots 2) ∷ high_bits (range_at slots 2) ∷ low_bits (range_at slots 3) ∷ high_bits (range_at slots 3)
    ∷ low_bits (range_at slots 4) ∷ high_bits (range_at slots 4) ∷ low_bits (range_at slots 5) ∷ high_bits (range_at slots 5)
    ∷ low_bits (range_at slots 6) ∷ high_bits (range_at slots 6) ∷ low_bits (range_at slots 7) ∷ high_bits (range_at slots 7) ∷ []

-- the splits counted, the open boxes and the peak of their number
abbrev pub ranges_numbers : Answer → List ℕ
ranges_numbers a = a.count ∷ a.«open» ∷ a.peak ∷ []

-- a box, the start vector, and room for 16 patterns, 8 cases and three numbers
abbrev pub ranges_lengths : ℕ → ℕ → ℕ → ℕ → ℕ → Bool
ranges_lengths corners start patterns cases numbers =
    eqb corners 16 && eqb start 8 && eqb patterns 16 && eqb cases 8 && eqb numbers 3

-- What a call is given: t isn't used and r is told by the table, so neither is asked for.
module _
    (store : List ℕ) (m : Model) (budget K : ℕ) (corners start table : List ℤ) (patterns cases numbers : List ℕ)
  where
    -- whether the lengths are right, the job, and the answer to it
    abbrev right : Bool
    right = ranges_lengths (length corners) (length start) (length patterns) (length cases) (length numbers)

    abbrev job : Job
    job = job_from m 0 budget 0 corners start

    abbrev found : Answer
    found = ranges_answer store job K table

    -- what the call comes to
    abbrev pub ranges_call : Call
    ranges_call = if_lengths right (outcome_of found.kind)

    -- the lent patterns, cases and numbers afterwards
    abbrev pub patterns_after : List ℕ
    patterns_after = if_accepted ranges_call (patterns_of found.slots) patterns

    abbrev pub cases_after : List ℕ
    cases_after = if_accepted ranges_call (cases_of found.slots) cases

    abbrev pub numbers_after : List ℕ
    numbers_after = if_accepted ranges_call (ranges_numbers found) numbers

    -- the table afterwards: as the search leaves it, or as it was where a length is wrong
    pub record TableAfterCall (after : List ℤ) : Type 0 where
      pub searched : right ≡ true → TableRanged store job K table after
      pub kept : right ≡ false → after ≡ table

    -- What is handed over with the code 0 is exact: the job was accepted, and of its answer everything holds that request 13 promises.
    pub record CertifiedCall (new_value : ℕ) (new_patterns new_cases new_numbers : List ℕ) : Type 0 where
      pub accepted : check_lent store job K table ≡ pass
      pub kind : new_value ≡ kind_number found.kind
      pub bits : new_patterns ≡ patterns_of found.slots
      pub case : new_cases ≡ cases_of found.slots
      pub told : new_numbers ≡ ranges_numbers found
      pub certified : RangesCertified store job K table found
