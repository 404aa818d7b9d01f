-- The search through the C interface.
use Rattle.codes.specs.Codes.{Outcome, pass}
use Rattle.std.specs.Prelude.{◌≡◌, Bool, true, false, ◌&&◌, List, [], ◌∷◌, ℕ, eqb, ℤ, length, Ok, Err}
use Rattle.jobs.specs.declared.Job.{Job}
use Rattle.jobs.specs.declared.Model.{Model}
use Rattle.search.specs.declared.Kind.{Kind}
use Rattle.search.specs.declared.Kind.TheVariants.{Solved, Spent, Full}
use Rattle.search.specs.declared.Kind.TheVariants as kinds
use Rattle.search.specs.declared.Answer.{Answer}
use Rattle.search.specs.Search.{kind_number, check_lent, search_answer, TableSearched, BoundsSearched, Certified}
use Rattle.c_boundary.specs.Boundary.{Call, if_lengths, if_accepted, job_from}

-- the kind by its number, or the refusal
abbrev pub outcome_of : Kind → Outcome
outcome_of Solved = Ok (kind_number Solved)
outcome_of Spent = Ok (kind_number Spent)
outcome_of Full = Ok (kind_number Full)
outcome_of (kinds.Refused why) = Err why

-- "vector, C, L, count, open boxes and peak": the numbers among them
abbrev pub search_numbers : Answer → List ℕ
search_numbers a = a.cost ∷ a.bound ∷ a.count ∷ a.«open» ∷ a.peak ∷ []

-- a box, the start vector, and room for a vector and five numbers
abbrev pub search_lengths : ℕ → ℕ → ℕ → ℕ → Bool
search_lengths corners start vector numbers = eqb corners 16 && eqb start 8 && eqb vector 8 && eqb numbers 5

-- What a call is given: r is told by the table, so the rows of a job record are not asked for.
module _
    (store : List ℕ) (m : Model) (t budget : ℕ) (corners start table : List ℤ) (bounds : List ℕ) (vector : List ℤ) (numbers : List ℕ)
  where
    -- whether the lengths are right, the job, and the answer to it
    abbrev right : Bool
    right = search_lengths (length corners) (length start) (length vector) (length numbers)

    abbrev job : Job
    job = job_from m t budget 0 corners start

    abbrev found : Answer
    found = search_answer store job table bounds

    -- what the call comes to
    abbrev pub search_call : Call
    search_call = if_lengths right (outcome_of found.kind)

    -- the lent vector and numbers afterwards
    abbrev pub vector_after : List ℤ
    vector_after = if_accepted search_call found.vector vector

    abbrev pub numbers_after : List ℕ
    numbers_after = if_accepted search_call (search_numbers found) numbers

    -- the table afterwards: as a search leaves it, or as it was where a length is wrong
    pub record TableAfterCall (after : List ℤ) : Type 0 where
      pub searched : right ≡ true → TableSearched store job table bounds after
      pub kept : right ≡ false → after ≡ table

    -- and the list of bounds
    pub record BoundsAfterCall (after : List ℕ) : Type 0 where
      pub searched : right ≡ true → BoundsSearched store job table bounds after
      pub kept : right ≡ false → after ≡ bounds

    -- What is handed over with the code 0 is certified: the job was accepted, the lent value, vector and numbers afterwards are those of
    -- its answer, and of that answer demand 3 holds.
    pub record CertifiedCall (new_value : ℕ) (new_vector : List ℤ) (new_numbers : List ℕ) : Type 0 where
      pub accepted : check_lent store job table bounds ≡ pass
      pub kind : new_value ≡ kind_number found.kind
      pub best : new_vector ≡ found.vector
      pub told : new_numbers ≡ search_numbers found
      pub certified : Certified store job table bounds found
