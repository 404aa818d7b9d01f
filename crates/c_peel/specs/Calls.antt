-- Peeling through the C interface.
use Rattle.std.specs.Prelude.{◌≡◌, Bool, true, false, cond, ◌&&◌, ℕ, eqb, ℤ, length, Result, Ok, Err}
use mathlib.Core.List.{List, [], ◌∷◌, map, flatten}
use Rattle.codes.specs.declared.Refusal.{Refusal}
use Rattle.codes.specs.Codes.{Outcome, pass}
use Rattle.jobs.specs.declared.Job.{Job}
use Rattle.jobs.specs.declared.Model.{Model}
use Rattle.points.specs.Points.{points_of}
use Rattle.list_rows.specs.Rows.{row_count}
use Rattle.search.specs.declared.Answer.{Answer}
use Rattle.search.specs.Search.{kind_number}
use Rattle.rounds.specs.Laws.{Peeling}
use Rattle.peel.specs.declared.Peeled.{Peeled}
use Rattle.peel.specs.Peel.{check_lent, answer_to, rounds_lent, peel_answer, labels_after, TablePeeled, BoundsPeeled}
use Rattle.c_boundary.specs.Boundary.{Call, if_lengths, if_accepted, job_from}

-- the number of rounds, or the refusal
abbrev pub outcome_of : Result Peeled Refusal → Outcome
outcome_of (Ok r) = Ok r.rounds
outcome_of (Err why) = Err why

-- "vector, C, L, count, open boxes and peak" behind the kind: the numbers of a round, 0 where none was run
abbrev pub round_numbers : Answer → List ℕ
round_numbers a = kind_number a.kind ∷ a.cost ∷ a.bound ∷ a.count ∷ a.«open» ∷ a.peak ∷ []

-- round after round, "the answers of all rounds run are given"
unfoldable pub vectors_of : List Answer → List ℤ
vectors_of answers = flatten (map (λ a. a.vector) answers)

unfoldable pub numbers_of : List Answer → List ℕ
numbers_of answers = flatten (map round_numbers answers)

-- a box, the start vector, and room for four vectors and four times six numbers
abbrev pub peel_lengths : ℕ → ℕ → ℕ → ℕ → Bool
peel_lengths corners start vectors numbers = eqb corners 16 && eqb start 8 && eqb vectors 32 && eqb numbers 24

-- What a call is given: r is told by the table, so the rows of a job record are not asked for.
module _
    (store : List ℕ) (m : Model) (t budget : ℕ) (corners start : List ℤ) (limit : ℕ) (table : List ℤ) (bounds labels : List ℕ)
    (vectors : List ℤ) (numbers : List ℕ)
  where
    -- whether the lengths are right, the job, and the rounds, unless the job is refused
    abbrev right : Bool
    right = peel_lengths (length corners) (length start) (length vectors) (length numbers)

    abbrev job : Job
    job = job_from m t budget 0 corners start

    abbrev told : Peeled
    told = answer_to store job limit table bounds labels (rounds_lent store job limit table bounds labels)

    -- what the call comes to
    abbrev pub peel_call : Call
    peel_call = if_lengths right (outcome_of (peel_answer store job limit table bounds labels))

    -- the lent vectors and numbers afterwards
    abbrev pub vectors_after : List ℤ
    vectors_after = if_accepted peel_call (vectors_of told.answers) vectors

    abbrev pub numbers_after : List ℕ
    numbers_after = if_accepted peel_call (numbers_of told.answers) numbers

    -- the labels, as peeling leaves them, or as they were where a length is wrong
    abbrev pub labels_after_call : List ℕ
    labels_after_call = cond right (labels_after store job limit table bounds labels) labels

    -- so the table
    pub record TableAfterCall (after : List ℤ) : Type 0 where
      pub peeled : right ≡ true → TablePeeled store job limit table bounds labels after
      pub kept : right ≡ false → after ≡ table

    -- and the list of bounds
    pub record BoundsAfterCall (after : List ℕ) : Type 0 where
      pub peeled : right ≡ true → BoundsPeeled store job limit table bounds labels after
      pub kept : right ≡ false → after ≡ bounds

    -- What is handed over with the code 0: the job was accepted, what is lent holds its rounds and labels, and of these all is shown that
    -- rounds/specs/Laws.antt says.
    pub record PeelingCall (new_value : ℕ) (new_vectors : List ℤ) (new_numbers new_labels : List ℕ) : Type 0 where
      pub accepted : check_lent store job limit table bounds labels ≡ pass
      pub answered : peel_answer store job limit table bounds labels ≡ Ok told
      pub count : new_value ≡ told.rounds
      pub lines : new_vectors ≡ vectors_of told.answers
      pub answers : new_numbers ≡ numbers_of told.answers
      pub labelled : new_labels ≡ labels_after store job limit table bounds labels
      pub shown : Peeling job (row_count table) limit (points_of store)
