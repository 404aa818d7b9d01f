-- What a search answers: "The search" over the points of a store, with the checks 1 to 8 and 14 before it. What it leaves in lent memory.
use Rattle.codes.specs.Codes.{Check, pass}
use Rattle.std.specs.Prelude.{◌≡◌, List, ◌++◌, map, ℕ, ◌*◌, ℤ, pos, length, take, drop, replicate, Result, Ok, Err}
use Rattle.codes.specs.declared.Refusal.{Refusal}
use Rattle.boxes.specs.declared.Box.{Box}
use Rattle.jobs.specs.declared.Job.{Job}
use Rattle.points.specs.Points.{points_of}
use Rattle.residuals.specs.Cost.{cost, bound}
use Rattle.list_rows.specs.Rows.{row_count, rows_of}
use Rattle.certificate.specs.Search as Search
use Rattle.certificate.specs.Search.{solved, spent, full, search}
use Rattle.certificate.specs.Certificate.{Certificate}
use Rattle.search_checks.specs.Checks.{check_search}
use Rattle.search.specs.declared.Kind.{Kind}
use Rattle.search.specs.declared.Kind.TheVariants.{Solved, Spent, Full, Refused}
use Rattle.search.specs.declared.Answer.{Answer}

-- The search that a job asks for, in so many rows: the costs and bounds are those of the store's points.
unfoldable pub searched : List ℕ → Job → ℕ → Search.Answer
searched store job rows =
    search (cost job.model (points_of store)) (bound job.model (points_of store)) job.budget rows job.t job.start job.domain

-- what the steps of a search come to, as its answer says it
abbrev pub kind_of : Search.Kind → Kind
kind_of solved = Solved
kind_of spent = Spent
kind_of full = Full

-- "kind (1 solved, 2 spent, 3 full)"; a refusal has no kind, and 0 is no kind's number
abbrev pub kind_number : Kind → ℕ
kind_number Solved = 1
kind_number Spent = 2
kind_number Full = 3
kind_number (Refused why) = 0

-- whether the job was accepted, as the kind says it
abbrev pub check_of : Kind → Check
check_of Solved = pass
check_of Spent = pass
check_of Full = pass
check_of (Refused why) = Err why

-- "The answer carries vector, C, L, count, open boxes and peak", the boxes by their number: they stand in the table.
abbrev pub told : Search.Answer → Answer
told r =
    record {
      kind = kind_of r.kind;
      vector = r.vector;
      cost = r.cost;
      bound = r.bound;
      count = r.count;
      «open» = length r.list;
      peak = r.peak;
    }

-- at a refusal every value is 0
abbrev pub refused : Refusal → Answer
refused why = record { kind = Refused why; vector = replicate 8 (pos 0); cost = 0; bound = 0; count = 0; «open» = 0; peak = 0 }

-- "A search accepts a job when none of the checks that it makes, by the codes below, refuses the call."
abbrev pub answer_unless_refused : Check → Search.Answer → Answer
answer_unless_refused (Ok _) r = told r
answer_unless_refused (Err why) r = refused why

-- the check of what a call answers
abbrev pub check_in : {A : Type 0} → Result A Refusal → Check
check_in (Ok value) = pass
check_in (Err why) = Err why

-- What a search leaves of the table, by its check and by what it comes to. "At the end the first rows hold the open boxes in list order.
-- Rows from there up to peak may hold leftovers; from peak on, and in a partial row, nothing changed." At a refusal nothing changed at all.
pub record TableAfter (check : Check) (found : Search.Answer) (table after : List ℤ) : Type 0 where
  pub long : length after ≡ length table
  pub untouched : (why : Refusal) → check ≡ Err why → after ≡ table
  -- The leftovers are free: boxes of any signed 16-bit numbers, as many as peak is more than the open count.
  pub leftovers : List Box
  pub rows : check ≡ pass → rows_of after found.peak ≡ found.list ++ leftovers
  pub rest : check ≡ pass → drop (16 * found.peak) after ≡ drop (16 * found.peak) table

-- What it leaves of the list of bounds. Document 02: "keep each open row's bound in a second lent list of unsigned 64-bit numbers", "the
-- entry equals that bound by definition. Entries from the open count up to peak .. are as free as the rows there, and those from there on
-- keep their contents." At a refusal nothing changed at all.
pub record BoundsAfter (bound : Box → ℕ) (check : Check) (found : Search.Answer) (bounds after : List ℕ) : Type 0 where
  pub long : length after ≡ length bounds
  pub untouched : (why : Refusal) → check ≡ Err why → after ≡ bounds
  -- The leftovers are free: any unsigned 64-bit numbers, as many as peak is more than the open count.
  pub leftovers : List ℕ
  pub entries : check ≡ pass → take found.peak after ≡ map bound found.list ++ leftovers
  pub rest : check ≡ pass → drop found.peak after ≡ drop found.peak bounds

-- of what a search in so many rows comes to demand 3 holds
abbrev pub CertifiedIn : List ℕ → Job → ℕ → Type 0
CertifiedIn store job rows =
    Certificate (cost job.model (points_of store)) (bound job.model (points_of store)) job.budget rows job.t job.start
    job.domain
    (searched store job rows)

-- A search that is lent a table and a list of bounds. "r is its length divided by 16, rounded down."
module _ (store : List ℕ) (job : Job) (table : List ℤ) (bounds : List ℕ) where
  abbrev pub check_lent : Check
  check_lent = check_search store job (length table) (length bounds)

  abbrev pub searched_lent : Search.Answer
  searched_lent = searched store job (row_count table)

  -- what it answers
  unfoldable pub search_answer : Answer
  search_answer = answer_unless_refused check_lent searched_lent

  -- and leaves in what it is lent
  abbrev pub TableSearched : List ℤ → Type 0
  TableSearched after = TableAfter check_lent searched_lent table after

  abbrev pub BoundsSearched : List ℕ → Type 0
  BoundsSearched after = BoundsAfter (bound job.model (points_of store)) check_lent searched_lent bounds after

  -- An answer r to an accepted job is certified: it tells what the search comes to, and of that demand 3 holds.
  abbrev pub Certified : Answer → Type 0
  Certified r = check_lent ≡ pass → (r ≡ told searched_lent) × CertifiedIn store job (row_count table)
