-- Request 13 of document 02: what a search for the range of every coefficient answers, over the points of a store, with the checks 1 to 8
-- before it, and what it leaves in the table. The search itself is range_search/specs/RangeSearch.antt.
use Rattle.std.specs.Prelude.{◌≡◌, List, [], ◌∷◌, ◌++◌, ℕ, ◌*◌, leb, ℤ, length, drop, replicate, Ok, Err}
use Rattle.codes.specs.declared.Refusal.{Refusal}
use Rattle.codes.specs.Codes.{Check, pass, pass_if, in_order}
use Rattle.boxes.specs.declared.Box.{Box}
use Rattle.jobs.specs.declared.Job.{Job}
use Rattle.jobs.specs.declared.Model.{Model}
use Rattle.points.specs.Points.{points_of}
use Rattle.residuals.specs.Cost.{cost, bound}
use Rattle.list_rows.specs.Rows.{row_count, rows_of}
use Rattle.certificate.specs.Search as Kinds
use Rattle.certificate.specs.Search.{solved, spent, full}
use Rattle.range_search.specs.RangeSearch as Search
use Rattle.range_search.specs.RangeSearch.{Found, nothing, range_search}
use Rattle.range_search.specs.Ranged.{Ranged}
use Rattle.coefficients.specs.Coefficient.{coefficient_of}
use Rattle.range_hulls.specs.declared.Range.TheVariants.{Nothing}
use Rattle.range_hulls.specs.Hulls.{slots_of}
use Rattle.search_checks.specs.Checks.{check_job}
use Rattle.ranges.specs.declared.Kind.{Kind}
use Rattle.ranges.specs.declared.Kind.TheVariants.{Finished, Spent, Full, Refused}
use Rattle.ranges.specs.declared.Answer.{Answer}

-- "The call makes 1 to 8 and needs no list of bounds."
unfoldable pub check_ranges : List ℕ → Job → ℕ → Check
check_ranges store job numbers = in_order (check_job store job ∷ pass_if (leb 16 numbers) Refusal.Table ∷ [])

-- The search that a job and a ceiling K ask for, in so many rows: the costs and bounds are those of the store's points. The job's start and
-- its t are not used.
unfoldable pub ranges_in : List ℕ → Job → ℕ → ℕ → Search.Answer
ranges_in store job K rows =
    range_search (cost job.model (points_of store)) (bound job.model (points_of store)) K job.budget rows job.domain

-- "The search is finished"; "a search that isn't finished answers spent or full"
abbrev pub kind_of : Kinds.Kind → Kind
kind_of solved = Finished
kind_of spent = Spent
kind_of full = Full

-- 1 finished, 2 spent, 3 full, as in an answer record; a refusal has no kind, and 0 is no kind's number
abbrev pub kind_number : Kind → ℕ
kind_number Finished = 1
kind_number Spent = 2
kind_number Full = 3
kind_number (Refused why) = 0

-- "A range is exact whenever one is given": a search that is not finished gives none.
abbrev pub given_by : Kind → Found → Found
given_by Finished found = found
given_by Spent found = nothing
given_by Full found = nothing
given_by (Refused why) found = nothing

-- The ranges of the n × d used coordinates, each as w / 2^S, and the numbers of the search; the open boxes stand in the table.
abbrev pub told : Model → Search.Answer → Answer
told m r =
    record {
      kind = kind_of r.kind;
      slots = slots_of (coefficient_of m.scale) (m.n * m.d) (given_by (kind_of r.kind) r.state.found);
      count = r.state.count;
      «open» = length r.state.list;
      peak = r.state.peak;
    }

-- at a refusal there is no range, and every number is 0
abbrev pub refused : Refusal → Answer
refused why = record { kind = Refused why; slots = replicate 8 Nothing; count = 0; «open» = 0; peak = 0 }

abbrev pub answer_unless_refused : Check → Model → Search.Answer → Answer
answer_unless_refused (Ok _) m r = told m r
answer_unless_refused (Err why) m r = refused why

-- What the search leaves of the table, by its check and by what it comes to. 01: "At the end the first rows hold the open boxes in list
-- order. Rows from there up to peak may hold leftovers; from peak on, and in a partial row, nothing changed." At a refusal nothing changed.
pub record TableAfter (check : Check) (found : Search.Answer) (table after : List ℤ) : Type 0 where
  pub long : length after ≡ length table
  pub untouched : (why : Refusal) → check ≡ Err why → after ≡ table
  -- The leftovers are free: boxes of any signed 16-bit numbers, as many as peak is more than the open count.
  pub leftovers : List Box
  pub rows : check ≡ pass → rows_of after found.state.peak ≡ found.state.list ++ leftovers
  pub rest : check ≡ pass → drop (16 * found.state.peak) after ≡ drop (16 * found.state.peak) table

-- A search for ranges that is lent a table. 01: "r is its length divided by 16, rounded down."
module _ (store : List ℕ) (job : Job) (K : ℕ) (table : List ℤ) where
  abbrev pub check_lent : Check
  check_lent = check_ranges store job (length table)

  abbrev pub ranges_lent : Search.Answer
  ranges_lent = ranges_in store job K (row_count table)

  -- what it answers
  unfoldable pub ranges_answer : Answer
  ranges_answer = answer_unless_refused check_lent job.model ranges_lent

  -- and leaves in the table
  abbrev pub TableRanged : List ℤ → Type 0
  TableRanged after = TableAfter check_lent ranges_lent table after

  -- The answer r to an accepted job tells what the search comes to, and of that everything holds that request 13 promises.
  abbrev pub RangesCertified : Answer → Type 0
  RangesCertified r =
      check_lent ≡ pass →
      (r ≡ told job.model ranges_lent)
      × Ranged (cost job.model (points_of store)) (bound job.model (points_of store)) K job.budget (row_count table) job.domain
      ranges_lent
