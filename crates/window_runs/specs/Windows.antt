-- What a pass through the windows of a store comes to, over the list of its searches. Document 02, request 9.
use Rattle.std.specs.Prelude.{◌≡◌, List, [], ◌∷◌, ◌++◌, ℕ, zero, suc, ◌*◌, ◌/◌, ◌<◌, ℤ, length, take, drop}
use Rattle.integers.specs.Lists.{over}
use Rattle.codes.specs.Codes.{Check, Outcome, pass, unless_refused, if_passed}
use Rattle.jobs.specs.declared.Job.{Job}
use Rattle.jobs.specs.declared.Model.{Model}
use Rattle.points.specs.Points.{points_of}
use Rattle.residuals.specs.Cost.{bound}
use Rattle.list_rows.specs.Rows.{row_count}
use Rattle.certificate.specs.Search as Search
use Rattle.search.specs.Search.{searched, told, check_lent, CertifiedIn}
use Rattle.answer_records.specs.Answers.{answer_bytes, check_answer}
use Rattle.answers.specs.Records.{record_of}
use Rattle.answers.specs.Laws.{search_record}
use Rattle.sharing.specs.Sharing.{Run}
use Rattle.window_checks.specs.Checks.{window_at, window_count, check_windows}

-- a job from another start vector: all else is the job's, its split budget too
abbrev pub starting_at : Job → List ℤ → Job
starting_at job v =
    record { model = job.model; t = job.t; budget = job.budget; rows = job.rows; domain = job.domain; start = v }

-- In so many rows: what else a table holds when a search begins is nowhere asked for.
module _ (store : List ℕ) (job : Job) (k h rows : ℕ) where
  -- "The first search starts at the job's start vector, each later one at the vector before it", of whatever kind its answer was.
  unfoldable pub start_of : ℕ → List ℤ
  start_of zero = job.start
  start_of (suc i) = (searched (window_at store k h i) (starting_at job (start_of i)) rows).vector

  -- the job of window i, and what its search comes to
  abbrev pub job_at : ℕ → Job
  job_at i = starting_at job (start_of i)

  abbrev pub found_in : ℕ → Search.Answer
  found_in i = searched (window_at store k h i) (job_at i) rows

  -- the searches of the first n windows, in order
  unfoldable pub runs_of : ℕ → List Run
  runs_of zero = []
  runs_of (suc n) = runs_of n ++ (record { bound = bound job.model (points_of (window_at store k h n)); found = found_in n } ∷ [])

-- "One answer record is written per window, in order": the records of searches with one model
unfoldable pub records_of : Model → List Run → List ℕ
records_of m [] = []
records_of m (r ∷ runs) = answer_bytes (record_of m (told r.found)) ++ records_of m runs

-- A pass that is lent a table, a list of bounds and an output.
module _ (store : List ℕ) (job : Job) (k h : ℕ) (table : List ℤ) (bounds out : List ℕ) where
  abbrev pub check_pass : Check
  check_pass = check_windows store job k h (length table) (length bounds) (length out)

  abbrev pub count_lent : ℕ
  count_lent = window_count (length store / 12) k h

  -- "the number of windows is returned"
  abbrev pub windows_answer : Outcome
  windows_answer = unless_refused check_pass count_lent

  -- the searches that are made in the table: one for each window, or none where a check refuses
  abbrev pub searches_made : List Run
  searches_made = if_passed check_pass (runs_of store job k h (row_count table) count_lent) []

  -- their records, and then "the output behind the last is kept"; all of it where no search is made
  abbrev pub windows_out : List ℕ
  windows_out = over (records_of job.model searches_made) out

  -- "Each must equal the answer for that window alone from that start, certificate included": a search that is handed window i alone, with
  -- a table and a list as long as these, accepts it; its record passes check 9 and stands at its place of the output; demand 3 holds.
  pub record WindowCertified (after : List ℕ) (i : ℕ) : Type 0 where
    pub accepted : check_lent (window_at store k h i) (job_at store job k h (row_count table) i) table bounds ≡ pass
    pub fits : check_answer (search_record (window_at store k h i) (job_at store job k h (row_count table) i) table bounds) ≡ pass
    pub bytes :
        take 40 (drop (40 * i) after)
        ≡ answer_bytes (search_record (window_at store k h i) (job_at store job k h (row_count table) i) table bounds)
    pub certificate : CertifiedIn (window_at store k h i) (job_at store job k h (row_count table) i) (row_count table)

  -- "for any number of windows"
  abbrev pub WindowsCertified : List ℕ → Type 0
  WindowsCertified after = check_pass ≡ pass → (i : ℕ) → i < count_lent → WindowCertified after i
