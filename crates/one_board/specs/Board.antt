-- One of several jobs (document 02, request 11): the job under the budget that it gets, and the search of its store in the table of all.
use Rattle.std.specs.Prelude.{List, [], ◌∷◌, ℕ, ◌+◌, leb, ℤ, length, take, drop}
use Rattle.codes.specs.declared.Refusal.{Refusal}
use Rattle.codes.specs.Codes.{Check, pass_if, in_order}
use Rattle.jobs.specs.declared.Job.{Job}
use Rattle.points.specs.Points.{points_of}
use Rattle.residuals.specs.Cost.{bound}
use Rattle.list_rows.specs.Rows.{row_count}
use Rattle.certificate.specs.Search as Search
use Rattle.search_checks.specs.Checks.{check_search}
use Rattle.search.specs.declared.Answer.{Answer}
use Rattle.search.specs.Search.{searched, answer_unless_refused, TableAfter, BoundsAfter}

-- a job under another budget
abbrev pub under : Job → ℕ → Job
under job budget =
    record { model = job.model; t = job.t; budget = budget; rows = job.rows; domain = job.domain; start = job.start }

-- a store in the buffer of all: so many bytes from one on
unfoldable pub store_from : List ℕ → ℕ → ℕ → List ℕ
store_from stores from size = take size (drop from stores)

-- "a store that reaches past its buffer gets its job 1"; then 1 to 8 and 14, as for a search in a table of so many numbers. No check looks
-- at the record's r: "All use one table, whose rows take the place of each job's r."
unfoldable pub check_board : List ℕ → ℕ → ℕ → Job → ℕ → ℕ → Check
check_board stores from size job numbers entries =
    in_order
    (pass_if (leb (from + size) (length stores)) Refusal.Length ∷ check_search (store_from stores from size) job numbers entries ∷ [])

-- The job in a table and a list of bounds: its answer or refusal, and what it leaves in them. "A refused job .. leaves the table and the
-- bounds as it found them".
module _ (stores : List ℕ) (from size : ℕ) (job : Job) (table : List ℤ) (bounds : List ℕ) where
  abbrev pub check_in : Check
  check_in = check_board stores from size job (length table) (length bounds)

  abbrev pub found_in : Search.Answer
  found_in = searched (store_from stores from size) job (row_count table)

  unfoldable pub board_answer : Answer
  board_answer = answer_unless_refused check_in found_in

  abbrev pub BoardTable : List ℤ → Type 0
  BoardTable after = TableAfter check_in found_in table after

  abbrev pub BoardBounds : List ℕ → Type 0
  BoardBounds after = BoundsAfter (bound job.model (points_of (store_from stores from size))) check_in found_in bounds after
