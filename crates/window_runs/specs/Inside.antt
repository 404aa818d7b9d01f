-- What the functions behind a pass say to each other.
use Rattle.std.specs.Prelude.{◌≡◌, List, ℕ, ◌≤◌, ℤ}
use Rattle.integers.specs.Lists.{over}
use Rattle.jobs.specs.declared.Job.{Job}
use Rattle.list_rows.specs.Rows.{row_count}
use Rattle.search.specs.Search.{searched_lent, told, TableSearched, BoundsSearched}
use Rattle.answer_records.specs.Answers.{answer_bytes}
use Rattle.answers.specs.Records.{record_of}
use Rattle.sharing.specs.Sharing.{SharedTable, SharedBounds}
use Rattle.window_runs.specs.Windows.{starting_at, job_at, records_of, runs_of}

-- One window, alone: next is the job of the window behind it, place has its record, u and e are the table and the list afterwards.
pub record Searched
    (store : List ℕ) (job : Job) (table : List ℤ) (bounds : List ℕ) (next : Job) (u : List ℤ) (e place : List ℕ) : Type 0
  where
    pub next_job : next ≡ starting_at job (searched_lent store job table bounds).vector
    pub record_there : place ≡ answer_bytes (record_of job.model (told (searched_lent store job table bounds)))
    pub rows : TableSearched store job table bounds u
    pub entries : BoundsSearched store job table bounds e

-- The first i windows: their records stand in the output, and the table and the list are as their searches left them.
pub record Passed
    (store : List ℕ) (job : Job) (k h : ℕ) (table : List ℤ) (bounds out : List ℕ) (i : ℕ) (u : List ℤ) (e o : List ℕ) : Type 0
  where
    pub records : o ≡ over (records_of job.model (runs_of store job k h (row_count table) i)) out
    pub rows : SharedTable (runs_of store job k h (row_count table) i) table u
    pub entries : SharedBounds (runs_of store job k h (row_count table) i) bounds e

-- Between two windows: i of them are done, and the next starts at the vector found last.
pub record Turn
    (store : List ℕ) (job : Job) (k h count : ℕ) (table : List ℤ) (bounds out : List ℕ) (i : ℕ) (current : Job) (u : List ℤ)
    (e o : List ℕ) : Type 0
  where
    pub few : i ≤ count
    pub its : current ≡ job_at store job k h (row_count table) i
    pub passed : Passed store job k h table bounds out i u e o
