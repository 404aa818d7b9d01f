-- What the functions behind a run say to each other.
use Rattle.codes.specs.Codes.{Check, pass}
use Rattle.std.specs.Prelude.{cond, List, ◌≡◌, ℕ, ◌/◌, eqb, ℤ, replicate, Err}
use Rattle.jobs.specs.declared.Job.{Job}
use Rattle.jobs.specs.declared.Model.{Model}
use Rattle.fields.specs.Buffers.{written}
use Rattle.search.specs.declared.Kind.{Kind}
use Rattle.search.specs.declared.Kind.TheVariants.{Solved, Spent, Full, Refused}
use Rattle.search.specs.declared.Answer.{Answer}
use Rattle.search.specs.Search.{answer_unless_refused}
use Rattle.answer_records.specs.Answers.{answer_bytes, check_answer_write}
use Rattle.answers.specs.Records.{record_of}
use Rattle.registers.specs.Runs.{run_search}
use Rattle.bus_runs.specs.Lent.{check_of, TableRun, BoundsRun}

-- how many numbers of a table are lent to the search of a job with r rows: all if the rows are r, else none, which check 8 refuses
unfoldable pub numbers_for : ℕ → ℕ → ℕ
numbers_for r numbers = cond (eqb (numbers / 16) r) numbers 0

-- the answer, the table and the list of a run's search
pub record RunSearched
    (store : List ℕ) (job : Job) (table : List ℤ) (bounds : List ℕ) (a : Answer) (u : List ℤ) (e : List ℕ) : Type 0
  where
    pub told : a ≡ answer_unless_refused (check_of store job table bounds) (run_search store job)
    pub rows : TableRun store job table bounds u
    pub entries : BoundsRun store job table bounds e

-- the record of an answer, in 40 bytes that were zeros: check 9 refuses that of a refusal, so that the zeros stay
unfoldable pub shown_for : Model → Answer → List ℕ
shown_for m a = written (check_answer_write (record_of m a) (replicate 40 0)) (answer_bytes (record_of m a)) (replicate 40 0)
