-- What holds of the record of a search's answer. The proofs stand in proofs/Records.antt.
use Rattle.codes.specs.Codes.{pass}
use Rattle.std.specs.Prelude.{List, ◌≡◌, ℕ, ℤ, Ok, Err}
use Rattle.codes.specs.declared.Refusal.{Refusal}
use Rattle.jobs.specs.declared.Job.{Job}
use Rattle.search.specs.Search.{check_lent, search_answer}
use Rattle.job_records.specs.Laws.{IsJob}
use Rattle.answer_records.specs.Answers.{answer_bytes, check_answer, read_answer}
use Rattle.answer_records.specs.Laws.{IsAnswer}
use Rattle.answer_records.specs.declared.AnswerRecord.{AnswerRecord}
use Rattle.answers.specs.Records.{record_of}

-- A search that is lent a table and a list of bounds.
module _ (store : List ℕ) (job : Job) (table : List ℤ) (bounds : List ℕ) where
  -- the record of what it answers
  abbrev pub search_record : AnswerRecord
  search_record = record_of job.model (search_answer store job table bounds)

  -- Check 9 passes exactly where the search accepts a job whose numbers fit their bytes: no accepted answer is one that cannot be written.
  pub record RecordFits : Type 0 where
    pub accepted : check_lent store job table bounds ≡ pass → IsJob job → check_answer search_record ≡ pass
    pub refused : (why : Refusal) → check_lent store job table bounds ≡ Err why → check_answer search_record ≡ Err Refusal.Answer
    -- the numbers of an accepted answer fit their bytes, so that its record reads as itself
    pub numbers : check_lent store job table bounds ≡ pass → IsJob job → IsAnswer search_record
    pub reads :
        check_lent store job table bounds ≡ pass →
        IsJob job →
        read_answer (answer_bytes search_record) ≡ Ok search_record
