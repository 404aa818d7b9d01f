-- What holds of answer records: statements, each proved in proofs/ under the name of its record.
use Rattle.codes.specs.Codes.{pass}
use Rattle.std.specs.Prelude.{List, ◌≡◌, ℕ, T, length, Ok}
use Rattle.std.proofs.Math.Pow.{are_bytes}
use Rattle.std.specs.Int.{w32, w64}
use Rattle.std.proofs.Common.{Fits}
use Rattle.fields.specs.Fields.{IsVector}
use Rattle.answer_records.specs.Answers.{answer_bytes, check_answer, read_answer}
use Rattle.answer_records.specs.declared.AnswerRecord.{AnswerRecord}

-- The numbers fit their bytes, as those of every answer record in the code do.
pub record IsAnswer (a : AnswerRecord) : Type 0 where
  pub vector : IsVector a.vector
  pub cost : Fits w64 a.cost
  pub bound : Fits w64 a.bound
  pub count : Fits w32 a.count

-- An answer that check 9 lets through goes through its 40 bytes and back unchanged.
pub record AnswerRoundTrip : Type 0 where
  -- "An answer record has 40 bytes".
  pub size : (a : AnswerRecord) → IsAnswer a → length (answer_bytes a) ≡ 40
  -- an answer that was written reads as itself
  pub written_reads :
      (a : AnswerRecord) →
      IsAnswer a →
      check_answer a ≡ pass →
      read_answer (answer_bytes a) ≡ Ok a
  -- a record that reads writes back to the same bytes
  pub read_writes : (bytes : List ℕ) → T (are_bytes bytes) → (a : AnswerRecord) → read_answer bytes ≡ Ok a → answer_bytes a ≡ bytes
