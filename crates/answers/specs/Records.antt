-- The record of a search's answer.
use Rattle.jobs.specs.declared.Model.{Model}
use Rattle.search.specs.Search.{kind_number}
use Rattle.search.specs.declared.Answer.{Answer}
use Rattle.answer_records.specs.declared.AnswerRecord.{AnswerRecord}

-- "vector (16), C (64 bits), L (64), count (32), kind (1 solved, 2 spent, 3 full), n, d, S": of the answer its vector, C, L, count and
-- kind, and of the job n, d and S. A refusal has no kind, and its record the number 0, which check 9 refuses.
unfoldable pub record_of : Model → Answer → AnswerRecord
record_of m a = record {
  vector = a.vector;
  cost = a.cost;
  bound = a.bound;
  count = a.count;
  kind = kind_number a.kind;
  n = m.n;
  d = m.d;
  scale = m.scale;
}
