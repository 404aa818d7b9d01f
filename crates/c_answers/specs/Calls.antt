-- Answer records through the C interface: each field by its own number or buffer.
use Rattle.std.specs.Prelude.{Bool, cond, ◌&&◌, List, [], ◌∷◌, ℕ, eqb, ℤ, length}
use Rattle.answer_records.specs.declared.AnswerRecord.{AnswerRecord}
use Rattle.fields.specs.Buffers.{written}
use Rattle.answer_records.specs.Answers.{answer_bytes, check_answer_write, read_answer}
use Rattle.c_buffers.specs.Buffers.{vector_from}
use Rattle.c_boundary.specs.Boundary.{Call, check_call, check_of, read_after}

-- the numbers of an answer in the record's order: "C (64 bits), L (64), count (32), kind (1 solved, 2 spent, 3 full), n, d, S"
abbrev pub answer_numbers : AnswerRecord → List ℕ
answer_numbers a = a.cost ∷ a.bound ∷ a.count ∷ a.kind ∷ a.n ∷ a.d ∷ a.scale ∷ []

-- an answer from a vector and its numbers
abbrev pub answer_from : List ℤ → ℕ → ℕ → ℕ → ℕ → ℕ → ℕ → ℕ → AnswerRecord
answer_from vector cost bound count kind n d scale =
    record { vector = vector_from vector; cost = cost; bound = bound; count = count; kind = kind; n = n; d = d; scale = scale }

-- room for a vector and seven numbers
abbrev pub answer_lengths : ℕ → ℕ → Bool
answer_lengths vector numbers = eqb vector 8 && eqb numbers 7

-- reading an answer record, and the two lent buffers afterwards
module _ (bytes : List ℕ) (vector : List ℤ) (numbers : List ℕ) where
  abbrev pub read_answer_call : Call
  read_answer_call = check_call (answer_lengths (length vector) (length numbers)) (check_of (read_answer bytes))

  abbrev pub answer_vector_after : List ℤ
  answer_vector_after = read_after (answer_lengths (length vector) (length numbers)) (read_answer bytes) (λ a. a.vector) vector

  abbrev pub answer_numbers_after : List ℕ
  answer_numbers_after = read_after (answer_lengths (length vector) (length numbers)) (read_answer bytes) answer_numbers numbers

-- writing an answer record, and the lent bytes afterwards
module _ (vector : List ℤ) (cost bound count kind n d scale : ℕ) (bytes : List ℕ) where
  abbrev pub write_answer_call : Call
  write_answer_call = check_call (eqb (length vector) 8) (check_answer_write (answer_from vector cost bound count kind n d scale) bytes)

  abbrev pub answer_record_after : List ℕ
  answer_record_after =
      let answer = answer_from vector cost bound count kind n d scale in
      cond (eqb (length vector) 8) (written (check_answer_write answer bytes) (answer_bytes answer) bytes) bytes
