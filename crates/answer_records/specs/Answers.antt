-- The answer record.
use Rattle.std.specs.Prelude.{Bool, true, false, ◌&&◌, List, [], ◌∷◌, ◌++◌, ℕ, leb, eqb, length, Result}
use Rattle.codes.specs.Codes.{Check, pass_if, if_passed, unless_refused, in_order, within}
use Rattle.codes.specs.declared.Refusal.{Refusal}
use Rattle.codes.specs.declared.Refusal.TheVariants.{Answer}
use Rattle.scale.specs.Scale.{check_scale}
use Rattle.boxes.specs.Shape.{check_shape, unused_zero}
use Rattle.fields.specs.Buffers.{check_room}
use Rattle.fields.specs.Fields.{big_endian, vector_bytes, byte_at, number_at, vector_at}
use Rattle.answer_records.specs.declared.AnswerRecord.{AnswerRecord}

-- "An answer record has 40 bytes: vector (16), C (64 bits), L (64), count (32), kind (1 solved, 2 spent, 3 full), n, d, S."
unfoldable pub answer_bytes : AnswerRecord → List ℕ
answer_bytes a =
    vector_bytes a.vector
    ++ big_endian 8 a.cost
    ++ big_endian 8 a.bound
    ++ big_endian 4 a.count
    ++ (a.kind ∷ a.n ∷ a.d ∷ a.scale ∷ [])

-- the answer that 40 bytes stand for
unfoldable pub answer_of : List ℕ → AnswerRecord
answer_of bytes = record {
  vector = vector_at bytes 0;
  cost = number_at bytes 16 8;
  bound = number_at bytes 24 8;
  count = number_at bytes 32 4;
  kind = byte_at bytes 36;
  n = byte_at bytes 37;
  d = byte_at bytes 38;
  scale = byte_at bytes 39;
}

-- whether a check passes
abbrev pub passing : Check → Bool
passing check = if_passed check true false

-- Check 9: "record to write or read has a kind, n, d, n × d or S out of range, an unused coordinate not 0, L > C, or C over
-- 1,152,921,367,167,897,600".
unfoldable pub check_answer : AnswerRecord → Check
check_answer a =
    pass_if
    (within 1 a.kind 3
    && passing (check_shape a.n a.d)
    && passing (check_scale a.scale)
    && unused_zero a.n a.d a.vector
    && leb a.bound a.cost
    && leb a.cost 1_152_921_367_167_897_600)
    Answer

-- "answer records 9, and 10 when written"
unfoldable pub check_answer_write : AnswerRecord → List ℕ → Check
check_answer_write a out = in_order (check_answer a ∷ check_room 40 out ∷ [])

-- Check 9 of a record to read: "to read, length not 40".
unfoldable pub read_answer : List ℕ → Result AnswerRecord Refusal
read_answer bytes = unless_refused (in_order (pass_if (eqb (length bytes) 40) Answer ∷ check_answer (answer_of bytes) ∷ [])) (answer_of bytes)
