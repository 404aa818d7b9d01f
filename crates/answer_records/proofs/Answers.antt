-- What reading and writing an answer record come to, and the round trip.
use mathlib.Core.List.{List, [], ◌∷◌, ◌++◌, append_assoc}
use mathlib.Core.Path.{◌≡◌, sym, ap, ◌∙◌}
use Prim.Native.Nat.{ℕ, ◌+◌, ◌≤◌}
use native.Mathlib.Omega.{arith}
use borrow.Author.Tests.{eq-eqb, le-leb}
use lib.Dec.{T, eqb, eqb→eq}
use lib.ListN.{length, take, drop, get_or, length-append}
use lib.Pow.{are_bytes}
use lib.Seq.{take_at, drop_at, drop-drop, get_or-drop, take-add, take_all}
use Rattle.std.specs.Prelude.{Ok, Err}
use Rattle.codes.proofs.Checks.{passed, first_passed, answered}
use Rattle.codes.specs.Codes.{pass, in_order}
use Rattle.codes.specs.declared.Refusal.{Refusal}
use Rattle.codes.specs.declared.Refusal.TheVariants.{Answer}
use Rattle.fields.specs.Buffers.{check_room}
use Rattle.answer_records.specs.Answers.{answer_bytes, answer_of, check_answer, check_answer_write, read_answer}
use Rattle.fields.specs.Fields.{big_endian, from_big_endian, vector_bytes, vector_of}
use Rattle.answer_records.specs.Laws.{IsAnswer, AnswerRoundTrip}
use Rattle.answer_records.specs.declared.AnswerRecord.{AnswerRecord}
use Rattle.fields.proofs.BigEndian.{written_reads_whole}
use Rattle.fields.proofs.Parts.{four_at}
use Rattle.fields.proofs.Vectors.{vector_long, written_reads as vector-reads, number_back, vector_back}

module _ (a : AnswerRecord) (out : List ℕ) where
  pub write_refused : (r : Refusal) → check_answer a ≡ Err r → check_answer_write a out ≡ Err r
  unfolding check_answer_write in_order
  write_refused r e = simp e

  pub write_accepted : check_answer a ≡ pass → 40 ≤ length out → check_answer_write a out ≡ pass
  unfolding check_answer_write check_room in_order
  write_accepted e h = simp (e, le-leb 40 (length out) h)

module _ (a : AnswerRecord) (ok : IsAnswer a) where
  -- what stands behind the vector
  numbers : List ℕ
  numbers = big_endian 8 a.cost ++ (big_endian 8 a.bound ++ (big_endian 4 a.count ++ (a.kind ∷ a.n ∷ a.d ∷ a.scale ∷ [])))

  vector_first : answer_bytes a ≡ vector_bytes a.vector ++ numbers
  unfolding answer_bytes numbers
  vector_first = simp append_assoc

  long : length (vector_bytes a.vector) ≡ 16
  long = vector_long a.vector ok.vector.eight

  size : length (answer_bytes a) ≡ 40
  unfolding numbers big_endian
  size = rw vector_first (omega (arith, length-append (vector_bytes a.vector) numbers, long))

  behind : (o : ℕ) → drop (16 + o) (answer_bytes a) ≡ drop o numbers
  behind o =
      sym (drop-drop o 16 (answer_bytes a)) ∙ ap (λ (l : List ℕ). drop o (drop 16 l)) vector_first
      ∙ ap (drop o) (drop_at (vector_bytes a.vector) numbers 16 long)

  byte_behind : (o : ℕ) → get_or (answer_bytes a) (16 + o) 0 ≡ get_or numbers o 0
  byte_behind o = sym (get_or-drop 16 (answer_bytes a) o 0) ∙ ap (λ (l : List ℕ). get_or l o 0) (behind 0)

  reads : answer_of (answer_bytes a) ≡ a
  unfolding answer_of numbers big_endian
  reads = λ i. record {
    vector =
        (ap (λ (l : List ℕ). vector_of (take 16 l)) vector_first ∙ ap vector_of (take_at (vector_bytes a.vector) numbers 16 long)
        ∙ vector-reads ok.vector.signed) i;
    cost = (ap (λ (l : List ℕ). from_big_endian (take 8 l)) (behind 0) ∙ written_reads_whole 8 a.cost ok.cost.fits) i;
    bound = (ap (λ (l : List ℕ). from_big_endian (take 8 l)) (behind 8) ∙ written_reads_whole 8 a.bound ok.bound.fits) i;
    count = (ap (λ (l : List ℕ). from_big_endian (take 4 l)) (behind 16) ∙ written_reads_whole 4 a.count ok.count.fits) i;
    kind = byte_behind 20 i;
    n = byte_behind 21 i;
    d = byte_behind 22 i;
    scale = byte_behind 23 i;
  }

module _ (bytes : List ℕ) (ok : T (are_bytes bytes)) (h : length bytes ≡ 40) where
  joined : take 16 bytes ++ take 8 (drop 16 bytes) ++ take 8 (drop 24 bytes) ++ take 4 (drop 32 bytes) ++ take 4 (drop 36 bytes)
      ≡ take 40 bytes
  joined = rw (← take-add 16 8 bytes, ← take-add 24 8 bytes, ← take-add 32 4 bytes, ← take-add 36 4 bytes)

  writes : answer_bytes (answer_of bytes) ≡ bytes
  unfolding answer_bytes answer_of
  writes =
      (λ i.
      vector_back bytes ok 0 (omega arith) i
      ++ number_back bytes ok 16 8 (omega arith) i
      ++ number_back bytes ok 24 8 (omega arith) i
      ++ number_back bytes ok 32 4 (omega arith) i
      ++ four_at bytes 36 (omega arith) i)
      ∙ joined
      ∙ take_all 40 bytes (omega arith)

-- a record that check 9 lets through is read
accepted : (bytes : List ℕ) → length bytes ≡ 40 → check_answer (answer_of bytes) ≡ pass → read_answer bytes ≡ Ok (answer_of bytes)
unfolding read_answer in_order
accepted bytes h e = simp (eq-eqb (length bytes) 40 h, e)

-- a record that was read has 40 bytes, and stands for what was read
whole : (bytes : List ℕ) (a : AnswerRecord) → read_answer bytes ≡ Ok a → (length bytes ≡ 40) × (answer_of bytes ≡ a)
unfolding read_answer
whole bytes a e =
    let h = answered _ (answer_of bytes) a e in
    (eqb→eq (length bytes) 40 (passed (eqb (length bytes) 40) Answer (first_passed _ (check_answer (answer_of bytes) ∷ []) h.0)), h.1)

pub answer_round_trip : AnswerRoundTrip
answer_round_trip = record {
  size = size;
  written_reads =
      λ a ok e. accepted (answer_bytes a) (size a ok) (ap check_answer (reads a ok) ∙ e) ∙ ap Ok (reads a ok);
  read_writes = λ bytes ok a e.
      let read = whole bytes a e in
      ap answer_bytes (sym read.1) ∙ writes bytes ok read.0;
}
