-- Slot after slot: one more lays its code, its vector and its numbers behind those before it. Assumes nothing.
use mathlib.Core.Path.{◌≡◌, refl, sym, ap, ◌∙◌}
use mathlib.Core.Bool.{Bool, cond}
use mathlib.Core.List.{List, [], ◌∷◌, ◌++◌, append_assoc, append-nil}
use Prim.Native.Nat.{ℕ, zero, suc, ◌+◌, ◌-◌, ◌*◌, ◌≤◌, ◌<◌}
use native.Mathlib.Numerals.{add-one}
use native.Mathlib.Omega.{arith}
use lib.Dec.{ltb}
use lib.IntN.{ℤ}
use lib.ListN.{length, take, drop, get_or, set, length-append, length-drop, drop_of_length-le}
use lib.Seq.{take_at, drop_at, drop-drop, length-take-le}
use Rattle.integers.specs.Lists.{over}
use Rattle.search.specs.declared.Answer.{Answer}
use Rattle.boards.specs.Boards.{in_turn}
use Rattle.boards.proofs.Boarding.{in_turn_long, set_next}
use Rattle.c_buffers.specs.Buffers.{filled}
use Rattle.c_buffers.proofs.Buffers.{filled_whole}
use Rattle.c_boards.specs.Calls.{answer_code, board_numbers, one_behind_other, slot, slot_code, codes_of, vectors_of, numbers_of}
use Rattle.c_boards.specs.Inside.{Handed}

module _ {A : Type 0} where
  -- a buffer that a list was written into
  over_size : (xs out : List A) → length xs ≤ length out → length (over xs out) ≡ length out
  unfolding over
  over_size xs out fits = omega (arith, length-append xs (drop (length xs) out), length-drop (length xs) out)

  over_whole : (xs out : List A) → length xs ≡ length out → over xs out ≡ xs
  unfolding over
  over_whole xs out same = rw (drop_of_length-le out {i = length xs} (omega (arith, same))) (append-nil xs)

  -- an element that is there, whatever is read where none is
  pub element_there : (l : List A) (i : ℕ) (d e : A) → i < length l → get_or l i d ≡ get_or l i e
  element_there [] i d e there = absurd (omega arith)
  element_there (x ∷ l) zero d e there = refl
  element_there (x ∷ l) (suc i) d e there = element_there l i d e (omega arith)

  -- a part of s elements behind the n before it, as it comes back
  part_behind : (xs part out place : List A) (n s m : ℕ) → length xs ≡ n → length part ≡ s → m ≡ s → n + s ≤ length out
      → place ≡ filled (take m (drop n (over xs out))) part
      → take n (over xs out) ++ (place ++ drop m (drop n (over xs out))) ≡ over (xs ++ part) out
  unfolding over
  part_behind xs part out place n s m before long same room e =
      let whole : length (xs ++ part) ≡ length xs + s = omega (arith, length-append xs part) in
      let rest : length (drop (length xs) out) ≡ length out - length xs = length-drop (length xs) out in
      let lent : length (take m (drop (length xs) out)) ≡ m = length-take-le m (drop (length xs) out) (omega (arith, rest)) in
      let behind : drop n (xs ++ drop (length xs) out) ≡ drop (length xs) out = drop_at xs (drop (length xs) out) n before in
      let laid : place ≡ part =
      e ∙ ap (λ (l : List A). filled (take m l) part) behind ∙ filled_whole (take m (drop (length xs) out)) part (omega (arith, lent)) in
      rw (laid, take_at xs (drop (length xs) out) n before, behind, drop-drop m (length xs) out, whole, same)
      (sym (append_assoc xs part (drop (length xs + s) out)))

module _ (count : ℕ) (answers : List Answer) where
  abbrev vector_at : ℕ → List ℤ
  vector_at i = (slot count answers i).vector

  abbrev numbers_at : ℕ → List ℕ
  numbers_at i = board_numbers (slot count answers i)

  numbers_long : (n : ℕ) → length (one_behind_other numbers_at n) ≡ 6 * n
  unfolding one_behind_other
  numbers_long zero = refl
  numbers_long (suc n) = omega (arith, length-append (one_behind_other numbers_at n) (numbers_at n), numbers_long n)

  module _ (codes : List ℕ) (vectors : List ℤ) (numbers : List ℕ)
      (right : (length codes ≡ 8) × (length vectors ≡ 64) × (length numbers ≡ 48)) where
    pub none_handed : Handed count answers codes vectors numbers 0 codes vectors numbers
    unfolding one_behind_other in_turn over
    none_handed = record { few = omega arith; long = refl; codes_told = refl; vectors_told = refl; numbers_told = refl }

    module _ (i : ℕ) (c : List ℕ) (v : List ℤ) (n : List ℕ) (h : Handed count answers codes vectors numbers i c v n) where
      pub codes_size : length c ≡ length codes
      codes_size =
          ap length h.codes_told
          ∙ over_size (in_turn (slot_code count answers) i) codes
          (omega (arith, h.few, in_turn_long (slot_code count answers) i, right.0))

      pub vectors_size : length v ≡ length vectors
      vectors_size =
          ap length h.vectors_told ∙ over_size (one_behind_other vector_at i) vectors (omega (arith, h.few, h.long, right.1))

      pub numbers_size : length n ≡ length numbers
      numbers_size =
          ap length h.numbers_told
          ∙ over_size (one_behind_other numbers_at i) numbers (omega (arith, h.few, numbers_long i, right.2))

      -- one more slot
      pub next_slot :
          i < 8 →
          (a : Answer) (used : Bool) (code : ℕ) (place : List ℤ) (places : List ℕ) →
          a ≡ slot count answers i →
          used ≡ ltb i count →
          (code ≡ cond used (answer_code a) 0)
          × ((place ≡ filled (take ((8 * i + 8) - 8 * i) (drop (8 * i) v)) a.vector)
          × ((places ≡ filled (take ((6 * i + 6) - 6 * i) (drop (6 * i) n)) (board_numbers a)) × (length a.vector ≡ 8))) →
          Handed count answers codes vectors numbers (i + 1) (set c i code)
          (take (8 * i) v ++ (place ++ drop ((8 * i + 8) - 8 * i) (drop (8 * i) v)))
          (take (6 * i) n ++ (places ++ drop ((6 * i + 6) - 6 * i) (drop (6 * i) n)))
      unfolding one_behind_other
      next_slot below a used code place places its tested promised =
          let q = rw (its, tested) at promised in
          rw (add-one i)
          (record {
            few = omega (arith, below);
            long = omega (arith, length-append (one_behind_other vector_at i) (vector_at i), h.long, q.1.1.1);
            codes_told =
                rw h.codes_told (set_next (slot_code count answers) i codes 0 code (omega (arith, below, right.0)) q.0);
            vectors_told =
                rw h.vectors_told
                (part_behind (one_behind_other vector_at i) (vector_at i) vectors place (8 * i) 8 ((8 * i + 8) - 8 * i) h.long
                q.1.1.1 (omega arith) (omega (arith, below, right.1)) (rw h.vectors_told at q.1.0));
            numbers_told =
                rw h.numbers_told
                (part_behind (one_behind_other numbers_at i) (numbers_at i) numbers places (6 * i) 6 ((6 * i + 6) - 6 * i) (numbers_long i)
                refl (omega arith) (omega (arith, below, right.2)) (rw h.numbers_told at q.1.1.0));
          })

    pub all_handed : (c : List ℕ) (v : List ℤ) (n : List ℕ) → Handed count answers codes vectors numbers 8 c v n
        → (c ≡ codes_of count answers) × ((v ≡ vectors_of count answers) × (n ≡ numbers_of count answers))
    all_handed c v n h = (
      h.codes_told ∙ over_whole (codes_of count answers) codes (omega (arith, in_turn_long (slot_code count answers) 8, right.0)),
      (
        h.vectors_told ∙ over_whole (vectors_of count answers) vectors (omega (arith, h.long, right.1)),
        h.numbers_told ∙ over_whole (numbers_of count answers) numbers (omega (arith, numbers_long 8, right.2)),
      ),
    )
