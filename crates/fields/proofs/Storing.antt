-- A record's fields, written one after the other into a buffer. Assumes nothing.
use mathlib.Core.List.{List, [], ◌++◌, append_assoc}
use mathlib.Core.Path.{◌≡◌, refl, sym, ap, ◌∙◌}
use Prim.Native.Nat.{ℕ, ◌+◌, ◌≤◌}
use native.Mathlib.Omega.{arith}
use borrow.Author.Tests.{le-leb}
use lib.IntN.{ℤ}
use lib.ListN.{length, take, drop, length-append, length-drop}
use lib.Seq.{take_at, drop_at, drop-drop}
use Rattle.integers.specs.Lists.{over}
use Rattle.fields.specs.Fields.{big_endian, vector_bytes, with_field}
use Rattle.fields.proofs.BigEndian.{length_big_endian}
use Rattle.fields.proofs.Vectors.{vector_long}

-- b is t with its first n elements replaced by p
pub record Stored (p : List ℕ) (n : ℕ) (t b : List ℕ) : Type 0 where
  pub is : b ≡ p ++ drop n t
  pub long : length p ≡ n

pub nothing_stored : (t : List ℕ) → Stored [] 0 t t
nothing_stored t = record { is = refl; long = refl }

pub all_stored : {p t b : List ℕ} {n : ℕ} → Stored p n t b → b ≡ over p t
unfolding over
all_stored {p} {t} s = s.is ∙ ap (λ (k : ℕ). p ++ drop k t) (sym s.long)

-- the next part, behind those that are there
part_more :
    (p q t : List ℕ) (n k : ℕ) →
    length p ≡ n →
    take n (p ++ drop n t) ++ (q ++ drop k (drop n (p ++ drop n t))) ≡ (p ++ q) ++ drop (n + k) t
part_more p q t n k h = rw (take_at p (drop n t) n h, drop_at p (drop n t) n h, drop-drop k n t) (sym (append_assoc p q (drop (n + k) t)))

-- a field that lies in the bytes
field_inside :
    (field : List ℕ) (o : ℕ) (bytes : List ℕ) →
    o + length field ≤ length bytes →
    with_field field o bytes ≡ take o bytes ++ (field ++ drop (length field) (drop o bytes))
unfolding with_field
field_inside field o bytes h = simp (le-leb (o + length field) (length bytes) h)

module _ {p t b : List ℕ} {n : ℕ} (s : Stored p n t b) where
  pub stored_long : n ≤ length t → length b ≡ length t
  stored_long h = ap length s.is ∙ omega (arith, length-append p (drop n t), length-drop n t, s.long)

  -- the next field, of k bytes
  pub and_then :
      {b' : List ℕ} (k : ℕ) (field : List ℕ) →
      length field ≡ k →
      n + k ≤ length t →
      b' ≡ with_field field n b →
      Stored (p ++ field) (n + k) t b'
  and_then k field long h e = record {
    is =
        e
        ∙ field_inside field n b (omega (arith, stored_long (omega arith)))
        ∙ rw (long, s.is) (part_more p field t n k s.long);
    long = omega (arith, length-append p field, s.long);
  }

  pub number_then :
      {b' : List ℕ} (k x : ℕ) →
      n + k ≤ length t →
      b' ≡ with_field (big_endian k x) n b →
      Stored (p ++ big_endian k x) (n + k) t b'
  number_then k x h e = and_then k (big_endian k x) (length_big_endian k x) h e

  pub vector_then :
      {b' : List ℕ} (v : List ℤ) →
      length v ≡ 8 →
      n + 16 ≤ length t →
      b' ≡ with_field (vector_bytes v) n b →
      Stored (p ++ vector_bytes v) (n + 16) t b'
  vector_then v eight h e = and_then 16 (vector_bytes v) (vector_long v eight) h e

  -- a part that was copied
  pub bytes_then : {ys : List ℕ} (q : List ℕ) → n + length q ≤ length t → ys ≡ q
      → Stored (p ++ q) (n + length q) t (take n b ++ (ys ++ drop (length q) (drop n b)))
  bytes_then q h e = record {
    is = rw (e, s.is) (part_more p q t n (length q) s.long);
    long = omega (arith, length-append p q, s.long);
  }
