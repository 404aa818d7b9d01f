-- One text behind another is one text. Assumes nothing.
use mathlib.Core.List.{List, [], ◌++◌, append_assoc, append-nil}
use mathlib.Core.Path.{◌≡◌, refl, sym, ap, ◌∙◌}
use borrow.Author.Tests.{le-leb, lt-leb}
use Prim.Native.Nat.{ℕ, ◌+◌, ◌-◌, ◌≤◌, ◌<◌}
use native.Mathlib.Nat.{add-zero}
use native.Mathlib.Omega.{arith}
use lib.ListN.{length, take, drop, length-append, length-drop, take-append-drop}
use lib.Seq.{drop-drop, length-take-le}
use borrow.Rule.Slice.PartMut.{put_mid}
use Rattle.std.proofs.lemmas.Slice.{take-put_mid, drop-put_mid}
use Rattle.decimal.specs.Put.{Put, PutIfRoom}

-- lists that are the same from one place on are so from each later place on
later : (a b : List ℕ) (n k : ℕ) → n ≤ k → drop n a ≡ drop n b → drop k a ≡ drop k b
later a b n k h e =
    let from : n + (k - n) ≡ k = omega arith in
    let at_k : (l : List ℕ) → drop (k - n) (drop n l) ≡ drop k l = λ l. drop-drop (k - n) n l ∙ ap (λ (j : ℕ). drop j l) from in
    sym (at_k a) ∙ ap (drop (k - n)) e ∙ at_k b

pub put_nothing : (b : List ℕ) (at : ℕ) → Put b at [] at b
put_nothing b at = record { place = sym (add-zero at); front = sym (append-nil (take at b)); rest = refl; long = refl }

-- a part that was overwritten by a text of its length
pub put_part :
    (b t : List ℕ) (at k : ℕ) →
    k ≡ length t →
    at + length t ≤ length b →
    Put b at t (at + length t) (put_mid at k b t)
put_part b t at k e room =
    let behind : at + k ≡ at + length t = omega arith in
    record {
      place = refl;
      front = take-put_mid at k b t (at + length t) refl (omega arith);
      rest = drop-put_mid at k b t (at + length t) (omega arith) (omega arith) (omega arith);
      long =
          omega (
            arith,
            length-append (take at b) (t ++ drop k (drop at b)),
            length-append t (drop k (drop at b)),
            length-take-le at b (omega arith),
            length-drop k (drop at b),
            length-drop at b,
          );
    }

pub put_more : {b m a s t : List ℕ} {at n k : ℕ} → Put b at s n m → Put m n t k a → Put b at (s ++ t) k a
put_more {b} {m} {a} {s} {t} {at} {n} {k} p q =
    record {
      place = omega (arith, length-append s t, p.place, q.place);
      front = q.front ∙ rw p.front (append_assoc (take at b) s t);
      rest = q.rest ∙ later m b n k (omega (arith, q.place)) p.rest;
      long = q.long ∙ p.long;
    }

-- where there is no room nothing is put, and where there is the text is
pub not_put : (most : ℕ) (b : List ℕ) (at : ℕ) (t : List ℕ) → length b - at < most → PutIfRoom most b at t at b
not_put most b at t few = record { put = rw (lt-leb most (length b - at) few) (put_nothing b at) }

module _ {most at n : ℕ} {b t a : List ℕ} where
  pub is_put : most ≤ length b - at → Put b at t n a → PutIfRoom most b at t n a
  is_put room p = record { put = rw (le-leb most (length b - at) room) p }

  pub put_in : PutIfRoom most b at t n a → at + most ≤ length b → Put b at t n a
  put_in p room =
      let enough : most ≤ length b - at = omega arith in
      rw (le-leb most (length b - at) enough) at p.put

-- a text behind one that was put, where the buffer that was lent at first has room for it
pub put_behind :
    {b m a s t : List ℕ} {most at n k : ℕ} →
    Put b at s n m →
    PutIfRoom most m n t k a →
    n + most ≤ length b →
    Put b at (s ++ t) k a
put_behind p q room = put_more p (put_in q (omega (arith, p.long)))

-- the text is at the front of the buffer, and the rest is kept
pub at_front : {b t a : List ℕ} {n : ℕ} → Put b 0 t n a → (n ≡ length t) × (a ≡ t ++ drop (length t) b)
at_front {b} {t} {a} {n} p =
    let n_is : n ≡ length t = omega (arith, p.place) in
    (n_is, sym (take-append-drop n a) ∙ rw (p.front, p.rest, n_is) refl)
