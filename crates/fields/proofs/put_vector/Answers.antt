-- One more coordinate behind those that stand there.
use mathlib.Core.List.{List, [], ◌++◌, append_assoc, append-nil}
use mathlib.Core.Path.{◌≡◌, sym, ◌∙◌}
use Prim.Native.Nat.{ℕ, ◌+◌, ◌*◌, ◌≤◌, ◌<◌}
use native.Mathlib.Nat.{add-zero}
use native.Mathlib.Numerals.{add-one}
use native.Mathlib.Omega.{arith}
use borrow.Author.Rules.{rules}
use borrow.Author.Tests.{le-leb}
use lib.IntN.{ℤ, pos}
use lib.ListN.{length, take, drop, get_or, take-append-drop}
use lib.Seq.{take-suc, take_all, drop-drop, length-take-le}
use mir.Syntax.{w16}
use mir.Val.{of_z}
use Rattle.fields.specs.Fields.{big_endian, vector_bytes, with_field}
use Rattle.fields.proofs.Storing.{Stored, number_then}
use Rattle.fields.proofs.Vectors.{vector_long, coordinate_more}
use Rattle.fields.proofs.put_vector.Goals as goal

-- what stands before `at` stays there
begun : (t : List ℕ) (at : ℕ) → at ≤ length t → Stored (take at t ++ []) (at + 0) t t
begun t at h = record {
  is = rw (append-nil (take at t), add-zero) (sym (take-append-drop at t));
  long = rw (append-nil (take at t), add-zero) (length-take-le at t h);
}

coordinate-stored :
    (v : List ℤ) (p t b : List ℕ) (n k : ℕ) →
    k < length v →
    Stored ((p ++ vector_bytes (take k v)) ++ big_endian 2 (of_z w16 (get_or v k (pos 0)))) (n + 2 * k + 2) t b →
    Stored (p ++ vector_bytes (take (k + 1) v)) (n + 2 * (k + 1)) t b
coordinate-stored v p t b n k inside s =
    let next : n + 2 * (k + 1) ≡ n + 2 * k + 2 = omega arith in
    rw (
      next,
      add-one,
      take-suc v k (pos 0) inside,
      coordinate_more,
      ← append_assoc p (vector_bytes (take k v))
          (big_endian 2 (of_z w16 (get_or v k (pos 0)))),
    ) s

pub loop-k-init : goal.loop-k-init
unfolding vector_bytes
loop-k-init c =
    let place : c.args.at + 16 ≤ length c.args.bytes.now = search rules in
    begun c.args.bytes.now c.args.at (omega arith)

pub loop-k-preserved : goal.loop-k-preserved
loop-k-preserved c =
    let k = c.loop-k.k in
    let a = c.args in
    let place : c.args.at + 16 ≤ length c.args.bytes.now = search rules in
    let bits : c.cast_unsigned.result ≡ of_z w16 (get_or a.v k (pos 0)) = search rules in
    let x : c.from.result ≡ of_z w16 (get_or a.v k (pos 0)) = c.from.ensures ∙ bits in
    let stored = number_then c.loop-k.invariant 2 (of_z w16 (get_or a.v k (pos 0))) (omega arith) (rw x at c.put_number.ensures) in
    coordinate-stored a.v (take a.at a.bytes.now) a.bytes.now c.put_number.new.bytes a.at k (omega arith) stored

pub returns-after-loop-k : goal.returns-after-loop-k
unfolding with_field
returns-after-loop-k c =
    let a = c.args in
    let t = a.bytes.now in
    let place : c.args.at + 16 ≤ length c.args.bytes.now = search rules in
    let full : c.loop-k.k ≡ 8 = omega arith in
    let eight : length a.v ≡ 8 = search rules in
    let placed = rw (full, take_all 8 a.v (omega arith)) at c.loop-k.invariant.is in
    let joined = append_assoc (take a.at t) (vector_bytes a.v) (drop (a.at + 16) t) in
    rw (vector_long a.v eight, le-leb _ _ place) (placed ∙ rw (drop-drop 16 a.at t) joined)
