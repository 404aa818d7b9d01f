-- Laws of a vector's bytes: one more coordinate, and the round trips. Assumes nothing.
use mathlib.Core.List.{List, [], ◌∷◌, ◌++◌, append_assoc, append-nil}
use mathlib.Core.Path.{◌≡◌, refl, sym, ap, ◌∙◌}
use Prim.Native.Nat.{ℕ, zero, suc, ◌+◌, ◌*◌, ◌-◌, ◌^◌, ◌≤◌, ◌<◌}
use native.Mathlib.Omega.{arith}
use borrow.Author.Tests.{le-leb}
use lib.Dec.{T}
use lib.IntN.{ℤ, pos}
use lib.ListN.{length, take, drop, get_or, length-append}
use lib.Pow.{are_bytes}
use mir.Facts.{Fits-of_z, to_z-of_z, of_z-to_z}
use mir.Syntax.{w16}
use mir.Val.{SFits, of_z, to_z}
use Rattle.integers.specs.Lists.{All, none, also}
use Rattle.fields.specs.Fields.{big_endian, from_big_endian, vector_at, vector_bytes, vector_in, vector_of}
use Rattle.fields.proofs.BigEndian.{length_big_endian, below, written_reads_whole, read_writes as number-read-writes}
use Rattle.fields.proofs.Parts.{part_size, bytes_take, bytes_drop}

pub length_vector_bytes : (ws : List ℤ) → length (vector_bytes ws) ≡ 2 * length ws
unfolding vector_bytes
length_vector_bytes [] = refl
length_vector_bytes (w ∷ ws) =
    omega (arith, length-append (big_endian 2 (of_z w16 w)) (vector_bytes ws), length_big_endian 2 (of_z w16 w), length_vector_bytes ws)

-- eight coordinates have sixteen bytes
pub vector_long : (ws : List ℤ) → length ws ≡ 8 → length (vector_bytes ws) ≡ 16
vector_long ws h = omega (arith, length_vector_bytes ws)

pub coordinate_more : (ws : List ℤ) (w : ℤ) → vector_bytes (ws ++ w ∷ []) ≡ vector_bytes ws ++ big_endian 2 (of_z w16 w)
unfolding vector_bytes
coordinate_more [] w = append-nil (big_endian 2 (of_z w16 w))
coordinate_more (v ∷ ws) w =
    ap (λ (bs : List ℕ). big_endian 2 (of_z w16 v) ++ bs) (coordinate_more ws w)
    ∙ sym (append_assoc (big_endian 2 (of_z w16 v)) (vector_bytes ws) (big_endian 2 (of_z w16 w)))

length_vector_of : (bs : List ℕ) (n : ℕ) → length bs ≡ 2 * n → length (vector_of bs) ≡ n
unfolding vector_of
length_vector_of [] n h = omega arith
length_vector_of (b ∷ []) n h = absurd (omega arith)
length_vector_of (high ∷ low ∷ bs) n h = omega (arith, length_vector_of bs (n - 1) (omega arith))

pub coordinate_at :
    (bs : List ℕ) (k : ℕ) →
    2 * k + 1 < length bs →
    get_or (vector_of bs) k (pos 0) ≡ to_z w16 (from_big_endian (get_or bs (2 * k) 0 ∷ get_or bs (2 * k + 1) 0 ∷ []))
unfolding vector_of
coordinate_at [] k h = absurd (omega arith)
coordinate_at (b ∷ []) k h = absurd (omega arith)
coordinate_at (high ∷ low ∷ bs) zero h = refl
coordinate_at (high ∷ low ∷ bs) (suc k) h =
    let even : 2 * suc k ≡ suc (suc (2 * k)) = omega arith in
    let odd : 2 * suc k + 1 ≡ suc (suc (2 * k + 1)) = omega arith in
    rw (odd, even) (coordinate_at bs k (omega arith))

-- the vector at a place has eight coordinates
pub vector_eight : (bytes : List ℕ) (at : ℕ) → at + 16 ≤ length bytes → length (vector_at bytes at) ≡ 8
vector_eight bytes at h = length_vector_of (take 16 (drop at bytes)) 8 (part_size bytes at 16 h)

-- a vector that lies in the bytes
pub vector_inside : (bytes : List ℕ) (o : ℕ) → o + 16 ≤ length bytes → vector_in bytes o ≡ vector_at bytes o
unfolding vector_in
vector_inside bytes o h = simp (le-leb (o + 16) (length bytes) h)

-- a vector that was written reads as itself
pub written_reads : {ws : List ℤ} → All (λ w. SFits w16 w) ws → vector_of (vector_bytes ws) ≡ ws
unfolding vector_bytes vector_of big_endian
written_reads none = refl
written_reads (also {x = w} f s) =
    let small : of_z w16 w < 256 ^ 2 = (Fits-of_z f).fits in
    λ i. (ap (to_z w16) (written_reads_whole 2 (of_z w16 w) small) ∙ to_z-of_z f) i ∷ written_reads s i

-- a vector that was read writes back to the same bytes
pub read_writes : (bs : List ℕ) (n : ℕ) → length bs ≡ 2 * n → T (are_bytes bs) → vector_bytes (vector_of bs) ≡ bs
unfolding vector_bytes vector_of
read_writes [] n h g = refl
read_writes (b ∷ []) n h g = absurd (omega arith)
read_writes (high ∷ low ∷ bs) n h g =
    let two = high ∷ low ∷ [] in
    let two_bytes : T (are_bytes two) = bytes_take 2 (high ∷ low ∷ bs) g in
    let bits : of_z w16 (to_z w16 (from_big_endian two)) ≡ from_big_endian two = of_z-to_z {w = w16} (record { fits = below two two_bytes }) in
    λ i. (ap (big_endian 2) bits ∙ number-read-writes two two_bytes) i
    ++ read_writes bs (n - 1) (omega arith) (bytes_drop 2 (high ∷ low ∷ bs) g) i

-- a field that was read at o writes back to its bytes
module _ (bytes : List ℕ) (ok : T (are_bytes bytes)) (o : ℕ) where
  pub number_back : (k : ℕ) → o + k ≤ length bytes → big_endian k (from_big_endian (take k (drop o bytes))) ≡ take k (drop o bytes)
  number_back k h =
      let part = take k (drop o bytes) in
      ap (λ (n : ℕ). big_endian n (from_big_endian part)) (sym (part_size bytes o k h))
      ∙ number-read-writes part (bytes_take k (drop o bytes) (bytes_drop o bytes ok))

  pub vector_back : o + 16 ≤ length bytes → vector_bytes (vector_of (take 16 (drop o bytes))) ≡ take 16 (drop o bytes)
  vector_back h = read_writes (take 16 (drop o bytes)) 8 (part_size bytes o 16 h) (bytes_take 16 (drop o bytes) (bytes_drop o bytes ok))
