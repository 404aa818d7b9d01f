-- "All multi-byte fields are big-endian": numbers and vectors as bytes.
use Rattle.std.specs.Prelude.{Bool, ◌&&◌, cond, List, [], ◌∷◌, ◌++◌, ◌≡◌, ℕ, zero, suc, ◌+◌, ◌*◌, ◌/◌, ◌%◌, ◌^◌, leb, ℤ, pos, length, take, drop, get_or, replicate}
use Rattle.std.specs.Int.{w16}
use Rattle.std.proofs.Common.{SFits, of_z, to_z}
use Rattle.integers.specs.Lists.{All}

-- x in k bytes, the highest first
unfoldable pub big_endian : ℕ → ℕ → List ℕ
big_endian zero x = []
big_endian (suc k) x = x / 256 ^ k % 256 ∷ big_endian k x

-- the number that bytes stand for, the highest first
unfoldable pub from_big_endian : List ℕ → ℕ
from_big_endian [] = 0
from_big_endian (b ∷ bs) = b * 256 ^ length bs + from_big_endian bs

-- the coordinates one after the other, two bytes each: `of_z w16` has the bits of a signed 16-bit number
unfoldable pub vector_bytes : List ℤ → List ℕ
vector_bytes [] = []
vector_bytes (w ∷ ws) = big_endian 2 (of_z w16 w) ++ vector_bytes ws

-- the coordinates that bytes stand for, two bytes each: `to_z w16` is the signed number of 16 bits
unfoldable pub vector_of : List ℕ → List ℤ
vector_of [] = []
vector_of (high ∷ []) = []
vector_of (high ∷ low ∷ bs) = to_z w16 (from_big_endian (high ∷ low ∷ [])) ∷ vector_of bs

-- the byte at place o, counted from 0; the number of the k bytes from there on; the vector of the 16 bytes from there on
abbrev pub byte_at : List ℕ → ℕ → ℕ
byte_at bytes o = get_or bytes o 0

abbrev pub number_at : List ℕ → ℕ → ℕ → ℕ
number_at bytes o k = from_big_endian (take k (drop o bytes))

abbrev pub vector_at : List ℕ → ℕ → List ℤ
vector_at bytes o = vector_of (take 16 (drop o bytes))

-- "A vector has 8 signed 16-bit coordinates".
pub record IsVector (v : List ℤ) : Type 0 where
  pub eight : length v ≡ 8
  pub signed : All (λ w. SFits w16 w) v

-- Whether k bytes from place o on lie in a buffer. A field that does not lie there is neither read nor written.
abbrev pub inside : List ℕ → ℕ → ℕ → Bool
inside bytes o k = leb (o + k) (length bytes)

-- A field that is read: a number of at most 8 bytes, and a vector; zeros where it does not lie in the buffer.
unfoldable pub number_in : List ℕ → ℕ → ℕ → ℕ
number_in bytes o k = cond (leb k 8 && inside bytes o k) (number_at bytes o k) 0

unfoldable pub vector_in : List ℕ → ℕ → List ℤ
vector_in bytes o = cond (inside bytes o 16) (vector_at bytes o) (replicate 8 (pos 0))

-- A buffer after a field was written from place o on.
unfoldable pub with_field : List ℕ → ℕ → List ℕ → List ℕ
with_field field o bytes = cond (inside bytes o (length field)) (take o bytes ++ (field ++ drop (length field) (drop o bytes))) bytes
