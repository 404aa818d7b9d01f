-- Laws of big-endian numbers, for every number of bytes: one more byte at either end, and the round trips. Assumes nothing.
use mathlib.Core.List.{List, [], ◌∷◌, ◌++◌}
use mathlib.Core.Path.{◌≡◌, refl, sym, ap, ◌∙◌}
use Prim.Native.Nat.{ℕ, zero, suc, ◌+◌, ◌*◌, ◌/◌, ◌%◌, ◌^◌, ◌≤◌, ◌<◌}
use native.Mathlib.Nat.{mod-one, mod-eq_of_lt, mul_assoc, pow-suc, pow-succ', one-le-pow, add-suc, suc-add, zero-add, mul-add-div_right}
use native.Mathlib.Nat.{mul-add-mod_self_right}
use native.Mathlib.Omega.{arith}
use borrow.Author.Tests.{le-leb}
use lib.Arith.{digits_lt, digits_div, mod-mul}
use lib.Dec.{T, ltb, ltb→lt}
use lib.ListN.{length, get_or, length-append}
use lib.Pow.{are_bytes, pow-add}
use mir.Facts.{and_yes}
use Rattle.fields.specs.Fields.{big_endian, from_big_endian, number_at, number_in}
use Rattle.fields.proofs.Parts.{two_at}

pub power_positive : (k : ℕ) → 0 < 256 ^ k
power_positive k = one-le-pow k 256 (omega arith)

pub length_big_endian : (k x : ℕ) → length (big_endian k x) ≡ k
unfolding big_endian
length_big_endian zero x = refl
length_big_endian (suc k) x = ap suc (length_big_endian k _)

-- a number that lies in the bytes
pub number_inside : (bytes : List ℕ) (o k : ℕ) → k ≤ 8 → o + k ≤ length bytes → number_in bytes o k ≡ number_at bytes o k
unfolding number_in
number_inside bytes o k h g = simp (le-leb k 8 h, le-leb (o + k) (length bytes) g)

-- a number of two bytes
pub pair_at :
    (bytes : List ℕ) (o : ℕ) →
    o + 1 < length bytes →
    from_big_endian (get_or bytes o 0 ∷ get_or bytes (o + 1) 0 ∷ []) ≡ number_at bytes o 2
pair_at bytes o h = ap from_big_endian (two_at bytes o h)

-- one byte more at the low end
pub from_snoc : (bs : List ℕ) (b : ℕ) → from_big_endian (bs ++ b ∷ []) ≡ from_big_endian bs * 256 + b
unfolding from_big_endian
from_snoc [] b = omega arith
from_snoc (a ∷ bs) b =
    let long : length (bs ++ b ∷ []) ≡ suc (length bs) = omega (arith, length-append bs (b ∷ [])) in
    rw (long, pow-suc, ← mul_assoc) (omega (arith, from_snoc bs b))

-- k bytes hold less than 256 ^ k
pub below : (bs : List ℕ) → T (are_bytes bs) → from_big_endian bs < 256 ^ length bs
unfolding from_big_endian
below [] h = omega arith
below (b ∷ bs) h =
    let both = and_yes (ltb b 256) (are_bytes bs) h in
    rw pow-succ' (digits_lt (ltb→lt b 256 both.0) (below bs both.1))

-- what was written in k bytes reads as the number modulo 256 ^ k
pub written_reads : (k x : ℕ) → from_big_endian (big_endian k x) ≡ x % 256 ^ k
unfolding big_endian from_big_endian
written_reads zero x = sym (mod-one x)
written_reads (suc k) x =
    (λ i. x / 256 ^ k % 256 * 256 ^ length_big_endian k x i + written_reads k x i)
    ∙ rw pow-succ' (sym (mod-mul x (omega arith) (power_positive k)))

pub written_reads_whole : (k x : ℕ) → x < 256 ^ k → from_big_endian (big_endian k x) ≡ x
written_reads_whole k x h = written_reads k x ∙ mod-eq_of_lt h

-- k bytes do not show what stands above them
high_unseen : (k j q v : ℕ) → big_endian k (q * 256 ^ (j + k) + v) ≡ big_endian k v
unfolding big_endian
high_unseen zero j q v = refl
high_unseen (suc k) j q v =
    let e : q * 256 ^ (j + suc k) ≡ q * 256 ^ j * 256 * 256 ^ k = simp (pow-add, pow-succ', ← mul_assoc) in
    let digit : (q * 256 ^ (j + suc k) + v) / 256 ^ k % 256 ≡ v / 256 ^ k % 256 =
    rw (e, mul-add-div_right (power_positive k) (q * 256 ^ j * 256) v) (mul-add-mod_self_right (q * 256 ^ j) 256 (v / 256 ^ k))
    in
    let rest : big_endian k (q * 256 ^ (j + suc k) + v) ≡ big_endian k v = rw (add-suc, ← suc-add) (high_unseen k (suc j) q v) in
    λ i. digit i ∷ rest i

-- what was read writes back to the same bytes
pub read_writes : (bs : List ℕ) → T (are_bytes bs) → big_endian (length bs) (from_big_endian bs) ≡ bs
unfolding big_endian from_big_endian
read_writes [] h = refl
read_writes (b ∷ bs) h =
    let both = and_yes (ltb b 256) (are_bytes bs) h in
    let v = from_big_endian bs in
    let k = length bs in
    let digit : (b * 256 ^ k + v) / 256 ^ k % 256 ≡ b = rw (digits_div b (below bs both.1)) (mod-eq_of_lt (ltb→lt b 256 both.0)) in
    let rest : big_endian k (b * 256 ^ k + v) ≡ bs = (rw zero-add at (high_unseen k 0 b v)) ∙ read_writes bs both.1 in
    λ i. digit i ∷ rest i
