-- A number of at most eight bytes, read and written through the library's eight. Assumes nothing.
use mathlib.Core.List.{List, [], ◌∷◌, ◌++◌, append-nil}
use mathlib.Core.Path.{◌≡◌, refl, sym, ap, subst, ◌∙◌}
use Prim.Native.Nat.{ℕ, zero, suc, min, ◌+◌, ◌*◌, ◌-◌, ◌/◌, ◌^◌, ◌≤◌, ◌<◌}
use native.Mathlib.Nat.{div-one, div-eq_of_lt, pow-le-pow_right, zero-add, suc-add}
use native.Mathlib.Numerals.{add-one}
use native.Mathlib.Omega.{arith}
use lib.ListN.{length, take, drop, get_or, replicate, length-append, length-drop, drop_of_length-le}
use lib.Seq.{take-suc, take_all}
use Rattle.std.proofs.lemmas.List.{length-replicate, take-replicate}
use Rattle.std.specs.Int.{w64, from_be_bytes, to_be_bytes}
use Rattle.integers.proofs.Tests.{le_or_lt}
use Rattle.fields.specs.Fields.{big_endian, from_big_endian, number_in}
use Rattle.fields.proofs.BigEndian.{length_big_endian, from_snoc, below, number_inside}
use Rattle.fields.proofs.Parts.{part_size, bytes_take, bytes_drop, bytes_each}
use mathlib.Core.Logic.{⊎_elim}
use mir.Syntax.{w8}
use mir.Val.{Fits}
use borrow.Rule.Slice.PartMut.{put_mid}

-- one byte more
next_byte : (bs : List ℕ) (k : ℕ) → k < length bs → from_big_endian (take (k + 1) bs) ≡ from_big_endian (take k bs) * 256 + get_or bs k 0
next_byte bs k h = rw (add-one, take-suc bs k 0 h) (from_snoc (take k bs) (get_or bs k 0))

pub read_eight : (bs : List ℕ) → length bs ≡ 8 → from_be_bytes w64 bs ≡ from_big_endian bs
unfolding from_big_endian
read_eight bs h =
    let all : from_big_endian (take 8 bs) ≡ from_big_endian bs = ap from_big_endian (take_all 8 bs (omega arith)) in
    omega (arith, all, next_byte bs 0 (omega arith), next_byte bs 1 (omega arith), next_byte bs 2 (omega arith), next_byte bs 3 (omega arith), next_byte bs 4 (omega arith), next_byte bs 5 (omega arith), next_byte bs 6 (omega arith), next_byte bs 7 (omega arith))

-- zeros in front change nothing
pub zeros_first : (n : ℕ) (bs : List ℕ) → from_big_endian (replicate n 0 ++ bs) ≡ from_big_endian bs
unfolding from_big_endian
zeros_first zero bs = refl
zeros_first (suc n) bs = omega (arith, zeros_first n bs)

pub write_eight : (x : ℕ) → to_be_bytes w64 x ≡ big_endian 8 x
unfolding big_endian
write_eight x = rw (div-one x)

-- the lowest bytes come last
pub lowest : (j k x : ℕ) → drop j (big_endian (j + k) x) ≡ big_endian k x
unfolding big_endian
lowest zero k x = rw zero-add
lowest (suc j) k x = rw suc-add (lowest j k x)

-- k bytes behind as many zeros as make eight
pub read_low : (k : ℕ) (part : List ℕ) → k ≤ 8 → length part ≡ k → from_be_bytes w64 (replicate (8 - k) 0 ++ part) ≡ from_big_endian part
read_low k part h long =
    read_eight (replicate (8 - k) 0 ++ part) (omega (arith, length-append (replicate (8 - k) 0) part, length-replicate {A = ℕ} (8 - k) 0)) ∙ zeros_first (8 - k) part

-- the last k of eight bytes
pub write_low : (k x : ℕ) → k ≤ 8 → drop (8 - k) (to_be_bytes w64 x) ≡ big_endian k x
write_low k x h =
    let e : 8 ≡ (8 - k) + k = omega arith in
    rw write_eight (subst (λ (n : ℕ). drop (8 - k) (big_endian n x) ≡ big_endian k x) (sym e) (lowest (8 - k) k x))

-- a number of eight bytes has zeros above them
pub zeros_above : (j x : ℕ) → x < 256 ^ 8 → big_endian (j + 8) x ≡ replicate j 0 ++ big_endian 8 x
unfolding big_endian
zeros_above zero x h = refl
zeros_above (suc j) x h =
    let small : 256 ^ 8 ≤ 256 ^ (j + 8) = pow-le-pow_right {n = 256} (omega arith) {i = 8} {j = j + 8} (omega arith) in
    let digit : x / 256 ^ (j + 8) ≡ 0 = div-eq_of_lt (omega arith) in
    rw (suc-add, digit) (ap (λ (bs : List ℕ). 0 ∷ bs) (zeros_above j x h))

-- a number of any length
pub number_written :
    (n m x : ℕ) →
    m ≡ min n 8 →
    x < 256 ^ 8 →
    replicate (n - m) 0 ++ take (8 - (8 - m)) (drop (8 - m) (to_be_bytes w64 x)) ≡ big_endian n x
number_written n m x e h =
    let long : m ≤ 8 = omega arith in
    let low : drop (8 - m) (to_be_bytes w64 x) ≡ big_endian m x = write_low m x long in
    let whole : take (8 - (8 - m)) (big_endian m x) ≡ big_endian m x = take_all _ _ (omega (arith, length_big_endian m x)) in
    let few : n ≤ 8 → replicate (n - m) 0 ++ big_endian m x ≡ big_endian n x =
    λ (small : n ≤ 8). let none : n - m ≡ 0 = omega arith in let same : m ≡ n = omega arith in rw none (ap (λ (k : ℕ). big_endian k x) same)
    in
    let many : 8 < n → replicate (n - m) 0 ++ big_endian m x ≡ big_endian n x =
    λ (large : 8 < n). let eight : m ≡ 8 = omega arith in let more : (n - 8) + 8 ≡ n = omega arith in
    rw eight (sym (zeros_above (n - 8) x h) ∙ ap (λ (k : ℕ). big_endian k x) more)
    in
    rw (low, whole) (⊎_elim few many (le_or_lt n 8))

-- a number of at most eight bytes at a place
pub number_read :
    (bytes : List ℕ) (at k end : ℕ) (part : List ℕ) (n : ℕ) →
    k ≤ 8 →
    at + k ≤ length bytes →
    end ≡ at + k →
    part ≡ take (end - at) (drop at bytes) →
    n ≡ from_be_bytes w64 (put_mid (8 - k) (8 - (8 - k)) (replicate 8 0) part) →
    n ≡ number_in bytes at k
number_read bytes at k end part n small inside e is read =
    let size : end - at ≡ k = omega arith in
    let same : part ≡ take k (drop at bytes) = is ∙ ap (λ (j : ℕ). take j (drop at bytes)) size in
    let long : length part ≡ k = ap length same ∙ part_size bytes at k inside in
    let front : take {A = ℕ} (8 - k) (replicate 8 0) ≡ replicate (8 - k) 0 = take-replicate (8 - k) 8 0 (omega arith) in
    let behind : drop {A = ℕ} (8 - (8 - k)) (drop (8 - k) (replicate 8 0)) ≡ [] = drop_of_length-le (drop (8 - k) (replicate 8 0)) {i = 8 - (8 - k)} (omega (arith, length-drop {A = ℕ} (8 - k) (replicate 8 0))) in
    read
    ∙ rw (front, behind, append-nil part) (read_low k part small long ∙ ap from_big_endian same ∙ sym (number_inside bytes at k small inside))

pub number_small :
    (bytes : List ℕ) (o k : ℕ) →
    ((i : ℕ) → Fits w8 (get_or bytes i 0)) →
    k ≤ 8 →
    o + k ≤ length bytes →
    number_in bytes o k < 256 ^ k
number_small bytes o k each small inside =
    let part = take k (drop o bytes) in
    let long : length part ≡ k = part_size bytes o k inside in
    rw (number_inside bytes o k small inside) (rw long at (below part (bytes_take k (drop o bytes) (bytes_drop o bytes (bytes_each bytes each)))))
