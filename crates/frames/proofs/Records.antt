-- Laws of the records of a store, each 12 bytes: the first of those that are left, and a store put together of records. Assumes nothing.
use mathlib.Core.Path.{◌≡◌, refl, sym, ap, ◌∙◌}
use mathlib.Core.List.{List, [], ◌∷◌, flatten}
use Prim.Native.Nat.{ℕ, zero, suc, ◌+◌, ◌*◌, ◌/◌, ◌≤◌, ◌<◌}
use native.Mathlib.Nat.{add-zero}
use native.Mathlib.Omega.{arith}
use lib.ListN.{length, take, drop, get_or, length-append, length-drop}
use lib.Seq.{length-take-le, take_at, drop_at, drop-drop, take-take}
use Rattle.integers.specs.Lists.{All, none, also}
use Rattle.fields.specs.Fields.{from_big_endian}
use Rattle.fields.proofs.BigEndian.{pair_at}
use Rattle.points.specs.Points.{unsigned_at, signed_at, record_at}
use Rattle.frames.specs.Walk.{from}
use Rattle.frames.specs.Frames.{first_records, records_of, frame_of}

-- a record has 12 bytes
abbrev pub Long : List ℕ → Type 0
Long r = length r ≡ 12

first_long : (n : ℕ) (s : List ℕ) → n * 12 ≤ length s → All Long (first_records n s)
unfolding first_records
first_long zero s h = none
first_long (suc n) s h =
    let k : n * 12 ≤ length (drop 12 s) = omega (arith, length-drop 12 s) in
    also (length-take-le 12 s (omega arith)) (first_long n (drop 12 s) k)

pub records_long : (s : List ℕ) → All Long (records_of s)
unfolding records_of
records_long s = first_long (length s / 12) s (omega arith)

-- the first record from byte i on, and those behind it
pub records_next : (s : List ℕ) (i : ℕ) → i + 12 ≤ length s → from s i ≡ take 12 (drop i s) ∷ from s (i + 12)
unfolding records_of first_records
records_next s i h =
    let n : length (drop i s) / 12 ≡ suc (length (drop (i + 12) s) / 12) = omega (arith, length-drop i s, length-drop (i + 12) s) in
    rw (n, first_records, drop-drop)

pub records_end : (s : List ℕ) (i : ℕ) → length s < i + 12 → from s i ≡ []
unfolding records_of first_records
records_end s i h = let n : length (drop i s) / 12 ≡ 0 = omega (arith, length-drop i s) in rw n

-- as many bytes as 12 for each record
pub flatten_length : {rs : List (List ℕ)} → All Long rs → length (flatten rs) ≡ length rs * 12
unfolding flatten
flatten_length none = refl
flatten_length (also {x} {xs} h hs) = omega (arith, length-append x (flatten xs), flatten_length hs)

-- a store put together of records has these records
flattened : {rs : List (List ℕ)} → All Long rs → first_records (length rs) (flatten rs) ≡ rs
unfolding flatten first_records
flattened none = refl
flattened (also {x} {xs} h hs) = rw (take_at x (flatten xs) 12 h, drop_at x (flatten xs) 12 h, flattened hs)

pub records_flatten : {rs : List (List ℕ)} → All Long rs → records_of (flatten rs) ≡ rs
unfolding records_of
records_flatten {rs} h =
    let n : length (flatten rs) / 12 ≡ length rs = omega (arith, flatten_length h) in
    ap (λ (n : ℕ). first_records n (flatten rs)) n ∙ flattened h

-- a field of a record, in the store that holds it
part_within : (m k n : ℕ) (l : List ℕ) → k + m ≤ n → take m (drop k (take n l)) ≡ take m (drop k l)
part_within m zero n l h = take-take m n l (omega arith)
part_within m (suc k) zero l h = absurd (omega arith)
part_within m (suc k) (suc n) [] h = refl
part_within m (suc k) (suc n) (a ∷ l) h = part_within m k n l (omega arith)

pub record_field : (s : List ℕ) (o k : ℕ) → k + 2 ≤ 12 → unsigned_at (take 12 (drop o s)) k ≡ unsigned_at s (o + k)
unfolding unsigned_at
record_field s o k h = rw (part_within 2 k 12 (drop o s) h, drop-drop k o s)

-- the point of a record, in the store that holds it
pub record_point : (s : List ℕ) (o : ℕ) → record_at (take 12 (drop o s)) 0 ≡ record_at s o
unfolding signed_at
record_point s o =
    let f : (k : ℕ) → k + 2 ≤ 12 → unsigned_at (take 12 (drop o s)) k ≡ unsigned_at s (o + k) = record_field s o in
    rw (f 0 (omega arith), f 2 (omega arith), f 4 (omega arith), f 6 (omega arith), f 8 (omega arith), f 10 (omega arith), add-zero)

-- the two bytes of a record's last field
pub frame_read : (s : List ℕ) (i : ℕ) → i + 12 ≤ length s
    → from_big_endian (get_or s (i + 10) 0 ∷ get_or s (i + 11) 0 ∷ []) ≡ frame_of (take 12 (drop i s))
unfolding frame_of unsigned_at
frame_read s i h =
    let e : i + 10 + 1 ≡ i + 11 = omega arith in
    rw e at (pair_at s (i + 10) (omega arith)) ∙ sym (record_field s i 10 (omega arith))
