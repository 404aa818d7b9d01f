-- Where the points of a store stand in its columns: 19 records to a group of 20 slots, whose last is empty, and four groups to a chunk. An
-- empty slot, there, behind the last record or of a gap, is all zero, which costs nothing under any vector or box.
use Rattle.std.specs.Prelude.{◌&&◌, cond, List, [], ◌∷◌, ◌≡◌, ℕ, ◌+◌, ◌*◌, ◌/◌, ◌%◌, ◌≤◌, ◌<◌, min, ltb, ℤ, pos, nat_abs, length, get_or, Float}
use Rattle.std.specs.Float.{binary64}
use Rattle.std.specs.Float.Ieee.{mul, of_int}
use Rattle.points.specs.declared.Point.{Point}
use Rattle.points.specs.Points.{point_at, is_gap}
use Rattle.eval_lanes.specs.Lanes.{cell}

-- what stands in an empty slot
abbrev pub nowhere : Point
nowhere = record { x1 = pos 0; x2 = pos 0; x3 = pos 0; x4 = pos 0; y = pos 0; frame = 0 }

-- the number of the record in slot k of chunk t, where there is one
abbrev pub number : ℕ → ℕ → ℕ
number t k = t * 76 + k / 20 * 19 + k % 20

-- the record whose slot it is
unfoldable pub record_in : List ℕ → ℕ → ℕ → Point
record_in store t k = cond (ltb (k % 20) 19 && ltb (number t k) (length store / 12)) (point_at store (number t k)) nowhere

-- a gap leaves its slot empty
unfoldable pub placed : Point → Point
placed q = cond (is_gap q) nowhere q

-- the point in slot k of chunk t
unfoldable pub slot : List ℕ → ℕ → ℕ → Point
slot store t k = placed (record_in store t k)

-- how many chunks the records of a store fill, the last one in part
abbrev pub chunks : List ℕ → ℕ
chunks store = (length store / 12 + 75) / 76

-- the five numbers of a point that a cost uses, in the order of the columns
abbrev pub field : ℕ → Point → ℤ
field c q = get_or (q.x1 ∷ q.x2 ∷ q.x3 ∷ q.x4 ∷ q.y ∷ []) c (pos 0)

-- x is the 16-bit number z in double precision; where z is 0, x is +0
pub record Cast (x : Float) (z : ℤ) : Type 0 where
  pub is : x ≡ of_int binary64 z
  pub small : nat_abs z ≤ 32768

-- x is such a number times a power of two, multiplied in double precision
pub record Scaled (x : Float) (y : ℤ) (power : ℕ) : Type 0 where
  pub is : x ≡ mul binary64 (of_int binary64 y) (of_int binary64 (pos power))
  pub small : nat_abs y ≤ 32768
  pub factor : power < 65536

-- The columns of a chunk are chunk t of a store: the first d of the x, and y times a power of two.
pub record ChunkOf (store : List ℕ) (t d power : ℕ) (s : List (List Float)) : Type 0 where
  pub column : (c k : ℕ) → c < d → c < 4 → k < 80 → Cast (cell s c k) (field c (slot store t k))
  pub target : (k : ℕ) → k < 80 → Scaled (cell s 4 k) (slot store t k).y power

-- how many of them are decoded: all, where there is room, since check 1 lets no more than 54 through
abbrev pub decoded_chunks : List ℕ → List (List (List Float)) → ℕ
decoded_chunks store lanes = min (min (chunks store) (length lanes)) 54

-- what decoding does to lanes: as many chunks as there are, or as have room; the x behind the d-th, and chunks behind those, are as they
-- were
pub record DecodedInto (store : List ℕ) (d power : ℕ) (old new : List (List (List Float))) : Type 0 where
  pub here : (t : ℕ) → t < decoded_chunks store old → ChunkOf store t d power (get_or new t [])
  pub columns : (t c : ℕ) → d ≤ c → c < 4 → get_or (get_or new t []) c [] ≡ get_or (get_or old t []) c []
  pub rest : (t : ℕ) → decoded_chunks store old ≤ t → get_or new t [] ≡ get_or old t []

-- a decoded store
pub record Decoded (store : List ℕ) (d power : ℕ) (lanes : List (List (List Float))) : Type 0 where
  pub all : decoded_chunks store lanes ≡ chunks store
  pub chunk : (t : ℕ) → t < chunks store → ChunkOf store t d power (get_or lanes t [])
