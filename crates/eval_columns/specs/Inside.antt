-- What the loops that decode a store say of a column.
use Rattle.std.specs.Prelude.{List, ℕ, ◌+◌, ◌*◌, ◌<◌, Float}
use Rattle.points.specs.Points.{signed_at}
use Rattle.eval_lanes.specs.Lanes.{cell}
use Rattle.eval_columns.specs.Columns.{record_in, field, Cast, Scaled}

-- the numbers are a field of the records from record i on, where it is `at` bytes from the record's beginning
abbrev pub FieldOfRecords : List ℕ → ℕ → ℕ → ℕ → Float → Float → Type 0
FieldOfRecords store i at k old x = Cast x (signed_at store ((i + k) * 12 + at))

-- the numbers are field c of the records in the slots of chunk t
abbrev pub FieldOfSlots : List ℕ → ℕ → ℕ → ℕ → Float → Float → Type 0
FieldOfSlots store t c k old x = Cast x (field c (record_in store t k))

-- the columns of a chunk are the records of chunk t of a store, gaps too
pub record RecordsOf (store : List ℕ) (t d : ℕ) (s : List (List Float)) : Type 0 where
  pub column : (c k : ℕ) → c < d → c < 4 → k < 80 → Cast (cell s c k) (field c (record_in store t k))
  pub target : (k : ℕ) → k < 80 → Cast (cell s 4 k) (record_in store t k).y

-- and so with y times a power of two
pub record ScaledOf (store : List ℕ) (t d power : ℕ) (s : List (List Float)) : Type 0 where
  pub column : (c k : ℕ) → c < d → c < 4 → k < 80 → Cast (cell s c k) (field c (record_in store t k))
  pub target : (k : ℕ) → k < 80 → Scaled (cell s 4 k) (record_in store t k).y power
