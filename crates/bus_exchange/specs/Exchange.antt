-- What the program named bus makes of its input: a store, with the number of its records before it, and then a driver's accesses.
use Rattle.std.specs.Prelude.{Bool, cond, List, [], ◌∷◌, ◌++◌, ℕ, ◌+◌, ◌*◌, ◌/◌, min, leb, eqb, length, take, drop}
use Rattle.fields.specs.Fields.{number_in}
use Rattle.registers.specs.History.{History, reads, writes, job_standing, described}

-- the number of records is a 16-bit number, and each has 12 bytes
abbrev pub store_size : List ℕ → ℕ
store_size input = 12 * number_in input 0 2

abbrev pub store_of : List ℕ → List ℕ
store_of input = take (store_size input) (drop 2 input)

abbrev pub accesses_of : List ℕ → List ℕ
accesses_of input = drop (2 + store_size input) input

-- A write is lent as many rows of the table as the job record has in its field r; the table has 2,048.
abbrev pub numbers_lent : ℕ → ℕ
numbers_lent r = 16 * min r 2048

-- The history with an access of some kind: 0 reads, 1 writes, and no other is one.
unfoldable pub with_access : History → ℕ → ℕ → ℕ → History
with_access h kind offset value =
    cond (eqb kind 0) (reads offset ∷ h)
    (cond (eqb kind 1) (writes offset value (numbers_lent (job_standing h).rows) 2048 ∷ h) h)

module _ (store : List ℕ) where
  -- what a read tells: what the description gives
  unfoldable pub told : History → ℕ → ℕ → List ℕ
  told h kind offset = cond (eqb kind 0) (described store h offset ∷ []) []

  -- What accesses tell after a history. Each has four bytes: its kind, the offset, the value, and one that is not looked at; fewer bytes at
  -- the end are none.
  unfoldable pub told_by : History → List ℕ → List ℕ
  told_by h [] = []
  told_by h (kind ∷ []) = []
  told_by h (kind ∷ offset ∷ []) = []
  told_by h (kind ∷ offset ∷ value ∷ []) = []
  told_by h (kind ∷ offset ∷ value ∷ spare ∷ more) = told h kind offset ++ told_by (with_access h kind offset value) more

-- whether a buffer of so many bytes has room, were every access a read
abbrev pub enough : List ℕ → ℕ → Bool
enough input room = leb (length (accesses_of input) / 4) room

-- the replies that are written: none where there is no room
unfoldable pub replies_of : List ℕ → ℕ → List ℕ
replies_of input room = cond (enough input room) (told_by (store_of input) [] (accesses_of input)) []
