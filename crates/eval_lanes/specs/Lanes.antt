-- Numbers side by side, in double precision: a list of them, and columns of them.
use Rattle.std.specs.Prelude.{List, [], ◌∷◌, ◌≡◌, ℕ, zero, suc, ◌<◌, min, max, get_or, Float}
use Rattle.std.specs.Float.{nan, binary64}
use Rattle.std.specs.Float.Ieee.{sub}
use Rattle.eval_whole.specs.Whole.{smaller_of}

-- number k of a list
abbrev pub lane : List Float → ℕ → Float
lane xs k = get_or xs k nan

-- number k of column c
abbrev pub cell : List (List Float) → ℕ → ℕ → Float
cell s c k = lane (get_or s c []) k

-- four numbers by their places
abbrev pub four : Float → Float → Float → Float → ℕ → Float
four a b c d = lane (a ∷ b ∷ c ∷ d ∷ [])

-- the four x of point k of a chunk
abbrev pub xs_at : List (List Float) → ℕ → ℕ → Float
xs_at s k = four (cell s 0 k) (cell s 1 k) (cell s 2 k) (cell s 3 k)

-- how many of the four are used for a d: one at least
abbrev pub taken : ℕ → ℕ
taken d = max 1 (min d 4)

-- y − t 0 − … − t (d − 1)
unfoldable pub lessened : (ℕ → Float) → Float → ℕ → Float
lessened t y zero = y
lessened t y (suc d) = sub binary64 (lessened t y d) (t d)

-- eighty numbers became the smaller of themselves and others
abbrev pub Lessened : List Float → List Float → (ℕ → Float) → Type 0
Lessened old new size = (k : ℕ) → k < 80 → lane new k ≡ smaller_of (lane old k) (size k)
