-- A walk through two stores, record by record of their union.
use Rattle.std.specs.Prelude.{cond, List, [], ◌∷◌, ℕ, leb, drop}
use Rattle.frames.specs.Frames.{frame_of, records_of}

-- the records from byte i of a store on
abbrev pub from : List ℕ → ℕ → List (List ℕ)
from store i = records_of (drop i store)

-- How many bytes the walk goes on in the first list's store: past its first record, unless one of the other comes before it.
unfoldable pub stride : List (List ℕ) → List (List ℕ) → ℕ
stride [] ss = 0
stride (r ∷ rs) [] = 12
stride (r ∷ rs) (s ∷ ss) = cond (leb (frame_of r) (frame_of s)) 12 0
