-- What a lent table and its list of bounds hold after several searches in them. Document 02, request 1: "Where one table serves several
-- searches, its first rows hold the last one's open boxes, and rows up to the largest peak may hold leftovers." Request 3: "Entries from
-- the open count up to peak, of several searches the largest, are as free as the rows there, and those from there on keep their contents."
use Rattle.std.specs.Prelude.{◌≡◌, List, [], ◌∷◌, map, ℕ, ◌*◌, max, ℤ, length, take, drop}
use Rattle.codes.specs.Codes.{Check, if_passed}
use Rattle.boxes.specs.declared.Box.{Box}
use Rattle.list_rows.specs.Rows.{rows_of}
use Rattle.certificate.specs.Search as Search

-- a search that was run: the bound of each box in it, and what it came to
pub record Run : Type 0 where
  pub bound : Box → ℕ
  pub found : Search.Answer

-- what a search adds to those that were run: itself, unless its check refuses it
abbrev pub run_if : Check → Run → List Run
run_if check r = if_passed check (r ∷ []) []

-- "the largest peak"; 0 where no search was run
unfoldable pub largest_peak : List Run → ℕ
largest_peak [] = 0
largest_peak (r ∷ rs) = max r.found.peak (largest_peak rs)

-- "the last one's open boxes", and their bounds; none where no search was run
unfoldable pub last_open : List Run → List Box
last_open [] = []
last_open (r ∷ []) = r.found.list
last_open (r ∷ s ∷ rs) = last_open (s ∷ rs)

unfoldable pub last_bounds : List Run → List ℕ
last_bounds [] = []
last_bounds (r ∷ []) = map r.bound r.found.list
last_bounds (r ∷ s ∷ rs) = last_bounds (s ∷ rs)

-- The table after these searches, in order: what stands between the last one's open boxes and the largest peak is free.
pub record SharedTable (runs : List Run) (table after : List ℤ) : Type 0 where
  pub long : length after ≡ length table
  pub rows : rows_of after (length (last_open runs)) ≡ last_open runs
  pub rest : drop (16 * largest_peak runs) after ≡ drop (16 * largest_peak runs) table

-- the list of bounds after them, likewise
pub record SharedBounds (runs : List Run) (bounds after : List ℕ) : Type 0 where
  pub long : length after ≡ length bounds
  pub entries : take (length (last_bounds runs)) after ≡ last_bounds runs
  pub rest : drop (largest_peak runs) after ≡ drop (largest_peak runs) bounds
