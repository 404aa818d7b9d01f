-- The losses of a chunk, in double precision, step by step as the machine does. proofs/Exact.antt says which whole numbers these are for
-- the points of a store.
use Rattle.std.specs.Prelude.{Bool, cond, List, [], ◌∷◌, ◌++◌, map, ◌≡◌, ℕ, zero, suc, ◌+◌, ◌*◌, ◌<◌, min, ℤ, pos, get_or, replicate, Float}
use Rattle.std.specs.Float.{binary64}
use Rattle.std.specs.Float.Ieee.{of_int}
use Rattle.jobs.specs.declared.Model.{Model}
use Rattle.eval_whole.specs.Whole.{Within, smaller_of, zeroth}
use Rattle.eval_lanes.specs.Lanes.{lane, four, taken}
use Rattle.eval_sizes.specs.Sizes.{size_in}
use Rattle.eval_box_ends.specs.Ends.{least_in}
use Rattle.eval_losses.specs.Losses.{loss_in, group_sums, chunk_sum}

-- the coordinates of a vector as doubles, and four zeros behind them
unfoldable pub doubles : List ℤ → List Float
doubles v = map (of_int binary64) v ++ replicate 4 zeroth

-- each of them is its coordinate
abbrev pub Doubles : List ℤ → List Float → Type 0
Doubles v u = (k : ℕ) → k < 8 → Within (lane u k) (get_or v k (pos 0)) 32768

-- the four coordinates from place b on, and each by its place
abbrev pub line_at : List Float → ℕ → List Float
line_at u b = lane u b ∷ lane u (b + 1) ∷ lane u (b + 2) ∷ lane u (b + 3) ∷ []

abbrev pub line : List Float → ℕ → ℕ → Float
line u b = four (lane u b) (lane u (b + 1)) (lane u (b + 2)) (lane u (b + 3))

-- of point k and the line whose coordinates begin at place b: over the box from low to high the least size, else |e| under low
abbrev pub size_by : Bool → List (List Float) → List Float → List Float → ℕ → ℕ → ℕ → Float
size_by over s low high d b k =
    cond over (least_in s (line low b) (line high b) (taken d) k) (size_in s (line low b) (taken d) k)

-- the least of `most` and the sizes of n lines
unfoldable pub least_by : Bool → List (List Float) → List Float → List Float → ℕ → Float → ℕ → ℕ → Float
least_by over s low high d most zero k = most
least_by over s low high d most (suc n) k = smaller_of (least_by over s low high d most n k) (size_by over s low high d (min (n * d) 8) k)

-- eighty numbers became the least of themselves and the sizes of n lines
abbrev pub LeastOf : Bool → List (List Float) → List Float → List Float → ℕ → ℕ → List Float → List Float → Type 0
LeastOf over s low high d n old new = (k : ℕ) → k < 80 → lane new k ≡ least_by over s low high d (lane old k) n k

-- 2^33, which no size reaches, and eighty of it
abbrev pub no_size : Float
no_size = of_int binary64 (pos 8589934592)

abbrev pub no_sizes : List Float
no_sizes = replicate 80 no_size

-- the least size of point k
unfoldable pub chunk_size : Bool → List (List Float) → List Float → List Float → Model → ℕ → Float
chunk_size over s low high m k = least_by over s low high m.d no_size m.n k

-- its loss
abbrev pub loss_by : Bool → List (List Float) → List Float → List Float → Model → ℕ → Float
loss_by over s low high m k = loss_in m.p (of_int binary64 (pos m.eps)) (chunk_size over s low high m k)

-- the sums of the losses by groups, and of all
unfoldable pub group_losses : Bool → List (List Float) → List Float → List Float → Model → List ℕ
group_losses over s low high m = group_sums (loss_by over s low high m)

unfoldable pub chunk_loss : Bool → List (List Float) → List Float → List Float → Model → ℕ
chunk_loss over s low high m = chunk_sum (loss_by over s low high m)
