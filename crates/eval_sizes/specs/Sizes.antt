-- What a loop over the points of a chunk computes for a line, in double precision, step by step as the machine does. proofs/Exact.antt
-- says which whole numbers these are.
use Rattle.std.specs.Prelude.{List, ℕ, Float}
use Rattle.std.specs.Float.{binary64}
use Rattle.std.specs.Float.Ieee.{mul}
use Rattle.eval_whole.specs.Whole.{sized}
use Rattle.eval_lanes.specs.Lanes.{cell, xs_at, lessened}

-- y less d products: e of the numbers of a point and of a line's coordinates
abbrev pub line_residual : (ℕ → Float) → (ℕ → Float) → Float → ℕ → Float
line_residual w x = lessened (λ k. mul binary64 (w k) (x k))

-- |e| of point k and a line of d coordinates w
abbrev pub size_in : List (List Float) → (ℕ → Float) → ℕ → ℕ → Float
size_in s w d k = sized (line_residual w (xs_at s k) (cell s 4 k) d)
