-- What a loop over the points of a chunk computes for a line over a box, in double precision, step by step as the machine does.
-- proofs/Exact.antt says which whole numbers these are.
use Rattle.std.specs.Prelude.{List, ℕ, zero, suc, Float}
use Rattle.std.specs.Float.{binary64}
use Rattle.std.specs.Float.Ieee.{neg, add, mul}
use Rattle.eval_whole.specs.Whole.{larger_of, smaller_of, zeroth}
use Rattle.eval_lanes.specs.Lanes.{lane, cell, xs_at, lessened}
use Rattle.eval_box_ends.specs.declared.Span.{Span}

-- emin of the numbers of a point and of a line's ends: y less d products, each the larger of two
abbrev pub least_end : (ℕ → Float) → (ℕ → Float) → (ℕ → Float) → Float → ℕ → Float
least_end low high x = lessened (λ k. larger_of (mul binary64 (low k) (x k)) (mul binary64 (high k) (x k)))

-- −emax: d products, each the smaller of two, added to −y
unfoldable pub opposite_end : (ℕ → Float) → (ℕ → Float) → (ℕ → Float) → Float → ℕ → Float
opposite_end low high x y zero = neg y
opposite_end low high x y (suc d) =
    add binary64 (opposite_end low high x y d) (smaller_of (mul binary64 (low d) (x d)) (mul binary64 (high d) (x d)))

-- "emin if emin > 0, −emax if emax < 0, else 0", by emin and −emax
abbrev pub nearest : Float → Float → Float
nearest emin opposite = larger_of zeroth (larger_of emin opposite)

-- the least size over a box of point k and a line of d coordinates
abbrev pub least_in : List (List Float) → (ℕ → Float) → (ℕ → Float) → ℕ → ℕ → Float
least_in s low high d k =
    nearest (least_end low high (xs_at s k) (cell s 4 k) d) (opposite_end low high (xs_at s k) (cell s 4 k) d)

-- by the ends of the line's coordinates
abbrev pub over_line : List (List Float) → Span → ℕ → ℕ → Float
over_line s b = least_in s (lane b.low) (lane b.high)
