-- One product more. Assumes nothing.
use Rattle.std.proofs.Common.{◌≡◌, ◌+◌, ◌<◌, ℕ, zero, suc, List, refl, arith}
use native.Mathlib.Numerals.{add-one}
use lib.Ieee.{Float, binary64, sub, mul}
use Rattle.eval_lanes.specs.Lanes.{cell, xs_at, lessened}
use Rattle.eval_sizes.specs.Sizes.{line_residual}

-- the x of point i by its column
x_in : (s : List (List Float)) (i c : ℕ) → c < 4 → xs_at s i c ≡ cell s c i
x_in s i zero h = refl
x_in s i (suc zero) h = refl
x_in s i (suc (suc zero)) h = refl
x_in s i (suc (suc (suc zero))) h = refl
x_in s i (suc (suc (suc (suc c)))) h = absurd (omega arith)

pub one_more : (s : List (List Float)) (w : ℕ → Float) (y : Float) (i c : ℕ) → c < 4
    → sub binary64 (line_residual w (xs_at s i) y c) (mul binary64 (w c) (cell s c i)) ≡ line_residual w (xs_at s i) y (c + 1)
unfolding lessened
one_more s w y i c h = rw (add-one c, x_in s i c h)
