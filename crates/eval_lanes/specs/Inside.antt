-- What loops that write lanes say of them.
use Rattle.std.specs.Prelude.{List, ◌≡◌, ℕ, ◌≤◌, ◌<◌, length, Float}
use Rattle.eval_lanes.specs.Lanes.{lane}

-- those from place p to i are new, R says of each its place, what it was and what it is, and the rest is as it was
pub record Filled (p : ℕ) (R : ℕ → Float → Float → Type 0) (old : List Float) (i : ℕ) (xs : List Float) : Type 0 where
  pub begun : p ≤ i
  pub long : length xs ≡ length old
  pub done : (k : ℕ) → p ≤ k → k < i → R k (lane old k) (lane xs k)
  pub front : (k : ℕ) → k < p → lane xs k ≡ lane old k
  pub rest : (k : ℕ) → i ≤ k → lane xs k ≡ lane old k
