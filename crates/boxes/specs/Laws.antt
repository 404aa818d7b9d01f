-- What is shown of boxes and of their halves, and the two laws of a bound that a search rests on. The proofs stand in proofs/; that the
-- cost and the bound of a model have the two laws is shown in residuals/proofs/Bounds.antt.
use Rattle.std.specs.Prelude.{◌≡◌, true, ◌⊎◌, ℕ, ◌+◌, ◌≤◌, ◌<◌, T, ℤ, length}
use mathlib.Core.List.{List, Memᴰ}
use Rattle.integers.specs.Lists.{All, Distinct}
use Rattle.boxes.specs.declared.Box.{Box}
use Rattle.boxes.specs.Boxes.{InBox, at_most, before, side_at, volume, grid}
use Rattle.boxes.specs.Split.{longest_side, left_half, right_half}

-- "V is their number": `grid` lists the vectors of the box and no others, each once, and V is its length.
pub record Counted (b : Box) : Type 0 where
  pub only : All (λ v. InBox v b) (grid b)
  pub every : (v : List ℤ) → InBox v b → Memᴰ v (grid b)
  pub once : Distinct (grid b)
  pub number : length (grid b) ≡ volume b

-- `before` is a strict order, which leaves no two vectors of one length unordered. The low vector of a box is the first in it.
pub record Ordered : Type 0 where
  pub strict : (v : List ℤ) → T (before v v) → ⊥
  pub along : (u v w : List ℤ) → T (before u v) → T (before v w) → T (before u w)
  pub total : (u v : List ℤ) → length u ≡ length v → (T (before u v) → ⊥) → (T (before v u) → ⊥) → u ≡ v
  pub low_first : (b : Box) (v : List ℤ) → InBox v b → T (before v b.low) → ⊥

-- "its longest side, the lowest coordinate among equals": no side is longer, and those before it are shorter.
pub record Longest (b : Box) : Type 0 where
  pub none_longer : (k : ℕ) → side_at b k ≤ side_at b (longest_side b)
  pub lowest : (k : ℕ) → k < longest_side b → side_at b k < side_at b (longest_side b)

-- The halves of a box: both are boxes, every vector of the box lies in one half and not in both, nothing else lies in a half, and the
-- volumes add up.
pub record Halved (b : Box) : Type 0 where
  pub left_box : at_most (left_half b).low (left_half b).high ≡ true
  pub right_box : at_most (right_half b).low (right_half b).high ≡ true
  pub left_some : 1 ≤ volume (left_half b)
  pub right_some : 1 ≤ volume (right_half b)
  pub covers : (v : List ℤ) → InBox v b → InBox v (left_half b) ⊎ InBox v (right_half b)
  pub apart : (v : List ℤ) → InBox v (left_half b) → InBox v (right_half b) → ⊥
  pub left_in : (v : List ℤ) → InBox v (left_half b) → InBox v b
  pub right_in : (v : List ℤ) → InBox v (right_half b) → InBox v b
  pub adds : volume (left_half b) + volume (right_half b) ≡ volume b

-- So it is with every box of two vectors or more.
abbrev pub AllHalved : Type 0
AllHalved = (b : Box) → 2 ≤ volume b → Halved b

-- Of a cost of vectors and a bound of boxes.
pub record Bounds (cost : List ℤ → ℕ) (bound : Box → ℕ) : Type 0 where
  -- Lemma 2 of source document 000: no vector of a box costs less than the box's bound
  pub sound : (b : Box) (v : List ℤ) → InBox v b → bound b ≤ cost v
  -- "A box of one vector has that vector's cost as its bound."
  pub tight : (b : Box) → volume b ≡ 1 → bound b ≡ cost b.low
