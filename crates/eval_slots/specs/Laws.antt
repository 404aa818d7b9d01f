-- What is shown of empty slots and of chunks. The proofs stand in proofs/Empty.antt and proofs/Summing.antt.
use Rattle.std.specs.Prelude.{List, ◌≡◌, ℕ, ℤ}
use Rattle.boxes.specs.declared.Box.{Box}
use Rattle.jobs.specs.declared.Model.{Model}
use Rattle.points.specs.declared.Point.{Point}
use Rattle.residuals.specs.Cost.{least, size_at, least_at, least_size, least_over}
use Rattle.eval_columns.specs.Columns.{nowhere, placed}

-- An all-zero point has size 0 under every vector and over every box, so an empty slot costs nothing and no loop tests for it.
pub record EmptySlot (m : Model) : Type 0 where
  pub at_vector : (v : List ℤ) (j : ℕ) → size_at m v nowhere j ≡ 0
  pub over_box : (B : Box) (j : ℕ) → least_size m B nowhere j ≡ 0

-- So the least size of what is placed in a slot is its point's, sample or gap.
pub record PlacedPoint (m : Model) (q : Point) : Type 0 where
  pub at_vector : (v : List ℤ) → least (size_at m v (placed q)) m.n ≡ least_at m v q
  pub over_box : (B : Box) → least (least_size m B (placed q)) m.n ≡ least_over m B q
