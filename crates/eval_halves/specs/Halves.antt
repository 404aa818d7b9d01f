-- The sums of losses over two halves of a box, which have every line in common but one: by the lanes, step by step as the machine does,
-- and of a store's own lanes by its points.
use Rattle.std.specs.Prelude.{true, cond, List, [], ◌≡◌, ℕ, zero, suc, ◌*◌, ◌^◌, ◌<◌, min, eqb, pos, length, get_or, Float}
use Rattle.std.specs.Float.{binary64}
use Rattle.std.specs.Float.Ieee.{of_int}
use Rattle.boxes.specs.declared.Box.{Box}
use Rattle.jobs.specs.declared.Model.{Model}
use Rattle.points.specs.declared.Point.{Point}
use Rattle.points.specs.Points.{points_of}
use Rattle.residuals.specs.Cost.{least_size, total_loss}
use Rattle.integers.specs.Sums.{sum_of}
use Rattle.residuals.specs.Inside.{Ready}
use Rattle.eval_whole.specs.Whole.{smaller_of}
use Rattle.eval_columns.specs.Columns.{decoded_chunks, Decoded}
use Rattle.eval_losses.specs.Losses.{loss_in, chunk_sum}
use Rattle.eval_kernel.specs.Kernel.{doubles, size_by, no_size}

-- the least of `most` and the least sizes of point k over a box, of the first n lines but line c
unfoldable pub least_but : List (List Float) → List Float → List Float → ℕ → ℕ → Float → ℕ → ℕ → Float
least_but s low high d c most zero k = most
least_but s low high d c most (suc n) k =
    cond (eqb n c) (least_but s low high d c most n k)
    (smaller_of (least_but s low high d c most n k) (size_by true s low high d (min (n * d) 8) k))

-- the loss of point k over a half: line c is the half's own, the others are those of the box from low to high
abbrev pub loss_over : List (List Float) → List Float → List Float → List Float → List Float → Model → ℕ → ℕ → Float
loss_over s low high own_low own_high m c k =
    loss_in m.p (of_int binary64 (pos m.eps))
    (smaller_of (least_but s low high m.d c no_size m.n k)
    (size_by true s own_low own_high m.d (min (c * m.d) 8) k))

-- the losses of a chunk over a half, added up
unfoldable pub half_loss : List (List Float) → List Float → List Float → List Float → List Float → Model → ℕ → ℕ
half_loss s low high own_low own_high m c = chunk_sum (loss_over s low high own_low own_high m c)

-- of chunk t of lanes
abbrev pub half_loss_in : List (List (List Float)) → Model → Box → Box → ℕ → ℕ → ℕ
half_loss_in lanes m b half c t =
    half_loss (get_or lanes t []) (doubles b.low) (doubles b.high) (doubles half.low) (doubles half.high) m c

-- the least size of point q and line j: line c is the half's own, the others are those of the box
abbrev pub half_size : Model → Box → Box → ℕ → Point → ℕ → ℕ
half_size m b half c q j = cond (eqb j c) (least_size m half q j) (least_size m b q j)

-- what a sum over a half is: by the lanes, and of the store's own by its points
pub record HalfSum (store : List ℕ) (lanes : List (List (List Float))) (m : Model) (b half : Box) (c cap r : ℕ) : Type 0 where
  pub by_lanes : r ≡ min (sum_of (half_loss_in lanes m b half c) (decoded_chunks store lanes)) cap
  pub by_points : Ready (length store) m → c < m.n → Decoded store m.d (2 ^ m.scale) lanes →
      r ≡ min (total_loss m (half_size m b half c) (points_of store)) cap
