-- Sizes that were lessened from a number that no size reaches. Assumes nothing.
use mathlib.Core.Path.{◌≡◌, ap, ◌∙◌}
use mathlib.Core.Bool.{Bool}
use mathlib.Core.List.{List}
use Prim.Native.Nat.{ℕ, ◌<◌}
use lib.ListN.{get_or-replicate}
use lib.Ieee.{Float, nan}
use Rattle.jobs.specs.declared.Model.{Model}
use Rattle.eval_lanes.specs.Lanes.{lane}
use Rattle.eval_kernel.specs.Kernel.{least_by, LeastOf, no_sizes, chunk_size}

-- what is found in lanes that begin so are the sizes of a chunk
pub from_none : (over : Bool) (s : List (List Float)) (low high : List Float) (m : Model) (old new : List Float)
    → old ≡ no_sizes → LeastOf over s low high m.d m.n old new → (k : ℕ) → k < 80 → lane new k ≡ chunk_size over s low high m k
unfolding chunk_size
from_none over s low high m old new none found k h =
    found k h
    ∙ ap (λ (x : Float). least_by over s low high m.d x m.n k)
    (ap (λ (xs : List Float). lane xs k) none ∙ get_or-replicate 80 k _ nan h)
