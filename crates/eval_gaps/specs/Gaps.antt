-- A mark among numbers side by side: y of a gap lies on it, and y of every sample above it.
use Rattle.std.specs.Prelude.{Bool, true, ◌&&◌, List, ℕ, zero, suc, Float}
use Rattle.std.specs.Float.Ieee.{lt}
use Rattle.eval_lanes.specs.Lanes.{lane}

-- the first n numbers all lie above a mark
unfoldable pub all_above : Float → List Float → ℕ → Bool
all_above mark ys zero = true
all_above mark ys (suc n) = lt mark (lane ys n) && all_above mark ys n
