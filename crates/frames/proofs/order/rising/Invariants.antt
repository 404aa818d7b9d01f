-- The frame numbers rise exactly if those from record k - 1 on do.
use Rattle.std.proofs.Common.{◌≡◌, ◌-◌, ◌*◌, map}
use Rattle.frames.specs.Walk.{from}
use Rattle.frames.specs.Frames.{frame_of, frames_of, rising}
use Rattle.frames.proofs.order.rising.Given as goal

abbrev pub invariant-loop-k : goal.invariant-loop-k
invariant-loop-k l = rising (frames_of l.store) ≡ rising (map frame_of (from l.store (12 * l.k - 12)))
