-- Both ends are those of the products before c.
use Rattle.std.proofs.Common.{◌≡◌}
use Rattle.eval_lanes.specs.Lanes.{lane}
use Rattle.eval_box_ends.specs.Ends.{least_end, opposite_end}
use Rattle.eval_box_ends.proofs.Span.ends.Given as goal

abbrev pub invariant-loop-c : goal.invariant-loop-c
invariant-loop-c g l =
    (l.e.least ≡ least_end (lane l.self.low) (lane l.self.high) (lane l.x) l.y l.c)
    × (l.e.opposite ≡ opposite_end (lane l.self.low) (lane l.self.high) (lane l.x) l.y l.c)
