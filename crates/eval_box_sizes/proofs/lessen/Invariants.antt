-- The lanes before i are done.
use Rattle.std.proofs.Common.{◌≡◌}
use Rattle.eval_whole.specs.Whole.{smaller_of}
use Rattle.eval_lanes.specs.Inside.{Filled}
use Rattle.eval_box_ends.specs.Ends.{over_line}
use Rattle.eval_box_sizes.proofs.lessen.Given as goal

abbrev pub invariant-loop-i : goal.invariant-loop-i
invariant-loop-i g l = Filled 0 (λ k m r. r ≡ smaller_of m (over_line l.s l.over g.row.D k)) l.initial.least l.i l.least
