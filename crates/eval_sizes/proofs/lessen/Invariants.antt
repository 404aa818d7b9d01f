-- The lanes before i are done.
use Rattle.std.proofs.Common.{◌≡◌}
use Rattle.eval_whole.specs.Whole.{smaller_of}
use Rattle.eval_lanes.specs.Lanes.{lane}
use Rattle.eval_lanes.specs.Inside.{Filled}
use Rattle.eval_sizes.specs.Sizes.{size_in}
use Rattle.eval_sizes.proofs.lessen.Given as goal

abbrev pub invariant-loop-i : goal.invariant-loop-i
invariant-loop-i g l = Filled 0 (λ k m r. r ≡ smaller_of m (size_in l.s (lane l.w) g.row.D k)) l.initial.least l.i l.least
