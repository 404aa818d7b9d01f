-- e is y less the products before c.
use Rattle.std.proofs.Common.{◌≡◌}
use Rattle.eval_lanes.specs.Lanes.{lane, cell, xs_at}
use Rattle.eval_sizes.specs.Sizes.{line_residual}
use Rattle.eval_sizes.proofs.size.Given as goal

abbrev pub invariant-loop-c : goal.invariant-loop-c
invariant-loop-c g l = l.e ≡ line_residual (lane l.w) (xs_at l.s l.i) (cell l.s 4 l.i) l.c
