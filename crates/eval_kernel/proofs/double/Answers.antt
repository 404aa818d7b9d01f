-- A signed 16-bit number is at most 2^15 in size.
use Rattle.std.proofs.Common.{arith}
use mir.Syntax.{w16}
use mir.Facts.{to_z-of_z}
use Rattle.integers.proofs.Parts.{abs_fits}
use Rattle.eval_whole.proofs.Picks.{cast_within}
use Rattle.eval_kernel.proofs.double.Goals as goal

pub returns-clause-whole : goal.returns-clause-whole
returns-clause-whole c =
    let f = c.ranges.w in rw (to_z-of_z f) (cast_within c.args.w (abs_fits w16 f) (omega arith))
