-- The sum of two 16-bit numbers fits 32 bits, and its half 16.
use Rattle.std.proofs.Common.{◌∙◌}
use mir.Facts.{to_z-of_z}
use Rattle.boxes.proofs.HalfSum.{half_there}
use Rattle.boxes.proofs.middle.Goals as goal

pub returns : goal.returns
returns c =
    half_there c.args.lo c.args.hi c.ranges.lo c.ranges.hi c.from.result c.from-2.result (c.from.ensures ∙ to_z-of_z c.ranges.lo)
    (c.from-2.ensures ∙ to_z-of_z c.ranges.hi)
