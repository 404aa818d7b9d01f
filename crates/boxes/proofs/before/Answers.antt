-- The library's order of arrays of one length.
use Rattle.std.proofs.Common.{◌≡◌, ◌∙◌, length, rules}
use Rattle.boxes.proofs.Coordinates.{before_is}
use Rattle.boxes.proofs.before.Goals as goal

pub returns : goal.returns
returns c =
    let same : length c.args.v ≡ length c.args.w = search rules in
    c.lt.ensures ∙ before_is c.args.v c.args.w same
