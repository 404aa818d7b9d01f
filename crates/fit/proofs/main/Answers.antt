-- What is written is no longer than the buffer that it was put into.
use Rattle.std.proofs.Common.{length, ◌≤◌}
use Rattle.std.proofs.Math.Path.{sym}
use Rattle.std.proofs.lemmas.List.{length-take-le}
use Rattle.integers.proofs.Lists.{over_long}
use Rattle.fit.proofs.main.Goals as goal

pub slice_bounds-line-end : goal.slice_bounds-line-end
slice_bounds-line-end c = rw (c.report-k.ensures.length, c.report-k.ensures.line) (over_long _ _)

pub slice_bounds-put-end : goal.slice_bounds-put-end
slice_bounds-put-end c =
    let short : c.report-k.result ≤ length c.report-k.new.out = rw (c.report-k.ensures.length, c.report-k.ensures.line) (over_long _ _) in
    sym (length-take-le _ _ short)
