-- What is written is no longer than the buffer that it was put into.
use Rattle.std.proofs.Common.{length, ◌≤◌}
use Rattle.std.proofs.Math.Path.{sym}
use Rattle.std.proofs.lemmas.List.{length-take-le}
use Rattle.integers.proofs.Lists.{over_long}
use Rattle.bus.proofs.main.Goals as goal

pub slice_bounds-replies-end : goal.slice_bounds-replies-end
slice_bounds-replies-end c = rw (c.exchange-k.ensures.count, c.exchange-k.ensures.replies) (over_long _ _)

pub slice_bounds-put-end : goal.slice_bounds-put-end
slice_bounds-put-end c =
    let short : c.exchange-k.result ≤ length c.exchange-k.new.out = rw (c.exchange-k.ensures.count, c.exchange-k.ensures.replies) (over_long _ _) in
    sym (length-take-le _ _ short)
