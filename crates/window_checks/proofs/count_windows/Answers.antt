-- What the checks that pass before tell of the numbers that windows are counted by.
use Rattle.std.proofs.Common.{sym}
use Rattle.window_checks.proofs.Passed.{counted}
use Rattle.window_checks.proofs.count_windows.Goals as goal

pub window_count-count-requires : goal.window_count-count-requires
window_count-count-requires c =
    let w = counted c.args.store.now c.args.job c.args.k c.args.h (sym c.in_ok-check_given.ensures) (sym c.in_ok-check_window.ensures) in
    (w.taken.few, w.taken.hops, w.records_few)
