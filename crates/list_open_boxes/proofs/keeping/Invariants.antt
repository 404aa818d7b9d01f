-- The number is that of the first i rows.
use Rattle.std.proofs.Common.{◌≡◌}
use Rattle.list_open_boxes.specs.OpenBoxes.{kept_at, number}
use Rattle.list_open_boxes.proofs.keeping.Given as goal

abbrev pub invariant-loop-i : goal.invariant-loop-i
invariant-loop-i l = l.kept ≡ number (kept_at l.table l.bounds l.mark) l.i
