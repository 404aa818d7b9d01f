-- What stands up to place k has moved, and all else is as it was.
use Rattle.std.proofs.Common.{◌≡◌, drop}
use Rattle.std.proofs.Math.Seq.{paste}
use Rattle.list_rows.proofs.slide.Given as goal

abbrev pub invariant-loop-k : goal.invariant-loop-k
invariant-loop-k g l = l.part ≡ paste l.initial.part 0 (drop l.by l.initial.part) l.k
