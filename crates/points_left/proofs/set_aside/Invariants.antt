-- The first i labels are those of the first i points, and so many of these are samples.
use Rattle.std.proofs.Common.{◌≡◌, length}
use Rattle.points.specs.Points.{first_points}
use Rattle.rounds.specs.Rounds.{samples}
use Rattle.labels.proofs.Filling.{Filled}
use Rattle.points_left.specs.Left.{first_label}
use Rattle.points_left.proofs.set_aside.Given as goal

abbrev pub invariant-loop-i : goal.invariant-loop-i
invariant-loop-i l =
    Filled first_label l.store l.initial.labels l.i l.labels × (l.left ≡ length (samples (first_points l.store l.i)))
