-- The sums before g are written and added up, and those of the chunk are known behind its first group.
use Rattle.std.proofs.Common.{◌*◌, ◌/◌, ◌%◌, ◌≤◌}
use Rattle.points.specs.Points.{points_of}
use Rattle.eval_kernel.specs.Kernel.{Doubles}
use Rattle.beacon_costs.specs.Inside.{ChunkSums}
use Rattle.beacon_costs.proofs.Writing.{Written}
use Rattle.beacon_costs.proofs.write_sums.Given as goal

abbrev pub invariant-loop-g : goal.invariant-loop-g
invariant-loop-g l = record {
  written : (v : _) → Doubles v l.w → Written l.m (points_of l.store) v l.initial.sums l.g l.total l.sums;
  known : 1 ≤ l.g % 4 → ChunkSums l.m l.store l.w (l.g / 4) l.four;
  small : l.total ≤ l.g * 9007199254740992;
}
