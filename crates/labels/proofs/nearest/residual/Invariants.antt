-- What is left is y × 2^S less the first k products.
use Rattle.std.proofs.Common.{◌≡◌, ◌+◌, ◌*◌, ◌≤◌, pos, nat_abs, ◌-ℤ◌, ◌*ℤ◌}
use Rattle.points.specs.Points.{xs}
use Rattle.residuals.specs.Inside.{dot}
use Rattle.labels.proofs.nearest.residual.Given as goal

abbrev pub invariant-loop-k : goal.invariant-loop-k
invariant-loop-k l =
    (l.e ≡ l.fn.q.y *ℤ pos l.power -ℤ dot l.v l.b (xs l.fn.q) l.k) × (nat_abs l.e ≤ 2147483648 + l.k * 1073741824)
