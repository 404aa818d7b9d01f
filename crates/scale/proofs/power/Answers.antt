-- A power that is doubled again is 2 ^ 14 at most.
use Rattle.std.proofs.Common.{◌^◌, ◌≤◌}
use native.Mathlib.Omega.{arith}
use lib.Pow.{pow_mono}
use Rattle.scale.proofs.power.Goals as goal

pub overflow_mul-p : goal.overflow_mul-p
overflow_mul-p c =
    let small : 2 ^ c.loop.counter ≤ 2 ^ 14 = pow_mono {j = 14} (omega arith) in
    record { fits = omega (arith, small) }
