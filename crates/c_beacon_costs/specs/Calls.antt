-- The cost beacon by beacon through the C interface: the vector is a buffer of 8 numbers, looked at before every other check. A list that
-- is too small is refusal 10.
use Rattle.std.specs.Prelude.{cond, List, ℕ, eqb, ℤ, length}
use Rattle.jobs.specs.declared.Model.{Model}
use Rattle.beacon_costs.specs.BeaconCosts.{cost_by_beacon, sums_after}
use Rattle.c_boundary.specs.Boundary.{Call, if_lengths}

-- the total, or what refuses
abbrev pub cost_by_beacon_call : List ℕ → Model → List ℤ → List ℕ → Call
cost_by_beacon_call store m v sums = if_lengths (eqb (length v) 8) (cost_by_beacon store m v sums)

-- the lent list afterwards
abbrev pub sums_after_call : List ℕ → Model → List ℤ → List ℕ → List ℕ
sums_after_call store m v sums = cond (eqb (length v) 8) (sums_after store m v sums) sums
