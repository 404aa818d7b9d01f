-- Stores through the C interface: taking in a beacon, and two stores made one.
use Rattle.std.specs.Prelude.{List, ℕ, length}
use Rattle.beacon.specs.Beacon.{take_in_answer}
use Rattle.merge.specs.Merge.{merge_answer}
use Rattle.c_boundary.specs.Boundary.{Call, answered}

-- "the lent store may have any length"
abbrev pub take_in_call : List ℕ → ℕ → List ℕ → Call
take_in_call store mark beacon = answered (take_in_answer (length store) mark (length beacon))

-- No length is fixed by the call: each has the paper's number.
abbrev pub merge_call : List ℕ → List ℕ → List ℕ → Call
merge_call first second out = answered (merge_answer first second out)
