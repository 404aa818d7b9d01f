-- The first k coordinates stand from `at` on, and the rest is as it was.
use Rattle.std.proofs.Common.{◌+◌, ◌*◌, take, ◌++◌}
use Rattle.fields.specs.Fields.{vector_bytes}
use Rattle.fields.proofs.Storing.{Stored}
use Rattle.fields.proofs.put_vector.Given as goal

abbrev pub invariant-loop-k : goal.invariant-loop-k
invariant-loop-k l =
    Stored (take l.at l.initial.bytes ++ vector_bytes (take l.k l.w-items)) (l.at + 2 * l.k) l.initial.bytes l.bytes
