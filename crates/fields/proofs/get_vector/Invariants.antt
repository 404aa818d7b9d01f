-- The coordinates so far.
use Rattle.std.proofs.Common.{ℕ, ◌≡◌, ◌<◌, length, get_or, pos}
use Rattle.fields.specs.Fields.{vector_of}
use Rattle.fields.proofs.get_vector.Given as goal

abbrev pub invariant-loop-k : goal.invariant-loop-k
invariant-loop-k l =
    (length l.w-items ≡ 8) × ((j : ℕ) → j < l.k → get_or l.w-items j (pos 0) ≡ get_or (vector_of l.part) j (pos 0))
