-- Labels through the C interface: the vector is a buffer of 8 numbers, looked at before every other check. An output that is too small is
-- refusal 10.
use Rattle.std.specs.Prelude.{cond, List, ℕ, eqb, ℤ, length}
use Rattle.jobs.specs.declared.Model.{Model}
use Rattle.labels.specs.Labels.{labels_answer, labelled}
use Rattle.c_boundary.specs.Boundary.{Call, if_lengths}

-- the number of labels, or what refuses
abbrev pub labels_call : List ℕ → Model → List ℤ → List ℕ → Call
labels_call store m v out = if_lengths (eqb (length v) 8) (labels_answer store m v out)

-- the lent labels afterwards
abbrev pub labels_after : List ℕ → Model → List ℤ → List ℕ → List ℕ
labels_after store m v out = cond (eqb (length v) 8) (labelled store m v out) out
