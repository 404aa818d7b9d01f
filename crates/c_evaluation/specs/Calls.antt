-- Losses, costs and bounds through the C interface. A vector is a buffer of 8 numbers, a box one of 16, low then high, as in a row of the
-- table. Lengths are looked at before every other check.
use Rattle.std.specs.Prelude.{List, ℕ, eqb, ℤ, length}
use Rattle.jobs.specs.declared.Model.{Model}
use Rattle.loss.specs.Loss.{loss_answer}
use Rattle.costs.specs.Answers.{cost_answer, bound_answer}
use Rattle.list_rows.specs.Rows.{row_at}
use Rattle.c_boundary.specs.Boundary.{Call, if_lengths, answered}

-- the loss of a residual: no buffer
abbrev pub loss_call : ℕ → ℕ → ℤ → Call
loss_call p ε e = answered (loss_answer p ε e)

-- the cost of a vector
abbrev pub cost_call : List ℕ → Model → List ℤ → Call
cost_call store m v = if_lengths (eqb (length v) 8) (cost_answer store m v)

-- the bound of a box
abbrev pub bound_call : List ℕ → Model → List ℤ → Call
bound_call store m row = if_lengths (eqb (length row) 16) (bound_answer store m (row_at row 0))
