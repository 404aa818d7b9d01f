-- What every call of the C interface has in common: a model and a job from numbers and buffers, the code that is returned, and lent memory
-- afterwards.
use Rattle.std.specs.Prelude.{Bool, true, false, List, ℕ, ◌+◌, ◌*◌, ◌%◌, ℤ, Result, Ok, Err}
use Rattle.codes.specs.declared.Refusal.{Refusal}
use Rattle.codes.specs.declared.Refusal.TheVariants.{Length, Shape, Scale, Loss, Box, Start, Stray, Table, Answer, Short, Beacon, OffGrid}
use Rattle.codes.specs.declared.Refusal.TheVariants.{Rounds, Bounds, Order, Clash, Window, Jobs}
use Rattle.codes.specs.Codes.{Check, Outcome, pass, number_of, unless_refused}
use Rattle.jobs.specs.declared.Job.{Job}
use Rattle.jobs.specs.declared.Model.{Model}
use Rattle.list_rows.specs.Rows.{row_at}
use Rattle.c_buffers.specs.Buffers.{vector_from}

-- n, d, S, p and ε, "a byte each" but for ε
abbrev pub model_of : ℕ → ℕ → ℕ → ℕ → ℕ → Model
model_of n d scale p eps = record { n = n; d = d; scale = scale; p = p; eps = eps }

-- A job from its numbers, a box of 16 numbers, low then high, and the start vector.
abbrev pub job_from : Model → ℕ → ℕ → ℕ → List ℤ → List ℤ → Job
job_from m t budget rows corners start =
    record { model = m; t = t; budget = budget; rows = rows; domain = row_at corners 0; start = vector_from start }

-- A call has buffers of the wrong length, or comes to an outcome of the product.
pub data Call : Type 0 where
  wrong_length : Call
  answered : Outcome → Call

-- The product is asked only if the lengths are right.
abbrev pub if_lengths : Bool → Outcome → Call
if_lengths true o = answered o
if_lengths false o = wrong_length

-- A call that answers no number: its check alone tells what it comes to, and the 0 is stored nowhere.
abbrev pub check_call : Bool → Check → Call
check_call lengths check = if_lengths lengths (unless_refused check 0)

-- The check of a call that answers something else: whether it refuses.
abbrev pub check_of : {A : Type 0} → Result A Refusal → Check
check_of (Ok x) = pass
check_of (Err r) = Err r

-- "every refusal but 7 returns the number alone"; 7 "returns that record's number too".
abbrev pub stray_record : Refusal → ℕ
stray_record Length = 0
stray_record Shape = 0
stray_record Scale = 0
stray_record Loss = 0
stray_record Box = 0
stray_record Start = 0
stray_record (Stray record-number) = record-number
stray_record Table = 0
stray_record Answer = 0
stray_record Short = 0
stray_record Beacon = 0
stray_record OffGrid = 0
stray_record Rounds = 0
stray_record Bounds = 0
stray_record Order = 0
stray_record Clash = 0
stray_record Window = 0
stray_record Jobs = 0

-- The code: 0 for a value; of a refusal its number in the lowest 8 of 32 bits and the record's number in the other 24, where every record's
-- number of a store fits (`Told` in Laws); or 255, which the paper's table does not have.
abbrev pub code_of : Call → ℕ
code_of wrong_length = 255
code_of (answered (Ok v)) = 0
code_of (answered (Err r)) = number_of r + 256 * (stray_record r % 16777216)

-- What lent memory holds after a call: what the call gives, if it is accepted, and else what it held.
abbrev pub if_accepted : {A : Type 0} → Call → A → A → A
if_accepted wrong_length given held = held
if_accepted (answered (Ok v)) given held = given
if_accepted (answered (Err r)) given held = held

-- What lent memory holds after a call that reads something: what is made of that, or what it held.
abbrev pub read_after : {A B : Type 0} → Bool → Result A Refusal → (A → B) → B → B
read_after true (Ok x) made held = made x
read_after true (Err r) made held = held
read_after false read made held = held

-- What the lent number holds after a call: the value, or what it held.
abbrev pub value_after : Call → ℕ → ℕ
value_after wrong_length held = held
value_after (answered (Ok v)) held = v
value_after (answered (Err r)) held = held
