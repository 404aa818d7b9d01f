-- The numbers, the name of the vector and the used coordinates, one behind the other.
use Rattle.std.proofs.Common.{arith}
use Rattle.answer_line.specs.Line.{fields}
use Rattle.decimal.proofs.Putting.{put_more, put_in, put_behind}
use Rattle.answer_line.proofs.put_fields.Goals as goal

pub returns-clause-put : goal.returns-clause-put
unfolding fields
returns-clause-put c =
    let numbers = c.put_numbers.ensures.put in
    let name = put_in c.put_bytes.ensures.put (omega (arith, numbers.long)) in
    let used = rw (c.from.ensures, c.from-2.ensures) at c.put_joined.ensures.put in
    put_behind (put_more numbers name) used (omega (arith, name.place))
