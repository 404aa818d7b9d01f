-- Each name and number behind the one before. A name has 6 to 8 bytes, and there is room for 20 digits behind each.
use Rattle.std.proofs.Common.{arith}
use Rattle.decimal.proofs.Putting.{put_in, put_behind}
use Rattle.answer_line.proofs.put_numbers.Goals as goal

pub returns-clause-put : goal.returns-clause-put
returns-clause-put c =
    let cost = put_in c.put_field.ensures.put (omega arith) in
    let bound = put_behind cost c.put_field-2.ensures.put (omega arith) in
    let splits = put_behind bound (rw c.from.ensures at c.put_field-3.ensures.put) (omega arith) in
    let opened = put_behind splits c.put_field-4.ensures.put (omega arith) in
    put_behind opened c.put_field-5.ensures.put (omega arith)
