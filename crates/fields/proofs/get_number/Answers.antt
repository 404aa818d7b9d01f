use Rattle.std.proofs.Common.{arith}
use Rattle.fields.proofs.Eight.{number_read, number_small}
use Rattle.fields.proofs.get_number.Goals as goal

pub returns-in-Some-clause-value : goal.returns-in-Some-clause-value
returns-in-Some-clause-value c =
    let a = c.args in
    let place = c.in-Some.ensures in
    number_read a.bytes.now a.at a.k c.in-Some.end c.copy_from_slice.new.self c.from_be_bytes.result (omega arith) place.0 place.1 c.copy_from_slice.ensures.after
    c.from_be_bytes.ensures

pub returns-in-Some-clause-small : goal.returns-in-Some-clause-small
returns-in-Some-clause-small c =
    let a = c.args in
    rw (returns-in-Some-clause-value c) (number_small a.bytes.now a.at a.k c.type_inv.bytes (omega arith) c.in-Some.ensures.0)
