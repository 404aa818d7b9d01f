-- The name, and the number behind it, where there is room for both.
use Rattle.std.proofs.Common.{◌+◌, ◌-◌, ◌≤◌, length, arith}
use Rattle.decimal.proofs.Decimal.{decimal_short}
use Rattle.decimal.proofs.Putting.{put_more, is_put, put_in}
use Rattle.decimal.proofs.Writer.put_field.Goals as goal

pub put_decimal-requires : goal.put_decimal-requires
put_decimal-requires c =
    let name = put_in c.put_bytes.ensures.put (omega arith) in
    omega (arith, decimal_short c.ranges.n, name.place, name.long)

pub returns-clause-put : goal.returns-clause-put
returns-clause-put c =
    let roomy : length c.args.name.now + 20 ≤ length c.args.self.now.buffer.now - c.args.self.now.at = omega arith in
    let name = put_in c.put_bytes.ensures.put (omega arith) in
    is_put roomy (put_more name c.put_decimal.ensures.put)

pub returns-clause-short : goal.returns-clause-short
returns-clause-short c =
    let name = put_in c.put_bytes.ensures.put (omega arith) in
    omega (arith, decimal_short c.ranges.n, name.place, c.put_decimal.ensures.put.place)
