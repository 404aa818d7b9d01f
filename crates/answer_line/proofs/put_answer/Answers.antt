-- The word, the fields and byte 10, one behind the other.
use Rattle.std.proofs.Common.{arith}
use Rattle.decimal.proofs.Putting.{put_more, put_in, put_behind}
use Rattle.answer_line.proofs.put_answer.Goals as goal

pub returns-clause-put : goal.returns-clause-put
returns-clause-put c =
    let word = put_in c.put_bytes.ensures.put (omega arith) in
    let fields = put_more word c.put_fields.ensures.put in
    put_behind fields c.put_bytes-2.ensures.put (omega (arith, word.place))
