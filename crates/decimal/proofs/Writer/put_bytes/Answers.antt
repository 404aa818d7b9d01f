-- The word is the part that was overwritten.
use Rattle.std.proofs.Common.{◌-◌, ◌≤◌, ◌<◌, length, arith, rules}
use Rattle.decimal.proofs.Putting.{put_part, is_put}
use Rattle.decimal.proofs.Writer.put_bytes.Goals as goal

pub returns-clause-put : goal.returns-clause-put
returns-clause-put c =
    let w = c.args.self.now in
    let word = c.args.word.now in
    let some : 0 < length word = search rules in
    let roomy : length word ≤ length w.buffer.now - w.at = omega arith in
    rw c.copy_from_slice.ensures.after (is_put roomy (put_part w.buffer.now word w.at _ (omega arith) (omega arith)))
