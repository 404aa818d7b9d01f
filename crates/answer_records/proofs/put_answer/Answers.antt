-- Each field is stored behind the ones before it, so that the record is their concatenation.
use Rattle.std.proofs.Common.{rules, arith, [], ◌∷◌}
use Rattle.fields.proofs.Storing.{nothing_stored, number_then, vector_then, bytes_then, all_stored}
use Rattle.answer_records.specs.Answers.{answer_bytes}
use Rattle.answer_records.proofs.put_answer.Goals as goal

pub returns : goal.returns
unfolding answer_bytes
returns c =
    let a = c.args.a in
    let vector = vector_then (nothing_stored c.args.bytes.now) a.vector (search rules) (omega arith) c.put_vector.ensures in
    let cost = number_then vector 8 a.cost (omega arith) c.put_number.ensures in
    let bound = number_then cost 8 a.bound (omega arith) c.put_number-2.ensures in
    let count = number_then bound 4 a.count (omega arith) (rw c.from.ensures at c.put_number-3.ensures) in
    all_stored (bytes_then count (a.kind ∷ a.n ∷ a.d ∷ a.scale ∷ []) (omega arith) c.copy_from_slice.ensures.after)
