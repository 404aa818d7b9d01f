-- Each field is stored behind the ones before it, so that the record is their concatenation.
use Rattle.std.proofs.Common.{rules, arith, [], ◌∷◌}
use Rattle.fields.proofs.Storing.{nothing_stored, bytes_then, number_then, vector_then, all_stored}
use Rattle.job_records.specs.Jobs.{job_bytes}
use Rattle.job_records.proofs.put_job.Goals as goal

pub returns : goal.returns
unfolding job_bytes
returns c =
    let job = c.args.job in
    let bytes = c.args.bytes.now in
    let m = job.model in
    let shape = bytes_then (nothing_stored bytes) (m.n ∷ m.d ∷ m.scale ∷ m.p ∷ []) (omega arith) c.copy_from_slice.ensures.after in
    let eps = number_then shape 4 m.eps (omega arith) (rw c.from.ensures at c.put_number.ensures) in
    let t = number_then eps 8 job.t (omega arith) c.put_number-2.ensures in
    let budget = number_then t 4 job.budget (omega arith) (rw c.from-2.ensures at c.put_number-3.ensures) in
    let rows = number_then budget 4 job.rows (omega arith) (rw c.from-3.ensures at c.put_number-4.ensures) in
    let low = vector_then rows job.domain.low (search rules) (omega arith) c.put_vector.ensures in
    let high = vector_then low job.domain.high (search rules) (omega arith) c.put_vector-2.ensures in
    all_stored (vector_then high job.start (search rules) (omega arith) c.put_vector-3.ensures)
