-- The line of the search is that of the definition.
use Rattle.std.proofs.Common.{◌≡◌, length, min, arith}
use Rattle.fit_line.proofs.Fitting.{record_read, store_part, reported}
use Rattle.fit_line.proofs.write_line.Goals as goal

pub returns : goal.returns
returns c =
    let a = c.args in
    let e = c.line.ensures in
    let start : c.min.result ≡ min 72 (length a.input.now) = omega (arith, c.min.ensures) in
    let w =
    reported a.input.now a.table.now a.bounds.now c.requires.0 c.requires.1 c.job_or_zeros-job.result c.search_rows-answer.result
    c.search_rows-answer.new.table c.search_rows-answer.new.bounds
    (rw (store_part a.input.now c.min.result start) at c.search_rows-answer.ensures)
    a.out.now c.line.new.out c.line.result (record_read a.input.now c.job_or_zeros-job.result c.job_or_zeros-job.ensures)
    c.requires.2 (e.length, e.line) in
    record { length = w.0; line = w.1.0; table = w.1.1.0; bounds = w.1.1.1.0; certificate = w.1.1.1.1 }
