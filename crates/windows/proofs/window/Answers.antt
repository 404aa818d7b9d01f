-- The answer of an accepted job has a record that check 9 lets through, so that it is written.
use Rattle.std.proofs.Common.{◌≡◌}
use Rattle.window_runs.proofs.Passing.{alone}
use Rattle.job_records.proofs.Typed.{is_job}
use Rattle.windows.proofs.window.Goals as goal

pub returns : goal.returns
returns c =
    let a = c.args in
    let s = c.search-answer in
    let f = s.ensures in
    let w = c.write_answer in
    alone a.store.now a.job a.table.now s.new.table a.bounds.now s.new.bounds a.place.now w.new.out s.result c.record_of.result
    w.result c.requires.0 (is_job a.job _ c.well_formed.1.0) c.requires.1 (f.answer, (f.table, (f.bounds, f.certificate)))
    c.record_of.ensures (w.ensures.check, w.ensures.bytes)
