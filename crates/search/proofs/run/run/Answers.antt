-- The beginning, step after step, and in the end all open boxes move into the table.
use Rattle.points.specs.Points.{points_of}
use Rattle.residuals.specs.Cost.{bound}
use Rattle.std.specs.Prelude.{replicate}
use Rattle.list_blocks.specs.declared.Blocks.{Blocks}
use Rattle.list_rows.specs.Rows.{row_count}
use Rattle.replacing.specs.Replacing.{memory}
use Rattle.search.specs.Search.{searched}
use Rattle.search.proofs.Ending.{ran}
use Rattle.search.proofs.run.run.Goals as goal

pub returns : goal.returns
returns c =
    let a = c.args in
    let x = c.begin-first.new.late in
    let w = c.steps-end.new in
    let s = c.settle in
    let blocks : Blocks = record { count = 0; leasts = replicate 64 0; places = replicate 64 0 } in
    ran (bound a.job.model (points_of a.store.now)) (searched a.store.now a.job (row_count a.table.now))
    (memory a.table.now a.bounds.now blocks x.rows x.bounds) c.steps-end.result
    (memory w.table w.bounds w.leasts w.late.rows w.late.bounds) c.steps-end.ensures s.result s.new.table s.new.bounds s.new.leasts s.ensures
    c.answer.result c.answer.ensures
