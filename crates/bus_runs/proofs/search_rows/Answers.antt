-- The whole table is lent, or none of it.
use Rattle.std.proofs.Common.{arith, length, sym}
use Rattle.std.proofs.Math.Seq.{length-take-le}
use Rattle.bus_runs.proofs.Lending.{numbers_few, lent_rows}
use Rattle.bus_runs.proofs.search_rows.Goals as goal

pub slice_bounds-search-end : goal.slice_bounds-search-end
slice_bounds-search-end c = omega (arith, numbers_few c.args.job.rows (length c.args.table.now), c.numbers_for-n.ensures)

pub slice_bounds-search-end-2 : goal.slice_bounds-search-end-2
slice_bounds-search-end-2 c = sym (length-take-le c.numbers_for-n.result c.args.table.now (omega (arith, numbers_few c.args.job.rows (length c.args.table.now), c.numbers_for-n.ensures)))

pub returns : goal.returns
returns c =
    let a = c.args in
    let e = c.search.ensures in
    lent_rows a.store.now a.job a.table.now c.search.new.table a.bounds.now c.search.new.bounds
    c.search.result c.numbers_for-n.result c.numbers_for-n.ensures (e.answer, (e.table, (e.bounds, e.certificate)))
