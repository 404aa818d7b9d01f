-- The search of the front of the table.
use Rattle.std.proofs.Common.{◌≤◌, length, sym, arith}
use Rattle.std.proofs.Math.Seq.{length-take-le}
use Rattle.fit_line.proofs.Fitting.{lent_few, lent_back}
use Rattle.fit_line.proofs.search_rows.Goals as goal

pub slice_bounds-search-end : goal.slice_bounds-search-end
slice_bounds-search-end c = omega (arith, lent_few c.args.job.rows, c.numbers_lent-n.ensures, c.requires)

pub slice_bounds-search-end-2 : goal.slice_bounds-search-end-2
slice_bounds-search-end-2 c = sym (length-take-le c.numbers_lent-n.result c.args.table.now (omega (arith, lent_few c.args.job.rows, c.numbers_lent-n.ensures, c.requires)))

pub returns : goal.returns
returns c =
    let a = c.args in
    let e = c.search.ensures in
    lent_back a.store.now a.job a.table.now c.search.new.table a.bounds.now c.search.new.bounds c.search.result
    c.numbers_lent-n.result c.numbers_lent-n.ensures (omega (arith, lent_few a.job.rows, c.numbers_lent-n.ensures, c.requires)) (e.answer, (e.table, (e.bounds, e.certificate)))
