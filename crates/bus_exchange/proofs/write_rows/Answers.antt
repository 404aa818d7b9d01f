-- The front of the table is lent.
use Rattle.std.proofs.Common.{ℕ, ◌∙◌, ap, sym, length, arith}
use Rattle.std.proofs.Math.Seq.{length-take-le}
use Rattle.registers.specs.Registers.{written}
use Rattle.bus_exchange.proofs.write_rows.Goals as goal

pub slice_bounds-write-end-2 : goal.slice_bounds-write-end-2
slice_bounds-write-end-2 c = sym (length-take-le c.numbers_lent-n.result c.args.table.now (omega (arith, c.numbers_lent-n.ensures, c.requires)))

pub returns : goal.returns
returns c =
    let a = c.args in
    c.write.ensures.registers
    ∙ ap (λ (k : ℕ). written a.store.now a.registers.bytes a.offset a.value k (length a.bounds.now))
    (length-take-le c.numbers_lent-n.result a.table.now (omega (arith, c.numbers_lent-n.ensures, c.requires)) ∙ c.numbers_lent-n.ensures)
