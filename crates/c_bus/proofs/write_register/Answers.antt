-- By the length of the buffer.
use Rattle.c_bus.proofs.Writing.{wrong_length_lem, right_length}
use Rattle.c_bus.proofs.write_register.Goals as goal

pub returns-then-registers-ne136 : goal.returns-then-registers-ne136
returns-then-registers-ne136 c =
    let a = c.args in
    let w = wrong_length_lem a.registers.now a.offset a.value a.store.now a.table.now a.bounds.now c.if-registers-ne136.true in
    record { code = w.0; registers = w.1.0; table = w.1.1.0; bounds = w.1.1.1.0; certificate = w.1.1.1.1 }

pub returns : goal.returns
returns c =
    let a = c.args in
    let e = c.write-after.ensures in
    let w = right_length a.registers.now a.offset a.value a.store.now a.table.now a.bounds.now
    c.registers_in.result.bytes
    c.write-after.result.bytes c.copy.new.to c.write-after.new.table c.write-after.new.bounds c.if-registers-ne136.false
    c.registers_in.ensures c.copy.ensures
    (e.registers, (e.table, (e.bounds, e.certificate))) in
    record { code = w.0; registers = w.1.0; table = w.1.1.0; bounds = w.1.1.1.0; certificate = w.1.1.1.1 }
