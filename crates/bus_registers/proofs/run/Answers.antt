-- The job record in the registers is whole, and its run is shown in them.
use Rattle.std.proofs.Common.{◌≡◌, refl, length, rules}
use Rattle.bus_registers.proofs.Writing.{job_there, run_ran}
use Rattle.bus_registers.proofs.run.Goals as goal

pub returns : goal.returns
returns c =
    let a = c.args in
    let whole : length a.r.now.bytes ≡ 136 = search (rules, c.well_formed.0) in
    let e = c.run.ensures in
    let w =
    run_ran a.store.now a.r.now.bytes a.table.now a.bounds.now c.run.result c.with_run.result.bytes c.run.new.table c.run.new.bounds whole
    c.with_run.ensures _ (job_there a.r.now.bytes _ whole refl) (e.run, (e.table, (e.bounds, e.certificate))) in
    record { registers = w.0; table = w.1.0; bounds = w.1.1.0; certificate = w.1.1.1 }
