-- Where a length is wrong no search is made.
use Rattle.std.proofs.Common.{rules, ◌≡◌, length, false}
use borrow.Author.Tests.{ne_eqb}
use Rattle.c_boundary.specs.Boundary.{model_of}
use Rattle.c_windows.specs.Calls.{windows_lengths}
use Rattle.c_windows.proofs.Handing.{kept}
use Rattle.c_windows.proofs.windows.Goals.{then-corners-ne16-via-then-corners-ne16, then-corners-ne16-via-else-corners-ne16+then-start-ne8}
use Rattle.c_windows.proofs.windows.Goals as goal

pub returns-then-corners-ne16-clause-table : goal.returns-then-corners-ne16-clause-table
returns-then-corners-ne16-clause-table c =
    let a = c.args in
    let wrong : windows_lengths (length a.corners.now) (length a.start.now) ≡ false =
    elim c.then-corners-ne16.branch [
      | then-corners-ne16-via-then-corners-ne16 w ↦ rw (ne_eqb (length c.args.corners.now) 16 w.if-corners-ne16.true)
      | then-corners-ne16-via-else-corners-ne16+then-start-ne8 w ↦
          rw (w.if-corners-ne16.false, ne_eqb (length c.args.start.now) 8 w.if-start-ne8.true)
    ] in
    (kept a.store.now (model_of a.n a.d a.scale a.p a.eps) a.t a.budget a.corners.now a.start.now a.k a.h a.table.now a.bounds.now
    a.out.now 0 wrong).1.1.1.0

pub returns-then-corners-ne16-clause-bounds : goal.returns-then-corners-ne16-clause-bounds
returns-then-corners-ne16-clause-bounds c =
    let a = c.args in
    let wrong : windows_lengths (length a.corners.now) (length a.start.now) ≡ false =
    elim c.then-corners-ne16.branch [
      | then-corners-ne16-via-then-corners-ne16 w ↦ rw (ne_eqb (length c.args.corners.now) 16 w.if-corners-ne16.true)
      | then-corners-ne16-via-else-corners-ne16+then-start-ne8 w ↦
          rw (w.if-corners-ne16.false, ne_eqb (length c.args.start.now) 8 w.if-start-ne8.true)
    ] in
    (kept a.store.now (model_of a.n a.d a.scale a.p a.eps) a.t a.budget a.corners.now a.start.now a.k a.h a.table.now a.bounds.now
    a.out.now 0 wrong).1.1.1.1.0
