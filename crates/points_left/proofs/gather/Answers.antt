use Rattle.std.proofs.Common.{arith, length}
use borrow.Author.Tests.{le-leb}
use Rattle.points_left.proofs.Gathering.{one_gathered, all_gathered}
use Rattle.points_left.proofs.gather.Goals as goal

pub loop-i-preserved : goal.loop-i-preserved
loop-i-preserved c =
    let a = c.args in
    let l = c.loop-i in
    one_gathered a.store.now a.labels.now a.out.now l.n l.i l.out c.put_left-n.new.out
    c.put_left-n.result (omega (arith, c.loop-i-test.true, c.min-i-end.ensures)) c.if-out-store.false
    c.put_left-n.ensures.bytes c.put_left-n.ensures.output l.invariant

pub returns-clause-bytes : goal.returns-clause-bytes
returns-clause-bytes c =
    let a = c.args in
    let all =
    all_gathered a.store.now a.labels.now a.out.now c.loop-i.n c.loop-i.i c.loop-i.out
    (omega (arith, c.loop-i-test.false, c.min-i-end.ensures)) c.if-out-store.false c.loop-i.invariant in
    rw (le-leb (length a.store.now) (length a.out.now) c.if-out-store.false) all.0

pub returns-clause-output : goal.returns-clause-output
returns-clause-output c =
    let a = c.args in
    let all =
    all_gathered a.store.now a.labels.now a.out.now c.loop-i.n c.loop-i.i c.loop-i.out
    (omega (arith, c.loop-i-test.false, c.min-i-end.ensures)) c.if-out-store.false c.loop-i.invariant in
    rw (le-leb (length a.store.now) (length a.out.now) c.if-out-store.false) all.1
