use Rattle.std.proofs.Common.{arith}
use Rattle.points_left.proofs.Marking.{one_marked, all_marked}
use Rattle.points_left.proofs.mark.Goals as goal

pub loop-i-preserved : goal.loop-i-preserved
loop-i-preserved c =
    let a = c.args in
    let l = c.loop-i in
    one_marked a.number a.labels.now a.marks.now l.removed l.i l.labels c.relabel.result c.removed_one-removed.result
    (omega (arith, c.loop-i-test.true, c.min-i-end.ensures)) c.relabel.ensures c.removed_one-removed.ensures l.invariant

pub returns-clause-removed : goal.returns-clause-removed
returns-clause-removed c =
    let a = c.args in
    let l = c.loop-i in
    (all_marked a.number a.labels.now a.marks.now l.removed l.i l.labels (omega (arith, c.loop-i-test.false, c.min-i-end.ensures)) l.invariant).0

pub returns-clause-labels : goal.returns-clause-labels
returns-clause-labels c =
    let a = c.args in
    let l = c.loop-i in
    (all_marked a.number a.labels.now a.marks.now l.removed l.i l.labels (omega (arith, c.loop-i-test.false, c.min-i-end.ensures)) l.invariant).1
