use Rattle.std.proofs.Common.{rules, arith, ◌≤◌}
use Rattle.points.specs.Points.{points_of}
use Rattle.residuals.specs.Cost.{cost, bound}
use Rattle.residuals.proofs.Bounds.{bound_laws}
use Rattle.ranges.specs.Ranges.{ranges_in}
use Rattle.ranges.proofs.Going.{going_begins, going_finished, going_spent, going_steppable, going_full, going_on, going_counts}
use Rattle.ranges.proofs.run.steps.Goals as goal

pub loop-s-init : goal.loop-s-init
loop-s-init c =
    let a = c.args in
    going_begins (cost a.job.model (points_of a.store.now)) (bound a.job.model (points_of a.store.now)) a.ceiling a.job.budget a.job.domain
    a.table.now a.first c.requires.first_value

pub returns-then-s-eq0 : goal.returns-then-s-eq0
unfolding ranges_in
returns-then-s-eq0 c =
    let a = c.args in
    let l = c.loop-s in
    let e = c.requires.evaluable in
    let C = cost a.job.model (points_of a.store.now) in
    let B = bound a.job.model (points_of a.store.now) in
    let laws = bound_laws a.job.model (points_of a.store.now) in
    going_finished C B a.ceiling a.job.budget a.job.domain a.table.now laws e.2 e.3 e.1 l.s l.table l.invariant c.if-s-eq0.true

pub returns-then-s-job : goal.returns-then-s-job
unfolding ranges_in
returns-then-s-job c =
    let a = c.args in
    let l = c.loop-s in
    let e = c.requires.evaluable in
    let C = cost a.job.model (points_of a.store.now) in
    let B = bound a.job.model (points_of a.store.now) in
    let laws = bound_laws a.job.model (points_of a.store.now) in
    let some : 1 ≤ l.s.«open» = omega (arith, c.if-s-eq0.false) in
    going_spent C B a.ceiling a.job.budget a.job.domain a.table.now laws e.2 e.3 e.1 l.s l.table l.invariant some c.if-s-job.true

pub step-requires : goal.step-requires
step-requires c =
    let a = c.args in
    let l = c.loop-s in
    let e = c.requires.evaluable in
    let C = cost a.job.model (points_of a.store.now) in
    let B = bound a.job.model (points_of a.store.now) in
    let laws = bound_laws a.job.model (points_of a.store.now) in
    let some : 1 ≤ l.s.«open» = omega (arith, c.if-s-eq0.false) in
    let fits : a.job.budget ≤ 4294967295 = search (rules, c.well_formed) in
    (e.0, going_steppable C B a.ceiling a.job.budget a.job.domain a.table.now laws e.2 e.3 e.1 l.s l.table l.invariant some c.if-s-job.false fits)

pub loop-s-smaller : goal.loop-s-smaller
loop-s-smaller c =
    let a = c.args in
    let l = c.loop-s in
    let e = c.requires.evaluable in
    let C = cost a.job.model (points_of a.store.now) in
    let B = bound a.job.model (points_of a.store.now) in
    let laws = bound_laws a.job.model (points_of a.store.now) in
    let some : 1 ≤ l.s.«open» = omega (arith, c.if-s-eq0.false) in
    going_counts C B a.ceiling a.job.budget a.job.domain a.table.now laws e.2 e.3 e.1 l.s l.table l.invariant some c.if-s-job.false c.in-Some.next c.step.new.table c.in-Some.ensures

pub loop-s-preserved : goal.loop-s-preserved
loop-s-preserved c =
    let a = c.args in
    let l = c.loop-s in
    let e = c.requires.evaluable in
    let C = cost a.job.model (points_of a.store.now) in
    let B = bound a.job.model (points_of a.store.now) in
    let laws = bound_laws a.job.model (points_of a.store.now) in
    let some : 1 ≤ l.s.«open» = omega (arith, c.if-s-eq0.false) in
    going_on C B a.ceiling a.job.budget a.job.domain a.table.now laws e.2 e.3 e.1 l.s l.table l.invariant some c.if-s-job.false c.in-Some.next c.step.new.table c.in-Some.ensures

pub returns-in-None : goal.returns-in-None
unfolding ranges_in
returns-in-None c =
    let a = c.args in
    let l = c.loop-s in
    let e = c.requires.evaluable in
    let C = cost a.job.model (points_of a.store.now) in
    let B = bound a.job.model (points_of a.store.now) in
    let laws = bound_laws a.job.model (points_of a.store.now) in
    let some : 1 ≤ l.s.«open» = omega (arith, c.if-s-eq0.false) in
    going_full C B a.ceiling a.job.budget a.job.domain a.table.now laws e.2 e.3 e.1 l.s l.table l.invariant some c.if-s-job.false c.step.new.table c.in-None.ensures
