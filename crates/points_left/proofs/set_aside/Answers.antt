use Rattle.std.proofs.Common.{arith, refl, ◌≡◌, ◌∙◌, ◌+◌, ◌/◌, length}
use borrow.Author.Tests.{le-leb}
use Rattle.points.specs.Points.{first_points}
use Rattle.labels.proofs.Filling.{none_filled, one_filled, all_filled}
use Rattle.points_left.specs.Left.{first_label}
use Rattle.points_left.proofs.Samples.{samples_more, samples_few, samples_all}
use Rattle.points_left.proofs.set_aside.Goals as goal

pub loop-i-init : goal.loop-i-init
unfolding first_points
loop-i-init c = (none_filled first_label c.args.store.now c.args.labels.now, refl)

pub overflow_add-left : goal.overflow_add-left
overflow_add-left c =
    let s = c.args.store.now in
    let l = c.loop-i in
    omega (
      arith,
      samples_more s l.i c.counted-left.result c.first_label-label.result c.first_label-label.ensures c.counted-left.ensures,
      samples_few s (l.i + 1),
      l.invariant.1,
    )

pub loop-i-preserved : goal.loop-i-preserved
loop-i-preserved c =
    let a = c.args in
    let l = c.loop-i in
    let g = l.invariant.0 in (
      one_filled first_label a.store.now a.labels.now c.first_label-label.result c.first_label-label.ensures
          c.loop-i-test.true (omega (arith, g.long, c.if-labels-count.false, c.loop-i-test.true)) g,
      rw l.invariant.1
          (samples_more a.store.now l.i c.counted-left.result c.first_label-label.result c.first_label-label.ensures c.counted-left.ensures),
    )

pub returns-clause-left : goal.returns-clause-left
returns-clause-left c =
    let a = c.args in
    let l = c.loop-i in
    let all : l.i ≡ length a.store.now / 12 = omega (arith, c.loop-i-test.false, l.invariant.0.few) in
    rw (le-leb (length a.store.now / 12) (length a.labels.now) c.if-labels-count.false) (l.invariant.1 ∙ samples_all a.store.now l.i all)

pub returns-clause-labels : goal.returns-clause-labels
returns-clause-labels c =
    let a = c.args in
    rw (le-leb (length a.store.now / 12) (length a.labels.now) c.if-labels-count.false)
    (all_filled first_label a.store.now a.labels.now c.loop-i-test.false c.loop-i.invariant.0)
