-- Round after round, on the points that the rounds before left.
use Rattle.std.proofs.Common.{rules, ◌≡◌, ◌+◌, ◌/◌, ◌<◌, length, arith}
use borrow.Author.Tests.{le-leb}
use mathlib.Core.List.{map}
use mathlib.Core.Path.{refl, ◌∙◌}
use Rattle.integers.specs.Lists.{over}
use Rattle.points.specs.Points.{points_of}
use Rattle.points_left.specs.Left.{first_label}
use Rattle.rounds.specs.Rounds.{samples}
use Rattle.peel_checks.proofs.Passed.{accepted}
use Rattle.peel_rounds.proofs.Following.{first_going, ready_next, going_next, last_done, still_long}
use Rattle.peel.proofs.each_round.Goals as goal

pub loop-more-init : goal.loop-more-init
loop-more-init c =
    let a = c.args in
    let ok = accepted a.store.now a.job a.limit (length a.table.now) (length a.bounds.now) (length a.labels.now) c.requires in
    let room = le-leb (length a.store.now / 12) (length a.labels.now) ok.room_holds in
    let left : c.set_aside.result ≡ length (samples (points_of a.store.now)) = c.set_aside.ensures.left ∙ rw room refl in
    let written : c.set_aside.new.labels ≡ over (map first_label (points_of a.store.now)) a.labels.now =
    c.set_aside.ensures.labels ∙ rw room refl in
    first_going a.store.now a.job a.limit a.table.now a.bounds.now a.labels.now c.set_aside.new.labels written
    c.set_aside.result c.first_rounds-more.result c.refused-answers.result left c.first_rounds-more.ensures c.refused-answers.ensures

pub one_round-r-requires : goal.one_round-r-requires
one_round-r-requires c =
    let a = c.args in
    let l = c.loop-more in
    let ok = accepted a.store.now a.job a.limit (length a.table.now) (length a.bounds.now) (length a.labels.now) c.requires in
    ready_next a.store.now a.job a.limit a.table.now a.bounds.now c.set_aside.new.labels l.rounds l.more l.answers l.labels l.table
    l.bounds ok.searching ok.given_holds.line ok.given_holds.counts ok.given_holds.few c.loop-more-test.true l.invariant

pub offset_bounds-answers-rounds : goal.offset_bounds-answers-rounds
offset_bounds-answers-rounds c =
    let a = c.args in
    let ok = accepted a.store.now a.job a.limit (length a.table.now) (length a.bounds.now) (length a.labels.now) c.requires in
    omega (arith, c.loop-more.invariant.few, c.loop-more-test.true, ok.given_holds.few)

pub bounds-answers-rounds : goal.bounds-answers-rounds
bounds-answers-rounds c =
    let a = c.args in
    let ok = accepted a.store.now a.job a.limit (length a.table.now) (length a.bounds.now) (length a.labels.now) c.requires in
    omega (arith, c.loop-more.invariant.few, c.loop-more-test.true, ok.given_holds.few)

pub overflow_add-rounds : goal.overflow_add-rounds
overflow_add-rounds c =
    let a = c.args in
    let ok = accepted a.store.now a.job a.limit (length a.table.now) (length a.bounds.now) (length a.labels.now) c.requires in
    omega (arith, c.loop-more.invariant.few, c.loop-more-test.true, ok.given_holds.few)

pub loop-more-smaller : goal.loop-more-smaller
loop-more-smaller c =
    let a = c.args in
    let l = c.loop-more in
    let r = c.one_round-r in
    let ok = accepted a.store.now a.job a.limit (length a.table.now) (length a.bounds.now) (length a.labels.now) c.requires in
    (going_next a.store.now a.job a.limit a.table.now a.bounds.now c.set_aside.new.labels l.rounds l.more l.answers l.labels l.table
    l.bounds ok.given_holds.line ok.given_holds.few c.loop-more-test.true l.invariant r.result.answer r.result.more _ _ _ r.ensures).1

pub loop-more-preserved : goal.loop-more-preserved
loop-more-preserved c =
    let a = c.args in
    let l = c.loop-more in
    let r = c.one_round-r in
    let ok = accepted a.store.now a.job a.limit (length a.table.now) (length a.bounds.now) (length a.labels.now) c.requires in
    (going_next a.store.now a.job a.limit a.table.now a.bounds.now c.set_aside.new.labels l.rounds l.more l.answers l.labels l.table
    l.bounds ok.given_holds.line ok.given_holds.few c.loop-more-test.true l.invariant r.result.answer r.result.more _ _ _ r.ensures).0

pub returns : goal.returns
returns c =
    let a = c.args in
    let l = c.loop-more in
    let ok = accepted a.store.now a.job a.limit (length a.table.now) (length a.bounds.now) (length a.labels.now) c.requires in
    let room = le-leb (length a.store.now / 12) (length a.labels.now) ok.room_holds in
    let written : c.set_aside.new.labels ≡ over (map first_label (points_of a.store.now)) a.labels.now =
    c.set_aside.ensures.labels ∙ rw room refl in
    last_done a.store.now a.job a.limit a.table.now a.bounds.now a.labels.now c.set_aside.new.labels written l.rounds l.more l.answers
    l.labels l.table l.bounds (omega (arith, c.loop-more-test.false)) l.invariant
