use Rattle.std.proofs.Common.{arith, sym, ap, ◌≡◌, ◌∙◌, ◌/◌, ◌≤◌, ◌++◌, map, List, ℕ, length, take, drop}
use Rattle.std.proofs.Math.ListN.{length-map}
use Rattle.std.proofs.Math.Seq.{length-take-le}
use Rattle.integers.specs.Lists.{over}
use Rattle.points.specs.Points.{points_of}
use Rattle.labels.specs.Labels.{label}
use Rattle.labels.proofs.Filling.{points_number, none_filled, one_filled, whole_filled}
use Rattle.labels.proofs.write_labels.Goals as goal

pub slice_bounds-label-items-end : goal.slice_bounds-label-items-end
slice_bounds-label-items-end c = omega (arith, c.requires.1, points_number c.args.store.now)

pub slice_bounds-label-items-end-2 : goal.slice_bounds-label-items-end-2
slice_bounds-label-items-end-2 c =
    let room : length c.args.store.now / 12 ≤ length c.args.out.now = omega (arith, c.requires.1, points_number c.args.store.now) in
    sym (length-take-le (length c.args.store.now / 12) c.args.out.now room)

pub loop-i-init : goal.loop-i-init
loop-i-init c =
    let a = c.args in
    none_filled (label a.m a.v.now) a.store.now (take (length a.store.now / 12) a.out.now)

pub loop-i-preserved : goal.loop-i-preserved
loop-i-preserved c =
    let a = c.args in
    let n = length a.store.now / 12 in
    let room : n ≤ length a.out.now = omega (arith, c.requires.1, points_number a.store.now) in
    let long = length-take-le n a.out.now room in
    one_filled (label a.m a.v.now) a.store.now (take n a.out.now) c.label_at.result c.label_at.ensures
    (omega (arith, c.loop-i.invariant.long, long)) (omega (arith, c.loop-i.invariant.long, long)) c.loop-i.invariant

pub returns : goal.returns
unfolding over
returns c =
    let a = c.args in
    let n = length a.store.now / 12 in
    let f = label a.m a.v.now in
    let room : n ≤ length a.out.now = omega (arith, c.requires.1, points_number a.store.now) in
    let long = length-take-le n a.out.now room in
    let all = whole_filled f a.store.now (take n a.out.now) (omega (arith, c.loop-i.invariant.long, long)) long c.loop-i.invariant in
    let number : n ≡ length (map f (points_of a.store.now)) = sym (length-map (points_of a.store.now) f ∙ points_number a.store.now) in
    ap (λ (front : List ℕ). front ++ drop n a.out.now) all ∙ ap (λ (k : ℕ). map f (points_of a.store.now) ++ drop k a.out.now) number
