-- Side by side each sum is the half's bound, since the other lines are the box's; else each half's bound is found by itself.
use Rattle.std.proofs.Common.{◌∙◌, ◌<◌, ◌≤◌, sym, arith, rules}
use Rattle.points.specs.Points.{points_of}
use Rattle.residuals.specs.Cost.{bound}
use Rattle.model_checks.proofs.Passed.{ready}
use Rattle.branching.proofs.UpTo.{bound_found}
use Rattle.branching.proofs.Lanes.{cut_inside, longest_line, together, apart}
use Rattle.branching.proofs.Halves.{both_are, halves_are}
use Rattle.branching.proofs.half_bounds.Goals as goal

pub overflow_cast-line : goal.overflow_cast-line
overflow_cast-line c =
    let few : c.args.m.n < 256 = search rules in
    let inside = cut_inside c.args.m c.cut_line-line.result (sym c.side_by_side.ensures ∙ c.if-side_by_side.true) in
    record { fits = omega (arith, inside.1) }

pub returns-then-side_by_side : goal.returns-then-side_by_side
returns-then-side_by_side c =
    let a = c.args in
    let line = c.cut_line-line.ensures in
    let sums = c.sums_up_to-sums.ensures in
    let inside = cut_inside a.m c.cut_line-line.result (sym c.side_by_side.ensures ∙ c.if-side_by_side.true) in
    record {
      lanes =
          together a.store.now a.lanes.now a.m a.b a.left a.right a.cap c.cut_line-line.result _ _ _ line
          c.side_by_side.ensures c.if-side_by_side.true sums.left.by_lanes sums.right.by_lanes;
      store =
          λ ok left right.
          let some = (ready a.store.now a.m ok.checked).some in
          let is = line ∙ longest_line a.m a.b some in
          let few : a.m.p ≤ 2 = omega (arith, inside.0) in
          halves_are a.store.now a.lanes.now a.m ok few a.b a.cap a.left a.right left right
          c.cut_line-line.result is inside.1 _ _ sums.left sums.right;
    }

pub returns : goal.returns
returns c =
    let a = c.args in
    record {
      lanes =
          apart a.store.now a.lanes.now a.m a.b a.left a.right a.cap c.cut_line-line.result _ _ _ c.cut_line-line.ensures
          c.side_by_side.ensures c.if-side_by_side.false c.bound_in.ensures.lanes c.bound_in-2.ensures.lanes;
      store =
          λ ok left right.
          both_are (bound a.m (points_of a.store.now)) a.left a.right a.cap _ _
          (bound_found a.store.now a.m ok.checked a.left a.cap _ (c.bound_in.ensures.store ok.decoded))
          (bound_found a.store.now a.m ok.checked a.right a.cap _ (c.bound_in-2.ensures.store ok.decoded));
    }
