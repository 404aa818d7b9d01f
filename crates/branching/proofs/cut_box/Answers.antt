-- A box of two vectors or more is cut, each half's bound is found up to above C, and the low vectors are tried.
use Rattle.std.proofs.Common.{◌≡◌, ◌∙◌, ap}
use mathlib.Core.Bool.{not}
use Rattle.boxes.specs.Split.{left_half}
use Rattle.boxes.proofs.Splitting.{cut_passes}
use Rattle.points.specs.Points.{points_of}
use Rattle.residuals.specs.Cost.{cost, bound}
use Rattle.residuals.proofs.Bounds.{bound_laws}
use Rattle.boxes.specs.Split.{cut_answer}
use Rattle.branching.specs.Branching.{halves_of}
use Rattle.branching.proofs.Lanes.{unwrapped, cut_lanes}
use Rattle.branching.proofs.Cutting.{cut_whole}
use Rattle.branching.proofs.cut_box.Goals as goal

pub returns : goal.returns
unfolding left_half
returns c =
    let a = c.args in
    let is : c.unwrap_or.result ≡ halves_of (cut_answer a.b) = c.unwrap_or.ensures ∙ unwrapped c.cut.result ∙ ap halves_of c.cut.ensures in
    record {
      lanes =
          cut_lanes a.store.now a.lanes.now a.m a.b a.mark a.given _ _ _ _ _ _ _ _ _ is c.just_above.ensures
          c.half_bounds-found.ensures.lanes c.tried-one.ensures.lanes c.ahead-asked.ensures c.tried-new.ensures.lanes
          (ap not c.ahead.ensures) c.child_of.ensures c.child_of-2.ensures;
      store =
          λ ok marks two costed.
          cut_whole (cost a.m (points_of a.store.now)) (bound a.m (points_of a.store.now)) (bound_laws a.m (points_of a.store.now))
          a.b a.mark marks two _ _ _ _ _ _ _ _ _ _ (is ∙ ap halves_of (cut_passes a.b two)) c.just_above.ensures
          (c.half_bounds-found.ensures.store ok) (c.tried-one.ensures.store ok marks) costed c.ahead-asked.ensures
          (c.tried-new.ensures.store ok) (ap not c.ahead.ensures) c.child_of.ensures c.child_of-2.ensures;
    }
