-- By whether the vector is costed, and is cheaper or, for t = 0, as cheap and earlier.
use Rattle.std.proofs.Common.{◌≡◌, ◌<◌, ◌∙◌, true, false, sym, min, arith, rules}
use Rattle.points.specs.Points.{points_of}
use Rattle.residuals.specs.Cost.{cost}
use Rattle.certificate.specs.Search.{ahead}
use Rattle.incumbent.proofs.UpTo.{tried_new, tried_old}
use Rattle.branching.proofs.UpTo.{cost_found}
use Rattle.branching.proofs.Lanes.{takes, leaves}
use Rattle.branching.proofs.tried.Goals as goal

pub returns-then-not-needed : goal.returns-then-not-needed
returns-then-not-needed c =
    let unneeded : c.args.needed ≡ false = search rules in
    record { lanes = rw unneeded; store = λ ok is costed. (rw (costed unneeded, ← is.exact), is.fits) }

pub returns-then-ahead : goal.returns-then-ahead
returns-then-ahead c =
    let a = c.args in
    let x = c.cost_in-cost.result in
    let needed : a.needed ≡ true = search rules in
    record {
      lanes =
          takes a.store.now a.lanes.now a.m a.mark a.v a.needed _ x _ needed c.just_above.ensures c.cost_in-cost.ensures.lanes
          c.ahead.ensures c.if-ahead.true;
      store =
          λ ok is costed.
          let C = cost a.m (points_of a.store.now) in
          let found : x ≡ min (C a.v) c.just_above.result =
          cost_found a.store.now a.m ok.checked a.v _ _ (c.cost_in-cost.ensures.store ok.decoded) in
          let far : C a.mark.best < c.just_above.result = omega (arith, c.just_above.ensures, is.exact, is.fits) in
          let decided : c.ahead.result ≡ ahead a.mark.t (C a.mark.best) a.mark.best x a.v = rw is.exact at c.ahead.ensures in (
            tried_new C a.mark.t a.mark.best a.v x _ found far (sym decided ∙ c.if-ahead.true),
            omega (arith, c.cost_in-cost.ensures.limit ok.decoded),
          );
    }

pub returns-else-ahead : goal.returns-else-ahead
returns-else-ahead c =
    let a = c.args in
    let x = c.cost_in-cost.result in
    let needed : a.needed ≡ true = search rules in
    record {
      lanes =
          leaves a.store.now a.lanes.now a.m a.mark a.v a.needed _ x _ needed c.just_above.ensures c.cost_in-cost.ensures.lanes
          c.ahead.ensures c.if-ahead.false;
      store =
          λ ok is costed.
          let C = cost a.m (points_of a.store.now) in
          let found : x ≡ min (C a.v) c.just_above.result =
          cost_found a.store.now a.m ok.checked a.v _ _ (c.cost_in-cost.ensures.store ok.decoded) in
          let far : C a.mark.best < c.just_above.result = omega (arith, c.just_above.ensures, is.exact, is.fits) in
          let decided : c.ahead.result ≡ ahead a.mark.t (C a.mark.best) a.mark.best x a.v = rw is.exact at c.ahead.ensures in (
            rw (← is.exact) at (tried_old C a.mark.t a.mark.best a.v x _ found far (sym decided ∙ c.if-ahead.false)),
            is.fits,
          );
    }
