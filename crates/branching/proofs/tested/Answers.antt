-- The bound until it is above C, and the test of it.
use Rattle.std.proofs.Common.{arith}
use Rattle.points.specs.Points.{points_of}
use Rattle.residuals.specs.Cost.{bound}
use Rattle.incumbent.proofs.UpTo.{found_tested}
use Rattle.branching.proofs.UpTo.{bound_found}
use Rattle.branching.proofs.tested.Goals as goal

pub returns : goal.returns
returns c =
    let a = c.args in
    record {
      lanes = rw (c.child_of.ensures, c.bound_in.ensures.lanes, c.just_above.ensures);
      store =
          λ ok fits.
          let is = bound_found a.store.now a.m ok.checked a.half _ _ (c.bound_in.ensures.store ok.decoded) in
          rw c.child_of.ensures
          (found_tested (bound a.m (points_of a.store.now)) a.half a.mark _ _ is (omega (arith, c.just_above.ensures)));
    }
