use Rattle.std.proofs.Common.{◌≡◌, length, arith, rules}
use Rattle.eval_lanes.proofs.Filling.{none_filled, one_filled, all_filled, until_filled}
use Rattle.eval_kernel.proofs.Vectors.{all_doubles}
use Rattle.eval_kernel.proofs.coordinates.Goals as goal

pub loop-i-init : goal.loop-i-init
loop-i-init c = none_filled _ _ _

pub loop-i-preserved : goal.loop-i-preserved
loop-i-preserved c =
    one_filled _ c.loop-i.invariant (omega arith) (search rules)

pub returns-clause-value : goal.returns-clause-value
returns-clause-value c =
    let eight : length c.args.v ≡ 8 = search rules in
    all_doubles c.args.v c.loop-i.u eight (until_filled (omega arith) c.loop-i.invariant)

pub returns-clause-whole : goal.returns-clause-whole
returns-clause-whole c = λ k h. (all_filled c.loop-i.invariant c.loop-i-test.false k h).1
