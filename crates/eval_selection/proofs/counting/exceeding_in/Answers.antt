use Rattle.std.proofs.Common.{◌≡◌, ◌∙◌, ap, arith}
use Rattle.integers.specs.Sums.{sum_of}
use Rattle.eval_selection.specs.Selection.{exceeding_in}
use Rattle.eval_selection.proofs.counting.exceeding_in.Goals as goal

pub returns-clause-value : goal.returns-clause-value
unfolding exceeding_in
returns-clause-value c =
    let e : c.loop-x.x-index ≡ 80 = omega arith in c.loop-x.invariant.value ∙ ap (sum_of _) e
