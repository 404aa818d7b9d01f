-- The four sums of 53 bits are far below 2^64.
use Rattle.std.proofs.Common.{rules, sum, ◌<◌, ◌≡◌, ◌∙◌}
use Rattle.std.proofs.iter.runs.Made.{chains}
use native.Mathlib.Omega.{arith}
use Rattle.eval_lanes.specs.Lanes.{lane}
use Rattle.eval_losses.proofs.Exact.{groups_summed, chunk_small, chunk_same}
use Rattle.eval_losses.proofs.total.Goals as goal

pub sum-requires-clause-fits : goal.sum-requires-clause-fits
sum-requires-clause-fits c =
    let small : sum c.group_sums-sums.result < 18446744073709551616 =
    omega (arith, groups_summed (lane c.lose.new.sizes) _ c.group_sums-sums.ensures, chunk_small (lane c.lose.new.sizes)) in
    search (rules, chains)

added : (c : goal.After-sum) → c.sum.result ≡ sum c.group_sums-sums.result
added c = search (rules, chains)

pub returns-clause-value : goal.returns-clause-value
returns-clause-value c = added c ∙ groups_summed _ _ c.group_sums-sums.ensures ∙ chunk_same _ _ c.lose.ensures

pub returns-clause-small : goal.returns-clause-small
returns-clause-small c = omega (arith, added c, groups_summed (lane c.lose.new.sizes) _ c.group_sums-sums.ensures, chunk_small (lane c.lose.new.sizes))
