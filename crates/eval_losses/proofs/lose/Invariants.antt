-- The sizes before the index became losses.
use Rattle.std.proofs.Common.{◌≡◌}
use Rattle.eval_lanes.specs.Inside.{Filled}
use Rattle.eval_losses.specs.Losses.{loss_in}
use Rattle.eval_losses.proofs.lose.Given as goal

abbrev pub invariant-loop-size : goal.invariant-loop-size
invariant-loop-size l = Filled 0 (λ k a b. b ≡ loss_in l.p l.cut a) l.initial.sizes l.size-index l.sizes
