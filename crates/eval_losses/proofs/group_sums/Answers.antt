-- The four groups, one after the other.
use Rattle.std.proofs.Common.{[], ◌∷◌, ℕ}
use mathlib.Core.Path.{ap, ap₂}
use Rattle.eval_losses.specs.Losses.{group_sums}
use Rattle.eval_losses.proofs.group_sums.Goals as goal

pub returns : goal.returns
unfolding group_sums
returns c =
    ap₂ ◌∷◌ c.group_sum.ensures
    (ap₂ ◌∷◌ c.group_sum-2.ensures (ap₂ ◌∷◌ c.group_sum-3.ensures (ap (λ (n : ℕ). n ∷ []) c.group_sum-4.ensures)))
