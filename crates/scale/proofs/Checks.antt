-- The scale that check 3 lets through. Assumes nothing.
use mathlib.Core.Path.{◌≡◌}
use Prim.Native.Nat.{ℕ, ◌≤◌}
use lib.Dec.{leb, leb→le}
use Rattle.codes.specs.Codes.{pass}
use Rattle.codes.specs.declared.Refusal.TheVariants.{Scale}
use Rattle.codes.proofs.Checks.{passed}
use Rattle.scale.specs.Scale.{check_scale}

pub scale_within : (S : ℕ) → check_scale S ≡ pass → S ≤ 15
unfolding check_scale
scale_within S e = leb→le S 15 (passed (leb S 15) Scale e)
