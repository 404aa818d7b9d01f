-- The pairs of a group, one after the other. Assumes nothing.
use mathlib.Core.Path.{◌≡◌, ap, ◌∙◌}
use mathlib.Core.List.{List, []}
use Prim.Native.Nat.{ℕ, zero, suc, ◌+◌, ◌*◌, ◌<◌}
use native.Mathlib.Omega.{arith}
use lib.ListN.{get_or, take, drop}
use lib.Seq.{get_or-take, get_or-drop}
use lib.Ieee.{Float, nan}
use Rattle.std.specs.Simd.{first_chunks}
use Rattle.eval_lanes.specs.Lanes.{lane}

-- number b of pair i
pub paired : (n i b : ℕ) (xs : List Float) → i < n → b < 2 → lane (get_or (first_chunks 2 n xs) i []) b ≡ lane xs (i * 2 + b)
paired zero i b xs h l = absurd (omega arith)
paired (suc n) zero b xs h l = let e : b ≡ 0 * 2 + b = omega arith in get_or-take 2 xs b nan l ∙ ap (lane xs) e
paired (suc n) (suc i) b xs h l =
    let e : 2 + (i * 2 + b) ≡ suc i * 2 + b = omega arith in
    paired n i b (drop 2 xs) (omega arith) l ∙ get_or-drop 2 xs (i * 2 + b) nan ∙ ap (lane xs) e

-- of the m numbers from place o on
pub paired_from : (o m n i b j : ℕ) (xs : List Float) → i < n → b < 2 → i * 2 + b < m → o + (i * 2 + b) ≡ j
    → lane (get_or (first_chunks 2 n (take m (drop o xs))) i []) b ≡ lane xs j
paired_from o m n i b j xs h l f e =
    paired n i b (take m (drop o xs)) h l ∙ get_or-take m (drop o xs) (i * 2 + b) nan f ∙ get_or-drop o xs (i * 2 + b) nan ∙ ap (lane xs) e
