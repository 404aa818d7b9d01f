-- A vector's coordinates as doubles, one after the other. Assumes nothing.
use mathlib.Core.Path.{◌≡◌, refl, sym, ap, ◌∙◌}
use mathlib.Core.List.{List, [], ◌∷◌, ◌++◌, map}
use mathlib.Core.Logic.{⊎_elim}
use Prim.Native.Nat.{ℕ, zero, suc, ◌+◌, ◌-◌, ◌≤◌, ◌<◌}
use native.Mathlib.Omega.{arith}
use lib.IntN.{ℤ, pos}
use lib.ListN.{length, get_or, replicate, length-map, length-append, get_or-replicate}
use lib.Seq.{ext_get_or, get_or-append-add}
use lib.Ieee.{Float, nan, binary64, of_int}
use Rattle.integers.proofs.Tests.{le_or_lt}
use Rattle.eval_whole.specs.Whole.{Within, zeroth}
use Rattle.eval_lanes.specs.Lanes.{lane}
use Rattle.eval_lanes.specs.Inside.{Filled}
use Rattle.eval_kernel.specs.Kernel.{doubles}

-- a coordinate and its double
abbrev pub Double : List ℤ → ℕ → Float → Float → Type 0
Double v k a b = (b ≡ of_int binary64 (get_or v k (pos 0))) × Within b (get_or v k (pos 0)) 32768

first : (f : ℤ → Float) (v : List ℤ) (zs : List Float) (k : ℕ) → k < length v → lane (map f v ++ zs) k ≡ f (get_or v k (pos 0))
first f [] zs k h = absurd (omega arith)
first f (x ∷ v) zs zero h = refl
first f (x ∷ v) zs (suc k) h = first f v zs k (omega arith)

behind : (xs : List Float) (k : ℕ) → length xs ≤ k → k < length xs + 4 → lane (xs ++ replicate 4 zeroth) k ≡ zeroth
behind xs k l h =
    let e : k ≡ length xs + (k - length xs) = omega arith in
    ap (lane (xs ++ replicate 4 zeroth)) e ∙ get_or-append-add xs (replicate 4 zeroth) (k - length xs) nan
    ∙ get_or-replicate 4 (k - length xs) zeroth nan (omega arith)

pub all_doubles : (v : List ℤ) (u : List Float) → length v ≡ 8 → Filled 0 (Double v) (replicate 12 zeroth) 8 u → u ≡ doubles v
unfolding doubles
all_doubles v u eight g =
    let long : length u ≡ 12 = g.long in
    let n = length-map v (of_int binary64) in
    ext_get_or nan u (map (of_int binary64) v ++ replicate 4 zeroth)
    (omega (arith, length-append (map (of_int binary64) v) (replicate 4 zeroth)))
    (λ k h. ⊎_elim
    (λ (l : 8 ≤ k). g.rest k l ∙ get_or-replicate 12 k zeroth nan (omega arith)
    ∙ sym (behind (map (of_int binary64) v) k (omega arith) (omega arith)))
    (λ (l : k < 8). (g.done k (omega arith) l).0 ∙ sym (first (of_int binary64) v (replicate 4 zeroth) k (omega arith)))
    (le_or_lt 8 k))
