use Rattle.std.proofs.Common.{rules, arith, ◌≡◌, ◌<◌, ◌≤◌, ℕ, zero, suc, ℤ, List, [], ◌∷◌, length, get_or, pos, nat_abs}
use borrow.Author.Count.{below_more}
use mathlib.Core.Logic.{⊎_elim}
use mathlib.Core.Path.{refl}
use mir.Syntax.{w16}
use mir.Val.{SFits}
use Rattle.integers.proofs.Parts.{abs_fits}
use Rattle.integers.proofs.Tests.{le_or_lt}
use Rattle.ranges.proofs.sixteen_bits.Goals as goal

get_d_past : (v : List ℤ) (k : ℕ) → length v ≤ k → get_or v k (pos 0) ≡ pos 0
get_d_past [] k past = refl
get_d_past (x ∷ v) zero past = absurd (omega arith)
get_d_past (x ∷ v) (suc k) past = get_d_past v k (omega arith)

pub loop-k-preserved : goal.loop-k-preserved
loop-k-preserved c =
    let v = c.args.v.now in
    let k = c.loop-k.k in
    let fits : SFits w16 (get_or v k (pos 0)) = search rules in
    below_more (λ (j : ℕ). nat_abs (get_or v j (pos 0)) ≤ 32768) k c.loop-k.invariant (abs_fits w16 fits)

pub returns : goal.returns
returns c =
    let v = c.args.v.now in
    λ k. ⊎_elim
    (λ (past : length v ≤ k). rw (get_d_past v k past) (omega arith))
    (λ (inside : k < length v). c.loop-k.invariant k (omega (arith, inside, c.loop-k-test.false))) (le_or_lt (length v) k)
