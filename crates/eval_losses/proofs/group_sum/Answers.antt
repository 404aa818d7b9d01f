-- One pair more.
use Rattle.std.proofs.Common.{◌≡◌, refl, ◌+◌, ◌-◌, ◌*◌, ◌<◌, ◌∙◌, ℕ, List, [], length}
use native.Mathlib.Numerals.{add-one}
use native.Mathlib.Omega.{arith}
use mathlib.Core.Path.{ap, ap₂}
use lib.Ieee.{Float, binary64, add}
use lib.ListN.{get_or, take, drop, length-take, length-drop}
use Rattle.eval_whole.specs.Whole.{counted}
use Rattle.eval_lanes.specs.Lanes.{lane}
use Rattle.eval_losses.specs.Losses.{alternate, group_sum}
use Rattle.eval_losses.proofs.Pairs.{paired_from}
use Rattle.eval_losses.proofs.group_sum.Goals as goal

pub loop-a-init : goal.loop-a-init
unfolding alternate
loop-a-init c = record { first = refl; second = refl }

-- number b of the pair at hand
number : (c : goal.In-loop-a) (b j : ℕ) → b < 2 → c.args.o + (c.loop-a.a-index * 2 + b) ≡ j
    → lane (get_or c.as_chunks.result.0.now c.loop-a.a-index []) b ≡ lane c.args.losses.now j
number c b j l e =
    let o = c.args.o in
    let zs = c.args.losses.now in
    let twenty : length (take (o + 20 - o) (drop o zs)) ≡ 20 = omega (arith, length-take (o + 20 - o) (drop o zs), length-drop o zs) in
    let few : c.loop-a.a-index < 10 = omega arith in
    ap (λ (ps : List (List Float)). lane (get_or ps c.loop-a.a-index []) b) c.as_chunks.ensures.front
    ∙ paired_from o (o + 20 - o) _ c.loop-a.a-index b j zs (omega arith) l (omega arith) e

pub loop-a-preserved : goal.loop-a-preserved
unfolding alternate
loop-a-preserved c =
    let i = c.loop-a.a-index in
    let o = c.args.o in
    record {
      first = rw (add-one i) (ap₂ (add binary64) c.loop-a.invariant.first (number c 0 (o + i * 2) (omega arith) (omega arith)));
      second = rw (add-one i) (ap₂ (add binary64) c.loop-a.invariant.second (number c 1 (o + 1 + i * 2) (omega arith) (omega arith)));
    }

pub returns : goal.returns
unfolding group_sum
returns c =
    let zs = c.args.losses.now in
    let o = c.args.o in
    let v = c.loop-a.invariant in
    let e : c.loop-a.a-index ≡ 10 =
    omega (arith, length-take (o + 20 - o) (drop o zs), length-drop o zs) in
    ap₂ ◌+◌
    (c.count.ensures ∙ ap counted (v.first ∙ ap (alternate (lane zs) o) e))
    (c.count-2.ensures ∙ ap counted (v.second ∙ ap (alternate (lane zs) (o + 1)) e))
