use Rattle.std.proofs.Common.{◌≡◌, ◌∙◌, ◌*◌, refl, sym, ap, ℕ, List, true, arith}
use Prim.Native.Nat.{min}
use lib.Ieee.{Float}
use Rattle.eval_whole.specs.Whole.{smaller_of}
use Rattle.eval_lanes.specs.Lanes.{lane}
use Rattle.eval_kernel.specs.Kernel.{size_by}
use Rattle.eval_halves.specs.Halves.{least_but}
use Rattle.eval_halves.proofs.Others.{own_line, other_line}
use Rattle.eval_halves.proofs.lessen_others.Goals as goal
use Rattle.eval_halves.proofs.lessen_others.Goals.{then-j-c, else-j-c}

pub loop-j-init : goal.loop-j-init
unfolding least_but
loop-j-init c = λ k h. refl

pub loop-j-preserved : goal.loop-j-preserved
loop-j-preserved c =
    let a = c.args in
    let d = a.d in
    let j = c.loop-j.j in
    let size = size_by true a.s.now a.low.now a.high.now d (min (j * d) 8) in
    let most : ℕ → Float = lane a.sizes.now in
    λ k h.
    elim c.if-j-c.branch [
      | then-j-c w ↦
          ap (λ (xs : List Float). lane xs k) w.sizes-is ∙ w.lessen_line.ensures k h ∙ ap (λ (x : Float). smaller_of x (size k)) (c.loop-j.invariant k h)
          ∙ sym (other_line a.s.now a.low.now a.high.now d a.c (most k) j k w.if-j-c.true)
      | else-j-c w ↦
          ap (λ (xs : List Float). lane xs k) w.sizes-is ∙ c.loop-j.invariant k h
          ∙ sym (own_line a.s.now a.low.now a.high.now d a.c (most k) j k w.if-j-c.false)
    ]

pub returns : goal.returns
returns c =
    let a = c.args in
    let e : c.loop-j.j ≡ a.n = omega arith in
    let least = least_but a.s.now a.low.now a.high.now a.d a.c in
    λ k h. c.loop-j.invariant k h ∙ ap (λ (n : ℕ). least (lane a.sizes.now k) n k) e
