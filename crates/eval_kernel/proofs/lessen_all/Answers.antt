use Rattle.std.proofs.Common.{◌≡◌, ◌∙◌, ap, ℕ, ◌*◌, arith, refl}
use Prim.Native.Nat.{min}
use native.Mathlib.Numerals.{add-one}
use lib.Ieee.{Float}
use Rattle.eval_whole.specs.Whole.{smaller_of}
use Rattle.eval_lanes.specs.Lanes.{lane}
use Rattle.eval_kernel.specs.Kernel.{size_by, least_by}
use denote.Param.{number}
use Rattle.eval_kernel.specs.contracts.lessen_all.{OVER-type}
use Rattle.eval_kernel.proofs.lessen_all.Goals as goal

pub loop-j-init : goal.loop-j-init
unfolding least_by
loop-j-init g c = λ k h. refl

pub loop-j-preserved : goal.loop-j-preserved
unfolding least_by
loop-j-preserved g c =
    let a = c.args in
    let size = size_by (OVER-type (number g.row.OVER)) a.s.now a.low.now a.high.now a.d (min (c.loop-j.j * a.d) 8) in
    λ k h.
    rw (add-one c.loop-j.j) (c.lessen_line.ensures k h ∙ ap (λ (x : Float). smaller_of x (size k)) (c.loop-j.invariant k h))

pub returns : goal.returns
returns g c =
    let a = c.args in
    let e : c.loop-j.j ≡ a.n = omega arith in
    λ k h. c.loop-j.invariant k h ∙ ap (λ (n : ℕ). least_by (OVER-type (number g.row.OVER)) a.s.now a.low.now a.high.now a.d (lane a.least.now k) n k) e
