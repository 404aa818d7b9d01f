use Rattle.std.proofs.Common.{rules, sym, ap, ◌≡◌, ◌∙◌, ◌*◌, ℕ}
use native.Mathlib.Nat.{zero-mul}
use Rattle.residuals.specs.Inside.{size_of}
use Rattle.labels.proofs.Finding.{first_found, closer, no-closer}
use Rattle.labels.proofs.nearest.nearest_line.Goals.{then-other-size, else-other-size}
use Rattle.labels.proofs.nearest.nearest_line.Goals as goal

pub loop-j-init : goal.loop-j-init
loop-j-init c =
    let a = c.args in
    let at-0 = ap (λ (b : ℕ). size_of a.q a.v.now b a.d a.power) (sym (zero-mul a.d)) in
    let size : c.unsigned_abs-size.result ≡ size_of a.q a.v.now 0 a.d a.power = search rules in
    first_found (λ j. size_of a.q a.v.now (j * a.d) a.d a.power) a.eps _ _ (size ∙ at-0) c.counted-fitting.ensures

pub loop-j-preserved : goal.loop-j-preserved
loop-j-preserved c =
    let a = c.args in
    let l = c.loop-j in
    let one = c.counted-fitting-in-loop-j in
    let other : c.unsigned_abs-other.result ≡ size_of a.q a.v.now (l.j * a.d) a.d a.power = search rules in
    elim c.if-other-size.branch [
      | then-other-size w ↦
          rw (w.line-is, w.size-is) (closer l.invariant c.unsigned_abs-other.result one.result other one.ensures w.if-other-size.true)
      | else-other-size w ↦
          rw (w.line-is, w.size-is) (no-closer l.invariant c.unsigned_abs-other.result one.result other one.ensures w.if-other-size.false)
    ]
