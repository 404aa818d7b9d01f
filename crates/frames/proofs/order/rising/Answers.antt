-- A record and the next: where the first is not lower, the numbers do not rise, and else those behind it decide.
use Rattle.std.proofs.Common.{◌≡◌, ◌+◌, ◌-◌, ◌*◌, ◌∙◌, sym, arith}
use Rattle.frames.proofs.Rising.{rising_on, rising_not, rising_end}
use Rattle.frames.proofs.order.rising.Goals as goal

pub returns-then-next-here : goal.returns-then-next-here
returns-then-next-here c =
    let s = c.args.store.now in
    let k = c.loop-k.k in
    let next : 12 * k ≡ 12 * k - 12 + 12 = omega (arith, c.loop-k.auto.k) in
    let found = rw next at c.frame-next.ensures in
    sym
    (c.loop-k.invariant
    ∙ rising_not s (12 * k - 12) (omega (arith, c.loop-k.auto.k)) (omega (arith, found, c.frame-here.ensures, c.if-next-here.true)))

pub loop-k-preserved : goal.loop-k-preserved
loop-k-preserved c =
    let s = c.args.store.now in
    let k = c.loop-k.k in
    let next : 12 * k ≡ 12 * k - 12 + 12 = omega (arith, c.loop-k.auto.k) in
    let found = rw next at c.frame-next.ensures in
    let on = rising_on s (12 * k - 12) (omega (arith, c.loop-k.auto.k)) (omega (arith, found, c.frame-here.ensures, c.if-next-here.false)) in
    let same : 12 * (k + 1) - 12 ≡ 12 * k - 12 + 12 = omega (arith, c.loop-k.auto.k) in
    rw same (c.loop-k.invariant ∙ on)

pub returns : goal.returns
returns c =
    let s = c.args.store.now in
    let k = c.loop-k.k in
    sym
    (c.loop-k.invariant
    ∙ rising_end s (12 * k - 12) (omega (arith, c.loop-k.auto.k)) c.requires (omega (arith, c.loop-k-test.false, c.loop-k.auto.k)))
