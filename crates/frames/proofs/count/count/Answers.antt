-- One step of the walk, and where it ends.
use lib.Dec.{eqb}
use lib.Pointwise.{pointwise, bytes_decides}
use Rattle.std.proofs.Common.{◌≡◌, List, ap, true≢false, Bool, true, false, not, ℕ, ◌+◌, ◌-◌, ◌∙◌, refl, sym, take, drop, arith}
use Rattle.frames.specs.Walk.{from}
use Rattle.frames.specs.Frames.{records_of, clashes, check_clash}
use Rattle.frames.proofs.Records.{records_end}
use Rattle.frames.proofs.Rising.{rises}
use Rattle.frames.proofs.Walked.{begun, ended, step}
use Rattle.frames.proofs.count.count.Goals.{else-f-s-via-then-f-s+else-ne, else-f-s-via-else-f-s}
use Rattle.frames.proofs.count.count.Goals as goal

-- whether two parts differ
different : (a b : List ℕ) (t : Bool) → t ≡ not (pointwise eqb a b) → t ≡ true → a ≡ b → ⊥
different a b t is ne same = true≢false (sym ne ∙ is ∙ ap not ((bytes_decides a b).1 same))

equal : (a b : List ℕ) (t : Bool) → t ≡ not (pointwise eqb a b) → t ≡ false → a ≡ b
equal a b t is eq = (bytes_decides a b).0 (so (pointwise eqb a b) (sym is ∙ eq))
  where
    so : (u : Bool) → not u ≡ false → u ≡ true
    so true e = refl
    so false e = absurd (true≢false e)

pub loop-i-init : goal.loop-i-init
loop-i-init c =
    let one = c.args.first.now in
    let two = c.args.second.now in
    record {
      walked = begun one two c.requires.0.whole c.requires.1.whole;
      few = omega arith;
      first_rises = rises (records_of one) c.requires.0.rises;
      second_rises = rises (records_of two) c.requires.1.rises;
      clashes_left = refl;
    }

pub overflow_add-i-then-f-s : goal.overflow_add-i-then-f-s
overflow_add-i-then-f-s c =
    let v = c.loop-i in
    let p = step c.args.first.now c.args.second.now c.requires.0.whole c.requires.1.whole v.i v.j v.n v.invariant.walked (omega arith) _ _ c.stride-f.ensures c.stride-s.ensures in
    omega (arith, p.walked.in_first)

pub slice_bounds-ne-end : goal.slice_bounds-ne-end
slice_bounds-ne-end c =
    let v = c.loop-i in
    let p = step c.args.first.now c.args.second.now c.requires.0.whole c.requires.1.whole v.i v.j v.n v.invariant.walked (omega arith) _ _ c.stride-f.ensures c.stride-s.ensures in
    omega (arith, p.walked.in_first)

pub slice_bounds-ne-end-then-f-s : goal.slice_bounds-ne-end-then-f-s
slice_bounds-ne-end-then-f-s c =
    let v = c.loop-i in
    let p = step c.args.first.now c.args.second.now c.requires.0.whole c.requires.1.whole v.i v.j v.n v.invariant.walked (omega arith) _ _ c.stride-f.ensures c.stride-s.ensures in
    omega (arith, p.walked.in_second)

pub returns-then-ne : goal.returns-then-ne
unfolding check_clash
returns-then-ne c =
    let v = c.loop-i in
    let p = step c.args.first.now c.args.second.now c.requires.0.whole c.requires.1.whole v.i v.j v.n v.invariant.walked (omega arith) _ _ c.stride-f.ensures c.stride-s.ensures in
    let e : v.i + c.stride-f.result - v.i ≡ 12 = omega (arith, p.both_go c.if-f-s.true) in
    let k : v.j + c.stride-s.result - v.j ≡ 12 = omega (arith, p.both_go c.if-f-s.true, c.if-f-s.true) in
    let found = p.clash_here c.if-f-s.true (different _ _ c.ne.result (simp (e, k) at c.ne.ensures) c.if-ne.true) in
    rw (v.invariant.clashes_left ∙ found) refl

pub overflow_add-i-in-loop-i : goal.overflow_add-i-in-loop-i
overflow_add-i-in-loop-i c =
    let v = c.loop-i in
    let p = step c.args.first.now c.args.second.now c.requires.0.whole c.requires.1.whole v.i v.j v.n v.invariant.walked (omega arith) _ _ c.stride-f.ensures c.stride-s.ensures in
    omega (arith, p.walked.in_first)

pub overflow_add-j-in-loop-i : goal.overflow_add-j-in-loop-i
overflow_add-j-in-loop-i c =
    let v = c.loop-i in
    let p = step c.args.first.now c.args.second.now c.requires.0.whole c.requires.1.whole v.i v.j v.n v.invariant.walked (omega arith) _ _ c.stride-f.ensures c.stride-s.ensures in
    omega (arith, p.walked.in_second)

pub loop-i-smaller : goal.loop-i-smaller
loop-i-smaller c =
    let v = c.loop-i in
    let p = step c.args.first.now c.args.second.now c.requires.0.whole c.requires.1.whole v.i v.j v.n v.invariant.walked (omega arith) _ _ c.stride-f.ensures c.stride-s.ensures in
    omega (arith, p.forward, p.walked.in_first, p.walked.in_second)

pub loop-i-preserved : goal.loop-i-preserved
loop-i-preserved c =
    let v = c.loop-i in
    let p = step c.args.first.now c.args.second.now c.requires.0.whole c.requires.1.whole v.i v.j v.n v.invariant.walked (omega arith) _ _ c.stride-f.ensures c.stride-s.ensures in
    let agreed : c.stride-f.result ≡ c.stride-s.result → take 12 (drop v.i c.args.first.now) ≡ take 12 (drop v.j c.args.second.now) =
    λ e. elim c.else-f-s.branch [
      | else-f-s-via-then-f-s+else-ne w ↦
          let f = v.i + c.stride-f.result - v.i in
          let k : f ≡ 12 = omega (arith, p.both_go w.if-f-s.true) in
          let m : v.j + c.stride-s.result - v.j ≡ 12 = omega (arith, p.both_go w.if-f-s.true, w.if-f-s.true) in
          equal _ _ w.ne.result (simp (k, m) at w.ne.ensures) w.if-ne.false
      | else-f-s-via-else-f-s w ↦ absurd (w.if-f-s.false e)
    ] in
    record {
      walked = p.walked;
      few = omega (arith, p.forward, v.invariant.few);
      first_rises = p.one_rises v.invariant.first_rises;
      second_rises = p.two_rises v.invariant.second_rises;
      clashes_left = v.invariant.clashes_left ∙ p.clashes_left v.invariant.first_rises v.invariant.second_rises agreed;
    }

pub returns : goal.returns
unfolding check_clash clashes
returns c =
    let one = c.args.first.now in
    let two = c.args.second.now in
    let v = c.loop-i in
    let none : clashes (from one v.i) (from two v.j) ≡ false = rw (records_end one v.i (omega (arith, c.loop-i-test.false, v.invariant.walked.in_second))) refl in
    let all = ended one two c.requires.0.whole c.requires.1.whole v.i v.j v.n v.invariant.walked (omega (arith, c.loop-i-test.false)) in
    rw (v.invariant.clashes_left, none, ← all) refl
