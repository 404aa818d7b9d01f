-- The next record of the union is written, from either store.
use Rattle.std.proofs.Common.{◌≡◌, ℕ, ◌+◌, ◌%◌, ◌≤◌, ◌<◌, ◌∙◌, List, ◌++◌, refl, ap, length, take, drop, append_assoc, length-append, length-drop, arith}
use Rattle.std.proofs.Math.Seq.{length-take-le, take_at, drop-append-add, take-add, drop-drop, take-length}
use Rattle.integers.specs.Lists.{over}
use Rattle.frames.specs.Walk.{from, stride}
use Rattle.frames.specs.Frames.{merged}
use Rattle.frames.proofs.Walked.{Walked, Step, begun, step, more_left}
use Rattle.merge.specs.Inside.{put}
use Rattle.merge.proofs.write.write.Goals.{then-f-eq12, else-f-eq12}
use Rattle.merge.proofs.write.write.Goals as goal

-- the next record, behind n bytes that are written
put_next :
    (whole before : List ℕ) (n : ℕ) → n ≤ length whole →
    put (take n whole ++ drop n before) n (take 12 (drop n whole)) ≡ take (n + 12) whole ++ drop (n + 12) before
put_next whole before n h =
    let k : length (take n whole) ≡ n = length-take-le n whole h in
    let e : drop (n + 12) (take n whole ++ drop n before) ≡ drop (n + 12) before =
    (rw k at (drop-append-add (take n whole) (drop n before) 12)) ∙ drop-drop 12 n before in
    rw (take_at (take n whole) (drop n before) n k, e, take-add n 12 whole, append_assoc)

-- the step that is being made
stepping :
    (one two : List ℕ) → (length one % 12 ≡ 0) × (length two % 12 ≡ 0) → (i j n f s bytes : ℕ) → Walked one two i j n →
    bytes ≡ length (merged one two) → n < bytes → f ≡ stride (from one i) (from two j) → s ≡ stride (from two j) (from one i) →
    Step one two i j n f s
stepping one two whole i j n f s bytes walked all more of-f of-s =
    step one two whole.0 whole.1 i j n walked (more_left one two whole.0 whole.1 i j n walked (omega (arith, all, more))) f s of-f of-s

pub loop-n-init : goal.loop-n-init
loop-n-init c = record {
  walked = begun c.args.first.now c.args.second.now c.requires.first_len.0 c.requires.first_len.1;
  written = refl;
  same_length = refl;
}

pub put-requires : goal.put-requires
put-requires c =
    let v = c.loop-n in
    let p = stepping c.args.first.now c.args.second.now c.requires.first_len v.i v.j v.n _ _ c.args.bytes v.invariant.walked c.requires.bytes_value.0 c.loop-n-test.true c.stride-f.ensures c.stride-s.ensures in
    (omega (arith, p.walked.in_merged, v.invariant.same_length, c.requires.bytes_value), omega (arith, p.walked.in_first, c.if-f-eq12.true))

pub put-requires-else-f-eq12 : goal.put-requires-else-f-eq12
put-requires-else-f-eq12 c =
    let v = c.loop-n in
    let p = stepping c.args.first.now c.args.second.now c.requires.first_len v.i v.j v.n _ _ c.args.bytes v.invariant.walked c.requires.bytes_value.0 c.loop-n-test.true c.stride-f.ensures c.stride-s.ensures in (
      omega (arith, p.walked.in_merged, v.invariant.same_length, c.requires.bytes_value),
      omega (arith, p.walked.in_second, (p.from_two c.if-f-eq12.false).0),
    )

pub overflow_add-i : goal.overflow_add-i
overflow_add-i c =
    let v = c.loop-n in
    let p = stepping c.args.first.now c.args.second.now c.requires.first_len v.i v.j v.n _ _ c.args.bytes v.invariant.walked c.requires.bytes_value.0 c.loop-n-test.true c.stride-f.ensures c.stride-s.ensures in
    omega (arith, p.walked.in_first)

pub overflow_add-j : goal.overflow_add-j
overflow_add-j c =
    let v = c.loop-n in
    let p = stepping c.args.first.now c.args.second.now c.requires.first_len v.i v.j v.n _ _ c.args.bytes v.invariant.walked c.requires.bytes_value.0 c.loop-n-test.true c.stride-f.ensures c.stride-s.ensures in
    omega (arith, p.walked.in_second)

pub overflow_add-n : goal.overflow_add-n
overflow_add-n c =
    let v = c.loop-n in
    let p = stepping c.args.first.now c.args.second.now c.requires.first_len v.i v.j v.n _ _ c.args.bytes v.invariant.walked c.requires.bytes_value.0 c.loop-n-test.true c.stride-f.ensures c.stride-s.ensures in
    omega (arith, p.walked.in_merged, c.requires.bytes_value)

pub loop-n-preserved : goal.loop-n-preserved
loop-n-preserved c =
    let v = c.loop-n in
    let p = stepping c.args.first.now c.args.second.now c.requires.first_len v.i v.j v.n _ _ c.args.bytes v.invariant.walked c.requires.bytes_value.0 c.loop-n-test.true c.stride-f.ensures c.stride-s.ensures in
    let whole = merged c.args.first.now c.args.second.now in
    let wrote : c.if-f-eq12.out ≡ put v.out v.n (take 12 (drop v.n whole)) =
    elim c.if-f-eq12.branch [
      | then-f-eq12 w ↦ rw (p.from_one w.if-f-eq12.true) (w.out-is ∙ w.put.ensures)
      | else-f-eq12 w ↦ rw ((p.from_two w.if-f-eq12.false).1) (w.out-is ∙ w.put-else-f-eq12.ensures)
    ] in
    let n = v.n + 12 in
    let e : c.if-f-eq12.out ≡ take n whole ++ drop n c.args.out.now =
    wrote ∙ rw v.invariant.written (put_next whole c.args.out.now v.n v.invariant.walked.in_merged) in
    let k : length (take n whole) ≡ n = length-take-le n whole p.walked.in_merged in
    record {
      walked = p.walked;
      written = e;
      same_length = omega (arith, k, simp (length-append, length-drop) at (ap length e), p.walked.in_merged, c.requires.bytes_value);
    }

pub returns : goal.returns
unfolding over
returns c =
    let v = c.loop-n in
    let whole = merged c.args.first.now c.args.second.now in
    let e : v.n ≡ length whole = omega (arith, v.invariant.walked.in_merged, c.loop-n-test.false, c.requires.bytes_value) in
    rw (v.invariant.written, e, take-length) refl
