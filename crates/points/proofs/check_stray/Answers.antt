-- A record is what stands at its place of the store, so its fields are those of its point.
use Rattle.std.proofs.Common.{rules, arith, sym, ap, ◌≡◌, ◌∙◌, ◌+◌, ◌*◌, ◌/◌, ◌<◌, ◌≤◌, ℕ, length, get_or, pos, nat_abs, drop, length-drop}
use Prim.Native.Nat.{max}
use Rattle.std.specs.Iterator.Adapters.{enumerate_count}
use Rattle.points.specs.Points.{point_at, first_points, points_of, xs, stray_from, check_stray}
use Rattle.codes.specs.declared.Refusal.TheVariants.{Stray}
use Rattle.integers.specs.Integers.{all_zero}
use Rattle.integers.proofs.Zeros.{zero_past, zero_none}
use Rattle.points.proofs.Laws.{x_zero, zero_x, clear_more, stray_found, stray_stays, in_record, next_record, record_inside, further}
use Rattle.points.proofs.check_stray.Goals.{else-first-k-via-then-first-k+else-unsigned_at-ne0, else-first-k-via-else-first-k}
use Rattle.points.proofs.check_stray.Goals as goal

pub records-init : goal.records-init
unfolding first_points stray_from
records-init c = search rules

pub records-preserved : goal.records-preserved
records-preserved c =
    let r = c.records.invariant in
    let e = c.in-Some.ensures.steps in
    let s = c.args.store.now in
    let n = c.in-Some.i in
    let next : enumerate_count c.next.new.self ≡ n + 1 = omega (arith, e.1, e.2) in
    let here = ap (λ (m : ℕ). drop (m * 12) s) e.1 ∙ sym r.rest ∙ e.0.1.0 in
    let long = e.0.1.1 ∙ r.size in
    let q = xs (point_at s n) in
    let all : 4 ≤ max c.args.d c.loop-k.k = omega (arith, c.loop-k-test.false) in
    let zero = c.loop-k.invariant.1 ∙ zero_past q (max c.args.d c.loop-k.k) all in
    record {
      found = c.loop-k.invariant.0;
      before = rw next (record_inside s n _ _ here long);
      rest = rw next (sym (next_record s n _ _ here long));
      size = e.0.0 ∙ r.size;
      clear = rw next (clear_more c.args.d s n (rw e.1 r.clear) zero);
    }

pub loop-k-preserved : goal.loop-k-preserved
loop-k-preserved c =
    let r = c.records.invariant in
    let e = c.in-Some.ensures.steps in
    let s = c.args.store.now in
    let n = c.in-Some.i in
    let k = c.loop-k.k in
    let h : k < 4 = omega (arith, c.loop-k-test.true) in
    let here = ap (λ (m : ℕ). drop (m * 12) s) e.1 ∙ sym r.rest ∙ e.0.1.0 in
    let field = in_record s n _ _ here (e.0.1.1 ∙ r.size) k h in
    let q = xs (point_at s n) in
    let zero : c.args.d ≤ k → nat_abs (get_or q k (pos 0)) ≡ 0 =
    λ u.
    elim c.else-first-k.branch [
      | else-first-k-via-then-first-k+else-unsigned_at-ne0 w ↦
          x_zero s n k h (sym field ∙ sym w.unsigned_at.ensures ∙ w.if-unsigned_at-ne0.false)
      | else-first-k-via-else-first-k w ↦ absurd (omega (arith, u, w.if-first-k.false))
    ] in
    (c.loop-k.invariant.0, c.loop-k.invariant.1 ∙ further q c.args.d k h zero)

pub returns-in-None : goal.returns-in-None
unfolding check_stray points_of
returns-in-None c =
    let r = c.records.invariant in
    let s = c.args.store.now in
    let few = c.in-None.ensures.steps.0.1.0 in
    let all : enumerate_count c.records.i-iterator ≡ length s / 12 =
    omega (arith, few, r.size, r.before, ap length r.rest, length-drop (enumerate_count c.records.i-iterator * 12) s) in
    r.found ∙ sym r.clear ∙ ap (λ (n : ℕ). stray_from c.args.d 0 (first_points s n)) all

pub returns-then-unsigned_at-ne0 : goal.returns-then-unsigned_at-ne0
unfolding check_stray points_of
returns-then-unsigned_at-ne0 c =
    let r = c.records.invariant in
    let e = c.in-Some.ensures.steps in
    let s = c.args.store.now in
    let n = c.in-Some.i in
    let k = c.loop-k.k in
    let h : k < 4 = omega (arith, c.loop-k-test.true) in
    let here = ap (λ (m : ℕ). drop (m * 12) s) e.1 ∙ sym r.rest ∙ e.0.1.0 in
    let long = e.0.1.1 ∙ r.size in
    let more : n + 1 ≤ length s / 12 = omega (arith, record_inside s n _ _ here long) in
    let field = in_record s n _ _ here long k h in
    let q = xs (point_at s n) in
    let used : max c.args.d k ≡ k = omega (arith, c.if-first-k.true) in
    let stray =
    c.loop-k.invariant.1 ∙ ap (λ (m : ℕ). all_zero (drop m q)) used
    ∙ zero_none q k h (λ z. c.if-unsigned_at-ne0.true (c.unsigned_at.ensures ∙ field ∙ zero_x s n k h z)) in
    sym (stray_stays c.args.d s (Stray n) more (stray_found c.args.d s n (rw e.1 r.clear) stray))
