-- Each window lies in the store and its record's place in the output, and its job is accepted.
use Rattle.std.proofs.Common.{rules, ◌≡◌, ◌+◌, ◌-◌, ◌*◌, ◌/◌, ◌<◌, ◌≤◌, length, List, ℕ, ℤ, arith}
use mathlib.Core.Path.{◌∙◌}
use Rattle.codes.specs.Codes.{pass}
use Rattle.fields.proofs.Parts.{lent_size}
use Rattle.jobs.specs.declared.Job.{Job}
use Rattle.window_checks.specs.Checks.{window_count}
use Rattle.window_checks.proofs.Passed.{given, records_few, room_given, window_there}
use Rattle.window_runs.specs.Windows.{check_pass}
use Rattle.window_runs.proofs.Windowing.{window_lent}
use Rattle.window_runs.proofs.Passing.{out_long, first_turn, next_turn, turn_accepted}
use Rattle.job_records.proofs.Typed.{is_job}
use Rattle.windows.proofs.each_window.Goals as goal

-- where window i lies
record Placed (store : List ℕ) (k h : ℕ) (out : List ℕ) (i : ℕ) : Type 0 where
  there : 12 * (i * h) + 12 * k ≤ length store
  short : length store / 12 ≤ 4096
  placed : 40 * i + 40 ≤ length out

place_of : (store : List ℕ) (job : Job) (k h : ℕ) (table : List ℤ) (bounds out : List ℕ) (count : ℕ)
    → check_pass store job k h table bounds out ≡ pass → count ≡ window_count (length store / 12) k h → (i : ℕ) → i < count
    → Placed store k h out i
place_of store job k h table bounds out count ok all i below =
    let room = room_given store job k h (length table) (length bounds) (length out) ok in
    record {
      there =
          window_there store job k h (length table) (length bounds) (length out) ok i (omega (arith, all, below));
      short = records_few store job k (given store job k h (length table) (length bounds) (length out) ok);
      placed = omega (arith, room, all, below);
    }

pub loop-i-init : goal.loop-i-init
loop-i-init c =
    let a = c.args in
    first_turn a.store.now a.job a.k a.h a.table.now a.bounds.now a.out.now c.requires.0 a.count

pub overflow_mul-from : goal.overflow_mul-from
overflow_mul-from c =
    let a = c.args in
    let p = place_of a.store.now a.job a.k a.h a.table.now a.bounds.now a.out.now a.count c.requires.0 c.requires.1 c.loop-i.i c.loop-i-test.true in
    omega (arith, p.there, p.short)

pub overflow_mul-from-in-loop-i : goal.overflow_mul-from-in-loop-i
overflow_mul-from-in-loop-i c =
    let a = c.args in
    let p = place_of a.store.now a.job a.k a.h a.table.now a.bounds.now a.out.now a.count c.requires.0 c.requires.1 c.loop-i.i c.loop-i-test.true in
    omega (arith, p.there, p.short)

pub overflow_mul-k : goal.overflow_mul-k
overflow_mul-k c =
    let a = c.args in
    let p = place_of a.store.now a.job a.k a.h a.table.now a.bounds.now a.out.now a.count c.requires.0 c.requires.1 c.loop-i.i c.loop-i-test.true in
    omega (arith, p.there, p.short)

pub overflow_add-from : goal.overflow_add-from
overflow_add-from c =
    let a = c.args in
    let p = place_of a.store.now a.job a.k a.h a.table.now a.bounds.now a.out.now a.count c.requires.0 c.requires.1 c.loop-i.i c.loop-i-test.true in
    omega (arith, p.there, p.short)

pub slice_bounds-window-end : goal.slice_bounds-window-end
slice_bounds-window-end c =
    let a = c.args in
    (place_of a.store.now a.job a.k a.h a.table.now a.bounds.now a.out.now a.count c.requires.0 c.requires.1 c.loop-i.i
    c.loop-i-test.true).there

pub overflow_mul-place : goal.overflow_mul-place
overflow_mul-place c =
    let a = c.args in
    let p = place_of a.store.now a.job a.k a.h a.table.now a.bounds.now a.out.now a.count c.requires.0 c.requires.1 c.loop-i.i c.loop-i-test.true in
    let fits : length a.out.now < 18446744073709551616 = search (rules, c.well_formed.1.1.1.1.1.1.1.0) in
    omega (arith, p.placed)

pub overflow_mul-place-in-loop-i : goal.overflow_mul-place-in-loop-i
overflow_mul-place-in-loop-i c =
    let a = c.args in
    let p = place_of a.store.now a.job a.k a.h a.table.now a.bounds.now a.out.now a.count c.requires.0 c.requires.1 c.loop-i.i c.loop-i-test.true in
    let fits : length a.out.now < 18446744073709551616 = search (rules, c.well_formed.1.1.1.1.1.1.1.0) in
    omega (arith, p.placed)

pub overflow_add-place : goal.overflow_add-place
overflow_add-place c =
    let a = c.args in
    let p = place_of a.store.now a.job a.k a.h a.table.now a.bounds.now a.out.now a.count c.requires.0 c.requires.1 c.loop-i.i c.loop-i-test.true in
    let fits : length a.out.now < 18446744073709551616 = search (rules, c.well_formed.1.1.1.1.1.1.1.0) in
    omega (arith, p.placed)

pub slice_bounds-place-end : goal.slice_bounds-place-end
slice_bounds-place-end c =
    let a = c.args in
    let l = c.loop-i in
    let p = place_of a.store.now a.job a.k a.h a.table.now a.bounds.now a.out.now a.count c.requires.0 c.requires.1 l.i c.loop-i-test.true in
    let long : length l.out ≡ length a.out.now =
    out_long a.store.now a.job a.k a.h a.table.now a.bounds.now a.out.now c.requires.0 (is_job a.job _ c.well_formed.1.0) l.i
    (omega (arith, c.requires.1, l.invariant.few)) l.table l.bounds l.out l.invariant.passed in
    omega (arith, p.placed, long)

pub window-current-requires : goal.window-current-requires
window-current-requires c =
    let a = c.args in
    let l = c.loop-i in
    let p = place_of a.store.now a.job a.k a.h a.table.now a.bounds.now a.out.now a.count c.requires.0 c.requires.1 l.i c.loop-i-test.true in
    let long : length l.out ≡ length a.out.now =
    out_long a.store.now a.job a.k a.h a.table.now a.bounds.now a.out.now c.requires.0 (is_job a.job _ c.well_formed.1.0) l.i
    (omega (arith, c.requires.1, l.invariant.few)) l.table l.bounds l.out l.invariant.passed in (
      turn_accepted a.store.now a.job a.k a.h a.table.now a.bounds.now a.out.now c.requires.0 a.count l.i
          (omega (arith, c.requires.1, c.loop-i-test.true)) l.current l.table l.bounds l.out _ l.invariant
          (window_lent a.store.now a.k a.h l.i),
      lent_size l.out (40 * l.i) 40 (omega (arith, p.placed, long)),
    )

pub loop-i-preserved : goal.loop-i-preserved
loop-i-preserved c =
    let a = c.args in
    let l = c.loop-i in
    let w = c.window-current in
    let e = w.ensures in
    next_turn a.store.now a.job a.k a.h a.table.now a.bounds.now a.out.now c.requires.0 (is_job a.job _ c.well_formed.1.0) a.count
    c.requires.1 l.i (omega (arith, c.requires.1, c.loop-i-test.true)) l.current l.table l.bounds l.out _ l.invariant
    (window_lent a.store.now a.k a.h l.i) w.result w.new.table w.new.bounds w.new.place w.ensures
    ((40 * l.i + 40) - 40 * l.i) (omega arith)
