-- Each turn's way out, and its step, is the definition's.
use Rattle.std.proofs.Common.{rules, ◌≡◌, ◌≤◌, ◌-◌, length, ℕ, List, true, false}
use mathlib.Core.Path.{sym, ap, ◌∙◌}
use Rattle.std.specs.Prelude.{is_none}
use Rattle.boxes.specs.Boxes.{InBox}
use Rattle.jobs.specs.declared.Job.{Job}
use Rattle.points.specs.Points.{points_of}
use Rattle.residuals.proofs.Bounds.{bound_laws}
use Rattle.incumbent.specs.Incumbent.{solved_by}
use Rattle.list_rows.specs.Rows.{row_count}
use Rattle.list_running.specs.Listing.{spot_in}
use Rattle.replacing.specs.Replacing.{Memory, memory}
use Rattle.search.specs.Search.{searched}
use Rattle.search.proofs.Going.{Ready, going_begins, low_le, going_solved, going_spent, going_steppable, going_full, going_on, going_counts}
use Rattle.search.proofs.run.steps.Invariants.{run_of}
use Rattle.search.proofs.run.steps.Goals as goal

ready :
    (store : List ℕ) (job : Job) (h : Memory) → InBox job.start job.domain → 1 ≤ row_count h.table → row_count h.table ≤ length h.bounds
    → Ready (run_of store job h)
ready store job h inside some enough =
    record { laws = bound_laws job.model (points_of store); inside = inside; some = some; enough = enough }

pub loop-job-init : goal.loop-job-init
loop-job-init c =
    let a = c.args in
    going_begins (run_of a.store.now a.job (memory a.table.now a.bounds.now a.leasts.now a.late.now.rows a.late.now.bounds)) a.first
    c.requires.evaluable.4 c.requires.evaluable.5 c.requires.evaluable.6 c.requires.begun

pub overflow_sub-mark : goal.overflow_sub-mark
overflow_sub-mark c =
    let a = c.args in
    let h = memory a.table.now a.bounds.now a.leasts.now a.late.now.rows a.late.now.bounds in
    let r = run_of a.store.now a.job h in
    let e = c.requires.evaluable in
    let y : Ready r = ready a.store.now a.job h e.3 e.1 e.2 in
    let l = c.loop-job in
    let k = memory l.table l.bounds l.leasts l.late.rows l.late.bounds in
    let f = c.lowest-found in
    rw c.bound-low.ensures (low_le r y l.s k l.invariant f.result f.ensures)

pub returns-then-solved : goal.returns-then-solved
unfolding searched
returns-then-solved c =
    let a = c.args in
    let h = memory a.table.now a.bounds.now a.leasts.now a.late.now.rows a.late.now.bounds in
    let r = run_of a.store.now a.job h in
    let e = c.requires.evaluable in
    let y : Ready r = ready a.store.now a.job h e.3 e.1 e.2 in
    let l = c.loop-job in
    let k = memory l.table l.bounds l.leasts l.late.rows l.late.bounds in
    let f = c.lowest-found in
    let solves : solved_by a.job.t (l.s.mark.cost - (spot_in f.result).bound) l.s.list.number ≡ true =
    rw (← c.bound-low.ensures) (sym c.is_solved-solved.ensures ∙ c.if-solved.true) in
    rw (c.ended.ensures, c.bound-low.ensures) (going_solved r y l.s k l.invariant f.result f.ensures solves)

pub returns-then-spent : goal.returns-then-spent
unfolding searched
returns-then-spent c =
    let a = c.args in
    let h = memory a.table.now a.bounds.now a.leasts.now a.late.now.rows a.late.now.bounds in
    let r = run_of a.store.now a.job h in
    let e = c.requires.evaluable in
    let y : Ready r = ready a.store.now a.job h e.3 e.1 e.2 in
    let l = c.loop-job in
    let k = memory l.table l.bounds l.leasts l.late.rows l.late.bounds in
    let f = c.lowest-found in
    let unsolved : solved_by a.job.t (l.s.mark.cost - (spot_in f.result).bound) l.s.list.number ≡ false =
    rw (← c.bound-low.ensures) (sym c.is_solved-solved.ensures ∙ c.if-solved.false) in
    rw (c.ended-then-spent.ensures, c.bound-low.ensures) (going_spent r y l.s k l.invariant f.result f.ensures unsolved c.if-spent.true)

pub step-requires : goal.step-requires
step-requires c =
    let a = c.args in
    let h = memory a.table.now a.bounds.now a.leasts.now a.late.now.rows a.late.now.bounds in
    let r = run_of a.store.now a.job h in
    let e = c.requires.evaluable in
    let y : Ready r = ready a.store.now a.job h e.3 e.1 e.2 in
    let l = c.loop-job in
    let k = memory l.table l.bounds l.leasts l.late.rows l.late.bounds in
    let f = c.lowest-found in
    let unsolved : solved_by a.job.t (l.s.mark.cost - (spot_in f.result).bound) l.s.list.number ≡ false =
    rw (← c.bound-low.ensures) (sym c.is_solved-solved.ensures ∙ c.if-solved.false) in
    let left : l.s.count ≡ a.job.budget → ⊥ = λ e. c.if-spent.false e in
    (e.0, going_steppable r y l.s k l.invariant f.result f.ensures unsolved left (search rules))

pub returns-in-None : goal.returns-in-None
unfolding searched
returns-in-None c =
    let a = c.args in
    let h = memory a.table.now a.bounds.now a.leasts.now a.late.now.rows a.late.now.bounds in
    let r = run_of a.store.now a.job h in
    let e = c.requires.evaluable in
    let y : Ready r = ready a.store.now a.job h e.3 e.1 e.2 in
    let l = c.loop-job in
    let k = memory l.table l.bounds l.leasts l.late.rows l.late.bounds in
    let f = c.lowest-found in
    let unsolved : solved_by a.job.t (l.s.mark.cost - (spot_in f.result).bound) l.s.list.number ≡ false =
    rw (← c.bound-low.ensures) (sym c.is_solved-solved.ensures ∙ c.if-solved.false) in
    let left : l.s.count ≡ a.job.budget → ⊥ = λ e. c.if-spent.false e in
    let x = c.step.new in
    let after = memory x.table x.bounds x.leasts x.late.rows x.late.bounds in
    rw (c.ended-in-None.ensures, c.bound-low.ensures)
    (going_full r y l.s k l.invariant f.result f.ensures unsolved left c.step.result after c.step.ensures (ap is_none c.in-None.is))

pub loop-job-smaller : goal.loop-job-smaller
loop-job-smaller c =
    let a = c.args in
    let h = memory a.table.now a.bounds.now a.leasts.now a.late.now.rows a.late.now.bounds in
    let r = run_of a.store.now a.job h in
    let e = c.requires.evaluable in
    let y : Ready r = ready a.store.now a.job h e.3 e.1 e.2 in
    let l = c.loop-job in
    let k = memory l.table l.bounds l.leasts l.late.rows l.late.bounds in
    let f = c.lowest-found in
    let unsolved : solved_by a.job.t (l.s.mark.cost - (spot_in f.result).bound) l.s.list.number ≡ false =
    rw (← c.bound-low.ensures) (sym c.is_solved-solved.ensures ∙ c.if-solved.false) in
    let left : l.s.count ≡ a.job.budget → ⊥ = λ e. c.if-spent.false e in
    let x = c.step.new in
    let after = memory x.table x.bounds x.leasts x.late.rows x.late.bounds in
    going_counts r y l.s k l.invariant f.result f.ensures unsolved left c.step.result after c.step.ensures c.in-Some.after c.in-Some.is

pub loop-job-preserved : goal.loop-job-preserved
loop-job-preserved c =
    let a = c.args in
    let h = memory a.table.now a.bounds.now a.leasts.now a.late.now.rows a.late.now.bounds in
    let r = run_of a.store.now a.job h in
    let e = c.requires.evaluable in
    let y : Ready r = ready a.store.now a.job h e.3 e.1 e.2 in
    let l = c.loop-job in
    let k = memory l.table l.bounds l.leasts l.late.rows l.late.bounds in
    let f = c.lowest-found in
    let unsolved : solved_by a.job.t (l.s.mark.cost - (spot_in f.result).bound) l.s.list.number ≡ false =
    rw (← c.bound-low.ensures) (sym c.is_solved-solved.ensures ∙ c.if-solved.false) in
    let left : l.s.count ≡ a.job.budget → ⊥ = λ e. c.if-spent.false e in
    let x = c.step.new in
    let after = memory x.table x.bounds x.leasts x.late.rows x.late.bounds in
    going_on r y l.s k l.invariant f.result f.ensures unsolved left c.step.result after c.step.ensures c.in-Some.after c.in-Some.is
