-- Job after job: each is given its share, and what it spends is left for none behind it.
use Rattle.std.proofs.Common.{◌≡◌, ◌-◌, ◌<◌, get_or, ℕ, arith}
use mathlib.Core.Path.{refl}
use Rattle.one_board.specs.Board.{under}
use Rattle.boards.specs.Boards.{job_at, budget_at}
use Rattle.boards.proofs.Boarding.{begin_few, record_read, given, affordable, next_turn, first_turn}
use Rattle.boards.proofs.each_board.Goals as goal

pub loop-i-init : goal.loop-i-init
loop-i-init c =
    let a = c.args in
    first_turn a.count a.total a.jobs.now a.stores.now a.lengths.now a.table.now a.bounds.now c.refused-answers.result
    c.refused-answers.ensures

pub overflow_add-from : goal.overflow_add-from
overflow_add-from c =
    let a = c.args in
    let small : (i : ℕ) → get_or a.lengths.now i 0 < 4294967296 = λ i. (c.type_inv.lengths i).fits in
    omega (
      arith,
      c.loop-i.invariant.next,
      begin_few a.lengths.now small c.loop-i.i,
      small c.loop-i.i,
      c.loop-i-test.true,
      c.requires.0,
    )

pub overflow_sub-left : goal.overflow_sub-left
overflow_sub-left c =
    let a = c.args in
    let l = c.loop-i in
    let s = c.search_part-answer in
    let read = record_read a.jobs.now l.i in
    let its : c.allotted-job.result
    ≡ under (job_at a.jobs.now l.i) (budget_at a.count a.total a.jobs.now a.stores.now a.lengths.now a.table.now a.bounds.now l.i) =
    given a.count a.total a.jobs.now a.stores.now a.lengths.now a.table.now a.bounds.now l.i l.left (a.count - l.i)
    _ c.allotted-job.result read refl l.invariant.splits c.allotted-job.ensures in
    affordable a.count a.total a.jobs.now a.stores.now a.lengths.now a.table.now a.bounds.now l.i c.loop-i-test.true
    c.requires.0 l.left l.from l.answers l.budgets l.table l.bounds l.invariant c.allotted-job.result its
    (get_or a.lengths.now l.i 0) refl s.result s.new.table s.new.bounds
    (s.ensures.answer, (s.ensures.table, s.ensures.bounds))

pub loop-i-preserved : goal.loop-i-preserved
loop-i-preserved c =
    let a = c.args in
    let l = c.loop-i in
    let s = c.search_part-answer in
    let read = record_read a.jobs.now l.i in
    let its : c.allotted-job.result
    ≡ under (job_at a.jobs.now l.i) (budget_at a.count a.total a.jobs.now a.stores.now a.lengths.now a.table.now a.bounds.now l.i) =
    given a.count a.total a.jobs.now a.stores.now a.lengths.now a.table.now a.bounds.now l.i l.left (a.count - l.i)
    _ c.allotted-job.result read refl l.invariant.splits c.allotted-job.ensures in
    next_turn a.count a.total a.jobs.now a.stores.now a.lengths.now a.table.now a.bounds.now l.i c.loop-i-test.true
    c.requires.0 l.left l.from l.answers l.budgets l.table l.bounds l.invariant c.allotted-job.result its
    (get_or a.lengths.now l.i 0) refl s.result s.new.table s.new.bounds
    (s.ensures.answer, (s.ensures.table, s.ensures.bounds))
