-- The box that was found is the first with the smallest bound, so what its halves leave is what the definition's split leaves.
use Rattle.std.proofs.Common.{rules, ◌≡◌, arith, ◌<◌, List, ℕ, ℤ}
use mathlib.Core.Path.{ap, subst}
use Rattle.std.specs.Prelude.{is_none}
use borrow.Author.Tests.{eqb-false}
use Rattle.boxes.specs.declared.Box.{Box}
use Rattle.points.specs.Points.{points_of}
use Rattle.residuals.specs.Cost.{cost, bound}
use Rattle.branching.specs.Branching.{Cut}
use Rattle.branching.specs.declared.Branches.{Branches}
use Rattle.list_rows.specs.Rows.{row_count}
use Rattle.list_rows.proofs.Rows.{Whole}
use Rattle.list_running.specs.declared.Found.{Found}
use Rattle.replacing.specs.Replacing.{Memory, memory, box_found}
use Rattle.search.specs.declared.step.State.{State}
use Rattle.search.specs.Inside.{Steppable}
use Rattle.search.proofs.Stepping.{step_full, step_done}
use Rattle.search.proofs.step.step.Goals as goal

-- the cut is that of the box that was found
made_of :
    (C : List ℤ → ℕ) (B : Box → ℕ) (h : Memory) (s : State) (found : Found) (is : Steppable C B h s found) (b : Box) → b ≡ box_found h found
    → (br : Branches) → Cut C B b s.mark br → Cut C B (box_found h found) s.mark br
made_of C B h s found is b e br cut = subst (λ (x : Box). Cut C B x s.mark br) e cut

-- there is no room
pub returns-in_err-list : goal.returns-in_err-list
returns-in_err-list c =
    let a = c.args in
    let C = cost a.m (points_of a.store.now) in
    let B = bound a.m (points_of a.store.now) in
    let h = memory a.table.now a.bounds.now a.leasts.now a.late.now.rows a.late.now.bounds in
    let made : Cut C B (box_found h a.found) a.s.mark c.cut_box-br.result =
    made_of C B h a.s a.found c.requires.1 c.box_found-b.result c.box_found-b.ensures c.cut_box-br.result
    (c.cut_box-br.ensures.store c.requires.0 c.requires.1.stands.marks (rw c.box_found-b.ensures c.requires.1.wide)
    (λ e. let some = eqb-false a.s.count 0 e in rw c.box_found-b.ensures (c.requires.1.costed (omega arith)))) in
    let q = c.replace in
    let k = memory q.new.table q.new.bounds q.new.leasts q.new.late q.new.beside in
    rw c.from_residual.ensures
    (step_full C B h a.s a.found c.requires.1 c.cut_box-br.result made q.result k q.ensures (ap is_none c.in_err-list.was))

pub returns : goal.returns
returns c =
    let a = c.args in
    let C = cost a.m (points_of a.store.now) in
    let B = bound a.m (points_of a.store.now) in
    let h = memory a.table.now a.bounds.now a.leasts.now a.late.now.rows a.late.now.bounds in
    let made : Cut C B (box_found h a.found) a.s.mark c.cut_box-br.result =
    made_of C B h a.s a.found c.requires.1 c.box_found-b.result c.box_found-b.ensures c.cut_box-br.result
    (c.cut_box-br.ensures.store c.requires.0 c.requires.1.stands.marks (rw c.box_found-b.ensures c.requires.1.wide)
    (λ e. let some = eqb-false a.s.count 0 e in rw c.box_found-b.ensures (c.requires.1.costed (omega arith)))) in
    let q = c.replace in
    let k = memory q.new.table q.new.bounds q.new.leasts q.new.late q.new.beside in
    let left : Whole c.cut_box-br.result.left.half = record { low = search rules; high = search rules } in
    let right : Whole c.cut_box-br.result.right.half = record { low = search rules; high = search rules } in
    let few : row_count a.table.now < 1152921504606846976 = search rules in
    step_done C B h a.s a.found c.requires.1 c.cut_box-br.result made q.result k q.ensures c.in_ok-list.list c.in_ok-list.was left right few
    _ c.max.result (search rules) (search rules)
