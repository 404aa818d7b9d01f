use Rattle.std.proofs.Common.{◌≡◌, ◌+◌, ◌<◌, length, true, false, sym, ◌∙◌, arith}
use Rattle.list_rows.specs.Rows.{row_count}
use Rattle.list_open_boxes.specs.OpenBoxes.{kept_at}
use Rattle.list_open_boxes.proofs.Listing.{none_held, same_row, same_entry, row_held}
use Rattle.list_open_boxes.proofs.sort_out.Goals as goal
use Rattle.list_open_boxes.proofs.sort_out.Goals.{then-keeps, else-keeps}

pub loop-i-init : goal.loop-i-init
loop-i-init c = let a = c.args in none_held a.table.now a.bounds.now (kept_at a.table.now a.bounds.now a.mark)

pub loop-i-preserved : goal.loop-i-preserved
loop-i-preserved c =
    let a = c.args in
    let t = a.table.now in
    let d = a.bounds.now in
    let q = kept_at t d a.mark in
    let l = c.loop-i in
    let i = l.i in
    let there : i < row_count t = omega arith in
    let entry : i < length d = omega arith in
    let same = same_row t d q i l.stay l.table l.bounds there entry l.invariant in
    let number = same_entry t d q i l.stay l.table l.bounds there entry l.invariant in
    let is : c.keeps.result ≡ q i = rw (same, number) at c.keeps.ensures in
    let held = row_held t d q i l.stay l.table l.bounds there entry l.invariant in
    elim c.if-keeps.branch [
      | then-keeps w ↦ rw (w.table-is, w.bounds-is, w.stay-is, w.move_box.ensures.table, w.move_box.ensures.bounds)
          (held true (sym w.if-keeps.true ∙ is))
      | else-keeps w ↦ let none : l.stay + 0 ≡ l.stay = omega arith in
          rw (w.table-is, w.bounds-is, w.stay-is) (rw none at (held false (sym w.if-keeps.false ∙ is)))
    ]
