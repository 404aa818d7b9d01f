use Rattle.list_rows.specs.Rows.{row_at}
use Rattle.list_first_smallest.specs.FirstSmallest.{entry_at}
use Rattle.list_open_boxes.specs.OpenBoxes.{kept_at, picked}
use Rattle.list_open_boxes.proofs.Listing.{behind_held}
use Rattle.list_open_boxes.proofs.settle.Goals as goal

-- the late boxes that are kept are written behind what is kept of the first ones
pub returns : goal.returns
returns c =
    let a = c.args in
    let t = a.table.now in
    let d = a.bounds.now in
    let v = a.late.now in
    let f = a.beside.now in
    let n = c.listed-count.result in
    let m = c.listed-more.result in
    let q = kept_at t d a.mark in
    let q₂ = kept_at v f a.mark in
    let p = c.sort_out-stay in
    rw (← c.listed-count.ensures, ← c.listed-more.ensures)
    (behind_held t d n (picked (row_at t) q n) (picked (entry_at d) q n) p.result p.new.table p.new.bounds p.ensures
    (picked (row_at v) q₂ m) (picked (entry_at f) q₂ m) c.append.result c.append.new.table c.append.new.bounds c.append.ensures)
