use Rattle.std.proofs.Common.{◌++◌, take, append_assoc, arith}
use Rattle.list_rows.specs.Rows.{row_at, rows_of}
use Rattle.list_rows.proofs.Rows.{row_whole}
use Rattle.list_first_smallest.specs.FirstSmallest.{entry_at}
use Rattle.incumbent.specs.declared.Child.{Child}
use Rattle.list_open_boxes.specs.OpenBoxes.{kept_at, picked}
use Rattle.list_open_boxes.proofs.Picking.{picked_more}
use Rattle.list_open_boxes.proofs.Listing.{Put, first_held, one_taken}
use Rattle.list_open_boxes.proofs.append.Goals as goal

pub loop-i-init : goal.loop-i-init
loop-i-init c =
    let a = c.args in
    first_held a.table.now a.bounds.now a.n (omega arith) (row_at a.late.now) (entry_at a.beside.now) (kept_at a.late.now a.beside.now a.mark)

pub loop-i-preserved : goal.loop-i-preserved
loop-i-preserved c =
    let a = c.args in
    let t = a.table.now in
    let d = a.bounds.now in
    let v = a.late.now in
    let f = a.beside.now in
    let q = kept_at v f a.mark in
    let l = c.loop-i in
    let i = l.i in
    let child : Child = record { half = row_at v i; bound = entry_at f i; kept = q i } in
    let read : Child = record { half = c.read_row-half.result; bound = entry_at f i; kept = c.keeps-kept.result } in
    let done : Put t d l.table l.bounds l.end read c.put-end.result c.put-end.new.table c.put-end.new.bounds =
    (c.put-end.ensures.told, (c.put-end.ensures.table, c.put-end.ensures.bounds)) in
    let is : Put t d l.table l.bounds l.end child c.put-end.result c.put-end.new.table c.put-end.new.bounds =
    rw (c.read_row-half.ensures, c.keeps-kept.ensures) at done
    in
    rw (picked_more (row_at v) q i, picked_more (entry_at f) q i)
    (rw (← append_assoc (rows_of t a.n) (picked (row_at v) q i) _, ← append_assoc (take a.n d) (picked (entry_at f) q i) _)
    (one_taken t d (rows_of t a.n ++ picked (row_at v) q i) (take a.n d ++ picked (entry_at f) q i)
    l.end l.table l.bounds l.invariant child (row_whole v i) c.put-end.result c.put-end.new.table c.put-end.new.bounds is))
