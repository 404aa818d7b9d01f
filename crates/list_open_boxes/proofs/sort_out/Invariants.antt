-- Of the rows passed those that are kept are the first, and the rest is as it was.
use Rattle.list_rows.specs.Rows.{row_at}
use Rattle.list_first_smallest.specs.FirstSmallest.{entry_at}
use Rattle.list_open_boxes.specs.OpenBoxes.{Held, kept_at, picked}
use Rattle.list_open_boxes.proofs.sort_out.Given as goal

abbrev pub invariant-loop-i : goal.invariant-loop-i
invariant-loop-i l =
    let t = l.initial.table in
    let d = l.initial.bounds in
    let q = kept_at t d l.mark in
    Held t d l.i (picked (row_at t) q l.i) (picked (entry_at d) q l.i) l.stay l.table l.bounds
