-- Behind the first n stand those of the late boxes passed that are kept, as many as there is room for.
use Rattle.std.proofs.Common.{◌++◌, take}
use Rattle.list_rows.specs.Rows.{row_at, rows_of}
use Rattle.list_first_smallest.specs.FirstSmallest.{entry_at}
use Rattle.list_open_boxes.specs.OpenBoxes.{Held, kept_at, picked, room_in}
use Rattle.list_open_boxes.proofs.append.Given as goal

abbrev pub invariant-loop-i : goal.invariant-loop-i
invariant-loop-i l =
    let t = l.initial.table in
    let d = l.initial.bounds in
    let q = kept_at l.late l.beside l.mark in
    Held t d l.end (take (room_in t d) (rows_of t l.n ++ picked (row_at l.late) q l.i))
    (take (room_in t d) (take l.n d ++ picked (entry_at l.beside) q l.i)) l.end l.table l.bounds
