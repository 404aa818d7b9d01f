-- By whether the store lies in its buffer: the search's own check decides then, and else it is refused by 1.
use Rattle.std.proofs.Common.{◌+◌, ◌<◌, ◌≤◌, length, arith}
use Rattle.one_board.proofs.Alone.{past_buffer, in_buffer, part_lent}
use Rattle.one_board.proofs.search_part.Goals.{then-stores-from-via-then-stores-from, then-stores-from-via-else-stores-from+then-stores-from-2}
use Rattle.one_board.proofs.search_part.Goals as goal

pub returns-then-stores-from : goal.returns-then-stores-from
returns-then-stores-from c =
    let a = c.args in
    let past : length a.stores.now < a.from + a.size =
    elim c.then-stores-from.branch [
      | then-stores-from-via-then-stores-from w ↦ omega (arith, w.if-stores-from.true)
      | then-stores-from-via-else-stores-from+then-stores-from-2 w ↦
          omega (arith, w.if-stores-from.false, w.if-stores-from-2.true)
    ] in
    let p = past_buffer a.stores.now a.from a.size a.job a.table.now a.bounds.now c.refused.result past c.refused.ensures in
    record { answer = p.0; table = p.1.0; bounds = p.1.1 }

pub returns : goal.returns
returns c =
    let a = c.args in
    let s = c.search in
    let here : a.from + a.size ≤ length a.stores.now = omega (arith, c.if-stores-from.false, c.if-stores-from-2.false) in
    let p =
    in_buffer a.stores.now a.from a.size a.job a.table.now a.bounds.now s.result s.new.table s.new.bounds _ here
    (part_lent a.stores.now a.from a.size) (s.ensures.answer, (s.ensures.table, (s.ensures.bounds, s.ensures.certificate))) in
    record { answer = p.0; table = p.1.0; bounds = p.1.1 }
