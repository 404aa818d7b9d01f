-- By what there is behind the store, and by the room.
use Rattle.std.proofs.Common.{refl, arith}
use Rattle.bus_exchange.proofs.Parts.{Wrote, store_cut, no_room, all_replied}
use Rattle.bus_exchange.proofs.exchange.Goals.{then-input-end-via-then-input-end, then-input-end-via-else-input-end+then-out-input}
use Rattle.bus_exchange.proofs.exchange.Goals as goal

pub returns-then-input-end : goal.returns-then-input-end
returns-then-input-end c =
    let a = c.args in
    let n = c.get_number in
    let w : Wrote a.input.now n.result n.ensures.value a.out.now 0 a.out.now =
    elim c.then-input-end.branch [
      | then-input-end-via-then-input-end w ↦ store_cut a.input.now n.result n.ensures.value a.out.now w.if-input-end.true
      | then-input-end-via-else-input-end+then-out-input w ↦ no_room a.input.now n.result n.ensures.value a.out.now w.if-out-input.true
    ] in
    record { count = w.0; replies = w.1 }

pub returns : goal.returns
returns c =
    let a = c.args in
    let w = all_replied a.input.now c.get_number.result c.get_number.ensures.value a.out.now c.reply.result c.reply.new.out
    _ _ refl refl (omega arith) c.reply.ensures.count c.reply.ensures.replies in
    record { count = w.0; replies = w.1 }
