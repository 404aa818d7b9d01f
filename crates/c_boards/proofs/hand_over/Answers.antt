-- One more slot lays its code, its vector and its numbers behind those before it.
use Rattle.std.proofs.Common.{rules, ◌≡◌, ◌<◌, length, arith}
use mathlib.Core.Path.{refl}
use Rattle.c_boards.proofs.Handing.{element_there, none_handed, next_slot, all_handed}
use Rattle.c_boards.proofs.hand_over.Goals as goal

pub loop-i-init : goal.loop-i-init
loop-i-init c =
    let a = c.args in
    none_handed a.count a.b.answers a.codes.now a.vectors.now a.numbers.now (c.requires.0, c.requires.2, c.requires.3)

pub loop-i-preserved : goal.loop-i-preserved
loop-i-preserved c =
    let a = c.args in
    let l = c.loop-i in
    let h = c.hand_slot in
    let there : l.i < length a.b.answers = search rules in
    next_slot a.count a.b.answers a.codes.now a.vectors.now a.numbers.now (c.requires.0, c.requires.2, c.requires.3) l.i l.codes
    l.vectors l.numbers l.invariant (search rules) _ _ h.result h.new.vector h.new.numbers
    (element_there a.b.answers l.i _ _ there) refl
    (h.ensures.code, (h.ensures.vector, (h.ensures.numbers, h.ensures.long)))

pub returns-clause-codes : goal.returns-clause-codes
returns-clause-codes c =
    let a = c.args in
    let l = c.loop-i in
    let done : l.i ≡ 8 = search rules in
    (all_handed a.count a.b.answers a.codes.now a.vectors.now a.numbers.now (c.requires.0, c.requires.2, c.requires.3) l.codes l.vectors
    l.numbers (rw done at l.invariant)).0

pub returns-clause-vectors : goal.returns-clause-vectors
returns-clause-vectors c =
    let a = c.args in
    let l = c.loop-i in
    let done : l.i ≡ 8 = search rules in
    (all_handed a.count a.b.answers a.codes.now a.vectors.now a.numbers.now (c.requires.0, c.requires.2, c.requires.3) l.codes l.vectors
    l.numbers (rw done at l.invariant)).1.0

pub returns-clause-numbers : goal.returns-clause-numbers
returns-clause-numbers c =
    let a = c.args in
    let l = c.loop-i in
    let done : l.i ≡ 8 = search rules in
    (all_handed a.count a.b.answers a.codes.now a.vectors.now a.numbers.now (c.requires.0, c.requires.2, c.requires.3) l.codes l.vectors
    l.numbers (rw done at l.invariant)).1.1
