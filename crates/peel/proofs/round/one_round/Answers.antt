-- The records left are gathered, searched and labelled.
use Rattle.std.proofs.Common.{rules, ◌≡◌, ◌≤◌, length, replicate, ℕ, arith}
use native.Mathlib.Numerals.{add-one}
use mathlib.Core.Path.{sym}
use lib.ListN.{length-replicate}
use lib.Seq.{length-take-le}
use Rattle.peel_rounds.proofs.Searching.{gathered_few, line_gathered, round_done}
use Rattle.peel.proofs.round.one_round.Goals as goal

pub slice_bounds-left-end : goal.slice_bounds-left-end
slice_bounds-left-end c =
    let a = c.args in
    let g = c.gather-n in
    gathered_few a.store.now a.job a.i a.more a.labels.now a.table.now a.bounds.now c.requires (replicate {A = ℕ} 49152 0)
    g.new.out g.result (length-replicate {A = ℕ} 49152 0) g.ensures.bytes g.ensures.output g.auto.out

pub slice_bounds-search-end : goal.slice_bounds-search-end
slice_bounds-search-end c =
    let a = c.args in
    let g = c.gather-n in
    sym
    (length-take-le g.result g.new.out
    (gathered_few a.store.now a.job a.i a.more a.labels.now a.table.now a.bounds.now c.requires (replicate {A = ℕ} 49152 0)
    g.new.out g.result (length-replicate {A = ℕ} 49152 0) g.ensures.bytes g.ensures.output g.auto.out))

pub remove-removed-requires : goal.remove-removed-requires
remove-removed-requires c =
    let a = c.args in
    let g = c.gather-n in
    line_gathered a.store.now a.job a.i a.more a.labels.now a.table.now a.bounds.now c.requires (replicate {A = ℕ} 49152 0)
    g.new.out g.result (length-replicate {A = ℕ} 49152 0) g.ensures.bytes g.ensures.output c.search-answer.result
    c.search-answer.ensures.answer

pub returns : goal.returns
returns c =
    let a = c.args in
    let g = c.gather-n in
    let s = c.search-answer in
    let d = c.remove-removed in
    round_done a.store.now a.job a.i a.more a.labels.now a.table.now a.bounds.now c.requires (replicate {A = ℕ} 49152 0) g.new.out
    g.result (length-replicate {A = ℕ} 49152 0) g.ensures.bytes g.ensures.output s.result s.new.table s.new.bounds _ d.result
    c.rounds_after.result d.new.labels (add-one a.i) s.ensures.answer s.ensures.table s.ensures.bounds d.ensures.removed
    d.ensures.labels c.rounds_after.ensures
