-- One column more, and y behind them.
use Rattle.std.proofs.Common.{◌≡◌, ℕ, ◌<◌, length, List, [], sym, ◌∙◌}
use mathlib.Core.Path.{subst}
use native.Mathlib.Omega.{arith}
use native.Mathlib.Nat.{le_refl}
use lib.ListN.{get_or}
use lib.ListN.{length-take}
use lib.Seq.{get_or-take}
use lib.Ieee.{Float}
use Rattle.points.specs.declared.Point.{Point}
use Rattle.eval_whole.proofs.Laws.{cast_whole}
use Rattle.eval_lanes.specs.Lanes.{lane}
use Rattle.eval_columns.specs.Columns.{record_in, slot, field, Cast, Scaled}
use Rattle.eval_columns.proofs.Casts.{cast_zero, scaled_zero}
use Rattle.eval_columns.proofs.Decoding.{no_field}
use Rattle.eval_columns.proofs.Laying.{behind, one_laid, all_laid}
use Rattle.eval_columns.proofs.Marks.{mark, kept_in}
use Rattle.eval_columns.proofs.empty_gaps.Goals as goal

pub loop-column-preserved : goal.loop-column-preserved
loop-column-preserved c =
    let a = c.args in
    let n = c.loop-column.column-index in
    let long = c.loop-column.invariant.long in
    let same : get_or c.loop-column.column-items n [] ≡ get_or a.chunk.now n [] =
    c.loop-column.invariant.rest n (le_refl n) ∙ get_or-take c.min.result a.chunk.now n [] (omega arith) in
    one_laid _ _ c.keep_above.new.out (omega arith)
    (λ k h u. kept_in a.store.now a.t k (cast_whole mark (omega arith)) (c.decode_column.ensures k h)
    (λ (x : Float) (q : Point). Cast x (field n q))
    (rw (no_field n (omega arith)) cast_zero)
    (c.keep_above.ensures k h)
    (subst (λ (xs : List Float). Cast (lane xs k) (field n (record_in a.store.now a.t k))) (sym same)
    (c.requires.1.column n k u (omega arith) h)))
    c.loop-column.invariant

pub returns-clause-here : goal.returns-clause-here
returns-clause-here c =
    let a = c.args in
    let v = c.loop-column.invariant in
    let long = v.long in
    let few : length c.loop-column.column-items ≡ c.min.result = omega (arith, length-take c.min.result a.chunk.now) in
    let same = behind c.min.result a.chunk.now c.loop-column.column-items few 4 (omega arith) in
    let new : (k : ℕ) → k < 80 → Scaled (lane c.keep_above-2.new.out k) (slot a.store.now a.t k).y a.power =
    λ k h.
    kept_in a.store.now a.t k (cast_whole mark (omega arith)) (c.decode_column.ensures k h) (λ (x : Float) (q : Point). Scaled x q.y a.power)
    (scaled_zero a.power c.ranges.power.fits)
    (c.keep_above-2.ensures k h)
    (subst (λ (xs : List Float). Scaled (lane xs k) (record_in a.store.now a.t k).y a.power) (sym same) (c.requires.1.target k h)) in
    let r = all_laid _ _ (omega arith) (omega arith) (omega arith) v (slot a.store.now a.t) (λ k x. Scaled x (slot a.store.now a.t k).y a.power)
    (λ j k x l h w. w (omega arith)) new in
    record { column = r.column; target = r.target }
