-- By whether all y lie above a gap's.
use Rattle.std.proofs.Common.{sym, ◌∙◌}
use native.Mathlib.Omega.{arith}
use Rattle.eval_whole.proofs.Laws.{cast_whole}
use Rattle.eval_gaps.proofs.Above.{each_above}
use Rattle.eval_columns.proofs.Marks.{mark, scaled, all_samples}
use Rattle.eval_columns.proofs.decode_chunk.Goals as goal

pub returns-else-not-scale_above-clause-here : goal.returns-else-not-scale_above-clause-here
returns-else-not-scale_above-clause-here c =
    let e = c.scale_above.ensures in
    all_samples c.decode_records.ensures.here c.args.power c.ranges.power.fits _ c.decode_records.array_long e.scaled (cast_whole mark (omega arith))
    (each_above _ _ 80 (sym e.above ∙ c.if-not-scale_above.false))

pub empty_gaps-requires : goal.empty_gaps-requires
empty_gaps-requires c =
    (omega arith, scaled c.decode_records.ensures.here c.args.power c.ranges.power.fits _ c.decode_records.array_long c.scale_above.ensures.scaled)
