-- The bits at each place: of a coordinate's low end, then of its high end. Assumes nothing.
use Rattle.std.specs.Prelude.{cond, List, ℕ, ◌/◌, ◌%◌, eqb}
use Rattle.range_hulls.specs.declared.Range.{Range}
use Rattle.c_ranges.specs.Calls.{range_at, low_bits, high_bits}

abbrev pub end_of : List Range → ℕ → ℕ
end_of slots i = cond (eqb (i % 2) 0) (low_bits (range_at slots (i / 2))) (high_bits (range_at slots (i / 2)))
