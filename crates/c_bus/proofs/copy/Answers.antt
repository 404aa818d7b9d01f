-- Both parts of 136 bytes are all of them.
use Rattle.std.proofs.Common.{◌∙◌}
use Rattle.c_bus.proofs.Writing.{front_long, both_parts}
use Rattle.c_bus.proofs.copy.Goals as goal

pub slice_bounds-copy_from_slice-end : goal.slice_bounds-copy_from_slice-end
slice_bounds-copy_from_slice-end c = front_long c.args.from.now c.requires.1

pub copy_from_slice-requires : goal.copy_from_slice-requires
copy_from_slice-requires c = c.split_at_mut-own.ensures.front_len ∙ front_long c.args.from.now c.requires.1

pub returns : goal.returns
returns c = both_parts c.args.from.now c.requires.1 _ _ c.copy_from_slice.ensures.after c.copy_from_slice-2.ensures.after
