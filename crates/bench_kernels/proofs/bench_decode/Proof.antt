-- The power is that of the scale.
use borrow.Author.Rules.{rules}
use Rattle.bench_kernels.proofs.bench_decode.Statement.{statement}
use Rattle.bench_kernels.proofs.bench_decode.Tie as tie

power-requires : tie.Need-power-requires
power-requires c κs = search rules

decode-requires : tie.Need-decode-requires
decode-requires c κs = search rules

same_length : tie.Need-shape_of-lanes
same_length c = search rules

returns : tie.Need-returns
returns c = rw (← c.power.ensures) c.decode.ensures

pub bench_decode_spec : {M : Type 1} → statement M
bench_decode_spec = tie.close (tie.spec power-requires decode-requires same_length returns)
