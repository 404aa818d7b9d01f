-- The model and the box are what the numbers and the row make.
use borrow.Author.Rules.{rules}
use Rattle.bench_kernels.proofs.bench_bound_in.Statement.{statement}
use Rattle.bench_kernels.proofs.bench_bound_in.Tie as tie

model-of-requires : tie.Need-model_of-m-requires
model-of-requires c κs = search rules

read-row-requires : tie.Need-read_row-requires
read-row-requires c κs = search rules

bound-in-requires : tie.Need-bound_in-requires
bound-in-requires c κs = search rules

returns : tie.Need-returns
returns c = rw (← c.read_row.ensures, ← c.model_of-m.ensures) c.bound_in.ensures.0

pub bench_bound_in_spec : {M : Type 1} → statement M
bench_bound_in_spec = tie.close (tie.spec model-of-requires read-row-requires bound-in-requires returns)
