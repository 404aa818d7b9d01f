-- The model and the box are what the numbers and the row make.
use borrow.Author.Rules.{rules}
use Rattle.bench_kernels.proofs.bench_cost_in.Statement.{statement}
use Rattle.bench_kernels.proofs.bench_cost_in.Tie as tie

model-of-requires : tie.Need-model_of-m-requires
model-of-requires c κs = search rules

read-row-requires : tie.Need-read_row-b-requires
read-row-requires c κs = search rules

cost-in-requires : tie.Need-cost_in-requires
cost-in-requires c κs = search rules

returns : tie.Need-returns
returns c = rw (← c.read_row-b.ensures, ← c.model_of-m.ensures) c.cost_in.ensures.0

pub bench_cost_in_spec : {M : Type 1} → statement M
bench_cost_in_spec = tie.close (tie.spec model-of-requires read-row-requires cost-in-requires returns)
