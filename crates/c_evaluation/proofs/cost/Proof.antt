-- By the length of the vector: with 8 numbers the cost of that very vector is handed over.
use borrow.Author.Rules.{rules}
use mathlib.Core.Path.{refl, ◌∙◌}
use borrow.Author.Tests.{eq-eqb, ne_eqb}
use lib.ListN.{length}
use Rattle.c_buffers.proofs.Buffers.{vector_from_lem}
use Rattle.c_evaluation.proofs.cost.Statement.{statement}
use Rattle.c_evaluation.proofs.cost.Tie as tie

returns : tie.Need-returns-then-vector-ne8
returns c = rw (ne_eqb (length c.args.vector.now) 8 c.if-vector-ne8.true) (refl, refl)

vector-of-requires : tie.Need-vector_of-requires
vector-of-requires c κs = search rules

model-of-requires : tie.Need-model_of-requires
model-of-requires c κs = search rules

cost-requires : tie.Need-cost-requires
cost-requires c κs = search rules

settle-requires : tie.Need-settle-requires
settle-requires c κs = search rules

returns-2 : tie.Need-returns
returns-2 c =
    let k = c.before.before in
    let test = k.before.before.before in
    let v = test.args.vector.now in
    let is-vector = k.vector_of.ensures ∙ vector_from_lem v test.if-vector-ne8.false in
    let is-model = k.model_of.ensures in
    rw (eq-eqb (length v) 8 test.if-vector-ne8.false, ← is-vector, ← is-model, ← k.cost.ensures) c.settle.ensures

pub cost_spec : {M : Type 1} → statement M
cost_spec =
    tie.close (tie.spec returns model-of-requires vector-of-requires cost-requires settle-requires returns-2)
