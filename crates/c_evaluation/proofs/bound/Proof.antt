-- By the length of the box: with 16 numbers the bound of the box in its one row is handed over.
use borrow.Author.Rules.{rules}
use mathlib.Core.Path.{refl}
use borrow.Author.Tests.{eq-eqb, ne_eqb}
use lib.ListN.{length}
use Rattle.c_evaluation.proofs.bound.Statement.{statement}
use Rattle.c_evaluation.proofs.bound.Tie as tie

returns : tie.Need-returns-then-corners-ne16
returns c = rw (ne_eqb (length c.args.corners.now) 16 c.if-corners-ne16.true) (refl, refl)

read-row-requires : tie.Need-read_row-requires
read-row-requires c κs = search rules

model-of-requires : tie.Need-model_of-requires
model-of-requires c κs = search rules

bound-requires : tie.Need-bound-requires
bound-requires c κs = search rules

settle-requires : tie.Need-settle-requires
settle-requires c κs = search rules

returns-2 : tie.Need-returns
returns-2 c =
    let k = c.before.before in
    let test = k.before.before.before in
    let corners = test.args.corners.now in
    let is-box = k.read_row.ensures in
    let is-model = k.model_of.ensures in
    rw (eq-eqb (length corners) 16 test.if-corners-ne16.false, ← is-box, ← is-model, ← k.bound.ensures) c.settle.ensures

pub bound_spec : {M : Type 1} → statement M
bound_spec =
    tie.close (tie.spec returns model-of-requires read-row-requires bound-requires settle-requires returns-2)
