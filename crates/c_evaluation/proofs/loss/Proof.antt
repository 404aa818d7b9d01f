-- The loss of e, handed over.
use borrow.Author.Rules.{rules}
use mathlib.Core.Path.{◌≡◌, ◌∙◌}
use mir.Facts.{to_z-of_z}
use Rattle.loss.specs.Loss.{loss_answer}
use Rattle.c_evaluation.proofs.loss.Statement.{statement}
use Rattle.c_evaluation.proofs.loss.Tie as tie

loss-requires : tie.Need-loss-requires
loss-requires c κs = search rules

settle-requires : tie.Need-settle-requires
settle-requires c κs = search rules

returns : tie.Need-returns
returns c =
    let l = c.before.before in
    let s = l.before in
    let f = s.ranges.e in
    let e : l.loss.result ≡ loss_answer s.args.p s.args.eps s.args.e = l.loss.ensures ∙ simp to_z-of_z in
    rw (← e) c.settle.ensures

pub loss_spec : {M : Type 1} → statement M
loss_spec = tie.close (tie.spec loss-requires settle-requires returns)
