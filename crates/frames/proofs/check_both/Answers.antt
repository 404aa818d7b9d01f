-- Past the order of both stores what is counted says the rest.
use Rattle.std.proofs.Common.{◌∙◌, sym, arith}
use Rattle.frames.proofs.Checks.{lengths_pass, union_over, union_counted}
use Rattle.frames.proofs.check_both.Goals as goal

pub returns-then-bytes-gt49152 : goal.returns-then-bytes-gt49152
returns-then-bytes-gt49152 c =
    let a = c.args.first.now in
    let b = c.args.second.now in
    let good =
    lengths_pass a b (sym c.check_either.ensures.check ∙ c.in_ok-check_either.was)
    (sym c.check_either-2.ensures.check ∙ c.in_ok-check_either-2.was) in
    let one = sym c.rising.ensures ∙ c.if-not-rising.false in
    let two = sym c.rising-else-not-rising.ensures ∙ c.if-not-rising-2.false in
    sym (union_over a b good one two _ (sym c.count.ensures ∙ c.in_ok-bytes.was) (omega arith))

pub returns : goal.returns
returns c =
    let a = c.args.first.now in
    let b = c.args.second.now in
    let good =
    lengths_pass a b (sym c.check_either.ensures.check ∙ c.in_ok-check_either.was)
    (sym c.check_either-2.ensures.check ∙ c.in_ok-check_either-2.was) in
    let one = sym c.rising.ensures ∙ c.if-not-rising.false in
    let two = sym c.rising-else-not-rising.ensures ∙ c.if-not-rising-2.false in
    sym (union_counted a b good one two _ (sym c.count.ensures ∙ c.in_ok-bytes.was) (omega arith))
