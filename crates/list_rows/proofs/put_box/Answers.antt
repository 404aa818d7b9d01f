use Rattle.std.proofs.Common.{◌≡◌, length, rules, arith}
use Rattle.list_rows.proofs.Parts.{all_laid}
use Rattle.list_rows.proofs.put_box.Goals as goal

pub returns : goal.returns
returns c =
    let b = c.args.b in
    let all : c.loop-k.k ≡ 8 = omega arith in
    let low : length b.low ≡ 8 = search rules in
    let high : length b.high ≡ 8 = search rules in
    all_laid b.low b.high c.loop-k.row (omega arith) low high (rw all at c.loop-k.invariant)
