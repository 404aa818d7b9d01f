-- The ends of the longest side, as they are read, and its halves.
use Rattle.std.proofs.Common.{arith, rules, pos, get_or}
use mir.Syntax.{w16}
use mir.Val.{SFits}
use Rattle.integers.proofs.Signed.{read_lt}
use Rattle.boxes.proofs.CutSide.{Longest, inside, side_narrow, next_back, side_cut}
use Rattle.boxes.proofs.cut.Goals as goal

pub bounds-b-k : goal.bounds-b-k
bounds-b-k c = inside c.args.b _ (record { is = c.longest-k.ensures; low = search rules; high = search rules })

pub offset_bounds-b-k : goal.offset_bounds-b-k
offset_bounds-b-k c = omega (arith, bounds-b-k c)

pub bounds-b-k-2 : goal.bounds-b-k-2
bounds-b-k-2 c = inside c.args.b _ (record { is = c.longest-k.ensures; low = search rules; high = search rules })

pub offset_bounds-b-k-2 : goal.offset_bounds-b-k-2
offset_bounds-b-k-2 c = omega (arith, bounds-b-k-2 c)

pub overflow_add-right : goal.overflow_add-right
overflow_add-right c =
    let b = c.args.b in
    let k = c.longest-k.result in
    let long : Longest b k = record { is = c.longest-k.ensures; low = search rules; high = search rules } in
    let fl : SFits w16 (get_or b.low k (pos 0)) = record { sfits = search rules } in
    let fh : SFits w16 (get_or b.high k (pos 0)) = record { sfits = search rules } in
    next_back b k long fl fh (read_lt w16 _ _ fl fh c.if-lo-hi.true) _ c.middle-m.ensures

pub returns-then-lo-hi : goal.returns-then-lo-hi
returns-then-lo-hi c =
    let b = c.args.b in
    let k = c.longest-k.result in
    let long : Longest b k = record { is = c.longest-k.ensures; low = search rules; high = search rules } in
    let fl : SFits w16 (get_or b.low k (pos 0)) = record { sfits = search rules } in
    let fh : SFits w16 (get_or b.high k (pos 0)) = record { sfits = search rules } in
    side_cut b k long fl fh (read_lt w16 _ _ fl fh c.if-lo-hi.true) _ c.middle-m.ensures

pub returns-else-lo-hi : goal.returns-else-lo-hi
returns-else-lo-hi c =
    let b = c.args.b in
    let k = c.longest-k.result in
    let fl : SFits w16 (get_or b.low k (pos 0)) = record { sfits = search rules } in
    let fh : SFits w16 (get_or b.high k (pos 0)) = record { sfits = search rules } in
    side_narrow b k (record { is = c.longest-k.ensures; low = search rules; high = search rules }) (read_lt w16 _ _ fl fh c.if-lo-hi.false)
