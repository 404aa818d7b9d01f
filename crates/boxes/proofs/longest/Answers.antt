-- The first side leads itself; each next one takes over where it is longer.
use Rattle.std.proofs.Common.{◌≡◌, arith, length, get_or, rules, pos}
use mir.Syntax.{w16}
use mir.Val.{SFits}
use Rattle.boxes.specs.Boxes.{sides}
use Rattle.boxes.proofs.LongestSide.{side_there, leads_first, leads_next, leads_still, leads_all, sides_length}
use Rattle.boxes.proofs.longest.Goals as goal
use Rattle.boxes.proofs.longest.Goals.{then-size-other, else-size-other}

pub loop-k-init : goal.loop-k-init
loop-k-init c =
    let a = c.args in
    let long : length a.low ≡ 8 = search rules in
    let same : length a.high ≡ 8 = search rules in
    let fl : SFits w16 (get_or a.low 0 (pos 0)) = record { sfits = search rules } in
    let fh : SFits w16 (get_or a.high 0 (pos 0)) = record { sfits = search rules } in
    leads_first (sides a.low a.high) _ (side_there a.low a.high 0 _ long same (omega arith) fl fh c.side_size-size.ensures)

pub loop-k-preserved : goal.loop-k-preserved
loop-k-preserved c =
    let a = c.args in
    let l = c.loop-k in
    let long : length a.low ≡ 8 = search rules in
    let same : length a.high ≡ 8 = search rules in
    let fl : SFits w16 (get_or a.low l.k (pos 0)) = record { sfits = search rules } in
    let fh : SFits w16 (get_or a.high l.k (pos 0)) = record { sfits = search rules } in
    let is = side_there a.low a.high l.k _ long same c.loop-k-test.true fl fh c.side_size-other.ensures in
    elim c.if-size-other.branch [
      | then-size-other w ↦ rw (w.best-is, w.size-is) (leads_next (sides a.low a.high) l.k l.best l.size l.invariant _ is (omega arith))
      | else-size-other w ↦ rw (w.best-is, w.size-is) (leads_still (sides a.low a.high) l.k l.best l.size l.invariant _ is (omega arith))
    ]

pub returns : goal.returns
returns c =
    let a = c.args in
    let l = c.loop-k in
    let long : length a.low ≡ 8 = search rules in
    let same : length a.high ≡ 8 = search rules in
    let all : length (sides a.low a.high) ≡ length a.low = sides_length a.low a.high (omega arith) in
    leads_all (sides a.low a.high) l.k l.best l.size l.invariant (omega arith) (omega arith)
