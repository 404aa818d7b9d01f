use Rattle.std.proofs.Common.{rules, arith, length, get_or, pos, ◌≡◌, ◌∙◌}
use Rattle.std.specs.Int.{int_min, int_max}
use Rattle.range_search.specs.RangeSearch.{least, greatest}
use Rattle.range_search.proofs.Found.{length_least, length_greatest}
use Rattle.range_hulls.proofs.Widening.{first_all, lower_turn, higher_turn}
use Rattle.range_hulls.proofs.with_vector.Goals as goal

pub loop-k-preserved : goal.loop-k-preserved
loop-k-preserved c =
    let l = c.loop-k in
    let a = c.args in
    let low : length a.ends.low ≡ 8 = search rules in
    let high : length a.ends.high ≡ 8 = search rules in
    let long : length a.v ≡ 8 = search rules in
    let smaller : c.min.result ≡ int_min (get_or l.low l.k (pos 0)) (get_or a.v l.k (pos 0)) = search rules in
    let larger : c.max.result ≡ int_max (get_or l.high l.k (pos 0)) (get_or a.v l.k (pos 0)) = search rules in
    let down = lower_turn a.ends.low a.v l.k (omega arith) (omega arith) l.low l.invariant.0 in
    let up = higher_turn a.ends.high a.v l.k (omega arith) (omega arith) l.high l.invariant.1 in
    (search (rules, down, smaller), search (rules, up, larger))

pub returns : goal.returns
returns c =
    let l = c.loop-k in
    let a = c.args in
    let low : length a.ends.low ≡ 8 = search rules in
    let high : length a.ends.high ≡ 8 = search rules in
    rw (
      l.invariant.0 ∙ first_all a.ends.low (least a.ends.low a.v) (length_least a.ends.low a.v) l.k (omega arith),
      l.invariant.1 ∙ first_all a.ends.high (greatest a.ends.high a.v) (length_greatest a.ends.high a.v) l.k (omega arith),
    )
