-- A comma, if the coordinate is not the first, and the coordinate.
use Rattle.std.proofs.Common.{ℕ, ℤ, List, ◌≡◌, ◌-◌, ◌≤◌, ◌<◌, ◌∙◌, ap, sym, refl, length, take, get_or, pos, arith, rules}
use mathlib.Core.Logic.{⊎_elim}
use Prim.Native.Nat.{min}
use lib.Seq.{length-take-le, take_all, take-length}
use mir.Syntax.{w16}
use mir.Val.{of_z, to_z}
use Rattle.integers.proofs.Tests.{le_or_lt}
use Rattle.decimal.specs.Text.{joined}
use Rattle.decimal.proofs.Joining.{joined_first, joined_next}
use Rattle.decimal.proofs.Putting.{put_nothing, put_more, is_put}
use Rattle.decimal.proofs.Writer.put_joined.Goals as goal
use Rattle.decimal.proofs.Writer.put_joined.Goals.{then-k-gt0, else-k-gt0}

-- a vector has no more coordinates than eight
used_ones : (v : List ℤ) (m used : ℕ) → length v ≡ 8 → m ≡ min used 8 → take m v ≡ take used v
used_ones v m used eight e =
    ⊎_elim
    (λ (some : used ≤ 8). let same : m ≡ used = omega arith in ap (λ (k : ℕ). take k v) same)
    (λ (more : 8 < used). take_all m v (omega arith) ∙ sym (take_all used v (omega arith)))
    (le_or_lt used 8)

pub loop-k-init : goal.loop-k-init
unfolding joined
loop-k-init c =
    record {
      same_buffer = refl;
      put = put_nothing c.args.self.now.buffer.now c.args.self.now.at;
      short = omega arith;
    }

pub put_byte-requires : goal.put_byte-requires
put_byte-requires c =
    let eight : length c.args.v ≡ 8 = search rules in
    let few = length-take-le c.min.result c.args.v (omega arith) in
    omega (arith, c.loop-k.invariant.put.long)

pub put_signed-requires : goal.put_signed-requires
put_signed-requires c =
    let eight : length c.args.v ≡ 8 = search rules in
    let few = length-take-le c.min.result c.args.v (omega arith) in
    let long = c.loop-k.invariant.put.long in
    elim c.if-k-gt0.branch [
      | then-k-gt0 w ↦ rw w.self-is (omega (arith, long, few, w.put_byte.ensures.put.place, w.put_byte.ensures.put.long))
      | else-k-gt0 w ↦ rw w.self-is (omega (arith, long, few))
    ]

pub loop-k-preserved : goal.loop-k-preserved
loop-k-preserved c =
    let k = c.loop-k.k in
    let ws = take c.min.result c.args.v in
    let h = c.loop-k.invariant in
    let read : to_z w16 (of_z w16 (get_or ws k (pos 0))) ≡ get_or ws k (pos 0) = search rules in
    let put = rw read at c.put_signed.ensures.put in
    let same = c.put_signed.ensures.same_buffer in
    let short = c.put_signed.ensures.short in
    elim c.if-k-gt0.branch [
      | then-k-gt0 w ↦ record {
        same_buffer = rw w.self-is at same ∙ w.put_byte.ensures.same_buffer ∙ h.same_buffer;
        put = rw (joined_next ws k w.if-k-gt0.true c.loop-k-test.true) (put_more h.put (put_more w.put_byte.ensures.put (rw w.self-is at put)));
        short = omega (arith, h.short, w.put_byte.ensures.put.place, rw w.self-is at short);
      }
      | else-k-gt0 w ↦ record {
        same_buffer = rw w.self-is at same ∙ h.same_buffer;
        put = rw (joined_first ws k w.if-k-gt0.false c.loop-k-test.true) (put_more h.put (rw w.self-is at put));
        short = omega (arith, h.short, rw w.self-is at short);
      }
    ]

pub returns-clause-put : goal.returns-clause-put
returns-clause-put c =
    let eight : length c.args.v ≡ 8 = search rules in
    let few = length-take-le c.min.result c.args.v (omega arith) in
    let roomy : 56 ≤ length c.args.self.now.buffer.now - c.args.self.now.at = omega arith in
    let all : c.loop-k.k ≡ length (take c.min.result c.args.v) = omega arith in
    let whole = rw (all, take-length) at c.loop-k.invariant.put in
    is_put roomy (rw (used_ones c.args.v c.min.result c.args.used eight c.min.ensures) at whole)

pub returns-clause-short : goal.returns-clause-short
returns-clause-short c =
    let eight : length c.args.v ≡ 8 = search rules in
    let few = length-take-le c.min.result c.args.v (omega arith) in
    omega (arith, c.loop-k.invariant.short)
