-- One more coordinate of the part; at the end they are all of them.
use Rattle.std.proofs.Common.{ℤ, ℕ, List, ◌≡◌, ◌+◌, ◌-◌, ◌<◌, length, get_or, pos, take, drop, sym, ◌∙◌, ap, arith}
use Rattle.std.proofs.Math.ListN.{set}
use Rattle.std.proofs.lemmas.Grind.{common_steps}
use Rattle.std.proofs.lemmas.List.{length-set, same_lists}
use mir.Facts.{to_z-of_z}
use mir.Syntax.{w16}
use mir.Val.{of_z, to_z}
use Rattle.fields.specs.Fields.{vector_at, vector_of}
use Rattle.fields.proofs.Parts.{part_size}
use Rattle.fields.proofs.Vectors.{coordinate_at, vector_inside, vector_eight}
use Rattle.fields.proofs.get_vector.Goals as goal

one_more :
    (ws vs : List ℤ) (k j : ℕ) (w : ℤ) →
    k < length ws →
    w ≡ get_or vs k (pos 0) →
    ((i : ℕ) → i < k → get_or ws i (pos 0) ≡ get_or vs i (pos 0)) →
    j < k + 1 →
    get_or (set ws k w) j (pos 0) ≡ get_or vs j (pos 0)
one_more ws vs k j w inside e before small = grind (arith, common_steps, before j)

pub loop-k-preserved : goal.loop-k-preserved
loop-k-preserved c =
    let h = c.loop-k.invariant in
    let bytes = c.args.bytes.now in
    let at = c.args.at in
    let size : c.in-Some.end - at ≡ 16 = omega (arith, c.in-Some.ensures.1) in
    let part = take (c.in-Some.end - at) (drop at bytes) in
    let long : length part ≡ 16 = ap (λ (k : ℕ). length (take k (drop at bytes))) size ∙ part_size bytes at 16 c.in-Some.ensures.0 in
    let read : to_z w16 (of_z w16 c.signed16.result) ≡ c.signed16.result = to_z-of_z {w = w16} (record { sfits = c.signed16.type_inv }) in
    let here = sym (coordinate_at part c.loop-k.k (omega arith)) in (
      omega (arith, length-set {A = ℤ}),
      λ j small. one_more c.loop-k.w-items (vector_of part) c.loop-k.k j _ (omega arith) (read ∙ c.signed16.ensures ∙ here) h.1 small,
    )

pub returns-after-loop-k : goal.returns-after-loop-k
returns-after-loop-k c =
    let bytes = c.args.bytes.now in
    let at = c.args.at in
    let place = c.in-Some.ensures.0 in
    let size : c.in-Some.end - at ≡ 16 = omega (arith, c.in-Some.ensures.1) in
    let here : vector_of (take (c.in-Some.end - at) (drop at bytes)) ≡ vector_at bytes at = rw size in
    let long = vector_eight bytes at place in
    let each = rw here at c.loop-k.invariant.1 in
    same_lists c.loop-k.w-items (vector_at bytes at) (omega arith) (λ k d small. grind (arith, common_steps, each k (omega arith))) ∙ sym (vector_inside bytes at place)
