-- What is left of a number, one product after the other.
use Rattle.std.proofs.Common.{rules, arith, ap, ◌≡◌, ◌∙◌, ◌+◌, ℕ, List, ℤ, pos, nat_abs, ◌+ℤ◌, ◌-ℤ◌, ◌*ℤ◌, add-one}
use Rattle.integers.proofs.Parts.{sum_parts, sub_parts, from_parts, pos_up, pos_dn}
use Rattle.points.specs.Points.{xs}
use Rattle.residuals.specs.Cost.{at}
use Rattle.residuals.specs.Inside.{dot}
use Rattle.integers.specs.Sums.{Σ}
use mir.Syntax.{w64}
use mir.Val.{to_z, of_z}
use mir.Facts.{to_z-of_z}
use Rattle.labels.proofs.nearest.residual.Goals as goal

module _ (z : ℤ) (v : List ℤ) (b : ℕ) (x : List ℤ) where
  no_product : z ≡ z -ℤ dot v b x 0
  unfolding Σ
  no_product = from_parts z (z -ℤ pos 0) (omega (arith, sub_parts z (pos 0), pos_up 0, pos_dn 0))

  one_product : (k : ℕ) → z -ℤ dot v b x k -ℤ at v (b + k) *ℤ at x k ≡ z -ℤ dot v b x (k + 1)
  unfolding Σ
  one_product k =
      let s = dot v b x k in
      let p = at v (b + k) *ℤ at x k in
      rw add-one
      (from_parts (z -ℤ s -ℤ p) (z -ℤ (s +ℤ p)) (omega (arith, sub_parts (z -ℤ s) p, sub_parts z s, sub_parts z (s +ℤ p), sum_parts s p)))

pub loop-k-init : goal.loop-k-init
loop-k-init c =
    let a = c.args in
    let back : to_z w64 (of_z w64 c.scaled-e.result) ≡ c.scaled-e.result = to_z-of_z {w = w64} (record { sfits = c.scaled-e.type_inv }) in
    let value : c.scaled-e.result ≡ a.q.y *ℤ pos a.power = search rules in
    (back ∙ value ∙ no_product (a.q.y *ℤ pos a.power) a.v.now a.b (xs a.q), omega (arith, ap nat_abs back, c.scaled-e.ensures.small))

pub without-e-requires : goal.without-e-requires
without-e-requires c = omega (arith, c.loop-k.invariant.1, c.requires.1)

pub loop-k-preserved : goal.loop-k-preserved
loop-k-preserved c =
    let a = c.args in
    let k = c.loop-k.k in
    let z = a.q.y *ℤ pos a.power in
    let p = at a.v.now (a.b + k) *ℤ at (xs a.q) k in
    let back : to_z w64 (of_z w64 c.without-e.result) ≡ c.without-e.result = to_z-of_z {w = w64} (record { sfits = c.without-e.type_inv }) in
    let value : c.without-e.result ≡ to_z w64 c.loop-k.e-bits -ℤ p = search rules in (
      back ∙ value ∙ ap (λ (e : ℤ). e -ℤ p) c.loop-k.invariant.0 ∙ one_product z a.v.now a.b (xs a.q) k,
      omega (arith, ap nat_abs back, c.without-e.ensures.small, c.loop-k.invariant.1),
    )
