-- What the loop computes is the least size of the definitions, exactly. Assumes nothing.
use mathlib.Core.Path.{◌≡◌, refl, sym, ap, ◌∙◌, subst}
use mathlib.Core.Bool.{Bool, cond}
use mathlib.Core.List.{List}
use Prim.Native.Nat.{ℕ, zero, suc, ◌+◌, ◌*◌, ◌≤◌, ◌<◌}
use native.Mathlib.Omega.{arith}
use lib.Dec.{leb-zero}
use lib.IntN.{ℤ, pos, negsuc, neg_ℤ, nat_abs, ◌+ℤ◌, ◌-ℤ◌, ◌*ℤ◌}
use lib.Signed.{lt_z}
use lib.Ieee.{Float, binary64, mul}
use Rattle.integers.specs.Integers.{max_z}
use Rattle.integers.proofs.Tests.{by_cond}
use Rattle.integers.proofs.Parts.{up, from_parts, sum_parts, sub_parts, neg_up, neg_dn, pos_up, pos_dn, abs_neg}
use Rattle.boxes.specs.declared.Box.{Box}
use Rattle.residuals.specs.Cost.{at, nearest_to0}
use Rattle.residuals.specs.Inside.{dot_max, dot_min}
use Rattle.integers.specs.Sums.{Σ}
use Rattle.residuals.proofs.Spans.{above, positive_max, min_le_max}
use Rattle.eval_whole.specs.Whole.{Whole, Within}
use Rattle.eval_whole.proofs.Laws.{neg_whole, zero_whole}
use Rattle.eval_whole.proofs.Picks.{max_whole, wider, renamed, add_within, mul_within, max_within, min_within}
use Rattle.eval_lanes.proofs.Lessening.{lessened_within}
use Rattle.eval_box_ends.specs.Ends.{least_end, opposite_end, nearest}

zero_max : (a : ℤ) → max_z (pos 0) a ≡ pos (up a)
unfolding max_z up
zero_max (pos zero) = refl
zero_max (pos (suc n)) = ap (λ (t : Bool). cond t (pos (suc n)) (pos 0)) (leb-zero (suc n))
zero_max (negsuc n) = refl

nearest_small : (a b : ℤ) (most : ℕ) → nat_abs a ≤ most → nat_abs b ≤ most → nearest_to0 a b ≤ most
unfolding nearest_to0
nearest_small a b most h k =
    by_cond (λ (n : ℕ). n ≤ most) (lt_z (pos 0) a) (λ t. h) (λ t. by_cond (λ (n : ℕ). n ≤ most) (lt_z b (pos 0)) (λ s. k) (λ s. omega arith))

sub_none : (z : ℤ) → neg_ℤ z ≡ pos 0 -ℤ z
sub_none z = from_parts (neg_ℤ z) (pos 0 -ℤ z) (omega (arith, neg_up z, neg_dn z, sub_parts (pos 0) z, pos_up 0, pos_dn 0))

sub_more : (a b z : ℤ) → a -ℤ z +ℤ b ≡ a +ℤ b -ℤ z
sub_more a b z =
    from_parts (a -ℤ z +ℤ b) (a +ℤ b -ℤ z) (omega (arith, sum_parts (a -ℤ z) b, sub_parts a z, sub_parts (a +ℤ b) z, sum_parts a b))

turned : (a b : ℤ) → nat_abs (a -ℤ b) ≡ nat_abs (b -ℤ a)
turned a b =
    let c = b -ℤ a in
    let e = from_parts (a -ℤ b) (neg_ℤ c) (omega (arith, neg_up c, neg_dn c, sub_parts b a, sub_parts a b)) in
    ap nat_abs e ∙ abs_neg c

module _ (B : Box) (b : ℕ) (x : List ℤ) {low high u : ℕ → Float} {y : Float} {z : ℤ} (target : Within y z 2147483648) (d : ℕ) (few : d ≤ 4)
    (lows : (k : ℕ) → k < d → Within (low k) (at B.low (b + k)) 32768)
    (highs : (k : ℕ) → k < d → Within (high k) (at B.high (b + k)) 32768)
    (point : (k : ℕ) → k < d → Within (u k) (at x k) 32768) where
  low_product : (k : ℕ) → k < d → Within (mul binary64 (low k) (u k)) (at B.low (b + k) *ℤ at x k) 1073741824
  low_product k h = mul_within (lows k h) (point k h) (omega arith)

  high_product : (k : ℕ) → k < d → Within (mul binary64 (high k) (u k)) (at B.high (b + k) *ℤ at x k) 1073741824
  high_product k h = mul_within (highs k h) (point k h) (omega arith)

  low_end : Within (least_end low high u y d) (z -ℤ dot_max B b x d) 6442450944
  unfolding Σ
  low_end =
      wider (omega arith) (lessened_within (dot_max B b x) _ refl (λ k. refl) target d few
      (λ k h. max_within (low_product k h) (high_product k h)))

  -- −emax by the first n coordinates
  raised_within : (n : ℕ) → n ≤ d → Within (opposite_end low high u y n) (dot_min B b x n -ℤ z) (2147483648 + n * 1073741824)
  unfolding Σ opposite_end
  raised_within zero h =
      let s = target.small in
      renamed (sub_none z) (record { whole = neg_whole target.whole; small = omega (arith, abs_neg z) })
  raised_within (suc n) h =
      wider (omega arith)
      (renamed (sub_more (dot_min B b x n) _ z)
      (add_within (raised_within n (omega arith)) (min_within (low_product n (omega arith)) (high_product n (omega arith))) (omega arith)))

  opposite_end_lem : Within (opposite_end low high u y d) (dot_min B b x d -ℤ z) 6442450944
  opposite_end_lem = wider (omega arith) (raised_within d (omega arith))

  abbrev found : Float
  found = nearest (least_end low high u y d) (opposite_end low high u y d)

  least_whole : Whole found (pos (nearest_to0 (z -ℤ dot_max B b x d) (z -ℤ dot_min B b x d)))
  least_whole =
      let lo = dot_min B b x d in
      let hi = dot_max B b x d in
      let larger = max_z (z -ℤ hi) (lo -ℤ z) in
      subst (Whole _) (zero_max larger ∙ ap pos (sym (above larger) ∙ positive_max z lo hi (min_le_max B b x d)))
      (max_whole zero_whole (max_whole low_end.whole opposite_end_lem.whole))

  pub least_exact : Within found (pos (nearest_to0 (z -ℤ dot_max B b x d) (z -ℤ dot_min B b x d))) 6442450944
  least_exact =
      let lo = dot_min B b x d in
      let hi = dot_max B b x d in
      let small = nearest_small (z -ℤ hi) (z -ℤ lo) 6442450944 low_end.small (rw (turned z lo) opposite_end_lem.small) in
      record { whole = least_whole; small = small }
