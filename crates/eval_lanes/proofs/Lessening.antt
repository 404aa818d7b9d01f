-- A number less others, one after the other, is exact while nothing on the way is over 2^53 in size. Assumes nothing.
use mathlib.Core.Path.{◌≡◌, sym, ap, ◌∙◌}
use Prim.Native.Nat.{ℕ, zero, suc, ◌+◌, ◌*◌, ◌≤◌, ◌<◌}
use native.Mathlib.Omega.{arith}
use lib.IntN.{ℤ, pos, ◌+ℤ◌, ◌-ℤ◌}
use lib.Ieee.{Float}
use Rattle.integers.proofs.Parts.{from_parts, sum_parts, sub_parts, pos_up, pos_dn}
use Rattle.eval_whole.specs.Whole.{Within}
use Rattle.eval_whole.proofs.Picks.{wider, renamed, sub_within}
use Rattle.eval_lanes.specs.Lanes.{lessened}

less_none : (y : ℤ) → y ≡ y -ℤ pos 0
less_none y = from_parts y (y -ℤ pos 0) (omega (arith, sub_parts y (pos 0), pos_up 0, pos_dn 0))

less_sum : (y a b : ℤ) → y -ℤ a -ℤ b ≡ y -ℤ (a +ℤ b)
less_sum y a b =
    from_parts (y -ℤ a -ℤ b) (y -ℤ (a +ℤ b)) (omega (arith, sub_parts y a, sub_parts (y -ℤ a) b, sub_parts y (a +ℤ b), sum_parts a b))

-- the sum of the first d numbers, each at most 2^30 in size, and what is left of a number of at most 2^31
module _ (sum f : ℕ → ℤ) (none : sum 0 ≡ pos 0) (more : (k : ℕ) → sum (suc k) ≡ sum k +ℤ f k) {t : ℕ → Float} {y : Float} {z : ℤ}
    (whole : Within y z 2147483648) where
  pub lessened_within : (d : ℕ) → d ≤ 4 → ((k : ℕ) → k < d → Within (t k) (f k) 1073741824)
      → Within (lessened t y d) (z -ℤ sum d) (2147483648 + d * 1073741824)
  unfolding lessened
  lessened_within zero h p = wider (omega arith) (renamed (less_none z ∙ ap (λ (s : ℤ). z -ℤ s) (sym none)) whole)
  lessened_within (suc d) h p =
      wider (omega arith)
      (renamed (less_sum z (sum d) (f d) ∙ ap (λ (s : ℤ). z -ℤ s) (sym (more d)))
      (sub_within (lessened_within d (omega arith) (λ k i. p k (omega arith))) (p d (omega arith)) (omega arith)))
