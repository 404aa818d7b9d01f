-- Losses and their sums are those of the definitions, exactly: twenty losses of at most 16,777,215² are below 2^53. Assumes nothing.
use mathlib.Core.Path.{◌≡◌, refl, ap, ap₂, ◌∙◌, subst}
use mathlib.Core.Bool.{Bool, true, false, cond}
use mathlib.Core.List.{List, [], ◌∷◌}
use Prim.Native.Nat.{ℕ, zero, suc, ◌+◌, ◌*◌, ◌≤◌, ◌<◌, min}
use native.Mathlib.Nat.{mul-le-mul, add-zero, add-suc}
use native.Mathlib.Omega.{arith}
use lib.Dec.{ltb}
use lib.IntN.{pos}
use lib.ListN.{get_or}
use lib.Ieee.{Float, binary64, add, of_int}
use Rattle.std.specs.List.{sum}
use Rattle.loss.specs.Loss.{loss_of}
use Rattle.loss.proofs.Laws.{min_square, loss_le}
use Rattle.integers.specs.Sums.{sum_of}
use Rattle.residuals.proofs.Sums.{sum_same}
use Rattle.eval_whole.specs.Whole.{Whole, Within, counted}
use Rattle.eval_whole.proofs.Laws.{pick_whole, mul_whole, cast_whole, zero_whole, one_whole}
use Rattle.eval_whole.proofs.Picks.{least_whole, add_within, wider}
use Rattle.eval_whole.proofs.Counting.{count_small, count_whole}
use Rattle.eval_losses.specs.Losses.{loss_in, alternate, group_sum, group_sums, chunk_sum}

-- ---- one loss
over_is : (b : Bool) → cond b (pos 1) (pos 0) ≡ pos (cond b 1 0)
over_is true = refl
over_is false = refl

module _ {x : Float} {a ε : ℕ} (size : Whole x (pos a)) (cut : ε ≤ 16777215) where
  threshold : Whole (of_int binary64 (pos ε)) (pos ε)
  threshold = cast_whole (pos ε) (omega arith)

  loss_whole : (p : ℕ) → Whole (loss_in p (of_int binary64 (pos ε)) x) (pos (loss_of p ε a))
  unfolding loss_in loss_of
  loss_whole zero = subst (Whole _) (over_is (ltb ε a)) (pick_whole threshold size one_whole zero_whole)
  loss_whole (suc zero) = let q : min ε a ≡ min a ε = omega arith in subst (Whole _) (ap pos q) (least_whole threshold size)
  loss_whole (suc (suc zero)) =
      let c = least_whole threshold size in
      let s : ε * ε ≤ 281474943156225 = mul-le-mul cut cut in
      let q : min ε a * min ε a ≡ min (a * a) (ε * ε) = omega (arith, min_square ε a) in
      subst (Whole _) (ap pos q) (mul_whole c c (omega arith))
  loss_whole (suc (suc (suc p))) = zero_whole

  pub loss_exact : (p : ℕ) → Within (loss_in p (of_int binary64 (pos ε)) x) (pos (loss_of p ε a)) 281474943156225
  loss_exact p = record { whole = loss_whole p; small = loss_le p ε a cut }

-- ---- their sums
sum_pairs : (f : ℕ → ℕ) (n : ℕ) → sum_of (λ i. f (i * 2)) n + sum_of (λ i. f (1 + i * 2)) n ≡ sum_of f (n * 2)
unfolding sum_of
sum_pairs f zero = refl
sum_pairs f (suc n) =
    let two : suc n * 2 ≡ suc (suc (n * 2)) = omega arith in
    let odd : 1 + n * 2 ≡ suc (n * 2) = omega arith in
    omega (arith, sum_pairs f n, ap (sum_of f) two, ap f odd)

pub sum_parts : (f : ℕ → ℕ) (a b : ℕ) → sum_of f (a + b) ≡ sum_of f a + sum_of (λ k. f (a + k)) b
unfolding sum_of
sum_parts f a zero = rw add-zero (omega arith)
sum_parts f a (suc b) = rw add-suc (omega (arith, sum_parts f a b))

module _ {z : ℕ → Float} {g : ℕ → ℕ} (lanes : (k : ℕ) → k < 80 → Within (z k) (pos (g k)) 281474943156225) where
  alternate_exact : (o n : ℕ) → n ≤ 10 → o + n * 2 ≤ 81
      → Within (alternate z o n) (pos (sum_of (λ i. g (o + i * 2)) n)) (n * 281474943156225)
  unfolding alternate sum_of
  alternate_exact o zero h r = record { whole = zero_whole; small = omega arith }
  alternate_exact o (suc n) h r =
      wider (omega arith) (add_within (alternate_exact o n (omega arith) (omega arith)) (lanes (o + n * 2) (omega arith)) (omega arith))

  half_exact : (o : ℕ) → o ≤ 61 → counted (alternate z o 10) ≡ sum_of (λ i. g (o + i * 2)) 10
  half_exact o r = let w = alternate_exact o 10 (omega arith) (omega arith) in count_whole w.whole (let s = w.small in omega arith)

  group_exact : (o : ℕ) → o ≤ 60 → group_sum z o ≡ sum_of (λ k. g (o + k)) 20
  unfolding group_sum
  group_exact o r =
      let odd =
      sum_same (λ i. g (o + 1 + i * 2)) (λ i. g (o + (1 + i * 2))) 10
      (λ k h. let e : o + 1 + k * 2 ≡ o + (1 + k * 2) = omega arith in ap g e) in
      omega (arith, half_exact o (omega arith), half_exact (o + 1) (omega arith), odd, sum_pairs (λ k. g (o + k)) 10)

  -- of each group, and of all four
  pub groups_exact : (i : ℕ) → i < 4 → get_or (group_sums z) i 0 ≡ sum_of (λ k. g (i * 20 + k)) 20
  unfolding group_sums
  groups_exact zero h = group_exact 0 (omega arith)
  groups_exact (suc zero) h = group_exact 20 (omega arith)
  groups_exact (suc (suc zero)) h = group_exact 40 (omega arith)
  groups_exact (suc (suc (suc zero))) h = group_exact 60 (omega arith)
  groups_exact (suc (suc (suc (suc i)))) h = absurd (omega arith)

  pub chunk_exact : chunk_sum z ≡ sum_of g 80
  unfolding chunk_sum
  chunk_exact =
      let first = sum_same (λ k. g (0 + k)) g 20 (λ k h. let e : 0 + k ≡ k = omega arith in ap g e) in
      omega (
        arith,
        group_exact 0 (omega arith),
        group_exact 20 (omega arith),
        group_exact 40 (omega arith),
        group_exact 60 (omega arith),
        first,
        sum_parts g 20 20,
        sum_parts g 40 20,
        sum_parts g 60 20,
      )

-- a sum asks only of its own eighty numbers
module _ (y z : ℕ → Float) (same : (k : ℕ) → k < 80 → y k ≡ z k) where
  alternate_same : (o n : ℕ) → o + n * 2 ≤ 81 → alternate y o n ≡ alternate z o n
  unfolding alternate
  alternate_same o zero h = refl
  alternate_same o (suc n) h = ap₂ (add binary64) (alternate_same o n (omega arith)) (same (o + n * 2) (omega arith))

  group_same : (o : ℕ) → o ≤ 60 → group_sum y o ≡ group_sum z o
  unfolding group_sum
  group_same o h =
      ap₂ (λ (a : Float) (b : Float). counted a + counted b) (alternate_same o 10 (omega arith)) (alternate_same (o + 1) 10 (omega arith))

  pub groups_same : group_sums y ≡ group_sums z
  unfolding group_sums
  groups_same =
      let last = ap (λ (n : ℕ). n ∷ []) (group_same 60 (omega arith)) in
      ap₂ ◌∷◌ (group_same 0 (omega arith)) (ap₂ ◌∷◌ (group_same 20 (omega arith)) (ap₂ ◌∷◌ (group_same 40 (omega arith)) last))

  pub chunk_same : chunk_sum y ≡ chunk_sum z
  unfolding chunk_sum
  chunk_same =
      omega (arith, group_same 0 (omega arith), group_same 20 (omega arith), group_same 40 (omega arith), group_same 60 (omega arith))

-- ---- whatever the numbers are, a group's sum fits 53 bits, and the four make the chunk's
group_small : (z : ℕ → Float) (o : ℕ) → group_sum z o < 9007199254740992
unfolding group_sum
group_small z o = omega (arith, count_small (alternate z o 10), count_small (alternate z (o + 1) 10))

pub groups_small : (z : ℕ → Float) (i : ℕ) → get_or (group_sums z) i 0 < 9007199254740992
unfolding group_sums
groups_small z zero = group_small z 0
groups_small z (suc zero) = group_small z 20
groups_small z (suc (suc zero)) = group_small z 40
groups_small z (suc (suc (suc zero))) = group_small z 60
groups_small z (suc (suc (suc (suc i)))) = omega arith

pub groups_added : (z : ℕ → Float)
    → get_or (group_sums z) 0 0 + get_or (group_sums z) 1 0 + (get_or (group_sums z) 2 0 + get_or (group_sums z) 3 0) ≡ chunk_sum z
unfolding group_sums chunk_sum
groups_added z = refl

pub groups_summed : (z : ℕ → Float) (sums : List ℕ) → sums ≡ group_sums z → sum sums ≡ chunk_sum z
unfolding group_sums chunk_sum
groups_summed z sums e = ap sum e ∙ omega arith

pub chunk_small : (z : ℕ → Float) → chunk_sum z < 36028797018963968
unfolding chunk_sum
chunk_small z = omega (arith, group_small z 0, group_small z 20, group_small z 40, group_small z 60)
