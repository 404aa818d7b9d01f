-- The smallest bound of a list, and the first box that has it. Assumes nothing.
use mathlib.Core.Path.{◌≡◌}
use mathlib.Core.List.{List, [], ◌∷◌}
use Prim.Native.Nat.{ℕ, zero, suc, ◌≤◌, ◌<◌, min}
use native.Mathlib.Omega.{arith}
use native.Mathlib.Nat.{le_refl}
use lib.Dec.{leb, leb→le, nleb→lt}
use lib.ListN.{length}
use Rattle.integers.specs.Lists.{All, none, also}
use Rattle.integers.proofs.Lists.{all_map}
use Rattle.integers.proofs.Tests.{by_cond}
use Rattle.boxes.specs.declared.Box.{Box}
use Rattle.boxes.specs.Split.{zero_box}
use Rattle.certificate.specs.Search.{lower_bound, first_smallest, box_at}
use Rattle.certificate.specs.Laws.{AllSmallest}
use Rattle.certificate.proofs.Lists.{all-at}

module _ (bound : Box → ℕ) where
  -- L is at most each bound
  pub lower_below : (c : ℕ) (bs : List Box) → All (λ b. lower_bound bound c bs ≤ bound b) bs
  unfolding lower_bound
  lower_below c [] = none
  lower_below c (b ∷ bs) = also {x = b} (omega arith) (all_map (λ d h. omega arith) (lower_below (bound b) bs))

  -- and at most C, where none of them is above C
  pub lower_le : (c : ℕ) (bs : List Box) → All (λ b. bound b ≤ c) bs → lower_bound bound c bs ≤ c
  unfolding lower_bound
  lower_le c [] h = le_refl c
  lower_le c (b ∷ bs) (also h hs) = omega arith

  -- where L is below C there is a box
  pub lower_open : (c : ℕ) (bs : List Box) → lower_bound bound c bs < c → 1 ≤ length bs
  unfolding lower_bound
  lower_open c [] less = absurd (omega arith)
  lower_open c (b ∷ bs) less = omega arith

  smallest_inside : (bs : List Box) → 1 ≤ length bs → first_smallest bound bs < length bs
  unfolding first_smallest
  smallest_inside [] some = absurd (omega arith)
  smallest_inside (b ∷ bs) some =
      by_cond (λ k. k < suc (length bs)) (leb (bound b) (lower_bound bound (bound b) bs)) (λ t. omega arith)
      (λ t. omega (arith, smallest_inside bs (lower_open (bound b) bs (nleb→lt _ _ t))))

  smallest_lower : (c : ℕ) (bs : List Box) → 1 ≤ length bs → bound (box_at bs (first_smallest bound bs)) ≡ lower_bound bound c bs
  unfolding first_smallest lower_bound
  smallest_lower c [] some = absurd (omega arith)
  smallest_lower c (b ∷ bs) some =
      let low = lower_bound bound (bound b) bs in
      by_cond (λ k. bound (box_at (b ∷ bs) k) ≡ min (bound b) low) (leb (bound b) low) (λ t. omega (arith, leb→le))
      (λ t. let less = nleb→lt _ _ t in omega (arith, smallest_lower (bound b) bs (lower_open (bound b) bs less)))

  before_larger :
      (bs : List Box) (k : ℕ) →
      k < first_smallest bound bs →
      bound (box_at bs (first_smallest bound bs)) < bound (box_at bs k)
  unfolding first_smallest
  before_larger [] k before = absurd (omega arith)
  before_larger (b ∷ bs) zero before =
      by_cond (λ n. 0 < n → bound (box_at (b ∷ bs) n) < bound b) (leb (bound b) (lower_bound bound (bound b) bs))
      (λ t before. absurd (omega arith))
      (λ t before. let less = nleb→lt _ _ t in omega (arith, smallest_lower (bound b) bs (lower_open (bound b) bs less)))
      before
  before_larger (b ∷ bs) (suc k) before =
      by_cond (λ n. suc k < n → bound (box_at (b ∷ bs) n) < bound (box_at bs k)) (leb (bound b) (lower_bound bound (bound b) bs))
      (λ t before. absurd (omega arith))
      (λ t before. before_larger bs k (omega arith))
      before

pub smallest : AllSmallest
smallest bound bs some =
    record {
      inside = smallest_inside bound bs some;
      lowest = λ c. smallest_lower bound c bs some;
      none_smaller = λ k inside. omega (arith, smallest_lower bound 0 bs some, all-at zero_box (lower_below bound 0 bs) k inside);
      first = before_larger bound bs;
    }
