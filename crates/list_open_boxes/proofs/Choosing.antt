-- A list in which one box has a smaller bound than all before it and none behind it has a smaller one: it is the first box with the
-- smallest bound. Assumes nothing.
use mathlib.Core.Path.{◌≡◌, refl, ap}
use mathlib.Core.List.{List, [], ◌∷◌, ◌++◌}
use Prim.Native.Nat.{ℕ, ◌≤◌, ◌<◌}
use native.Mathlib.Omega.{arith}
use lib.ListN.{length}
use borrow.Author.Tests.{le-leb, lt-leb}
use Rattle.integers.specs.Lists.{All, also}
use Rattle.boxes.specs.declared.Box.{Box}
use Rattle.certificate.specs.Search.{lower_bound, first_smallest, box_at, without}

module _ (bound : Box → ℕ) where
  -- L is no less than what none is below
  lower_most : (m c : ℕ) (bs : List Box) → m ≤ c → All (λ b. m ≤ bound b) bs → m ≤ lower_bound bound c bs
  unfolding lower_bound
  lower_most m c [] least h = least
  lower_most m c (b ∷ bs) least (also h hs) = omega (arith, lower_most m (bound b) bs h hs)

  module _ (b : Box) (ys : List Box) (behind : All (λ x. bound b ≤ bound x) ys) where
    pub chosen_lowest : (c : ℕ) (xs : List Box) → All (λ x. bound b < bound x) xs → lower_bound bound c (xs ++ (b ∷ ys)) ≡ bound b
    unfolding lower_bound
    chosen_lowest c [] before = omega (arith, lower_most (bound b) (bound b) ys (omega arith) behind)
    chosen_lowest c (x ∷ xs) (also h hs) = omega (arith, chosen_lowest (bound x) xs hs)

    pub chosen_first : (xs : List Box) → All (λ x. bound b < bound x) xs → first_smallest bound (xs ++ (b ∷ ys)) ≡ length xs
    unfolding first_smallest
    chosen_first [] before =
        rw (le-leb (bound b) (lower_bound bound (bound b) ys) (lower_most (bound b) (bound b) ys (omega arith) behind))
    chosen_first (x ∷ xs) (also h hs) =
        rw (
          lt-leb (bound x) (lower_bound bound (bound x) (xs ++ (b ∷ ys))) (omega (arith, chosen_lowest (bound x) xs hs)),
          chosen_first xs
              hs,
        )

-- the box between two parts, and the list without it
pub chosen_box : (b : Box) (ys xs : List Box) → box_at (xs ++ (b ∷ ys)) (length xs) ≡ b
chosen_box b ys [] = refl
chosen_box b ys (x ∷ xs) = chosen_box b ys xs

pub chosen_left : (b : Box) (ys xs : List Box) → without (xs ++ (b ∷ ys)) (length xs) ≡ xs ++ ys
chosen_left b ys [] = refl
chosen_left b ys (x ∷ xs) = ap (λ (l : List Box). x ∷ l) (chosen_left b ys xs)
