-- What is shown of the (q + 1)-th largest. The proofs stand in proofs/Largest.antt.
use Rattle.std.specs.Prelude.{cond, List, [], ◌∷◌, ◌++◌, ◌↔◌, ◌≡◌, ℕ, suc, ◌≤◌, ◌<◌, ltb}
use Rattle.integers.specs.Lists.{All}
use Rattle.ranks.specs.Largest.{nth_largest}

-- how many of the numbers exceed a
unfoldable pub exceeding : ℕ → List ℕ → ℕ
exceeding a [] = 0
exceeding a (x ∷ xs) = cond (ltb a x) (suc (exceeding a xs)) (exceeding a xs)

-- The (q + 1)-th largest is the least number that at most q of the list exceed: so a program may bisect for it, or count the numbers
-- that reach a cap.
pub record Largest (q : ℕ) (xs : List ℕ) : Type 0 where
  pub few : exceeding (nth_largest q xs) xs ≤ q
  pub least : (a : ℕ) → exceeding a xs ≤ q → nth_largest q xs ≤ a
  pub at_most : (a : ℕ) → (exceeding a xs ≤ q) ↔ (nth_largest q xs ≤ a)
  pub reaches : (a : ℕ) → (q < exceeding a xs) ↔ (a < nth_largest q xs)
  -- no larger than all of them
  pub most : (a : ℕ) → All (λ x. x ≤ a) xs → nth_largest q xs ≤ a

-- what is made of sizes "never falls when one of them grows"
pub record Rises (make : List ℕ → ℕ) : Type 0 where
  pub grows : (xs ys : List ℕ) (a b : ℕ) → a ≤ b → make (xs ++ a ∷ ys) ≤ make (xs ++ b ∷ ys)

-- so it is with the (q + 1)-th largest, whatever q is
abbrev pub LargestRises : Type 0
LargestRises = (q : ℕ) → Rises (nth_largest q)

-- Source document 002: "if x = (3, −4, 3, 5, 0), then 0-max(x) = 5, 1-max(x) = 3, 2-max(x) = 3, 3-max(x) = 0 and 4-max(x) = −4": each
-- number here is larger by 4, since sizes are not below 0.
pub record Examples : Type 0 where
  pub max_0 : nth_largest 0 (7 ∷ 0 ∷ 7 ∷ 9 ∷ 4 ∷ []) ≡ 9
  pub max_1 : nth_largest 1 (7 ∷ 0 ∷ 7 ∷ 9 ∷ 4 ∷ []) ≡ 7
  pub max_2 : nth_largest 2 (7 ∷ 0 ∷ 7 ∷ 9 ∷ 4 ∷ []) ≡ 7
  pub max_3 : nth_largest 3 (7 ∷ 0 ∷ 7 ∷ 9 ∷ 4 ∷ []) ≡ 4
  pub max_4 : nth_largest 4 (7 ∷ 0 ∷ 7 ∷ 9 ∷ 4 ∷ []) ≡ 0
