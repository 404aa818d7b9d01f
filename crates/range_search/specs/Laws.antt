-- What is shown of the search for ranges. The proofs stand in proofs/.
use Rattle.std.specs.Prelude.{◌≡◌, List, [], ◌∷◌, ◌++◌, ℕ, ◌≤◌, max, T, ℤ, length}
use Rattle.integers.specs.Lists.{All}
use Rattle.boxes.specs.declared.Box.{Box}
use Rattle.boxes.specs.Boxes.{volume}
use Rattle.boxes.specs.Split.{left_half, right_half}
use Rattle.boxes.specs.Laws.{Bounds}
use Rattle.certificate.specs.Search.{keep_if}
use Rattle.certificate.specs.Laws.{Open}
use Rattle.range_search.specs.RangeSearch.{State, keeps, costed, split, range_search}
use Rattle.range_search.specs.Ranged.{Reached, Ranged}

-- Every search of a box with a vector keeps what request 13 promises, where the cost and the bound have the two laws.
abbrev pub AllRanged : Type 0
AllRanged =
    (cost : List ℤ → ℕ) (bound : Box → ℕ) →
    Bounds cost bound →
    (K budget rows : ℕ) (box : Box) →
    1 ≤ volume box →
    Ranged cost bound K budget rows box (range_search cost bound K budget rows box)

-- A state of a search of `box`: the open boxes have two vectors at least and lie in it, each would be kept again, the list is no longer
-- than peak, peak is at most r (at the beginning one box may be open, whatever r is), and the count is within the budget.
pub record Sound (bound : Box → ℕ) (K budget rows : ℕ) (box : Box) (s : State) : Type 0 where
  pub opened : All (Open box) s.list
  pub kept : All (λ b. T (keeps bound K b)) s.list
  pub longest : length s.list ≤ s.peak
  pub room : s.peak ≤ max 1 rows
  pub within : s.count ≤ budget

-- So it is with every state that steps lead to.
abbrev pub AllSound : Type 0
AllSound =
    (cost : List ℤ → ℕ) (bound : Box → ℕ) →
    Bounds cost bound →
    (K budget rows : ℕ) (box : Box) →
    1 ≤ volume box →
    (k : ℕ) (s : State) →
    Reached cost bound K budget rows box k s →
    Sound bound K budget rows box s

-- "always cut the last open one": where b stands behind the open boxes bs, its halves take its place, and they are what is costed.
pub record CutsLast (cost : List ℤ → ℕ) (bound : Box → ℕ) (K : ℕ) (s : State) (bs : List Box) (b : Box) : Type 0 where
  pub list : s.list ≡ bs ++ (b ∷ []) → (split cost bound K s).list ≡ keep_if (keeps bound K) (bs ++ (left_half b ∷ right_half b ∷ []))
  pub found :
      s.list ≡ bs ++ (b ∷ []) →
      (split cost bound K s).found ≡ costed cost K (costed cost K s.found (left_half b)) (right_half b)

abbrev pub AllCutsLast : Type 0
AllCutsLast = (cost : List ℤ → ℕ) (bound : Box → ℕ) (K : ℕ) (s : State) (bs : List Box) (b : Box) → CutsLast cost bound K s bs b
