-- The first smallest of the numbers beside the open boxes. These definitions say what this crate's functions do; the contract of a search
-- does not rest on them, and a reader of that need not believe them.
use Rattle.std.specs.Prelude.{◌≡◌, List, ℕ, ◌≤◌, ◌<◌, get_or}
use Rattle.list_first_smallest.specs.declared.Lowest.{Lowest}

abbrev pub entry_at : List ℕ → ℕ → ℕ
entry_at d k = get_or d k 0

-- `at` is the place of the first smallest of the first n entries
pub record FirstLeast (d : List ℕ) (n at : ℕ) : Type 0 where
  pub inside : at < n
  pub none_smaller : (k : ℕ) → k < n → entry_at d at ≤ entry_at d k
  pub first : (k : ℕ) → k < at → entry_at d at < entry_at d k

-- "L is C if the list is empty, else the smallest bound in it", with the place of "the first box with the smallest bound"
pub record LowestOf (d : List ℕ) (n c : ℕ) (r : Lowest) : Type 0 where
  pub empty : n ≡ 0 → r ≡ record { at = 0; bound = c }
  pub place : 1 ≤ n → FirstLeast d n r.at
  pub lowest : 1 ≤ n → r.bound ≡ entry_at d r.at
