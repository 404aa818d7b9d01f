-- What holds of shares where no job makes more splits than it gets. The proofs stand in proofs/Shares.antt.
use Rattle.std.specs.Prelude.{ℕ, ◌/◌, ◌≤◌, ◌<◌, min}
use Rattle.shares.specs.Shares.{left_before, budget_of, splits_of}

pub record Shared (own : ℕ → ℕ) (spent : ℕ → ℕ → ℕ) (total count : ℕ) : Type 0 where
  -- "The splits together never exceed T
  pub together : splits_of own spent total count count ≤ total
  -- and every job gets at least the smaller of its own budget and T divided by the number of jobs, rounded down, whatever the other jobs
  -- hold."
  pub fair : (i : ℕ) → i < count → min (own i) (total / count) ≤ budget_of own spent total count i
  -- no job gets more than its own budget, nor more than is left
  pub most : (i : ℕ) → (budget_of own spent total count i ≤ own i) × (budget_of own spent total count i ≤ left_before own spent total count i)

abbrev pub AllShared : Type 0
AllShared = (own : ℕ → ℕ) (spent : ℕ → ℕ → ℕ) (total count : ℕ) → ((i b : ℕ) → spent i b ≤ b) → Shared own spent total count
