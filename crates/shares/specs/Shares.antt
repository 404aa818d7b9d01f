-- Document 02, request 11: one split budget for several jobs. Over any own budgets, and any number of splits that job i makes under a
-- budget.
use Rattle.std.specs.Prelude.{ℕ, zero, suc, ◌+◌, ◌-◌, ◌/◌, min}

-- T is `total`; jobs are counted from 0.
module _ (own : ℕ → ℕ) (spent : ℕ → ℕ → ℕ) (total count : ℕ) where
  -- "the smaller of its own budget and the splits left divided by the jobs left, itself included, rounded down"
  abbrev pub share_of : ℕ → ℕ → ℕ
  share_of i left = min (own i) (left / (count - i))

  -- the splits left before job i: T less the splits that the jobs before it made
  unfoldable pub left_before : ℕ → ℕ
  left_before zero = total
  left_before (suc i) = left_before i - spent i (share_of i (left_before i))

  -- "In order, each job gets" this
  abbrev pub budget_of : ℕ → ℕ
  budget_of i = share_of i (left_before i)

  -- the splits of the first n jobs together
  unfoldable pub splits_of : ℕ → ℕ
  splits_of zero = 0
  splits_of (suc n) = splits_of n + spent n (budget_of n)
