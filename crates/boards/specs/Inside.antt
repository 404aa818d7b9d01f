-- What the functions behind the boards say to each other.
use Rattle.std.specs.Prelude.{◌≡◌, List, ℕ, ◌≤◌, ℤ, replicate}
use Rattle.integers.specs.Lists.{over}
use Rattle.codes.specs.declared.Refusal.{Refusal}
use Rattle.search.specs.declared.Answer.{Answer}
use Rattle.search.specs.Search.{refused}
use Rattle.sharing.specs.Sharing.{SharedTable, SharedBounds}
use Rattle.shares.specs.Shares.{left_before}
use Rattle.boards.specs.Boards.{begin_of, own_at, spent_at, answer_at, budget_at, in_turn, runs_of}

-- The first i jobs: their answers and budgets, and what their searches left in the table and the list.
pub record Answered
    (count total : ℕ) (jobs stores lengths : List ℕ) (table : List ℤ) (bounds : List ℕ) (i : ℕ) (answers : List Answer) (budgets : List ℕ)
    (u : List ℤ) (e : List ℕ) : Type 0
  where
    pub told : answers ≡ over (in_turn (answer_at count total jobs stores lengths table bounds) i) (replicate 8 (refused Refusal.Jobs))
    pub given : budgets ≡ over (in_turn (budget_at count total jobs stores lengths table bounds) i) (replicate 8 0)
    pub rows : SharedTable (runs_of count total jobs stores lengths table bounds i) table u
    pub entries : SharedBounds (runs_of count total jobs stores lengths table bounds i) bounds e

-- Between two jobs: i of them are done, so many splits are left, and the next store begins at `from`.
pub record Turn
    (count total : ℕ) (jobs stores lengths : List ℕ) (table : List ℤ) (bounds : List ℕ) (i left from : ℕ) (answers : List Answer)
    (budgets : List ℕ) (u : List ℤ) (e : List ℕ) : Type 0
  where
    pub few : i ≤ count
    pub splits :
        left
        ≡ left_before (own_at count total jobs stores lengths table bounds) (spent_at count total jobs stores lengths table bounds) total
        count i
    pub next : from ≡ begin_of lengths i
    pub answered : Answered count total jobs stores lengths table bounds i answers budgets u e
