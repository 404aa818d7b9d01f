-- What the functions behind a report say to each other.
use Rattle.std.specs.Prelude.{cond, List, ◌≡◌, ℕ, ◌*◌, leb, ℤ, take, drop}
use Rattle.jobs.specs.declared.Job.{Job}
use Rattle.search.specs.Search.{search_answer, TableSearched, BoundsSearched, Certified}
use Rattle.search.specs.declared.Answer.{Answer}

-- how many numbers of the table a search in r rows is lent
unfoldable pub numbers_lent : ℕ → ℕ
numbers_lent r = cond (leb r 2048) (16 * r) 0

-- The answer, the table u and the list e are those of a search that was lent the front of the table and the whole list.
pub record Searched
    (store : List ℕ) (job : Job) (table : List ℤ) (bounds : List ℕ) (answer : Answer) (u : List ℤ) (e : List ℕ) : Type 0
  where
    pub told : answer ≡ search_answer store job (take (numbers_lent job.rows) table) bounds
    pub rows : TableSearched store job (take (numbers_lent job.rows) table) bounds (take (numbers_lent job.rows) u)
    pub rest : drop (numbers_lent job.rows) u ≡ drop (numbers_lent job.rows) table
    pub entries : BoundsSearched store job (take (numbers_lent job.rows) table) bounds e
    pub certificate : Certified store job (take (numbers_lent job.rows) table) bounds answer
