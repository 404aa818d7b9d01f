-- Document 02, request 11: "Take a count of 1 to 8 jobs, each with its store, and a total budget T, unsigned 32-bit."
use Rattle.std.specs.Prelude.{◌≡◌, ◌&&◌, List, [], ◌∷◌, ◌++◌, ℕ, zero, suc, ◌+◌, ◌*◌, ◌/◌, ◌≤◌, ◌<◌, min, leb, ℤ, length, take, drop, get_or, replicate, Result}
use Rattle.integers.specs.Lists.{over}
use Rattle.codes.specs.declared.Refusal.{Refusal}
use Rattle.codes.specs.Codes.{Check, pass, pass_if, unless_refused, if_passed, within}
use Rattle.jobs.specs.declared.Job.{Job}
use Rattle.points.specs.Points.{points_of}
use Rattle.residuals.specs.Cost.{bound}
use Rattle.list_rows.specs.Rows.{row_count}
use Rattle.certificate.specs.Search as Search
use Rattle.search.specs.declared.Answer.{Answer}
use Rattle.search.specs.Search.{searched, told, refused, answer_unless_refused, CertifiedIn}
use Rattle.job_records.specs.Jobs.{job_or_zeros}
use Rattle.sharing.specs.Sharing.{Run, run_if}
use Rattle.shares.specs.Shares.{budget_of}
use Rattle.one_board.specs.Board.{under, store_from, check_board}
use Rattle.boards.specs.declared.BoardAnswers.{BoardAnswers}

-- "18, jobs, for a count outside 1 to 8, or job records or lengths fewer than the count"
unfoldable pub check_jobs : ℕ → ℕ → ℕ → Check
check_jobs count bytes entries = pass_if (within 1 count 8 && (leb (72 * count) bytes && leb count entries)) Refusal.Jobs

-- "Job records stand one behind the other in one buffer": job i has the 72 bytes from 72 × i on, counted from 0.
unfoldable pub job_at : List ℕ → ℕ → Job
job_at jobs i = job_or_zeros (take 72 (drop (72 * i) jobs))

-- "stores in a second, with a list of the stores' byte lengths": a store begins behind those before it, whatever these jobs come to.
unfoldable pub begin_of : List ℕ → ℕ → ℕ
begin_of lengths zero = 0
begin_of lengths (suc i) = begin_of lengths i + get_or lengths i 0

-- f 0, f 1 and so on, n of them
unfoldable pub in_turn : {A : Type 0} → (ℕ → A) → ℕ → List A
in_turn f zero = []
in_turn f (suc n) = in_turn f n ++ (f n ∷ [])

-- the splits of some answers together
unfoldable pub splits_in : List Answer → ℕ
splits_in [] = 0
splits_in (a ∷ answers) = a.count + splits_in answers

module _ (count total : ℕ) (jobs stores lengths : List ℕ) (table : List ℤ) (bounds : List ℕ) where
  abbrev pub check_call : Check
  check_call = check_jobs count (length jobs) (length lengths)

  -- Job i: its store, whether it is refused, and what its search comes to under a budget.
  abbrev pub store_at : ℕ → List ℕ
  store_at i = store_from stores (begin_of lengths i) (get_or lengths i 0)

  abbrev pub check_at : ℕ → Check
  check_at i = check_board stores (begin_of lengths i) (get_or lengths i 0) (job_at jobs i) (length table) (length bounds)

  abbrev pub search_at : ℕ → ℕ → Search.Answer
  search_at i budget = searched (store_at i) (under (job_at jobs i) budget) (row_count table)

  -- its own budget, and the splits that it makes: "A refused job spends nothing"
  abbrev pub own_at : ℕ → ℕ
  own_at i = (job_at jobs i).budget

  abbrev pub spent_at : ℕ → ℕ → ℕ
  spent_at i budget = if_passed (check_at i) (search_at i budget).count 0

  -- the budget that it gets, and its answer or refusal
  abbrev pub budget_at : ℕ → ℕ
  budget_at i = budget_of own_at spent_at total count i

  abbrev pub answer_at : ℕ → Answer
  answer_at i = answer_unless_refused (check_at i) (search_at i (budget_at i))

  -- the searches that the first n jobs run in the table: those of the jobs accepted
  abbrev pub run_at : ℕ → Run
  run_at i = record { bound = bound (job_at jobs i).model (points_of (store_at i)); found = search_at i (budget_at i) }

  unfoldable pub runs_of : ℕ → List Run
  runs_of zero = []
  runs_of (suc n) = runs_of n ++ run_if (check_at n) (run_at n)

  -- "Each job's answer or refusal is given, in order", with the budgets. Slots without a job are refused by 18, with the budget 0.
  unfoldable pub boards_found : BoardAnswers
  boards_found = record {
    answers = over (in_turn answer_at count) (replicate 8 (refused Refusal.Jobs));
    budgets = over (in_turn budget_at count) (replicate 8 0);
  }

  abbrev pub boards_answer : Result BoardAnswers Refusal
  boards_answer = unless_refused check_call boards_found

  -- "18 .. keeps everything lent": no search is run then
  abbrev pub searches_run : List Run
  searches_run = if_passed check_call (runs_of count) []

  -- What the answer r shares out.
  pub record BoardsShared (r : BoardAnswers) : Type 0 where
    -- "The splits together never exceed T,
    pub together : splits_in r.answers ≤ total
    -- and every job gets at least the smaller of its own budget and T divided by the number of jobs, rounded down, whatever the other jobs
    -- hold."
    pub fair : check_call ≡ pass → (i : ℕ) → i < count → min (own_at i) (total / count) ≤ get_or r.budgets i 0

  -- "Each answer is certified for its own job under the budget it got": the answer in slot i tells what the search of job i under the
  -- budget in slot i comes to, and of that demand 3 holds.
  pub record BoardCertified (r : BoardAnswers) (i : ℕ) : Type 0 where
    pub answer :
        get_or r.answers i (refused Refusal.Jobs)
        ≡ told (searched (store_at i) (under (job_at jobs i) (get_or r.budgets i 0)) (row_count table))
    pub certificate : CertifiedIn (store_at i) (under (job_at jobs i) (get_or r.budgets i 0)) (row_count table)

  abbrev pub BoardsCertified : BoardAnswers → Type 0
  BoardsCertified r = check_call ≡ pass → (i : ℕ) → i < count → check_at i ≡ pass → BoardCertified r i
