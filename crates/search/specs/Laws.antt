-- What is shown of the answers of a search. The proofs stand in proofs/SameVector.antt, Stopped.antt and EachStep.antt.
use Rattle.codes.specs.Codes.{pass}
use Rattle.std.specs.Prelude.{◌≡◌, List, map, ℕ, ℤ, length, take}
use Rattle.boxes.specs.declared.Box.{Box}
use Rattle.jobs.specs.declared.Job.{Job}
use Rattle.points.specs.Points.{points_of}
use Rattle.residuals.specs.Cost.{cost, bound}
use Rattle.list_rows.specs.Rows.{row_count, rows_of}
use Rattle.certificate.specs.Search.{State, search}
use Rattle.certificate.specs.Certificate.{state_of, Reached}
use Rattle.search.specs.declared.Kind.TheVariants.{Solved}
use Rattle.search.specs.Search.{check_lent, search_answer, TableSearched, BoundsSearched}

-- Document 02, request 6: "From different start vectors two operators got different fits of equal cost." With t = 0 two solved answers over
-- the same points, model and box have one vector, "whatever the start", the budgets, the tables and the lists of bounds.
abbrev pub SameVector : Type 0
SameVector =
    (store store' : List ℕ) (job job' : Job) (table table' : List ℤ) (bounds bounds' : List ℕ) →
    points_of store ≡ points_of store' →
    job.model ≡ job'.model →
    job.domain ≡ job'.domain →
    job.t ≡ 0 →
    job'.t ≡ 0 →
    (search_answer store job table bounds).kind ≡ Solved →
    (search_answer store' job' table' bounds').kind ≡ Solved →
    (search_answer store job table bounds).vector ≡ (search_answer store' job' table' bounds').vector

-- A search over any cost and bound whose budget is a number k of splits that a search with another budget counts stops at the state that
-- these lead to, solved or spent.
abbrev pub StopsAt : Type 0
StopsAt =
    (cost : List ℤ → ℕ) (bound : Box → ℕ) (budget rows t : ℕ) (start : List ℤ) (box : Box) (k : ℕ) (s : State) →
    Reached cost bound budget rows t start box k s →
    state_of (search cost bound k rows t start box) ≡ s

-- the same job with another split budget
abbrev pub with_budget : ℕ → Job → Job
with_budget k job =
    record { model = job.model; t = job.t; budget = k; rows = job.rows; domain = job.domain; start = job.start }

-- Document 02, request 3: "after the beginning and after every step the entry equals that bound by definition." While a search runs, its
-- newest boxes and their bounds stand in memory of its own, until they move into the table and the list. So the sentence is shown of what
-- is left: where k counted splits lead an accepted job to the state s, the same job with the budget k leaves the boxes of s's list in the
-- first rows, and beside each its bound by definition; with k = 0, those of the beginning.
abbrev pub EachStep : Type 0
EachStep =
    (store : List ℕ) (job : Job) (table after : List ℤ) (bounds entries : List ℕ) (k : ℕ) (s : State) →
    check_lent store job table bounds ≡ pass →
    Reached (cost job.model (points_of store)) (bound job.model (points_of store)) job.budget (row_count table) job.t
    job.start job.domain k s →
    TableSearched store (with_budget k job) table bounds after →
    BoundsSearched store (with_budget k job) table bounds entries →
    (rows_of after (length s.list) ≡ s.list) × (take (length s.list) entries ≡ map (bound job.model (points_of store)) s.list)
