-- What is shown of the answers of `search::search` over two stores that differ in one record only. The proofs stand in
-- proofs/OneRecord.antt and proofs/Reached.antt.
use Rattle.std.specs.Prelude.{◌≡◌, List, ℕ, ◌+◌, ◌≤◌, ℤ}
use Rattle.jobs.specs.declared.Job.{Job}
use Rattle.search.specs.declared.Kind.TheVariants.{Solved}
use Rattle.search.specs.Search.{search_answer}
use Rattle.influence.specs.OneRecord.{DifferInOne, SameSettings, cap, CostsNear}

-- Document 02, request 12: "for p of 0, 1 and 2 and two stores that differ in one record only, both solved with the same settings and box,
-- each with its tolerance: each cost is at most the other, plus its own job's tolerance, plus a cap." "Gaps are covered, and any start
-- vectors, budgets and table sizes that led to solved", and any lists of bounds.
abbrev pub OneRecord : Type 0
OneRecord =
    (store store' : List ℕ) (job job' : Job) (table table' : List ℤ) (bounds bounds' : List ℕ) →
    DifferInOne store store' →
    SameSettings job job' →
    job.model.p ≤ 2 →
    (search_answer store job table bounds).kind ≡ Solved →
    (search_answer store' job' table' bounds').kind ≡ Solved →
    CostsNear (cap job.model.p job.model.eps) job job'
    (search_answer store job table bounds) (search_answer store' job' table' bounds')

-- There are two such stores and jobs where the one cost is the other plus its tolerance, which is not 0, plus the cap: for this p and ε
-- neither can be left out or made smaller.
pub record CapReached (p ε : ℕ) : Type 0 where
  pub store : List ℕ
  pub store' : List ℕ
  pub job : Job
  pub job' : Job
  pub table : List ℤ
  pub bounds : List ℕ
  pub differ : DifferInOne store store'
  pub same : SameSettings job job'
  pub picks : job.model.p ≡ p
  pub threshold : job.model.eps ≡ ε
  pub solved : (search_answer store job table bounds).kind ≡ Solved
  pub solved' : (search_answer store' job' table bounds).kind ≡ Solved
  pub tolerant : 1 ≤ job'.t
  pub reached : (search_answer store' job' table bounds).cost ≡ (search_answer store job table bounds).cost + job'.t + cap p ε

-- so it is for each p: with ε = 0 for p = 0, and with ε = 3 for p of 1 and 2
pub record AllReached : Type 0 where
  pub outliers : CapReached 0 0
  pub sizes : CapReached 1 3
  pub squares : CapReached 2 3
