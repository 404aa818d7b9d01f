-- Document 02, request 12, "How much one sample can matter": its terms.
use Rattle.std.specs.Prelude.{◌≡◌, List, ◌++◌, ℕ, zero, suc, ◌+◌, ◌*◌, ◌%◌, ◌≤◌, length}
use Rattle.jobs.specs.declared.Job.{Job}
use Rattle.search.specs.declared.Answer.{Answer}

-- "two stores that differ in one record only": the same bytes before it, whole records of 12 bytes, and the same behind it. Each of the two
-- records may be a sample or a gap.
pub record DifferInOne (store store' : List ℕ) : Type 0 where
  pub before : List ℕ
  pub one : List ℕ
  pub other : List ℕ
  pub behind : List ℕ
  pub whole : length before % 12 ≡ 0
  pub twelve : length one ≡ 12
  pub twelve' : length other ≡ 12
  pub store_is : store ≡ before ++ (one ++ behind)
  pub store'-is : store' ≡ before ++ (other ++ behind)

-- "with the same settings and box": n, d, S, p, ε, and the box. Tolerance, budget, rows and start vector are free.
pub record SameSettings (job job' : Job) : Type 0 where
  pub model : job.model ≡ job'.model
  pub box : job.domain ≡ job'.domain

-- "The cap is 1, ε or ε² by p", of p and ε. Larger p have no cap: the law asks for p of 0, 1 or 2, and 0 stands for the others.
unfoldable pub cap : ℕ → ℕ → ℕ
cap zero ε = 1
cap (suc zero) ε = ε
cap (suc (suc zero)) ε = ε * ε
cap (suc (suc (suc p))) ε = 0

-- "each cost is at most the other, plus its own job's tolerance, plus a cap": of a job's answer r, and of r', that of job'
pub record CostsNear (most : ℕ) (job job' : Job) (r r' : Answer) : Type 0 where
  pub one : r.cost ≤ r'.cost + job.t + most
  pub other : r'.cost ≤ r.cost + job'.t + most
