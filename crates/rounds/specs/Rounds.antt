-- "Peel one line after another", request 1 of document 02: "with n = 1 and p = 0, solve, remove the points that the line fits within ε, and
-- solve again on those left". The rounds over a list of points, and the label of each point.
use Rattle.std.specs.Prelude.{Bool, true, false, cond, not, ◌&&◌, ◌||◌, List, [], ◌∷◌, ℕ, zero, suc, ◌+◌, leb, ℤ}
use Rattle.jobs.specs.declared.Job.{Job}
use Rattle.jobs.specs.declared.Model.{Model}
use Rattle.points.specs.declared.Point.{Point}
use Rattle.points.specs.Points.{is_gap}
use Rattle.residuals.specs.Cost.{size_at, cost, bound}
use Rattle.certificate.specs.Search as Search
use Rattle.certificate.specs.Search.{keep_if, solved, spent, full, search}

-- "gaps are set aside before the first round": the points that are left at its beginning
abbrev pub samples : List Point → List Point
samples qs = keep_if (λ q. not (is_gap q)) qs

-- "solve": the search that the job asks for, over these points alone, in so many rows. "each time from the job's start vector"; "Each round
-- has the whole split budget and the table".
unfoldable pub solve : Job → ℕ → List Point → Search.Answer
solve job rows qs =
    search (cost job.model qs) (bound job.model qs) job.budget rows job.t job.start job.domain

-- "the points that the line fits within ε": |e| ≤ ε, of the one line of a vector
unfoldable pub fits : Model → List ℤ → Point → Bool
fits m v q = leb (size_at m v q 0) m.eps

abbrev pub is_solved : Search.Kind → Bool
is_solved solved = true
is_solved spent = false
is_solved full = false

-- Whether a round that came to r removes a point: "a round isn't solved, which then removes nothing".
unfoldable pub removes : Model → Search.Answer → Point → Bool
removes m r q = is_solved r.kind && fits m r.vector q

-- "those left"
abbrev pub left_by : Model → Search.Answer → List Point → List Point
left_by m r qs = keep_if (λ q. not (removes m r q)) qs

-- whether it removes any of these points
unfoldable pub removes_any : Model → Search.Answer → List Point → Bool
removes_any m r [] = false
removes_any m r (q ∷ qs) = removes m r q || removes_any m r qs

-- A round that was run: the points then left, and what solving on them came to.
pub record Round : Type 0 where
  pub left : List Point
  pub found : Search.Answer

-- The rounds run on these points, `limit` of them at most. "Stop when no point is left, after a given limit of 1 to 4 rounds, when the line
-- fits none of the points left, or when a round isn't solved": by the last two a round that removes nothing is the last one.
unfoldable pub rounds : Job → ℕ → ℕ → List Point → List Round
rounds job rows zero qs = []
rounds job rows (suc limit) [] = []
rounds job rows (suc limit) (q ∷ qs) =
    let r = solve job rows (q ∷ qs) in
    let m = job.model in
    record { left = q ∷ qs; found = r }
    ∷ cond (removes_any m r (q ∷ qs)) (rounds job rows limit (left_by m r (q ∷ qs))) []

-- the rounds of a store's points
abbrev pub peeled : Job → ℕ → ℕ → List Point → List Round
peeled job rows limit qs = rounds job rows limit (samples qs)

-- The number of the round that removed a point, where the first of these is round k; 0 if none did.
unfoldable pub removed_by : Model → ℕ → List Round → Point → ℕ
removed_by m k [] q = 0
removed_by m k (r ∷ rs) q = cond (removes m r.found q) k (removed_by m (suc k) rs q)

-- "A point's label is the round that removed it, else 0." Request 2: a gap's label is 6.
unfoldable pub round_label : Model → List Round → Point → ℕ
round_label m rs q = cond (is_gap q) 6 (removed_by m 1 rs q)

-- how many of these points a line fits
unfoldable pub fitted : Model → List ℤ → List Point → ℕ
fitted m v [] = 0
fitted m v (q ∷ qs) = cond (fits m v q) 1 0 + fitted m v qs
