-- With the number of splits that were counted as its budget a search leaves the list that these lead to, and beside each box its bound.
-- Assumes nothing.
use mathlib.Core.Path.{◌≡◌, refl, sym, ap, subst, ◌∙◌}
use mathlib.Core.List.{List, ◌++◌, map}
use Prim.Native.Nat.{ℕ, ◌≤◌}
use native.Mathlib.Omega.{arith}
use lib.IntN.{ℤ}
use lib.ListN.{length, take, length-append, length-map}
use lib.Seq.{take-append_seam, take-take}
use Rattle.boxes.specs.declared.Box.{Box}
use Rattle.jobs.specs.declared.Job.{Job}
use Rattle.points.specs.Points.{points_of}
use Rattle.residuals.specs.Cost.{cost, bound}
use Rattle.list_rows.specs.Rows.{row_count, rows_of}
use Rattle.list_rows.proofs.Rows.{rows_length, rows_take}
use Rattle.certificate.specs.Search.{State, Answer}
use Rattle.search.proofs.Stopped.{stops_at}
use Rattle.search_checks.specs.Checks.{check_job, check_search}
use Rattle.search.specs.Search.{searched, check_lent}
use Rattle.search.specs.Laws.{with_budget, EachStep}

-- no check asks for the budget
same_check : (k : ℕ) (store : List ℕ) (job : Job) (table : List ℤ) (bounds : List ℕ)
    → check_lent store (with_budget k job) table bounds ≡ check_lent store job table bounds
unfolding check_search check_job
same_check k store job table bounds = refl

-- where as many as peak rows are a list and leftovers, the first rows are the list
module _ (list left_over : List Box) (peak : ℕ) where
  few_rows : (t : List ℤ) → rows_of t peak ≡ list ++ left_over → length list ≤ peak
  few_rows t e = omega (arith, rows_length t peak, ap (λ (x : List Box). length x) e, length-append list left_over)

  first_rows : (t : List ℤ) → rows_of t peak ≡ list ++ left_over → rows_of t (length list) ≡ list
  first_rows t e =
      sym (rows_take t peak (length list) (few_rows t e)) ∙ (ap (take (length list)) e ∙ take-append_seam list left_over)

first_entries : (e : List ℕ) (numbers left_over : List ℕ) (peak : ℕ) → take peak e ≡ numbers ++ left_over → length numbers ≤ peak
    → take (length numbers) e ≡ numbers
first_entries e numbers left_over peak is few =
    sym (take-take (length numbers) peak e few) ∙ (ap (take (length numbers)) is ∙ take-append_seam numbers left_over)

pub each_step : EachStep
unfolding searched
each_step store job table after bounds entries k s ok reached rows beside =
    let C = cost job.model (points_of store) in
    let B = bound job.model (points_of store) in
    let found : Answer = searched store (with_budget k job) (row_count table) in
    let pass = same_check k store job table bounds ∙ ok in
    let stops = stops_at C B job.budget (row_count table) job.t job.start job.domain k s reached in
    let at : found.list ≡ s.list = ap (λ (x : State). x.list) stops in
    let few = few_rows found.list rows.leftovers found.peak after (rows.rows pass) in
    let long : length (map B found.list) ≡ length found.list = length-map found.list B in
    let here = first_rows found.list rows.leftovers found.peak after (rows.rows pass) in
    let near = first_entries entries (map B found.list) beside.leftovers found.peak (beside.entries pass)
    (omega (arith, long, few)) in (
      subst (λ (l : List Box). rows_of after (length l) ≡ l) at here,
      subst (λ (l : List Box). take (length l) entries ≡ map B l) at (ap (λ (n : ℕ). take n entries) (sym long) ∙ near),
    )
