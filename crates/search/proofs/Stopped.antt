-- A search whose budget is a number of splits that another one counted stops at the state that these lead to. Assumes nothing.
use mathlib.Core.Path.{◌≡◌, refl, ap}
use mathlib.Core.Bool.{Bool, true, false}
use mathlib.Core.List.{List}
use Prim.Native.Nat.{ℕ, suc, ◌≤◌}
use native.Mathlib.Omega.{arith}
use lib.IntN.{ℤ}
use Rattle.boxes.specs.declared.Box.{Box}
use Rattle.certificate.specs.Search.{State, go, begin, split, is_solved, answer, search}
use Rattle.certificate.specs.Certificate.{Reached, beginning, counting, state_of}
use Rattle.search.specs.Laws.{StopsAt}
use Rattle.certificate.proofs.Steps.{Case, goes, step_case}
use Rattle.certificate.proofs.Running.{Running, running_begins, running_goes, running_solved, running_spent}

module _ (cost : List ℤ → ℕ) (bound : Box → ℕ) (budget budget' rows t : ℕ) (start : List ℤ) (box : Box) where
  abbrev Runs : ℕ → State → Type 0
  Runs k s = (s.count ≡ k) × Running cost bound budget' rows t start box s

  goes_on : {k : ℕ} (s : State) {after : State} → suc k ≤ budget' → Case cost bound budget rows t s (go after) → Runs k s → Runs (suc k)
      after
  unfolding split
  goes_on s less (goes unsolved left few) h =
      (ap suc h.0, running_goes cost bound budget' rows t start box s h.1 unsolved (omega (arith, h.0)) few)

  -- with another budget that is no smaller than the count the same steps are made
  runs_as_far : {k : ℕ} {s : State} → k ≤ budget' → Reached cost bound budget rows t start box k s → Runs k s
  unfolding begin
  runs_as_far le beginning = (refl, running_begins cost bound budget' rows t start box)
  runs_as_far le (counting {k = k} {s = s} r e) =
      goes_on s le (rw e at (step_case cost bound budget rows t s)) (runs_as_far (omega arith) r)

pub stops_at : StopsAt
unfolding answer
stops_at cost bound budget rows t start box k s reached = by (is_solved cost bound t s) refl
  where
    here : (s.count ≡ k) × Running cost bound k rows t start box s
    here = runs_as_far cost bound budget k rows t start box (omega arith) reached

    by : (b : Bool) → is_solved cost bound t s ≡ b → state_of (search cost bound k rows t start box) ≡ s
    by true e = ap state_of (running_solved cost bound k rows t start box s here.1 e)
    by false e = ap state_of (running_spent cost bound k rows t start box s here.1 e here.0)
