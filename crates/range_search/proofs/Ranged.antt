-- Every search for ranges finishes within its budget, and its answer keeps what request 13 promises. The run goes down by the splits that
-- are left; where it stops, the state was reached from the beginning, so that it covers the box. Assumes nothing.
use mathlib.Core.Path.{◌≡◌, refl, ap, subst}
use mathlib.Core.List.{List, [], ◌∷◌}
use mathlib.Core.Logic.{◌↔◌, ⊎_elim}
use Prim.Native.Nat.{ℕ, zero, suc, ◌+◌, ◌-◌, ◌*◌, ◌≤◌, ◌<◌}
use native.Mathlib.Omega.{arith}
use lib.IntN.{ℤ}
use lib.ListN.{length}
use Rattle.integers.proofs.Tests.{le_or_lt}
use Rattle.boxes.specs.declared.Box.{Box}
use Rattle.boxes.specs.Boxes.{InBox, volume}
use Rattle.boxes.specs.Laws.{Bounds}
use Rattle.certificate.specs.Search.{Kind, solved}
use Rattle.certificate.proofs.Cover.{nothing_open, count_few, open_more, open_few}
use Rattle.range_search.specs.RangeSearch.{Found, nothing, ends, State, Answer, Next, stop, go, begin, split, step, run, range_search}
use Rattle.range_search.specs.Ranged.{Exact, Reached, beginning, counting, Finished, Ranged}
use Rattle.range_search.specs.Laws.{AllRanged}
use Rattle.range_search.proofs.Found.{Ends, neither, both, Settled}
use Rattle.range_search.proofs.Steps.{Case, finishes, spends, fills, goes, step_case, run_stops, run_goes}
use Rattle.range_search.proofs.Held.{Held, held, split_covers}

empty_zero : (bs : List Box) → (length bs ≡ 0) ↔ (bs ≡ [])
empty_zero [] = (λ z. refl, λ e. refl)
empty_zero (b ∷ bs) = (λ z. absurd (omega arith), λ e. ap length e)

module _ (cost : List ℤ → ℕ) (bound : Box → ℕ) (K budget rows : ℕ) (box : Box) where
  abbrev FinishedRun : ℕ → State → Type 0
  FinishedRun n s = Finished cost bound K budget rows box (run cost bound K budget rows n s)

  stops :
      (n : ℕ) (s : State) {kind : Kind} →
      Reached cost bound K budget rows box s.count s →
      s.count ≤ budget →
      step cost bound K budget rows s ≡ stop kind →
      FinishedRun (suc n) s
  stops n s r within e = rw (run_stops cost bound K budget rows s n e) (record { reached = r; stopped = e; within = within })

  -- a step stops, or the run goes on
  steps :
      (n : ℕ) (s : State) {next : Next} →
      Reached cost bound K budget rows box s.count s →
      s.count ≤ budget →
      ((s.count ≡ budget → ⊥) → step cost bound K budget rows s ≡ go (split cost bound K s) → FinishedRun n (split cost bound K s)) →
      step cost bound K budget rows s ≡ next →
      Case cost bound K budget rows s next →
      FinishedRun (suc n) s
  steps n s r within on e (finishes z) = stops n s r within e
  steps n s r within on e (spends some all) = stops n s r within e
  steps n s r within on e (fills some many) = stops n s r within e
  steps n s r within on e (goes some left few) = rw (run_goes cost bound K budget rows s n e) (on left e)

  -- n splits are left
  ends_run :
      (n : ℕ) (s : State) →
      Reached cost bound K budget rows box s.count s →
      s.count + n ≡ budget →
      FinishedRun (suc n) s
  unfolding split
  ends_run zero s r b =
      steps 0 s r (omega arith) (λ left e. absurd (left (omega arith))) refl (step_case cost bound K budget rows s)
  ends_run (suc n) s r b =
      steps (suc n) s r (omega arith) (λ left e. ends_run n (split cost bound K s) (counting r e) (omega arith)) refl
      (step_case cost bound K budget rows s)

  -- whatever the cost, the bound, the budget and the rows
  pub finished : Finished cost bound K budget rows box (range_search cost bound K budget rows box)
  unfolding range_search begin
  finished = ends_run budget (begin cost bound K box) beginning (omega arith)

  -- what is told where no box is open
  module _ {found : Found} (e : Ends cost K box found) (all : (v : List ℤ) → InBox v box → Settled cost K box found v) where
    exact_ends : (b : Box) → found ≡ ends b → Exact cost K box b
    exact_ends b is = by e all b is
      where
        by : {f : Found} → Ends cost K box f → ((v : List ℤ) → InBox v box → Settled cost K box f v) → (b : Box) → f ≡ ends b →
            Exact cost K box b
        by neither every b is = let z : ◌≡◌ {A = ℕ} 0 1 = cc in absurd (omega arith)
        by (both d m n low high) every b is =
            let same : d ≡ b = cc in
            subst (Exact cost K box) same (record { all_in = every; low_end = low; high_end = high })

    none_found : (found ≡ nothing) ↔ ((v : List ℤ) → InBox v box → K < cost v)
    none_found = by e all
      where
        by : {f : Found} → Ends cost K box f → ((v : List ℤ) → InBox v box → Settled cost K box f v) →
            (f ≡ nothing) ↔ ((v : List ℤ) → InBox v box → K < cost v)
        by neither every = (λ is v i. ⊎_elim (λ h. absurd (every v i h)) (λ h. h) (le_or_lt (cost v) K), λ h. refl)
        by (both d m n low high) every = (
          λ is. let z : ◌≡◌ {A = ℕ} 0 1 = cc in absurd (omega arith),
          λ h. let w = low 0 in absurd (omega (arith, h w.vector w.inside, w.cheap)),
        )

  module _ (laws : Bounds cost bound) (some : 1 ≤ volume box) (r : Answer) (f : Finished cost bound K budget rows box r) where
    abbrev s : State
    s = r.state

    h : Held cost bound laws K budget rows box s.count s
    h = held cost bound laws K budget rows box some f.reached

    case : Case cost bound K budget rows s (stop r.kind)
    case = rw f.stopped at (step_case cost bound K budget rows s)

    reads_empty : {kind : Kind} → Case cost bound K budget rows s (stop kind) → (kind ≡ solved) ↔ (s.list ≡ [])
    reads_empty (finishes z) = (λ e. (empty_zero s.list).0 z, λ e. refl)
    reads_empty (spends some-open all) =
        (λ e. let z : ◌≡◌ {A = ℕ} 0 1 = cc in absurd (omega arith), λ e. absurd (omega (arith, (empty_zero s.list).1 e)))
    reads_empty (fills some-open many) =
        (λ e. let z : ◌≡◌ {A = ℕ} 0 1 = cc in absurd (omega arith), λ e. absurd (omega (arith, (empty_zero s.list).1 e)))

    -- what is spent had a split to come, and what is full would have had more open boxes than half of V
    suffices_case :
        {kind : Kind} →
        Case cost bound K budget rows s (stop kind) →
        volume box - 1 ≤ budget →
        volume box ≤ 2 * rows →
        kind ≡ solved
    suffices_case (finishes z) enough room = refl
    suffices_case (spends some-open all) enough room = absurd (omega (arith, open_more h.covers some-open))
    suffices_case (fills some-open many) enough room =
        absurd (omega (arith, open_few (split_covers cost bound laws K budget rows box s some-open h.covers h.held_ends)))

    seen : r.kind ≡ solved → (v : List ℤ) → InBox v box → Settled cost K box s.found v
    seen e = nothing_open h.covers ((reads_empty case).0 e)

    ranges : Ranged cost bound K budget rows box r
    ranges =
        record {
          counted = f;
          reads = reads_empty case;
          exact = λ e. exact_ends h.held_ends (seen e);
          none = λ e. none_found h.held_ends (seen e);
          few = omega (arith, count_few h.covers);
          suffices = suffices_case case;
        }

pub ranged : AllRanged
ranged cost bound laws K budget rows box some =
    ranges cost bound K budget rows box laws some (range_search cost bound K budget rows box) (finished cost bound K budget rows box)
