-- Every search finishes within its budget, and its answer has the certificate. The run goes down by the splits that are left; where
-- it stops, the state was reached from the beginning, so that it covers the box. Assumes nothing.
use mathlib.Core.Path.{◌≡◌, refl, ap, sym, ◌∙◌}
use mathlib.Core.Bool.{true, true≢false}
use mathlib.Core.List.{List, [], ◌∷◌}
use mathlib.Core.Logic.{◌↔◌}
use Prim.Native.Nat.{ℕ, zero, suc, ◌+◌, ◌-◌, ◌*◌, ◌≤◌}
use native.Mathlib.Omega.{arith}
use borrow.Author.Tests.{le-leb, eqb-true, eq-eqb}
use lib.IntN.{ℤ}
use lib.ListN.{length}
use Rattle.integers.proofs.Lists.{all_map}
use Rattle.boxes.specs.declared.Box.{Box}
use Rattle.boxes.specs.Boxes.{InBox, volume}
use Rattle.boxes.specs.Laws.{Bounds}
use Rattle.certificate.specs.Search.{State, Kind, solved, Answer, Next, stop, go, lower_bound, begin, split, is_solved, answer, step}
use Rattle.certificate.specs.Search.{run, search}
use Rattle.certificate.specs.Certificate.{Reached, beginning, counting, Finished, Certificate, state_of}
use Rattle.certificate.proofs.Ahead.{tied, ahead_is, ahead_le, settled_le}
use Rattle.certificate.proofs.Smallest.{lower_below, lower_le}
use Rattle.certificate.proofs.Cover.{nothing_open, count_few, open_more, open_few}
use Rattle.certificate.proofs.Steps.{gap, solved_later, solved_zero, solved_near, unsolved_open, Case, solves, spends, fills, goes}
use Rattle.certificate.proofs.Steps.{step_case, run_stops, run_goes}
use Rattle.certificate.proofs.Reached.{Held, split_covers, held}

empty_zero : (bs : List Box) → (length bs ≡ 0) ↔ (bs ≡ [])
empty_zero [] = (λ z. refl, λ e. refl)
empty_zero (b ∷ bs) = (λ z. absurd (omega arith), λ e. ap length e)

module _ (cost : List ℤ → ℕ) (bound : Box → ℕ) (budget rows t : ℕ) (start : List ℤ) (box : Box) where
  abbrev FinishedRun : ℕ → State → Type 0
  FinishedRun n s = Finished cost bound budget rows t start box (run cost bound budget rows t n s)

  stops :
      (n : ℕ) (s : State) {kind : Kind} →
      Reached cost bound budget rows t start box s.count s →
      s.count ≤ budget →
      step cost bound budget rows t s ≡ stop kind →
      FinishedRun (suc n) s
  unfolding answer
  stops n s r within e =
      rw (run_stops cost bound budget rows t s n e) (record { reached = r; stopped = e; told = refl; within = within })

  -- a step stops, or the run goes on
  steps :
      (n : ℕ) (s : State) {next : Next} →
      Reached cost bound budget rows t start box s.count s →
      s.count ≤ budget →
      ((s.count ≡ budget → ⊥) → step cost bound budget rows t s ≡ go (split cost bound t s) → FinishedRun n (split cost bound t s)) →
      step cost bound budget rows t s ≡ next →
      Case cost bound budget rows t s next →
      FinishedRun (suc n) s
  steps n s r within on e (solves yet) = stops n s r within e
  steps n s r within on e (spends unsolved all) = stops n s r within e
  steps n s r within on e (fills unsolved many) = stops n s r within e
  steps n s r within on e (goes unsolved left few) = rw (run_goes cost bound budget rows t s n e) (on left e)

  -- n splits are left
  finishes :
      (n : ℕ) (s : State) →
      Reached cost bound budget rows t start box s.count s →
      s.count + n ≡ budget →
      FinishedRun (suc n) s
  unfolding split
  finishes zero s r b =
      steps 0 s r (omega arith) (λ left e. absurd (left (omega arith))) refl (step_case cost bound budget rows t s)
  finishes (suc n) s r b =
      steps (suc n) s r (omega arith) (λ left e. finishes n (split cost bound t s) (counting r e) (omega arith)) refl
      (step_case cost bound budget rows t s)

  -- whatever the cost, the bound, the budget and the rows
  pub finished : Finished cost bound budget rows t start box (search cost bound budget rows t start box)
  unfolding search begin
  finished = finishes budget (begin cost bound t start box) beginning (omega arith)

  module _ (laws : Bounds cost bound) (i : InBox start box) (r : Answer) (f : Finished cost bound budget rows t start box r) where
    abbrev s : State
    s = state_of r

    h : Held cost bound laws budget rows t start box i r.count s
    h = held cost bound laws budget rows t start box i f.reached

    case : Case cost bound budget rows t s (stop r.kind)
    case = rw f.stopped at (step_case cost bound budget rows t s)

    is_solved_lem : {kind : Kind} → Case cost bound budget rows t s (stop kind) → (kind ≡ solved) ↔ (is_solved cost bound t s ≡ true)
    is_solved_lem (solves yet) = (λ e. yet, λ k. refl)
    is_solved_lem (spends unsolved all) =
        (λ e. let z : ◌≡◌ {A = ℕ} 0 1 = cc in absurd (omega arith), λ k. absurd (true≢false (sym k ∙ unsolved)))
    is_solved_lem (fills unsolved many) =
        (λ e. let z : ◌≡◌ {A = ℕ} 0 1 = cc in absurd (omega arith), λ k. absurd (true≢false (sym k ∙ unsolved)))

    -- what is spent had a split to come, and what is full would have had more open boxes than half of V
    suffices_case :
        {kind : Kind} →
        Case cost bound budget rows t s (stop kind) →
        volume box - 1 ≤ budget →
        volume box ≤ 2 * rows →
        kind ≡ solved
    suffices_case (solves yet) enough room = refl
    suffices_case (spends unsolved all) enough room = absurd (omega (arith, open_more h.covers (unsolved_open cost bound t s unsolved)))
    suffices_case (fills unsolved many) enough room =
        absurd (omega (arith, open_few (split_covers cost bound laws t box s (unsolved_open cost bound t s unsolved) h.covers)))

    iff : (r.kind ≡ solved) ↔ (is_solved cost bound t s ≡ true)
    iff = is_solved_lem case

    empties : t ≡ 0 → r.kind ≡ solved → r.list ≡ []
    empties z e = (empty_zero r.list).0 (eqb-true (length r.list) 0 (sym (solved_zero cost bound t s z) ∙ iff.0 e))

    pub certify : Certificate cost bound budget rows t start box r
    unfolding answer
    certify =
        let c = cost r.vector in
        let low = lower_bound bound c r.list in
        let same_cost : r.cost ≡ c = ap (λ (a : Answer). a.cost) f.told in
        let same_bound : r.bound ≡ low = ap (λ (a : Answer). a.bound) f.told in
        let le =
        lower_le bound c r.list
        (all_map (λ b k. ahead_le t c r.vector (bound b) b.low k) h.sound.kept) in
        record {
          inside = h.sound.best_in;
          exact = same_cost;
          ordered = omega arith;
          least = λ v j.
              h.covers.covered v j (r.bound ≤ cost v) (λ k. omega (arith, settled_le cost t r.vector v k))
              (all_map (λ b k m. omega (arith, laws.sound b v m)) (lower_below bound c r.list));
          counted = f.reached;
          few = omega (arith, count_few h.covers);
          reads = λ later.
              let same = solved_later cost bound t s later in (
                λ e. omega (arith, solved_near cost bound t s (iff.0 e)),
                λ k. iff.1 (same ∙ le-leb (gap cost bound s) t (omega arith)),
              );
          reads_empty =
              λ z. (empties z, λ e. iff.1 (solved_zero cost bound t s z ∙ eq-eqb (length r.list) 0 ((empty_zero r.list).1 e)));
          near = λ e. omega (arith, solved_near cost bound t s (iff.0 e));
          first = λ z e.
              let seen = nothing_open h.covers (empties z e) in
              record {
                inside = h.sound.best_in;
                cheapest = λ v j. settled_le cost t r.vector v (seen v j);
                earliest = λ v j same k. seen v j (ahead_is t c r.vector (cost v) v (tied z same k));
              };
          suffices = λ enough room. suffices_case case (omega arith) (omega arith);
        }

  -- the certificate, for every cost and bound with the two laws
  pub certified :
      Bounds cost bound →
      InBox start box →
      Certificate cost bound budget rows t start box (search cost bound budget rows t start box)
  certified laws i = certify laws i (search cost bound budget rows t start box) finished
