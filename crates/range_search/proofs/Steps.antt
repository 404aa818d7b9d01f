-- The step by its cases. Assumes nothing.
use mathlib.Core.Path.{◌≡◌, refl}
use mathlib.Core.Bool.{Bool, true, false}
use mathlib.Core.List.{List}
use Prim.Native.Nat.{ℕ, suc, ◌≤◌, ◌<◌}
use native.Mathlib.Omega.{arith}
use borrow.Author.Tests.{ltb-true, ltb-false, eqb-true, eqb-false, lt-ltb, le-ltb, eq-eqb, ne_eqb}
use lib.Dec.{ltb, eqb}
use lib.IntN.{ℤ}
use lib.ListN.{length}
use Rattle.boxes.specs.declared.Box.{Box}
use Rattle.certificate.specs.Search.{Kind, solved, spent, full}
use Rattle.range_search.specs.RangeSearch.{State, Next, stop, go, split, if_room, step, follow, run}

module _ (cost : List ℤ → ℕ) (bound : Box → ℕ) (K budget rows : ℕ) (s : State) where
  abbrev after : State
  after = split cost bound K s

  abbrev open_number : ℕ
  open_number = length s.list

  -- (a)
  pub step_finished : open_number ≡ 0 → step cost bound K budget rows s ≡ stop solved
  unfolding step
  step_finished z = rw (eq-eqb open_number 0 z)

  module _ (some : 1 ≤ open_number) where
    unfinished : open_number ≡ 0 → ⊥
    unfinished z = omega arith

    -- (b)
    pub step_spent : s.count ≡ budget → step cost bound K budget rows s ≡ stop spent
    unfolding step
    step_spent all = rw (ne_eqb open_number 0 unfinished, eq-eqb s.count budget all)

    -- (c)
    module _ (left : s.count ≡ budget → ⊥) where
      pub step_full : rows < length after.list → step cost bound K budget rows s ≡ stop full
      unfolding step if_room
      step_full many =
          rw (ne_eqb open_number 0 unfinished, ne_eqb s.count budget left, lt-ltb rows (length after.list) many)

      pub step_goes : length after.list ≤ rows → step cost bound K budget rows s ≡ go after
      unfolding step if_room
      step_goes few =
          rw (ne_eqb open_number 0 unfinished, ne_eqb s.count budget left, le-ltb rows (length after.list) few)

  -- which of these a step is
  pub data Case : Next → Type 0 where
    finishes : open_number ≡ 0 → Case (stop solved)
    spends : 1 ≤ open_number → s.count ≡ budget → Case (stop spent)
    fills : 1 ≤ open_number → rows < length after.list → Case (stop full)
    goes : 1 ≤ open_number → (s.count ≡ budget → ⊥) → length after.list ≤ rows → Case (go after)

  pub step_case : Case (step cost bound K budget rows s)
  step_case = ended (eqb open_number 0) refl
    where
      room :
          (b : Bool) → ltb rows (length after.list) ≡ b → 1 ≤ open_number → (s.count ≡ budget → ⊥) →
          Case (step cost bound K budget rows s)
      room true e some left = let many = ltb-true _ _ e in rw (step_full some left many) (fills some many)
      room false e some left = let few = ltb-false _ _ e in rw (step_goes some left few) (goes some left few)

      budgeted : (b : Bool) → eqb s.count budget ≡ b → 1 ≤ open_number → Case (step cost bound K budget rows s)
      budgeted true e some = let all = eqb-true _ _ e in rw (step_spent some all) (spends some all)
      budgeted false e some = room (ltb rows (length after.list)) refl some (eqb-false _ _ e)

      ended : (b : Bool) → eqb open_number 0 ≡ b → Case (step cost bound K budget rows s)
      ended true e = let z = eqb-true _ _ e in rw (step_finished z) (finishes z)
      ended false e = let other : open_number ≡ 0 → ⊥ = eqb-false open_number 0 e in budgeted (eqb s.count budget) refl (omega arith)

  -- a run answers where a step does, and goes on where it does
  module _ (n : ℕ) where
    pub run_stops :
        {kind : Kind} → step cost bound K budget rows s ≡ stop kind →
        run cost bound K budget rows (suc n) s ≡ record { kind = kind; state = s }
    unfolding run follow
    run_stops e = rw e

    pub run_goes :
        {next : State} → step cost bound K budget rows s ≡ go next →
        run cost bound K budget rows (suc n) s ≡ run cost bound K budget rows n next
    unfolding run follow
    run_goes e = rw e
