-- A loop that runs the search for ranges, as certificate/proofs/Running.antt has it of the search: its state was reached from the
-- beginning, and the run from there on gives the answer. Assumes nothing.
use mathlib.Core.Path.{◌≡◌, ap, sym, ◌∙◌}
use mathlib.Core.List.{List}
use Prim.Native.Nat.{ℕ, suc, ◌-◌, ◌≤◌, ◌<◌}
use native.Mathlib.Omega.{arith}
use lib.IntN.{ℤ}
use lib.ListN.{length}
use Rattle.boxes.specs.declared.Box.{Box}
use Rattle.boxes.specs.Boxes.{volume}
use Rattle.boxes.specs.Laws.{Bounds}
use Rattle.certificate.specs.Search.{Kind, solved, spent, full}
use Rattle.range_search.specs.RangeSearch.{State, stop, begin, split, step, run, range_search}
use Rattle.range_search.specs.Ranged.{Reached, beginning, counting}
use Rattle.range_search.specs.Laws.{Sound}
use Rattle.range_search.proofs.Steps.{step_finished, step_spent, step_full, step_goes, run_stops, run_goes}
use Rattle.range_search.proofs.Held.{reached_sound}

module _ (cost : List ℤ → ℕ) (bound : Box → ℕ) (K budget rows : ℕ) (box : Box) where
  pub record Running (s : State) : Type 0 where
    pub reached : Reached cost bound K budget rows box s.count s
    pub within : s.count ≤ budget
    pub ahead : run cost bound K budget rows (suc (budget - s.count)) s ≡ range_search cost bound K budget rows box

  pub running_begins : Running (begin cost bound K box)
  unfolding begin range_search
  running_begins =
      record {
        reached = beginning;
        within = omega arith;
        ahead = ap (λ n. run cost bound K budget rows (suc n) (begin cost bound K box)) (omega arith);
      }

  module _ (s : State) (r : Running s) where
    -- every open box is as `Sound` says
    pub running_sound : Bounds cost bound → 1 ≤ volume box → Sound bound K budget rows box s
    running_sound laws some = reached_sound cost bound laws K budget rows box some s.count s r.reached

    answers :
        {kind : Kind} → step cost bound K budget rows s ≡ stop kind →
        range_search cost bound K budget rows box ≡ record { kind = kind; state = s }
    answers e = sym r.ahead ∙ run_stops cost bound K budget rows s (budget - s.count) e

    pub running_finished : length s.list ≡ 0 → range_search cost bound K budget rows box ≡ record { kind = solved; state = s }
    running_finished z = answers (step_finished cost bound K budget rows s z)

    module _ (some : 1 ≤ length s.list) where
      pub running_spent : s.count ≡ budget → range_search cost bound K budget rows box ≡ record { kind = spent; state = s }
      running_spent all = answers (step_spent cost bound K budget rows s some all)

      module _ (left : s.count < budget) where
        pub running_full :
            rows < length (split cost bound K s).list →
            range_search cost bound K budget rows box ≡ record { kind = full; state = s }
        running_full many = answers (step_full cost bound K budget rows s some (λ all. omega arith) many)

        pub running_goes : length (split cost bound K s).list ≤ rows → Running (split cost bound K s)
        unfolding split
        running_goes few =
            let e = step_goes cost bound K budget rows s some (λ all. omega arith) few in
            record {
              reached = counting r.reached e;
              within = omega arith;
              ahead =
                  ap (λ n. run cost bound K budget rows n (split cost bound K s)) (omega arith)
                  ∙ (sym (run_goes cost bound K budget rows s (budget - s.count) e) ∙ r.ahead);
            }
