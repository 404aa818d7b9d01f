-- What a pass comes to is what its call hands over, and with the code 0 it is certified. Assumes nothing.
use mathlib.Core.Path.{◌≡◌, refl, sym, ap, ◌∙◌}
use mathlib.Core.Bool.{true, false}
use mathlib.Core.List.{List}
use Prim.Native.Nat.{ℕ}
use native.Mathlib.Omega.{arith}
use lib.IntN.{ℤ}
use lib.ListN.{length}
use Rattle.std.specs.Prelude.{Ok, Err}
use Rattle.codes.specs.Codes.{Check, Outcome, pass, unless_refused}
use Rattle.jobs.specs.declared.Job.{Job}
use Rattle.jobs.specs.declared.Model.{Model}
use Rattle.sharing.specs.Sharing.{SharedTable, SharedBounds}
use Rattle.sharing.proofs.Sharing.{table_shared, bounds_shared}
use Rattle.window_runs.specs.Windows.{check_pass, count_lent}
use Rattle.window_runs.proofs.Passing.{Promised}
use Rattle.c_boundary.specs.Boundary.{answered, code_of, value_after, job_from}
use Rattle.c_boundary.proofs.Codes.{refusal_not_0}
use Rattle.c_windows.specs.Calls.{windows_lengths, windows_call, searches_of_call, out_after_call, CertifiedWindows}

passed_at_0 : (check : Check) (count : ℕ) → code_of (answered (unless_refused check count)) ≡ 0 → check ≡ pass
passed_at_0 (Ok _) count e = refl
passed_at_0 (Err why) count e = absurd (refusal_not_0 why e)

module _
    (store : List ℕ) (m : Model) (t budget : ℕ) (corners start : List ℤ) (k h : ℕ) (table : List ℤ) (bounds out : List ℕ)
  where
    abbrev job : Job
    job = job_from m t budget 0 corners start

    -- the code, the value before and after, and what is lent afterwards
    abbrev Handed : ℕ → ℕ → ℕ → List ℤ → List ℕ → List ℕ → Type 0
    Handed code held new_value u e o =
        (code ≡ code_of (windows_call store m t budget corners start k h table bounds out))
        × ((new_value ≡ value_after (windows_call store m t budget corners start k h table bounds out) held)
        × ((o ≡ out_after_call store m t budget corners start k h table bounds out)
        × (SharedTable (searches_of_call store m t budget corners start k h table bounds out) table u
        × (SharedBounds (searches_of_call store m t budget corners start k h table bounds out) bounds e
        × (code ≡ 0 → CertifiedWindows store m t budget corners start k h table bounds out new_value o)))))

    pub kept : (held : ℕ) → windows_lengths (length corners) (length start) ≡ false → Handed 255 held held table bounds out
    kept held wrong =
        rw wrong (refl, (refl, (refl, (table_shared.none table, (bounds_shared.none bounds, λ e. absurd (omega arith))))))

    module _ (right : windows_lengths (length corners) (length start) ≡ true) (a : Outcome) (u : List ℤ) (e o : List ℕ)
        (p : Promised store job k h table bounds out a u e o) (code held new_value : ℕ) (is_code : code ≡ code_of (answered a))
        (is-value : new_value ≡ value_after (answered a) held) where
      passes : code ≡ 0 → check_pass store job k h table bounds out ≡ pass
      passes at-0 =
          passed_at_0 (check_pass store job k h table bounds out) (count_lent store job k h table bounds out)
          (ap (λ (x : Outcome). code_of (answered x)) (sym p.0) ∙ sym is_code ∙ at-0)

      counted : code ≡ 0 → new_value ≡ count_lent store job k h table bounds out
      counted at-0 = is-value ∙ rw (p.0, passes at-0) refl

      pub handed : Handed code held new_value u e o
      handed = rw right (
        is_code ∙ ap (λ (x : Outcome). code_of (answered x)) p.0,
        (
          is-value ∙ ap (λ (x : Outcome). value_after (answered x) held) p.0,
          (
            p.1.0,
            (
              p.1.1.0,
              (
                p.1.1.1.0,
                λ at-0. record {
                  accepted = passes at-0;
                  count = counted at-0;
                  certified = λ i below. p.1.1.1.1 (passes at-0) i (rw (counted at-0) at below);
                },
              ),
            ),
          ),
        ),
      )
