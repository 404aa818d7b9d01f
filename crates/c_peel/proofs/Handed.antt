-- Rounds with the code 0 were run, and what is handed over are their answers. Assumes nothing.
use mathlib.Core.Path.{◌≡◌, sym, ap, ◌∙◌}
use mathlib.Core.List.{List}
use Prim.Native.Nat.{ℕ}
use lib.IntN.{ℤ}
use Rattle.std.specs.Prelude.{Ok}
use Rattle.codes.proofs.Checks as checks
use Rattle.jobs.specs.declared.Job.{Job}
use Rattle.jobs.specs.declared.Model.{Model}
use Rattle.peel.specs.declared.Peeled.{Peeled}
use Rattle.peel.specs.Peel.{check_lent, answer_to, rounds_lent, peel_answer, labels_after, PeelingLent}
use Rattle.c_boundary.specs.Boundary.{job_from}
use Rattle.c_peel.specs.Calls.{vectors_of, numbers_of, PeelingCall}

module _
    (store : List ℕ) (m : Model) (t budget : ℕ) (corners start : List ℤ) (limit : ℕ) (table : List ℤ) (bounds labels : List ℕ)
    (vectors : List ℤ) (numbers : List ℕ)
  where
    abbrev job : Job
    job = job_from m t budget 0 corners start

    -- what is handed over where the call is accepted
    pub peeling_call : (r : Peeled) (v' : List ℤ) (n' ls : List ℕ) → Ok r ≡ peel_answer store job limit table bounds labels
        → ls ≡ labels_after store job limit table bounds labels
        → PeelingLent store job limit table bounds labels
        → v' ≡ vectors_of r.answers
        → n' ≡ numbers_of r.answers
        → PeelingCall store m t budget corners start limit table bounds labels vectors numbers r.rounds v' n' ls
    peeling_call r v' n' ls found labelled shown laid told =
        let rounds = answer_to store job limit table bounds labels (rounds_lent store job limit table bounds labels) in
        let passed = checks.answered (check_lent store job limit table bounds labels) rounds r (sym found) in
        let is_told : r ≡ rounds = sym passed.1 in
        record {
          accepted = passed.0;
          answered = sym found ∙ ap Ok is_told;
          count = ap (λ (p : Peeled). p.rounds) is_told;
          lines = laid ∙ ap (λ (p : Peeled). vectors_of p.answers) is_told;
          answers = told ∙ ap (λ (p : Peeled). numbers_of p.answers) is_told;
          labelled = labelled;
          shown = shown passed.0;
        }
