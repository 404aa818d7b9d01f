-- What is shown of a run's answer: the record of an accepted job's answer passes check 9, and that of a refusal does not, so that its zeros
-- stay. Assumes nothing.
use mathlib.Core.Bool.{Bool, true, false}
use mathlib.Core.List.{List, append-nil}
use mathlib.Core.Path.{◌≡◌, refl, sym, ap, ◌∙◌, subst}
use Prim.Native.Nat.{ℕ, ◌<◌}
use native.Mathlib.Omega.{arith}
use lib.Dec.{leb, leb→le, lit<}
use lib.IntN.{ℤ, pos}
use lib.ListN.{length, get_or, replicate}
use mir.Syntax.{w16}
use mir.Val.{SFits}
use Rattle.codes.specs.Codes.{Check, pass}
use Rattle.std.specs.Prelude.{Result, Ok, Err, IfOk, IsErrAnd}
use Rattle.codes.proofs.Checks.{refused_not_passed}
use Rattle.integers.specs.Lists.{over}
use Rattle.codes.specs.declared.Refusal.{Refusal}
use Rattle.jobs.specs.declared.Job.{Job}
use Rattle.jobs.specs.declared.Model.{Model}
use Rattle.certificate.specs.Search as Search
use Rattle.certificate.specs.Search.{solved, spent, full}
use Rattle.search.specs.declared.Answer.{Answer}
use Rattle.search.specs.Search.{told, refused, kind_of, answer_unless_refused, search_answer, check_lent}
use Rattle.job_records.specs.Laws.{IsJob}
use Rattle.answer_records.specs.Answers.{check_answer}
use Rattle.answer_records.proofs.Answers.{write_accepted}
use Rattle.answers.specs.Records.{record_of}
use Rattle.answers.specs.Laws.{search_record}
use Rattle.answers.proofs.Records.{record_fits}
use Rattle.registers.specs.Runs.{run_search, found_bytes}
use Rattle.registers.proofs.Found.{search_passed, rows_equal, found_long, run_certified}
use Rattle.bus_runs.specs.Lent.{shown_of, check_of, TableRun, BoundsRun, RunCertified}
use Rattle.search.specs.Search.{check_of as check_for}
use Rattle.bus_runs.specs.Inside.{RunSearched, shown_for}

-- the error that a `?` passes on
pub err_is : {A : Type 0} {r : Result A Refusal} (why : Refusal) → IsErrAnd r (λ e. e ≡ why) → r ≡ Err why
err_is {r = Ok x} why h = absurd h
err_is {r = Err e} why h = ap Err h

-- solved, spent and full are done
done_check : (k : Search.Kind) → check_for (kind_of k) ≡ pass
done_check solved = refl
done_check spent = refl
done_check full = refl

-- what a run says
abbrev pub Ran : List ℕ → Job → List ℤ → List ℕ → List ℤ → List ℕ → Result (List ℕ) Refusal → Type 0
Ran store job table bounds u e r =
    (r ≡ shown_of store job (length table) (length bounds))
    × (TableRun store job table bounds u × (BoundsRun store job table bounds e × IfOk r (λ shown. RunCertified store job table bounds shown)))

module _ (store : List ℕ) (job : Job) (table : List ℤ) (bounds : List ℕ) (is : IsJob job) where
  module _ (ok : check_of store job table bounds ≡ pass) where
    lent_passed : check_lent store job table bounds ≡ pass
    lent_passed = search_passed store job (length table) (length bounds) ok

    same_record : search_record store job table bounds ≡ record_of job.model (told (run_search store job))
    unfolding search_answer
    same_record = rw (lent_passed, rows_equal store job (length table) (length bounds) ok)

    passes_9 : check_answer (record_of job.model (told (run_search store job))) ≡ pass
    passes_9 = ap check_answer (sym same_record) ∙ (record_fits store job table bounds).accepted lent_passed is

    long : length (found_bytes store job) ≡ 40
    long = found_long store job (length table) (length bounds) ok is.low.eight

    shown_done : shown_for job.model (told (run_search store job)) ≡ found_bytes store job
    unfolding shown_for found_bytes over
    shown_done =
        rw (write_accepted (record_of job.model (told (run_search store job))) (replicate 40 0) passes_9 (omega arith), long)
        (append-nil (found_bytes store job))

  -- the check of an answer is that of the run, and the record of an accepted one too
  abbrev Shows : Check → Answer → Type 0
  Shows c a = (check_for a.kind ≡ c) × (c ≡ pass → shown_for job.model a ≡ found_bytes store job)

  shows : (c : Check) → check_of store job table bounds ≡ c → Shows c (answer_unless_refused c (run_search store job))
  shows (Ok _) e = (done_check (run_search store job).kind, λ h. shown_done e)
  shows (Err why) e = (refl, refused_not_passed why)

  module _ (a : Answer) (u : List ℤ) (e : List ℕ) (found : RunSearched store job table bounds a u e) where
    shown : Shows (check_of store job table bounds) a
    shown =
        subst (λ (x : Answer). Shows (check_of store job table bounds) x) (sym found.told) (shows (check_of store job table bounds) refl)

    pub ran_refused : (why : Refusal) → check_for a.kind ≡ Err why → Ran store job table bounds u e (Err why)
    unfolding shown_of
    ran_refused why is = (rw (← shown.0, is), (found.rows, (found.entries, tt)))

    pub ran_done : check_for a.kind ≡ pass → (bytes : List ℕ) → bytes ≡ shown_for job.model a → Ran store job table bounds u e (Ok bytes)
    unfolding shown_of
    ran_done is bytes of-answer =
        let c : check_of store job table bounds ≡ pass = sym shown.0 ∙ is in
        let b : bytes ≡ found_bytes store job = of-answer ∙ shown.1 c in
        (rw (c, b), (found.rows, (found.entries, λ ok. (b, run_certified store job (length table) (length bounds) ok))))
