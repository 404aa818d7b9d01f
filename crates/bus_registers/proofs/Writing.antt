-- What a run leaves, and what a write does, case by case. Assumes nothing.
use mathlib.Core.Bool.{true, false}
use mathlib.Core.List.{List, ◌++◌}
use mathlib.Core.Path.{◌≡◌, refl, sym, ap, ◌∙◌, subst}
use borrow.Author.Tests.{eq-eqb, ne_eqb}
use Prim.Native.Nat.{ℕ, ◌-◌, ◌≤◌}
use native.Mathlib.Omega.{arith}
use lib.Dec.{T, eqb}
use lib.IntN.{ℤ}
use lib.ListN.{length, set, take, drop, length-drop}
use lib.Seq.{take_at, take_all, drop_at, drop-set-lt, length-take-le}
use Rattle.std.specs.Prelude.{Result, Ok, Err, IfOk}
use Rattle.codes.specs.Codes.{Check, pass, if_passed, unless_refused}
use Rattle.codes.specs.declared.Refusal.{Refusal}
use Rattle.jobs.specs.declared.Job.{Job}
use Rattle.job_records.specs.Jobs.{job_or_zeros}
use Rattle.registers.specs.Registers.{ran, commanded, written, with_run, job_in}
use Rattle.registers.proofs.Found.{shown_long}
use Rattle.search.specs.Search.{CertifiedIn}
use Rattle.job_records.proofs.Jobs.{record_there}
use Rattle.registers.specs.Runs.{found_bytes, record_shown}
use Rattle.bus_runs.specs.Lent.{shown_of, check_of, TableRun, BoundsRun, RunCertified}
use Rattle.bus_registers.specs.Written.{is_run, with_shown, AnswerCertified, TableWritten, BoundsWritten, WriteCertified}

pub flag_small : (c : Check) → if_passed c 1 2 ≤ 2
flag_small (Ok _) = omega arith
flag_small (Err why) = omega arith

-- bytes 8 to 47 of registers whose record was replaced
replaced : (s x : List ℕ) (m n : ℕ) → 8 ≤ length s → length x ≡ 40
    → take 40 (drop 8 (set (set (take 8 s ++ (x ++ drop 48 s)) 3 m) 1 n)) ≡ x
replaced s x m n there long =
    ap (λ (l : List ℕ). take 40 l)
    (drop-set-lt 8 (set (take 8 s ++ (x ++ drop 48 s)) 3 m) 1 n (omega arith)
    ∙ drop-set-lt 8 (take 8 s ++ (x ++ drop 48 s)) 3 m (omega arith)
    ∙ drop_at (take 8 s) (x ++ drop 48 s) 8 (length-take-le 8 s there))
    ∙ take_at x (drop 48 s) 40 long

-- the job record in 136 bytes is whole
pub job_there : (s part : List ℕ) → length s ≡ 136 → part ≡ take (length s - 64) (drop 64 s) → job_or_zeros part ≡ job_in s
job_there s part whole e =
    let l = length-drop 64 s in
    let all : part ≡ drop 64 s = e ∙ take_all (length s - 64) (drop 64 s) (omega (arith, l)) in
    rw all (record_there (drop 64 s) (omega arith))

-- what is shown of a run is what the registers hold of it
shown_run : (s : List ℕ) (c : Check) (found : List ℕ) → with_shown s (unless_refused c found) ≡ with_run s c (record_shown c found)
shown_run s (Ok _) found = refl
shown_run s (Err why) found = refl

module _ (store s : List ℕ) (table : List ℤ) (bounds : List ℕ) where
  abbrev pub Ran : List ℕ → List ℤ → List ℕ → Type 0
  Ran q u e =
      (q ≡ ran store s (length table) (length bounds))
      × (TableRun store (job_in s) table bounds u
      × (BoundsRun store (job_in s) table bounds e × AnswerCertified store (job_in s) table bounds q))

  module _ (r : Result (List ℕ) Refusal) (q : List ℕ) (u : List ℤ) (e : List ℕ) (whole : length s ≡ 136) (is : q ≡ with_shown s r) where
    -- what a run of a job says
    abbrev Said : Job → Type 0
    Said job =
        (r ≡ shown_of store job (length table) (length bounds))
        × (TableRun store job table bounds u
        × (BoundsRun store job table bounds e × IfOk r (λ shown. RunCertified store job table bounds shown)))

    -- the record of a run that is done
    module _ (said : Said (job_in s)) (ok : check_of store (job_in s) table bounds ≡ pass) where
      done : r ≡ Ok (found_bytes store (job_in s))
      unfolding shown_of
      done = said.0 ∙ rw ok refl

      forty : length (found_bytes store (job_in s)) ≡ 40
      forty = rw ok at (shown_long store (drop 64 s) (length table) (length bounds) (omega (arith, length-drop 64 s)))

      here : take 40 (drop 8 q) ≡ found_bytes store (job_in s)
      unfolding with_run
      here =
          ap (λ (l : List ℕ). take 40 (drop 8 l)) (is ∙ ap (with_shown s) done)
          ∙ replaced s (found_bytes store (job_in s)) _ _ (omega arith) forty

      certified : (take 40 (drop 8 q) ≡ found_bytes store (job_in s)) × CertifiedIn store (job_in s) (job_in s).rows
      certified = (here, ((rw done at said.1.1.1) ok).1)

    ran_here : Said (job_in s) → Ran q u e
    unfolding ran shown_of
    ran_here said = (
      is ∙ ap (with_shown s) said.0 ∙ shown_run s _ _,
      (said.1.0, (said.1.1.0, certified said)),
    )

    pub run_ran : (job : Job) → job ≡ job_in s → Said job → Ran q u e
    run_ran job same said = ran_here (subst Said same said)

  module _ (value : ℕ) where
    abbrev pub Commanded : List ℕ → List ℤ → List ℕ → Type 0
    Commanded q u e =
        (q ≡ commanded store s value (length table) (length bounds))
        × (TableWritten s 0 value store table bounds u
        × (BoundsWritten s 0 value store table bounds e × WriteCertified s 0 value store table bounds q))

    never : {A : Type 0} → true ≡ false → A
    never e = absurd (subst T e tt)

    pub run_commanded : (q : List ℕ) (u : List ℤ) (e : List ℕ) → value ≡ 2 → Ran q u e → Commanded q u e
    unfolding commanded
    run_commanded q u e two r =
        let is = eq-eqb value 2 two in (
          rw is r.0,
          (
            record { idle = λ h. never (sym is ∙ h); ran = λ h. r.1.0 },
            (record { idle = λ h. never (sym is ∙ h); ran = λ h. r.1.1.0 }, λ h. r.1.1.1),
          ),
        )

    pub idle_commanded :
        (q : List ℕ) → eqb value 2 ≡ false → q ≡ commanded store s value (length table) (length bounds) → Commanded q table bounds
    idle_commanded q is e = (
      e,
      (
        record { idle = λ h. refl; ran = λ h. never (sym h ∙ is) },
        (record { idle = λ h. refl; ran = λ h. never (sym h ∙ is) }, λ h. never (sym h ∙ is)),
      ),
    )

    module _ (offset : ℕ) where
      abbrev pub Written : List ℕ → List ℤ → List ℕ → Type 0
      Written q u e =
          (q ≡ written store s offset value (length table) (length bounds))
          × (TableWritten s offset value store table bounds u
          × (BoundsWritten s offset value store table bounds e × WriteCertified s offset value store table bounds q))

      pub command_written : (q : List ℕ) (u : List ℤ) (e : List ℕ) → offset ≡ 0 → Commanded q u e → Written q u e
      unfolding written
      command_written q u e zeroth r = (
        rw (eq-eqb offset 0 zeroth) r.0,
        (
          subst (λ (o : ℕ). TableWritten s o value store table bounds u) (sym zeroth) r.1.0,
          (
            subst (λ (o : ℕ). BoundsWritten s o value store table bounds e) (sym zeroth) r.1.1.0,
            subst (λ (o : ℕ). WriteCertified s o value store table bounds q) (sym zeroth) r.1.1.1,
          ),
        ),
      )

      pub idle_written :
          (q : List ℕ) → (offset ≡ 0 → ⊥) → q ≡ written store s offset value (length table) (length bounds) → Written q table bounds
      idle_written q other e =
          let is : is_run offset value ≡ false = rw (ne_eqb offset 0 other) in (
            e,
            (
              record { idle = λ h. refl; ran = λ h. never (sym h ∙ is) },
              (record { idle = λ h. refl; ran = λ h. never (sym h ∙ is) }, λ h. never (sym h ∙ is)),
            ),
          )
