-- What a write leaves in what it is lent: a run what its search leaves, and any other write everything as it was.
use Rattle.std.specs.Prelude.{Bool, true, false, ◌&&◌, List, ◌≡◌, ℕ, eqb, ℤ, take, drop, replicate, Result, Ok, Err}
use Rattle.jobs.specs.declared.Job.{Job}
use Rattle.codes.specs.declared.Refusal.{Refusal}
use Rattle.codes.specs.Codes.{pass}
use Rattle.registers.specs.Registers.{job_in, with_run}
use Rattle.bus_runs.specs.Lent.{TableRun, BoundsRun, RunCertified}

-- whether a write is a run: "Byte 0 is the command: 2 runs a search"
abbrev pub is_run : ℕ → ℕ → Bool
is_run offset value = eqb offset 0 && eqb value 2

-- the registers with what they show of a run: its answer record, "zeros after a refusal", and its check
abbrev pub with_shown : List ℕ → Result (List ℕ) Refusal → List ℕ
with_shown s (Ok answer) = with_run s pass answer
with_shown s (Err why) = with_run s (Err why) (replicate 40 0)

-- after a run of this job: "a done answer carries the full certificate", bytes 8 to 47 being the answer
abbrev pub AnswerCertified : List ℕ → Job → List ℤ → List ℕ → List ℕ → Type 0
AnswerCertified store job table bounds registers = RunCertified store job table bounds (take 40 (drop 8 registers))

-- a write to the registers s
module _ (s : List ℕ) (offset value : ℕ) (store : List ℕ) (table : List ℤ) (bounds : List ℕ) where
  pub record TableWritten (after : List ℤ) : Type 0 where
    pub idle : is_run offset value ≡ false → after ≡ table
    pub ran : is_run offset value ≡ true → TableRun store (job_in s) table bounds after

  pub record BoundsWritten (after : List ℕ) : Type 0 where
    pub idle : is_run offset value ≡ false → after ≡ bounds
    pub ran : is_run offset value ≡ true → BoundsRun store (job_in s) table bounds after

  abbrev pub WriteCertified : List ℕ → Type 0
  WriteCertified registers = is_run offset value ≡ true → AnswerCertified store (job_in s) table bounds registers
