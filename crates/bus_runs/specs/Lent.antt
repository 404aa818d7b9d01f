-- What a run comes to, and what it leaves in what it is lent.
use Rattle.codes.specs.Codes.{Check, pass, unless_refused}
use Rattle.codes.specs.declared.Refusal.{Refusal}
use Rattle.std.specs.Prelude.{List, ◌≡◌, ℕ, ℤ, length, Result}
use Rattle.jobs.specs.declared.Job.{Job}
use Rattle.points.specs.Points.{points_of}
use Rattle.residuals.specs.Cost.{bound}
use Rattle.search.specs.Search.{TableAfter, BoundsAfter, CertifiedIn}
use Rattle.registers.specs.Runs.{check_run, run_search, found_bytes}

-- the answer record of a run in a table of so many numbers, with a list of so many entries, or what refuses it
unfoldable pub shown_of : List ℕ → Job → ℕ → ℕ → Result (List ℕ) Refusal
shown_of store job numbers entries = unless_refused (check_run store job numbers entries) (found_bytes store job)

module _ (store : List ℕ) (job : Job) (table : List ℤ) (bounds : List ℕ) where
  abbrev pub check_of : Check
  check_of = check_run store job (length table) (length bounds)

  -- the table and the list afterwards: as the search leaves them
  abbrev pub TableRun : List ℤ → Type 0
  TableRun after = TableAfter check_of (run_search store job) table after

  abbrev pub BoundsRun : List ℕ → Type 0
  BoundsRun after = BoundsAfter (bound job.model (points_of store)) check_of (run_search store job) bounds after

  -- "a done answer carries the full certificate": it is the record of what the search comes to, and of that demand 3 holds
  abbrev pub RunCertified : List ℕ → Type 0
  RunCertified shown = check_of ≡ pass → (shown ≡ found_bytes store job) × CertifiedIn store job job.rows
