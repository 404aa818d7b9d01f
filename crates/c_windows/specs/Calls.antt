-- A pass through the windows of a store, through the C interface: the box and the start vector are looked at before every other check.
use Rattle.codes.specs.Codes.{pass}
use Rattle.std.specs.Prelude.{◌≡◌, Bool, ◌&&◌, cond, List, [], ℕ, ◌<◌, eqb, ℤ, length}
use Rattle.jobs.specs.declared.Job.{Job}
use Rattle.jobs.specs.declared.Model.{Model}
use Rattle.sharing.specs.Sharing.{Run}
use Rattle.window_runs.specs.Windows.{check_pass, count_lent, windows_answer, windows_out, searches_made, WindowCertified}
use Rattle.c_boundary.specs.Boundary.{Call, if_lengths, job_from}

-- a box and the start vector
abbrev pub windows_lengths : ℕ → ℕ → Bool
windows_lengths corners start = eqb corners 16 && eqb start 8

-- What a call is given: r is told by the table, so the rows of a job record are not asked for.
module _
    (store : List ℕ) (m : Model) (t budget : ℕ) (corners start : List ℤ) (k h : ℕ) (table : List ℤ) (bounds out : List ℕ)
  where
    abbrev right : Bool
    right = windows_lengths (length corners) (length start)

    abbrev job : Job
    job = job_from m t budget 0 corners start

    -- the number of windows, or what refuses
    abbrev pub windows_call : Call
    windows_call = if_lengths right (windows_answer store job k h table bounds out)

    -- the searches that are made in the table: none where a length is wrong
    abbrev pub searches_of_call : List Run
    searches_of_call = cond right (searches_made store job k h table bounds out) []

    -- the lent output afterwards
    abbrev pub out_after_call : List ℕ
    out_after_call = cond right (windows_out store job k h table bounds out) out

    -- What is handed over with the code 0 is certified: the checks passed, the lent value afterwards is the number of windows, and each
    -- window's record in the output is that of its search alone, of which demand 3 holds.
    pub record CertifiedWindows (new_value : ℕ) (new_out : List ℕ) : Type 0 where
      pub accepted : check_pass store job k h table bounds out ≡ pass
      pub count : new_value ≡ count_lent store job k h table bounds out
      pub certified : (i : ℕ) → i < new_value → WindowCertified store job k h table bounds out new_out i
