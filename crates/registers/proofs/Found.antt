-- What a run that is done has found: its checks are those of a search, its certificate holds, and its record has 40 bytes. Assumes nothing.
use mathlib.Core.Bool.{◌&&◌}
use mathlib.Core.List.{List}
use mathlib.Core.Path.{◌≡◌, refl, ◌∙◌}
use Prim.Native.Nat.{ℕ, ◌/◌, ◌≤◌}
use native.Mathlib.Omega.{arith}
use lib.Dec.{T, leb, eqb, eqb→eq}
use lib.ListN.{length, length-append}
use Rattle.std.specs.Prelude.{Ok, Err}
use Rattle.integers.proofs.Tests.{and_parts}
use Rattle.codes.specs.Codes.{Check, pass, pass_if, in_order}
use Rattle.codes.specs.declared.Refusal.{Refusal}
use Rattle.codes.proofs.Checks.{passed, passes, first_passed, others_passed}
use Rattle.boxes.proofs.Volume.{between_length}
use Rattle.jobs.specs.declared.Job.{Job}
use Rattle.points.specs.Points.{points_of}
use Rattle.fields.specs.Fields.{big_endian}
use Rattle.fields.proofs.Vectors.{vector_long, vector_eight}
use Rattle.certified_costs.proofs.Made.{fit_certified}
use Rattle.search_checks.specs.Checks.{check_job, check_search}
use Rattle.search_checks.proofs.Passed.{runs_accepted}
use Rattle.search.specs.Search.{searched, CertifiedIn}
use Rattle.job_records.specs.Jobs.{job_of}
use Rattle.answer_records.specs.Answers.{answer_bytes}
use Rattle.answers.specs.Records.{record_of}
use Rattle.registers.specs.Runs.{check_run, run_search, found_bytes, record_shown}

module _ (store : List ℕ) (job : Job) (numbers entries : ℕ) (ok : check_run store job numbers entries ≡ pass) where
  table_test : T (leb 16 numbers && eqb (numbers / 16) job.rows)
  unfolding check_run
  table_test =
      passed (leb 16 numbers && eqb (numbers / 16) job.rows) Refusal.Table (first_passed _ _ (others_passed _ _ ok))

  -- the lent table's rows are the job's r
  pub rows_equal : numbers / 16 ≡ job.rows
  rows_equal = eqb→eq (numbers / 16) job.rows (and_parts (leb 16 numbers) (eqb (numbers / 16) job.rows) table_test).1

  job_passed : check_job store job ≡ pass
  unfolding check_run
  job_passed = first_passed _ _ ok

  bounds_passed : pass_if (leb (numbers / 16) entries) Refusal.Bounds ≡ pass
  unfolding check_run
  bounds_passed = first_passed _ _ (others_passed _ _ (others_passed _ _ ok))

  table_passed : pass_if (leb 16 numbers) Refusal.Table ≡ pass
  table_passed = passes (leb 16 numbers) Refusal.Table (and_parts (leb 16 numbers) (eqb (numbers / 16) job.rows) table_test).0

  pub search_passed : check_search store job numbers entries ≡ pass
  unfolding check_search in_order
  search_passed = rw (job_passed, table_passed, bounds_passed)

  pub run_certified : CertifiedIn store job job.rows
  unfolding searched
  run_certified =
      fit_certified job.model (points_of store) job.budget job.rows job.t job.start job.domain
      (runs_accepted store job numbers entries search_passed).inside

  pub found_long : length job.domain.low ≡ 8 → length (found_bytes store job) ≡ 40
  unfolding found_bytes answer_bytes record_of big_endian
  found_long eight =
      let v = (run_search store job).vector in
      let l : length v ≡ 8 = (between_length run_certified.inside.between).0 ∙ eight in
      simp (length-append, vector_long v l)

low_eight : (bytes : List ℕ) → 72 ≤ length bytes → length (job_of bytes).domain.low ≡ 8
unfolding job_of
low_eight bytes whole = vector_eight bytes 24 (omega arith)

-- the record that is shown after a run
pub shown_long :
    (store bytes : List ℕ) (numbers entries : ℕ) →
    72 ≤ length bytes →
    length (record_shown (check_run store (job_of bytes) numbers entries) (found_bytes store (job_of bytes))) ≡ 40
shown_long store bytes numbers entries whole = go (check_run store (job_of bytes) numbers entries) refl
  where
    go : (c : Check) → check_run store (job_of bytes) numbers entries ≡ c → length (record_shown c (found_bytes store (job_of bytes))) ≡ 40
    go (Ok _) is = found_long store (job_of bytes) numbers entries is (low_eight bytes whole)
    go (Err why) is = refl
