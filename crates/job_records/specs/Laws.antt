-- What holds of job records: statements, each proved in proofs/ under the name of its record.
use Rattle.std.specs.Prelude.{List, ◌++◌, ◌≡◌, ℕ, ◌≤◌, T, length, take, Ok, IsOkAnd}
use Rattle.std.proofs.Math.Pow.{are_bytes}
use Rattle.std.specs.Int.{w32, w64}
use Rattle.std.proofs.Common.{Fits}
use Rattle.fields.specs.Fields.{IsVector}
use Rattle.jobs.specs.declared.Job.{Job}
use Rattle.job_records.specs.Jobs.{job_bytes, read_job}

-- The numbers fit their bytes, as those of every job in the code do.
pub record IsJob (job : Job) : Type 0 where
  pub eps : Fits w32 job.model.eps
  pub t : Fits w64 job.t
  pub budget : Fits w32 job.budget
  pub rows : Fits w32 job.rows
  pub low : IsVector job.domain.low
  pub high : IsVector job.domain.high
  pub start : IsVector job.start

-- A job goes through its 72 bytes and back unchanged.
pub record JobRoundTrip : Type 0 where
  -- "A job record has 72 bytes".
  pub size : (job : Job) → IsJob job → length (job_bytes job) ≡ 72
  -- a job that was written reads as itself, whatever follows it
  pub written_reads : (job : Job) → IsJob job → (rest : List ℕ) → read_job (job_bytes job ++ rest) ≡ Ok job
  -- a job that was read writes back to the same 72 bytes
  pub read_writes : (bytes : List ℕ) → T (are_bytes bytes) → 72 ≤ length bytes → IsOkAnd (read_job bytes) (λ job. job_bytes job ≡ take 72 bytes)
