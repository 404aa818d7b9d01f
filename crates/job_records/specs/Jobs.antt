-- The job record.
use Rattle.std.specs.Prelude.{List, [], ◌∷◌, ◌++◌, ℕ, leb, pos, length, replicate, Result}
use Rattle.codes.specs.Codes.{pass_if, if_passed, unless_refused}
use Rattle.codes.specs.declared.Refusal.{Refusal}
use Rattle.codes.specs.declared.Refusal.TheVariants.{Length}
use Rattle.boxes.specs.Split.{zero_box}
use Rattle.jobs.specs.declared.Job.{Job}
use Rattle.fields.specs.Fields.{big_endian, vector_bytes, byte_at, number_at, vector_at}

-- "A job record has 72 bytes: n, d, S, p (a byte each), ε (32 bits), t (64), budget (32), rows r (32), low, high, start vector."
unfoldable pub job_bytes : Job → List ℕ
job_bytes job =
    job.model.n ∷ job.model.d ∷ job.model.scale ∷ job.model.p ∷ []
    ++ big_endian 4 job.model.eps
    ++ big_endian 8 job.t
    ++ big_endian 4 job.budget
    ++ big_endian 4 job.rows
    ++ vector_bytes job.domain.low
    ++ vector_bytes job.domain.high
    ++ vector_bytes job.start

-- the job that the first 72 bytes stand for
unfoldable pub job_of : List ℕ → Job
job_of bytes = record {
  model = record {
    n = byte_at bytes 0;
    d = byte_at bytes 1;
    scale = byte_at bytes 2;
    p = byte_at bytes 3;
    eps = number_at bytes 4 4;
  };
  t = number_at bytes 8 8;
  budget = number_at bytes 16 4;
  rows = number_at bytes 20 4;
  domain = record { low = vector_at bytes 24; high = vector_at bytes 40 };
  start = vector_at bytes 56;
}

-- Check 1: "input of fit under 72 bytes".
unfoldable pub read_job : List ℕ → Result Job Refusal
read_job bytes = unless_refused (pass_if (leb 72 (length bytes)) Length) (job_of bytes)

-- of a record that is too short: zeros
abbrev pub zero_job : Job
zero_job = record {
  model = record { n = 0; d = 0; scale = 0; p = 0; eps = 0 };
  t = 0;
  budget = 0;
  rows = 0;
  domain = zero_box;
  start = replicate 8 (pos 0);
}

-- the job of the record, zeros where it is too short
unfoldable pub job_or_zeros : List ℕ → Job
job_or_zeros bytes = if_passed (pass_if (leb 72 (length bytes)) Length) (job_of bytes) zero_job
