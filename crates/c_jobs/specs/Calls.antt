-- Job records through the C interface: each field by its own number or buffer.
use Rattle.std.specs.Prelude.{Bool, cond, ◌&&◌, List, [], ◌∷◌, ℕ, eqb, ℤ, length}
use Rattle.jobs.specs.declared.Job.{Job}
use Rattle.jobs.specs.declared.Model.{Model}
use Rattle.list_rows.specs.Rows.{with_row}
use Rattle.fields.specs.Buffers.{check_room, written}
use Rattle.job_records.specs.Jobs.{job_bytes, read_job}
use Rattle.c_boundary.specs.Boundary.{Call, check_call, check_of, read_after, job_from}

-- the numbers of a job in the record's order: "n, d, S, p (a byte each), ε (32 bits), t (64), budget (32), rows r (32)"
abbrev pub job_numbers : Job → List ℕ
job_numbers j =
    j.model.n ∷ j.model.d ∷ j.model.scale ∷ j.model.p ∷ j.model.eps ∷ j.t ∷ j.budget ∷ j.rows ∷ []

-- room for eight numbers, a box and a vector
abbrev pub job_lengths : ℕ → ℕ → ℕ → Bool
job_lengths numbers corners start = eqb numbers 8 && eqb corners 16 && eqb start 8

-- reading a job record, and the three lent buffers afterwards
module _ (bytes numbers : List ℕ) (corners start : List ℤ) where
  abbrev pub read_job_call : Call
  read_job_call = check_call (job_lengths (length numbers) (length corners) (length start)) (check_of (read_job bytes))

  abbrev pub job_numbers_after : List ℕ
  job_numbers_after = read_after (job_lengths (length numbers) (length corners) (length start)) (read_job bytes) job_numbers numbers

  abbrev pub corners_after : List ℤ
  corners_after =
      read_after (job_lengths (length numbers) (length corners) (length start)) (read_job bytes) (λ job. with_row corners 0 job.domain) corners

  abbrev pub start_after : List ℤ
  start_after = read_after (job_lengths (length numbers) (length corners) (length start)) (read_job bytes) (λ job. job.start) start

-- a box and a vector
abbrev pub region_lengths : ℕ → ℕ → Bool
region_lengths corners start = eqb corners 16 && eqb start 8

-- writing a job record, and the lent bytes afterwards
abbrev pub write_job_call : List ℤ → List ℤ → List ℕ → Call
write_job_call corners start bytes = check_call (region_lengths (length corners) (length start)) (check_room 72 bytes)

abbrev pub job_record_after : Model → ℕ → ℕ → ℕ → List ℤ → List ℤ → List ℕ → List ℕ
job_record_after m t budget rows corners start bytes =
    let job = job_from m t budget rows corners start in
    cond (region_lengths (length corners) (length start)) (written (check_room 72 bytes) (job_bytes job) bytes) bytes
