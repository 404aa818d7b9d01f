-- The round trip of a job record: each field by the law of its kind.
use mathlib.Core.List.{List, [], ◌++◌, append_assoc}
use mathlib.Core.Path.{◌≡◌, ap, ◌∙◌}
use Prim.Native.Nat.{ℕ, ◌≤◌}
use native.Mathlib.Omega.{arith}
use borrow.Author.Tests.{le-leb}
use lib.Dec.{T}
use lib.ListN.{length, take, drop, length-append}
use lib.Pow.{are_bytes}
use lib.Seq.{take_at, take-add}
use Rattle.std.specs.Prelude.{Ok}
use Rattle.jobs.specs.declared.Job.{Job}
use Rattle.fields.specs.Fields.{big_endian, vector_bytes, vector_of}
use Rattle.job_records.specs.Jobs.{job_bytes, job_of, job_or_zeros, read_job}
use Rattle.job_records.specs.Laws.{IsJob, JobRoundTrip}
use Rattle.fields.proofs.BigEndian.{written_reads_whole}
use Rattle.fields.proofs.Parts.{part_at, four_at}
use Rattle.fields.proofs.Vectors.{vector_long, written_reads as vector-reads, number_back, vector_back}

-- of three vectors one after the other, each
module _ (l h s rest : List ℕ) (ll : length l ≡ 16) (lh : length h ≡ 16) (ls : length s ≡ 16) where
  first : take 16 (((l ++ h) ++ s) ++ rest) ≡ l
  first = rw (append_assoc (l ++ h) s rest, append_assoc l h (s ++ rest)) (take_at l (h ++ (s ++ rest)) 16 ll)

  second : take 16 (drop 16 (((l ++ h) ++ s) ++ rest)) ≡ h
  second = rw (append_assoc (l ++ h) s rest) (part_at l h (s ++ rest) 16 16 ll lh)

  third : take 16 (drop 32 (((l ++ h) ++ s) ++ rest)) ≡ s
  third = part_at (l ++ h) s rest 32 16 (omega (arith, length-append l h)) ls

module _ (job : Job) (ok : IsJob job) (rest : List ℕ) where
  low_long : length (vector_bytes job.domain.low) ≡ 16
  low_long = vector_long job.domain.low ok.low.eight

  high_long : length (vector_bytes job.domain.high) ≡ 16
  high_long = vector_long job.domain.high ok.high.eight

  start_long : length (vector_bytes job.start) ≡ 16
  start_long = vector_long job.start ok.start.eight

  size : length (job_bytes job) ≡ 72
  unfolding job_bytes big_endian
  size =
      let l = vector_bytes job.domain.low in
      let h = vector_bytes job.domain.high in
      let s = vector_bytes job.start in
      omega (arith, length-append (l ++ h) s, length-append l h, low_long, high_long, start_long)

  reads : job_of (job_bytes job ++ rest) ≡ job
  unfolding job_bytes job_of big_endian
  reads =
      let l = vector_bytes job.domain.low in
      let h = vector_bytes job.domain.high in
      let s = vector_bytes job.start in
      λ i. record {
        model = record {
          n = job.model.n;
          d = job.model.d;
          scale = job.model.scale;
          p = job.model.p;
          eps = written_reads_whole 4 job.model.eps ok.eps.fits i;
        };
        t = written_reads_whole 8 job.t ok.t.fits i;
        budget = written_reads_whole 4 job.budget ok.budget.fits i;
        rows = written_reads_whole 4 job.rows ok.rows.fits i;
        domain = record {
          low = (ap vector_of (first l h s rest low_long high_long start_long) ∙ vector-reads ok.low.signed) i;
          high = (ap vector_of (second l h s rest low_long high_long start_long) ∙ vector-reads ok.high.signed) i;
        };
        start = (ap vector_of (third l h s rest low_long high_long start_long) ∙ vector-reads ok.start.signed) i;
      }

module _ (bytes : List ℕ) (ok : T (are_bytes bytes)) (long : 72 ≤ length bytes) where
  joined : take 4 bytes ++ take 4 (drop 4 bytes) ++ take 8 (drop 8 bytes) ++ take 4 (drop 16 bytes) ++ take 4 (drop 20 bytes)
      ++ take 16 (drop 24 bytes) ++ take 16 (drop 40 bytes) ++ take 16 (drop 56 bytes) ≡ take 72 bytes
  joined =
      rw (
        ← take-add 4 4 bytes,
        ← take-add 8 8 bytes,
        ← take-add 16 4 bytes,
        ← take-add 20 4 bytes,
        ← take-add 24 16 bytes,
        ← take-add 40 16
            bytes,
        ← take-add 56 16 bytes,
      )

  writes : job_bytes (job_of bytes) ≡ take 72 bytes
  unfolding job_bytes job_of
  writes =
      (λ i.
      four_at bytes 0 (omega arith) i
      ++ number_back bytes ok 4 4 (omega arith) i
      ++ number_back bytes ok 8 8 (omega arith) i
      ++ number_back bytes ok 16 4 (omega arith) i
      ++ number_back bytes ok 20 4 (omega arith) i
      ++ vector_back bytes ok 24 (omega arith) i
      ++ vector_back bytes ok 40 (omega arith) i
      ++ vector_back bytes ok 56 (omega arith) i)
      ∙ joined

-- where the bytes are enough, the job is read
pub accepted : (bytes : List ℕ) → 72 ≤ length bytes → read_job bytes ≡ Ok (job_of bytes)
unfolding read_job
accepted bytes h = simp (le-leb 72 (length bytes) h)

pub record_there : (bytes : List ℕ) → 72 ≤ length bytes → job_or_zeros bytes ≡ job_of bytes
unfolding job_or_zeros
record_there bytes h = simp (le-leb 72 (length bytes) h)

pub job_round_trip : JobRoundTrip
job_round_trip = record {
  size = λ job ok. size job ok [];
  written_reads = λ job ok rest.
      accepted (job_bytes job ++ rest) (omega (arith, length-append (job_bytes job) rest, size job ok []))
      ∙ ap Ok (reads job ok rest);
  read_writes = λ bytes ok h. rw (accepted bytes h) (writes bytes ok h);
}
