-- The numbers of a job that is read from bytes fit their bytes, whatever the bytes. Assumes nothing.
use mathlib.Core.Bool.{Bool, true, false}
use mathlib.Core.List.{List, [], ◌∷◌}
use mathlib.Core.Path.{◌≡◌, refl, subst}
use Prim.Native.Nat.{ℕ, suc, ◌+◌, ◌^◌, ◌≤◌, ◌<◌}
use native.Mathlib.Omega.{arith}
use lib.Dec.{T, leb, leb→le, ltb, lt→ltb, lit<}
use lib.IntN.{pos}
use lib.ListN.{length, get_or, take, drop, replicate}
use lib.Pow.{are_bytes}
use mir.Syntax.{w16}
use mir.Val.{SFits}
use mir.ValLaws.{to_z-Fits}
use Rattle.integers.specs.Lists.{All, none, also}
use Rattle.integers.proofs.Tests.{and_parts, and_both}
use Rattle.fields.specs.Fields.{IsVector, from_big_endian, vector_of, vector_at, number_at}
use Rattle.fields.proofs.BigEndian.{below}
use Rattle.fields.proofs.Parts.{part_size, bytes_drop, bytes_take}
use Rattle.fields.proofs.Vectors.{vector_eight}
use Rattle.job_records.specs.Jobs.{job_of, job_or_zeros, zero_job}
use Rattle.job_records.specs.Laws.{IsJob}

are_bytes_lem : (l : List ℕ) → ((i : ℕ) → get_or l i 0 < 256) → T (are_bytes l)
are_bytes_lem [] small = tt
are_bytes_lem (b ∷ l) small = and_both (ltb b 256) (are_bytes l) (lt→ltb b 256 (small 0)) (are_bytes_lem l (λ i. small (suc i)))

all_signed : (bs : List ℕ) → T (are_bytes bs) → All (λ w. SFits w16 w) (vector_of bs)
unfolding vector_of
all_signed [] ok = none
all_signed (b ∷ []) ok = none
all_signed (high ∷ low ∷ bs) ok =
    let p = and_parts (ltb high 256) (are_bytes (low ∷ bs)) ok in
    let q = and_parts (ltb low 256) (are_bytes bs) p.1 in
    also
    (to_z-Fits w16 (from_big_endian (high ∷ low ∷ []))
    (record { fits = below (high ∷ low ∷ []) (and_both (ltb high 256) (are_bytes (low ∷ [])) p.0 (and_both (ltb low 256) (are_bytes []) q.0 tt)) }))
    (all_signed bs q.1)

module _ (bytes : List ℕ) (ok : T (are_bytes bytes)) where
  number_small : (o k : ℕ) → o + k ≤ length bytes → number_at bytes o k < 256 ^ k
  number_small o k inside =
      subst (λ (n : ℕ). number_at bytes o k < 256 ^ n) (part_size bytes o k inside)
      (below (take k (drop o bytes)) (bytes_take k (drop o bytes) (bytes_drop o bytes ok)))

  vector_is : (o : ℕ) → o + 16 ≤ length bytes → IsVector (vector_at bytes o)
  vector_is o inside = record {
    eight = vector_eight bytes o inside;
    signed = all_signed (take 16 (drop o bytes)) (bytes_take 16 (drop o bytes) (bytes_drop o bytes ok));
  }

pub job_fits : (bytes : List ℕ) → ((i : ℕ) → get_or bytes i 0 < 256) → 72 ≤ length bytes → IsJob (job_of bytes)
unfolding job_of
job_fits bytes small whole =
    let ok = are_bytes_lem bytes small in
    record {
      eps = record { fits = number_small bytes ok 4 4 (omega arith) };
      t = record { fits = number_small bytes ok 8 8 (omega arith) };
      budget = record { fits = number_small bytes ok 16 4 (omega arith) };
      rows = record { fits = number_small bytes ok 20 4 (omega arith) };
      low = vector_is bytes ok 24 (omega arith);
      high = vector_is bytes ok 40 (omega arith);
      start = vector_is bytes ok 56 (omega arith);
    }

-- and those of zeros too
zero_vector : IsVector (replicate 8 (pos 0))
zero_vector =
    let z : SFits w16 (pos 0) = record { sfits = lit< tt } in
    record { eight = refl; signed = also z (also z (also z (also z (also z (also z (also z (also z none))))))) }

zero_fits : IsJob zero_job
zero_fits = record {
  eps = record { fits = omega arith };
  t = record { fits = omega arith };
  budget = record { fits = omega arith };
  rows = record { fits = omega arith };
  low = zero_vector;
  high = zero_vector;
  start = zero_vector;
}

pub read_fits : (bytes : List ℕ) → ((i : ℕ) → get_or bytes i 0 < 256) → IsJob (job_or_zeros bytes)
unfolding job_or_zeros
read_fits bytes small = go (leb 72 (length bytes)) refl
  where
    go : (b : Bool) → leb 72 (length bytes) ≡ b → IsJob (job_or_zeros bytes)
    go true is = rw is (job_fits bytes small (leb→le 72 (length bytes) (rw is tt)))
    go false is = rw is zero_fits
