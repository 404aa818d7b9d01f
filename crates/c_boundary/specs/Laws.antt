-- How a code is read.
use Rattle.std.specs.Prelude.{◌≡◌, List, ℕ, ◌/◌, ◌%◌, length, Err}
use Rattle.codes.specs.declared.Refusal.{Refusal}
use Rattle.codes.specs.declared.Refusal.TheVariants.{Stray}
use Rattle.codes.specs.Codes.{Outcome, pass, number_of}
use Rattle.points.specs.Points.{points_of, check_store, check_stray}
use Rattle.c_boundary.specs.Boundary.{answered, code_of}

-- The remainder by 256 is the refusal's number. 7 "returns that record's number too": the quotient is the record's number, of every store
-- that check 1, which each of these calls makes before, lets pass. 255 is no outcome's code.
pub record Told : Type 0 where
  pub number : (r : Refusal) → code_of (answered (Err r)) % 256 ≡ number_of r
  pub stray :
      (store : List ℕ) (d k : ℕ) →
      check_store (length store) ≡ pass →
      check_stray d (points_of store) ≡ Err (Stray k) →
      code_of (answered (Err (Stray k))) / 256 ≡ k
  pub apart : (o : Outcome) → code_of (answered o) ≡ 255 → ⊥
