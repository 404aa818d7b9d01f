-- What the definitions come to. Statements; the proofs are in proofs/Laws.antt.
use Rattle.std.specs.Prelude.{◌≡◌, ℕ, ◌^◌, ◌≤◌, true, false, not, T, List, length, ℤ, pos, FitsSigned, slice_index_or, to_bits, unsigned_abs, Ok, IsOkAnd}
use Rattle.std.specs.Int.Signed.{non_neg}
use Rattle.std.specs.Float.{binary32}
use Rattle.std.specs.Float.Ieee.{fits, nan_bits}
use Rattle.std.specs.Float.Ieee.Exact.{HasValue}
use Rattle.std.specs.Int.{w16}
use Rattle.coefficients.specs.Coefficient.{pattern_of, coefficient_of}
use Rattle.coefficients.specs.Grid.{coordinate_of, on_grid}
use Rattle.coefficients.specs.Lines.{written_of, coordinates_of, patterns_of}
use Rattle.coefficients.specs.declared.Line.{Line}

-- "the single-precision number equal to w / 2^S", for S up to 15 and a signed 16-bit w.
-- `HasValue x s a c`: x is finite, negative where s is true, and a / c in size.
pub record ExactCoefficient (S : ℕ) (w : ℤ) : Type 0 where
  pub value : S ≤ 15 → FitsSigned w16 w → HasValue (coefficient_of S w) (not (non_neg w)) (unsigned_abs w) (2 ^ S)
  pub bits : S ≤ 15 → FitsSigned w16 w → to_bits binary32 (coefficient_of S w) ≡ pattern_of S w

-- For S up to 15: a pattern is accepted exactly if it is some signed 16-bit w's, and that w is read.
pub record ExactReading (S : ℕ) : Type 0 where
  pub accepted : S ≤ 15 → (w : ℤ) → FitsSigned w16 w → (on_grid S (pattern_of S w) ≡ true) × (coordinate_of S (pattern_of S w) ≡ w)
  pub no_other : (p : ℕ) → on_grid S p ≡ true → FitsSigned w16 (coordinate_of S p) × (pattern_of S (coordinate_of S p) ≡ p)
  pub no_nan : S ≤ 15 → (p : ℕ) → T (nan_bits binary32 p) → on_grid S p ≡ false

-- Four signed 16-bit numbers; four single-precision numbers.
pub record Four16 (w : List ℤ) : Type 0 where
  pub long : length w ≡ 4
  pub fit : (k : ℕ) → FitsSigned w16 (slice_index_or w k (pos 0))

pub record FourSingle (l : Line) : Type 0 where
  pub c1 : T (fits binary32 l.c1)
  pub c2 : T (fits binary32 l.c2)
  pub c3 : T (fits binary32 l.c3)
  pub c4 : T (fits binary32 l.c4)

-- What is written is read back, and what is read is written back.
pub record RoundTrip (d S : ℕ) : Type 0 where
  pub written_read : (w : List ℤ) → Four16 w → (l : Line) → written_of d S w ≡ Ok l → coordinates_of d S (patterns_of l) ≡ Ok w
  pub patterns_written : (ps : List ℕ) → length ps ≡ 4 → (w : List ℤ) → coordinates_of d S ps ≡ Ok w
      → IsOkAnd (written_of d S w) (λ l. patterns_of l ≡ ps)
  pub line_written : (l : Line) → FourSingle l → (w : List ℤ) → coordinates_of d S (patterns_of l) ≡ Ok w → written_of d S w ≡ Ok l
