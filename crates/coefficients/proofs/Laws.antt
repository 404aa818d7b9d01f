-- The laws of specs/Laws.antt. A line goes through pattern by pattern: each on the grid is some w's, and each w's is on the grid.
-- Assumes nothing.
use Rattle.std.specs.Prelude.{Ok}
use Rattle.std.proofs.Common.{◌≡◌, ℕ, zero, suc, ◌≤◌, true, ◌&&◌, T, List, [], ◌∷◌, map, length, get_or, drop, ℤ, pos, sym, refl, ap, ◌∙◌, lit<, w16, SFits}
use lib.ListN.{length-map}
use lib.Ieee.{Float, binary32, of_bits, to_bits, fits}
use lib.Ieee.Bits.{of_bits-to_bits, of_bits-fits}
use Rattle.integers.specs.Integers.{all_zero}
use Rattle.integers.proofs.Tests.{is_true}
use Rattle.codes.specs.declared.Refusal.TheVariants.{Start, OffGrid}
use Rattle.codes.specs.Codes.{Check, pass, pass_if, unless_refused}
use Rattle.codes.proofs.Checks.{passed, answered}
use Rattle.scale.specs.Scale.{check_scale}
use Rattle.boxes.specs.Shape.{check_vector}
use Rattle.coefficients.specs.Coefficient.{pattern_of, coefficient_of}
use Rattle.coefficients.specs.Grid.{coordinate_of, on_grid}
use Rattle.coefficients.specs.Lines.{check_used, writing_checks, line_of, written_of, all_on_grid, all_plus_zero, check_grid}
use Rattle.coefficients.specs.Lines.{reading_checks, coordinates_of, patterns_of}
use Rattle.coefficients.specs.Laws.{ExactCoefficient, ExactReading, Four16, FourSingle, RoundTrip}
use Rattle.coefficients.specs.declared.Line.{Line}
use Rattle.coefficients.proofs.Exact.{coefficient_exact, coefficient_bits}
use Rattle.coefficients.proofs.Grid.{found, missed, nan_missed, on_grid_lem, coordinate_fits}
use Rattle.scale.proofs.Checks.{scale_within}
use Rattle.coefficients.proofs.Checks.{three_pass, pass_three, unused_check}
use Rattle.coefficients.proofs.Lines.{both, four_mapped, rest_zero_read}

-- ---- one number
pub exact_coefficient : (S : ℕ) (w : ℤ) → ExactCoefficient S w
exact_coefficient S w = record { value = λ h f. coefficient_exact S h w f; bits = λ h f. coefficient_bits S h w f }

pub exact_reading : (S : ℕ) → ExactReading S
exact_reading S =
    record {
      accepted = λ h w f. let r = found S h (pattern_of S w) w f refl in (sym r.0, sym r.1);
      no_other = λ p g. (coordinate_fits S p, on_grid_lem S p g);
      no_nan = λ h p t. sym (missed S p (nan_missed S h p t)).0;
    }

-- ---- a list of them
module _ (S : ℕ) (h : S ≤ 15) where
  all_accepted : (w : List ℤ) → ((k : ℕ) → SFits w16 (get_or w k (pos 0)))
      → (all_on_grid S (map (pattern_of S) w) ≡ true) × (map (coordinate_of S) (map (pattern_of S) w) ≡ w)
  unfolding all_on_grid
  all_accepted [] f = (refl, refl)
  all_accepted (z ∷ w) f =
      let r = (exact_reading S).accepted h z (f 0) in
      let q = all_accepted w (λ k. f (suc k)) in
      (rw (r.0, q.0), λ i. r.1 i ∷ q.1 i)

  all_written : (ps : List ℕ) → all_on_grid S ps ≡ true → map (pattern_of S) (map (coordinate_of S) ps) ≡ ps
  unfolding all_on_grid
  all_written [] g = refl
  all_written (p ∷ ps) g =
      let e = both (on_grid S p) (all_on_grid S ps) g in
      λ i. on_grid_lem S p e.0 i ∷ all_written ps e.1 i

  line_patterns : (w : List ℤ) → Four16 w → patterns_of (line_of S w) ≡ map (pattern_of S) w
  unfolding patterns_of line_of
  line_patterns w f =
      let b : (k : ℕ) → to_bits binary32 (coefficient_of S (get_or w k (pos 0))) ≡ pattern_of S (get_or w k (pos 0)) =
      λ k. coefficient_bits S h (get_or w k (pos 0)) (f.fit k) in
      (λ i. b 0 i ∷ b 1 i ∷ b 2 i ∷ b 3 i ∷ []) ∙ four_mapped (pattern_of S) (pos 0) w f.long

coordinates_fit : (S : ℕ) (ps : List ℕ) (k : ℕ) → SFits w16 (get_or (map (coordinate_of S) ps) k (pos 0))
coordinates_fit S [] k = record { sfits = lit< tt }
coordinates_fit S (p ∷ ps) zero = coordinate_fits S p
coordinates_fit S (p ∷ ps) (suc k) = coordinates_fit S ps k

-- a number is known by its bits
same_number : (x y : Float) → T (fits binary32 x) → T (fits binary32 y) → to_bits binary32 x ≡ to_bits binary32 y → x ≡ y
same_number x y f g e = sym (of_bits-to_bits binary32 x f) ∙ ap (of_bits binary32) e ∙ of_bits-to_bits binary32 y g

same_line : (l m : Line) → FourSingle l → FourSingle m → patterns_of l ≡ patterns_of m → l ≡ m
unfolding patterns_of
same_line l m f g e =
    let e1 = same_number l.c1 m.c1 f.c1 g.c1 (ap (λ (ps : List ℕ). get_or ps 0 0) e) in
    let e2 = same_number l.c2 m.c2 f.c2 g.c2 (ap (λ (ps : List ℕ). get_or ps 1 0) e) in
    let e3 = same_number l.c3 m.c3 f.c3 g.c3 (ap (λ (ps : List ℕ). get_or ps 2 0) e) in
    let e4 = same_number l.c4 m.c4 f.c4 g.c4 (ap (λ (ps : List ℕ). get_or ps 3 0) e) in
    λ i. record { c1 = e1 i; c2 = e2 i; c3 = e3 i; c4 = e4 i }

line_single : (S : ℕ) (w : List ℤ) → FourSingle (line_of S w)
unfolding line_of coefficient_of
line_single S w =
    record { c1 = of_bits-fits binary32 _; c2 = of_bits-fits binary32 _; c3 = of_bits-fits binary32 _; c4 = of_bits-fits binary32 _ }

-- ---- there and back
module _ (d S : ℕ) where
  written_read : (w : List ℤ) → Four16 w → (l : Line) → written_of d S w ≡ Ok l → coordinates_of d S (patterns_of l) ≡ Ok w
  unfolding written_of writing_checks coordinates_of reading_checks check_grid
  written_read w f l e =
      let k = answered (writing_checks d S w) (line_of S w) l e in
      let p = three_pass (check_used d) (check_scale S) (check_vector 1 d w) k.0 in
      let h = scale_within S p.1 in
      let a = all_accepted S h w f.fit in
      let z =
      rest_zero_read S h d (map (pattern_of S) w) a.0 ∙ ap (λ (l : List ℤ). all_zero (drop d l)) a.1
      ∙ is_true (all_zero (drop d w)) (passed (all_zero (drop d w)) Start (sym (unused_check d w) ∙ p.2)) in
      let g : check_grid d S (map (pattern_of S) w) ≡ pass = λ i. pass_if (a.0 i && z i) OffGrid in
      let r : reading_checks d S (map (pattern_of S) w) ≡ pass = pass_three p.0 p.1 g in
      ap (λ (m : Line). coordinates_of d S (patterns_of m)) (sym k.1)
      ∙ ap (coordinates_of d S) (line_patterns S h w f)
      ∙ (λ i. unless_refused (r i) (a.1 i))

  -- the line written of what was read of ps
  module _ (ps : List ℕ) (long : length ps ≡ 4) (w : List ℤ) (e : coordinates_of d S ps ≡ Ok w) where
    reading_passes : (reading_checks d S ps ≡ pass) × (map (coordinate_of S) ps ≡ w)
    unfolding coordinates_of
    reading_passes = answered (reading_checks d S ps) (map (coordinate_of S) ps) w e

    checks_pass : (check_used d ≡ pass) × (check_scale S ≡ pass) × (check_grid d S ps ≡ pass)
    unfolding reading_checks
    checks_pass = three_pass (check_used d) (check_scale S) (check_grid d S ps) reading_passes.0

    within_15 : S ≤ 15
    within_15 = scale_within S checks_pass.1

    grid_passes : (all_on_grid S ps ≡ true) × (all_plus_zero (drop d ps) ≡ true)
    unfolding check_grid
    grid_passes =
        let test = all_on_grid S ps && all_plus_zero (drop d ps) in
        both (all_on_grid S ps) (all_plus_zero (drop d ps)) (is_true test (passed test OffGrid checks_pass.2))

    back : written_of d S w ≡ Ok (line_of S (map (coordinate_of S) ps))
    unfolding written_of writing_checks
    back =
        let v = map (coordinate_of S) ps in
        let z : all_zero (drop d v) ≡ true = sym (rest_zero_read S within_15 d ps grid_passes.0) ∙ grid_passes.1 in
        let k : writing_checks d S v ≡ pass = pass_three checks_pass.0 checks_pass.1 (unused_check d v ∙ (λ i. pass_if (z i) Start)) in
        ap (written_of d S) (sym reading_passes.1) ∙ ap (λ (c : Check). unless_refused c (line_of S v)) k

    back_patterns : patterns_of (line_of S (map (coordinate_of S) ps)) ≡ ps
    back_patterns =
        line_patterns S within_15 (map (coordinate_of S) ps)
        (record { long = length-map ps (coordinate_of S) ∙ long; fit = coordinates_fit S ps })
        ∙ all_written S within_15 ps grid_passes.0

  pub round_trip : RoundTrip d S
  unfolding patterns_of
  round_trip =
      record {
        written_read = written_read;
        patterns_written = λ ps long w e. rw (back ps long w e) (back_patterns ps long w e);
        line_written = λ l f w e.
            back (patterns_of l) refl w e
            ∙ ap Ok
            (same_line (line_of S (map (coordinate_of S) (patterns_of l))) l (line_single S _) f (back_patterns (patterns_of l) refl w e));
      }
