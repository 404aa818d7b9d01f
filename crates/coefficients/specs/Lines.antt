-- "a line is handed over as four single-precision coefficients together": written and read back, each with its checks.
use Rattle.std.specs.Prelude.{ℕ, Bool, true, ◌&&◌, List, [], ◌∷◌, map, drop, ℤ, pos, ◌==◌, slice_index_or, to_bits, Result}
use Rattle.std.specs.Float.{binary32}
use Rattle.codes.specs.declared.Refusal.{Refusal}
use Rattle.codes.specs.declared.Refusal.TheVariants.{Shape, OffGrid}
use Rattle.codes.specs.Codes.{Check, pass_if, in_order, unless_refused, within}
use Rattle.scale.specs.Scale.{check_scale}
use Rattle.boxes.specs.Shape.{check_vector}
use Rattle.coefficients.specs.Coefficient.{coefficient_of}
use Rattle.coefficients.specs.Grid.{coordinate_of, on_grid}
use Rattle.coefficients.specs.declared.Line.{Line}

-- "Check 2 looks at d alone there": d is 1 to 4.
unfoldable pub check_used : ℕ → Check
check_used d = pass_if (within 1 d 4) Shape

-- "writing a line of coefficients 2, 3 and 6". Check 6 is that of a vector of one line.
unfoldable pub writing_checks : ℕ → ℕ → List ℤ → Check
writing_checks d S w = in_order (check_used d ∷ check_scale S ∷ check_vector 1 d w ∷ [])

-- A coefficient for each coordinate, "those after d being +0", as their coordinates are 0.
unfoldable pub line_of : ℕ → List ℤ → Line
line_of S w =
    record {
      c1 = coefficient_of S (slice_index_or w 0 (pos 0));
      c2 = coefficient_of S (slice_index_or w 1 (pos 0));
      c3 = coefficient_of S (slice_index_or w 2 (pos 0));
      c4 = coefficient_of S (slice_index_or w 3 (pos 0));
    }

-- "Writing takes d, S and one line's four coordinates".
unfoldable pub written_of : ℕ → ℕ → List ℤ → Result Line Refusal
written_of d S w = unless_refused (writing_checks d S w) (line_of S w)

-- Each is some w's.
unfoldable pub all_on_grid : ℕ → List ℕ → Bool
all_on_grid S [] = true
all_on_grid S (p ∷ ps) = on_grid S p && all_on_grid S ps

-- Each is +0.
unfoldable pub all_plus_zero : List ℕ → Bool
all_plus_zero [] = true
all_plus_zero (p ∷ ps) = p == 0 && all_plus_zero ps

-- Check 12: "single-precision pattern that no w has; after the d-th, any but +0".
unfoldable pub check_grid : ℕ → ℕ → List ℕ → Check
check_grid d S ps = pass_if (all_on_grid S ps && all_plus_zero (drop d ps)) OffGrid

-- "reading one 2, 3 and 12".
unfoldable pub reading_checks : ℕ → ℕ → List ℕ → Check
reading_checks d S ps = in_order (check_used d ∷ check_scale S ∷ check_grid d S ps ∷ [])

-- "reading takes d, S and four patterns and gives the coordinates".
unfoldable pub coordinates_of : ℕ → ℕ → List ℕ → Result (List ℤ) Refusal
coordinates_of d S ps = unless_refused (reading_checks d S ps) (map (coordinate_of S) ps)

-- The four patterns of a line. Among numbers there is one NaN, here with the pattern 0x7FC00000; no w has a NaN's pattern.
unfoldable pub patterns_of : Line → List ℕ
patterns_of l = to_bits binary32 l.c1 ∷ to_bits binary32 l.c2 ∷ to_bits binary32 l.c3 ∷ to_bits binary32 l.c4 ∷ []
