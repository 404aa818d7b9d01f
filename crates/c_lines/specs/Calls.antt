-- Lines of coefficients through the C interface: "four single-precision coefficients together" by their bit patterns.
use Rattle.std.specs.Prelude.{Bool, ◌&&◌, List, ℕ, eqb, ℤ, length}
use Rattle.coefficients.specs.Lines.{written_of, coordinates_of, patterns_of}
use Rattle.c_boundary.specs.Boundary.{Call, check_call, check_of, read_after}

-- four coordinates and four patterns
abbrev pub line_lengths : ℕ → ℕ → Bool
line_lengths coordinates patterns = eqb coordinates 4 && eqb patterns 4

module _ (d scale : ℕ) (coordinates : List ℤ) (patterns : List ℕ) where
  -- writing a line, and the lent patterns afterwards
  abbrev pub write_line_call : Call
  write_line_call = check_call (line_lengths (length coordinates) (length patterns)) (check_of (written_of d scale coordinates))

  abbrev pub patterns_after : List ℕ
  patterns_after = read_after (line_lengths (length coordinates) (length patterns)) (written_of d scale coordinates) patterns_of patterns

  -- reading a line, and the lent coordinates afterwards
  abbrev pub read_line_call : Call
  read_line_call = check_call (line_lengths (length coordinates) (length patterns)) (check_of (coordinates_of d scale patterns))

  abbrev pub coordinates_after : List ℤ
  coordinates_after = read_after (line_lengths (length coordinates) (length patterns)) (coordinates_of d scale patterns) (λ w. w) coordinates
