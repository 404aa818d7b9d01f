-- What was found, as the ranges of coefficients: "find for each used coordinate the least and greatest value". "The answer for a
-- coefficient is one single-precision value, a low and a high value, or none."
use Rattle.std.specs.Prelude.{cond, List, [], ◌∷◌, ℕ, ltb, ℤ, pos, get_or, Float, Option, Some, None}
use Rattle.std.specs.Int.Signed.{lt_z}
use Rattle.boxes.specs.declared.Box.{Box}
use Rattle.range_search.specs.RangeSearch.{Found, nothing, ends}
use Rattle.range_hulls.specs.declared.Range.{Range}
use Rattle.range_hulls.specs.declared.Range.TheVariants.{One, Between, Nothing}

-- what was found: the box of the least and the greatest values, or nothing
abbrev pub found_of : Option Box → Found
found_of None = nothing
found_of (Some b) = ends b

-- the coefficient of each coordinate's value, w / 2^S
module _ (coefficient : ℤ → Float) where
  -- "One value means equal ends": the low end is never above the high one.
  abbrev pub range_between : ℤ → ℤ → Range
  range_between low high = cond (lt_z low high) (Between (coefficient low) (coefficient high)) (One (coefficient low))

  -- The range of coordinate k, where `used` coordinates are used: "none that no vector costs at most K".
  abbrev pub range_of : ℕ → Found → ℕ → Range
  range_of used nothing k = Nothing
  range_of used (ends b) k = cond (ltb k used) (range_between (get_or b.low k (pos 0)) (get_or b.high k (pos 0))) Nothing

  -- of all eight coordinates, in order
  abbrev pub slots_of : ℕ → Found → List Range
  slots_of used found =
      range_of used found 0 ∷ range_of used found 1 ∷ range_of used found 2 ∷ range_of used found 3
      ∷ range_of used found 4 ∷ range_of used found 5 ∷ range_of used found 6 ∷ range_of used found 7 ∷ []
