-- What is shown of a selection. The proof stands in proofs/Exact.antt.
use Rattle.std.specs.Prelude.{List, ◌≡◌, ℕ, ◌<◌, min}
use Rattle.ranks.specs.Largest.{nth_largest}
use Rattle.ranks.specs.Laws.{exceeding}
use Rattle.eval_selection.specs.Selection.{selected}

-- Where as many exceed each whole number as of a list of sizes, what is selected is the (q + 1)-th largest size, or the cap if that is
-- less.
abbrev pub SelectsLargest : Type 0
SelectsLargest =
    (over : ℕ → ℕ) (q cap : ℕ) (sizes : List ℕ) →
    ((a : ℕ) → a < 4503599627370496 → over a ≡ exceeding a sizes) → nth_largest q sizes < 4503599627370496 →
    selected over q (min cap 4503599627370496) ≡ min (nth_largest q sizes) cap
