-- Fits with a sample that the board did not take, worked out here: document 02 gives none. One line, d = 1, x = 1 and S = 0 unless said.
use Rattle.std.specs.Prelude.{List, [], ◌∷◌, ℤ, pos}
use Rattle.integers.specs.Integers.{minus}
use Rattle.integers.specs.Lists.{All}
use Rattle.bench_fits.specs.Fits.{Fit, label_is, fit_writes, Holds}
use Rattle.bench_fits.specs.Fits.{vector, point, lines, job}

-- "y = −32,768"
abbrev pub gap : ℤ
gap = minus 32768

abbrev pub gaps : List Fit
gaps =
    -- Two lines 2 and 6, y = −32,768: label 6; the y beside it is a sample's.
    label_is (lines 2 0 0 2) (vector (pos 2 ∷ pos 6 ∷ [])) (point (pos 1) gap) 6
    ∷ label_is (lines 2 0 0 2) (vector (pos 2 ∷ pos 6 ∷ [])) (point (pos 1) (minus 32767)) 0
    -- G with a gap among its points: the same answer.
    ∷ fit_writes (job 1 2 3 10 4) (pos 2 ∷ gap ∷ pos 2 ∷ pos 9 ∷ []) "solved cost=2 bound=2 splits=1 open=0 peak=1 w=2"
    -- Nothing but gaps.
    ∷ fit_writes (job 1 2 3 10 4) (gap ∷ gap ∷ gap ∷ []) "solved cost=0 bound=0 splits=0 open=0 peak=0 w=0"
    ∷ []

abbrev pub GapsHold : Type 0
GapsHold = All Holds gaps
