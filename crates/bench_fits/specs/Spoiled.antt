-- Fits with p = 3, worked out here: document 02 gives none. One line, d = 1, x = 1 and S = 0.
use Rattle.std.specs.Prelude.{List, [], ◌∷◌, pos}
use Rattle.integers.specs.Lists.{All}
use Rattle.bench_fits.specs.Fits.{Fit, fit_writes, Holds}
use Rattle.bench_fits.specs.Fits.{job}
use Rattle.bench_fits.specs.Gaps.{gap}

abbrev pub spoiled : List Fit
spoiled =
    -- y = 4, 4, 1 and the vector 0 alone: the second largest of 4, 4 and 1 is 4, the third 1.
    fit_writes (job 3 1 0 10 4) (pos 4 ∷ pos 4 ∷ pos 1 ∷ []) "solved cost=4 bound=4 splits=0 open=0 peak=0 w=0"
    ∷ fit_writes (job 3 2 0 10 4) (pos 4 ∷ pos 4 ∷ pos 1 ∷ []) "solved cost=1 bound=1 splits=0 open=0 peak=0 w=0"
    -- G's points and box: with no sample spoiled 3 is best, 6 away from 9; with one spoiled, 2.
    ∷ fit_writes (job 3 0 3 10 4) (pos 2 ∷ pos 2 ∷ pos 9 ∷ []) "solved cost=6 bound=6 splits=2 open=0 peak=1 w=3"
    ∷ fit_writes (job 3 1 3 10 4) (pos 2 ∷ pos 2 ∷ pos 9 ∷ []) "solved cost=0 bound=0 splits=1 open=0 peak=1 w=2"
    -- As many spoiled as there are records.
    ∷ fit_writes (job 3 3 3 10 4) (pos 2 ∷ pos 2 ∷ pos 9 ∷ []) "refused 4"
    -- A gap is a record, and counts as 0.
    ∷ fit_writes (job 3 2 3 10 4) (pos 2 ∷ gap ∷ pos 9 ∷ []) "solved cost=0 bound=0 splits=0 open=0 peak=0 w=0"
    ∷ []

abbrev pub SpoiledHold : Type 0
SpoiledHold = All Holds spoiled
