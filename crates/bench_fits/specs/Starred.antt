-- "Bench fits": the starred ones, as the paper writes them. "One line, d = 1, x = 1 and S = 0 unless said."
use Rattle.std.specs.Prelude.{List, [], ◌∷◌, pos}
use Rattle.integers.specs.Integers.{minus}
use Rattle.integers.specs.Lists.{All}
use Rattle.bench_fits.specs.Fits.{Fit, residual_is, loss_is, label_is, least_size_is, splits_into, fit_writes, pattern_is, Holds}
use Rattle.bench_fits.specs.Fits.{vector, box, point, lines, job}

abbrev pub starred : List Fit
starred =
    -- A: S = 1, x = 2, y = 3, w = 2: e = 2; p = 0 gives 0 for ε = 2, 1 for ε = 1.
    residual_is (lines 1 1 0 2) (vector (pos 2 ∷ [])) (point (pos 2) (pos 3)) (pos 2)
    ∷ loss_is 0 2 (pos 2) 0
    ∷ loss_is 0 1 (pos 2) 1
    -- B: p = 2, e = −5: 16 for ε = 4; 25 for ε = 5 and 6.
    ∷ loss_is 2 4 (minus 5) 16
    ∷ loss_is 2 5 (minus 5) 25
    ∷ loss_is 2 6 (minus 5) 25
    -- C: two lines 2 and 6, y = 4: label 5 with ε = 2, label 0 with ε = 1. ("so fit C gives 5 with ε = 2", document 02; 1 before it)
    ∷ label_is (lines 2 0 0 2) (vector (pos 2 ∷ pos 6 ∷ [])) (point (pos 1) (pos 4)) 5
    ∷ label_is (lines 2 0 0 1) (vector (pos 2 ∷ pos 6 ∷ [])) (point (pos 1) (pos 4)) 0
    -- D: x = −2, y = 1: least size 0 on −1..3, 3 on 1..3, 3 on −3..−2.
    ∷ least_size_is (lines 1 0 0 0) (box (minus 1 ∷ []) (pos 3 ∷ [])) (point (minus 2) (pos 1)) 0
    ∷ least_size_is (lines 1 0 0 0) (box (pos 1 ∷ []) (pos 3 ∷ [])) (point (minus 2) (pos 1)) 3
    ∷ least_size_is (lines 1 0 0 0) (box (minus 3 ∷ []) (minus 2 ∷ [])) (point (minus 2) (pos 1)) 3
    -- E: −3..−2 splits into −3 and −2.
    ∷ splits_into 1 1 (box (minus 3 ∷ []) (minus 2 ∷ [])) (box (minus 3 ∷ []) (minus 3 ∷ [])) (box (minus 2 ∷ []) (minus 2 ∷ []))
    -- F: with d = 2, sides 0..4 and 0..4 split first into 0..2 and 3..4 of coordinate 1.
    ∷ splits_into 1 2
    (box (pos 0 ∷ pos 0 ∷ []) (pos 4 ∷ pos 4 ∷ []))
    (box (pos 0 ∷ pos 0 ∷ []) (pos 2 ∷ pos 4 ∷ []))
    (box (pos 3 ∷ pos 0 ∷ []) (pos 4 ∷ pos 4 ∷ []))
    -- G: y = 2, 2, 9; box 0..3, start 0, p = 1, ε = 2, t = 0, budget 10, r = 4.
    ∷ fit_writes (job 1 2 3 10 4) (pos 2 ∷ pos 2 ∷ pos 9 ∷ []) "solved cost=2 bound=2 splits=1 open=0 peak=1 w=2"
    -- H: G with budget 0.
    ∷ fit_writes (job 1 2 3 0 4) (pos 2 ∷ pos 2 ∷ pos 9 ∷ []) "spent cost=6 bound=2 splits=0 open=1 peak=1 w=0"
    -- I: y = 1, 6, 6; box 0..7, start 0, p = 0, ε = 0, t = 0, budget 10, r = 1.
    ∷ fit_writes (job 0 0 7 10 1) (pos 1 ∷ pos 6 ∷ pos 6 ∷ []) "full cost=3 bound=0 splits=0 open=1 peak=1 w=0"
    -- J: with r = 4.
    ∷ fit_writes (job 0 0 7 10 4) (pos 1 ∷ pos 6 ∷ pos 6 ∷ []) "solved cost=1 bound=1 splits=2 open=0 peak=2 w=6"
    -- K: w = −3, S = 1 is 0xBFC00000; w = 1, S = 15 is 0x38000000.
    ∷ pattern_is 1 (minus 3) 0xBFC0_0000
    ∷ pattern_is 15 (pos 1) 0x3800_0000
    ∷ []

-- The one proposition: every fit of the list holds.
abbrev pub StarredHold : Type 0
StarredHold = All Holds starred
