-- The checks of peeling, request 1 of document 02: 1 to 4, 13, 5 to 8, 14 and 10.
use Rattle.std.specs.Prelude.{List, [], ◌∷◌, ◌++◌, ℕ, ◌/◌, leb, eqb, length}
use Rattle.codes.specs.declared.Refusal.{Refusal}
use Rattle.codes.specs.Codes.{Check, pass_if, within, in_order}
use Rattle.scale.specs.Scale.{check_scale}
use Rattle.boxes.specs.Shape.{check_shape}
use Rattle.boxes.specs.Boxes.{check_box, check_start}
use Rattle.jobs.specs.declared.Job.{Job}
use Rattle.jobs.specs.declared.Model.{Model}
use Rattle.points.specs.Points.{points_of, check_store, check_stray}
use Rattle.loss.specs.Loss.{check_loss}

-- "Other n or p get 2 or 4", each with its number; "13, rounds, for a limit outside 1 to 4, checked after 4"
abbrev pub model_checks : ℕ → Model → ℕ → List Check
model_checks bytes m limit =
    check_store bytes
    ∷ check_shape m.n m.d
    ∷ pass_if (eqb m.n 1) Refusal.Shape
    ∷ check_scale m.scale
    ∷ check_loss m.p m.eps
    ∷ pass_if (eqb m.p 0) Refusal.Loss
    ∷ pass_if (within 1 limit 4) Refusal.Rounds
    ∷ []

-- The checks of the box, the start vector, the store's fields and what is lent: "14, bounds, for fewer entries than rows, checked after 8";
-- "a label buffer too small 10": a label for each record, gaps counted.
abbrev pub lent_checks : List ℕ → Job → ℕ → ℕ → ℕ → List Check
lent_checks store job numbers entries labels =
    check_box job.model.n job.model.d job.domain
    ∷ check_start job.domain job.start
    ∷ check_stray job.model.d (points_of store)
    ∷ pass_if (leb 16 numbers) Refusal.Table
    ∷ pass_if (leb (numbers / 16) entries) Refusal.Bounds
    ∷ pass_if (leb (length store / 12) labels) Refusal.Short
    ∷ []

-- All of them, with a table of so many numbers, a list of so many entries, and room for so many labels.
unfoldable pub check_peel : List ℕ → Job → ℕ → ℕ → ℕ → ℕ → Check
check_peel store job limit numbers entries labels =
    in_order (model_checks (length store) job.model limit ++ lent_checks store job numbers entries labels)
