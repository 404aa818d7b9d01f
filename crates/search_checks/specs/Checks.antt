-- The checks of a search: 1 to 8 and 14.
use Rattle.std.specs.Prelude.{List, [], ◌∷◌, ℕ, ◌/◌, leb}
use Rattle.codes.specs.declared.Refusal.{Refusal}
use Rattle.codes.specs.Codes.{Check, pass_if, in_order}
use Rattle.boxes.specs.Boxes.{check_box, check_start}
use Rattle.jobs.specs.declared.Job.{Job}
use Rattle.points.specs.Points.{points_of, check_stray}
use Rattle.model_checks.specs.Checks.{check_model}

-- checks 1 to 7, of a job and its store
unfoldable pub check_job : List ℕ → Job → Check
check_job store job =
    let m = job.model in
    in_order
    (check_model store m
    ∷ check_box m.n m.d job.domain
    ∷ check_start job.domain job.start
    ∷ check_stray m.d (points_of store)
    ∷ [])

-- "A search and fit make 1 to 8"; 8: "fewer than 16 numbers". Document 02: "14, bounds, for fewer entries than rows, checked after 8".
unfoldable pub check_search : List ℕ → Job → ℕ → ℕ → Check
check_search store job numbers entries =
    in_order (check_job store job ∷ pass_if (leb 16 numbers) Refusal.Table ∷ pass_if (leb (numbers / 16) entries) Refusal.Bounds ∷ [])
