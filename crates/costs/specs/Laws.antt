-- What is shown of costs that the checks let through. The proof stands in proofs/Passed.antt.
use Rattle.codes.specs.Codes.{pass}
use Rattle.std.specs.Prelude.{List, ◌≡◌, ℕ, ◌≤◌, ℤ}
use Rattle.jobs.specs.declared.Model.{Model}
use Rattle.points.specs.Points.{points_of}
use Rattle.residuals.specs.Cost.{cost}
use Rattle.residuals.specs.Laws.{Small}
use Rattle.model_checks.specs.Checks.{check_model}

-- Check 9 refuses "C over 1,152,921,367,167,897,600", which is 4,096 × 16,777,215²: where checks 1 to 4 pass, no vector of 16-bit
-- coordinates costs more.
pub record CostLimit (store : List ℕ) (m : Model) : Type 0 where
  pub most : check_model store m ≡ pass → (v : List ℤ) → Small v → cost m (points_of store) v ≤ 1152921367167897600
