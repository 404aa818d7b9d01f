-- What the calls on a store and a model answer.
use Rattle.std.specs.Prelude.{List, ℕ, ℤ}
use Rattle.codes.specs.Codes.{Outcome, unless_refused}
use Rattle.boxes.specs.declared.Box.{Box}
use Rattle.jobs.specs.declared.Model.{Model}
use Rattle.points.specs.Points.{points_of}
use Rattle.residuals.specs.Cost.{cost, bound}
use Rattle.model_checks.specs.Checks.{check_cost, check_bound}

-- what a cost answers
unfoldable pub cost_answer : List ℕ → Model → List ℤ → Outcome
cost_answer store m v = unless_refused (check_cost store m v) (cost m (points_of store) v)

-- what a bound answers
unfoldable pub bound_answer : List ℕ → Model → Box → Outcome
bound_answer store m B = unless_refused (check_bound store m B) (bound m (points_of store) B)
