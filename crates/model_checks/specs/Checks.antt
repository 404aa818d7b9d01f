-- Which checks the calls on a store and a model make. "Codes for jobs that can't run".
use Rattle.std.specs.Prelude.{List, [], ◌∷◌, ℕ, ◌/◌, ℤ, length}
use Rattle.codes.specs.Codes.{Check, in_order}
use Rattle.scale.specs.Scale.{check_scale}
use Rattle.boxes.specs.declared.Box.{Box}
use Rattle.boxes.specs.Shape.{check_shape, check_vector}
use Rattle.boxes.specs.Boxes.{check_box}
use Rattle.jobs.specs.declared.Model.{Model}
use Rattle.points.specs.Points.{points_of, check_store, check_stray}
use Rattle.loss.specs.Loss.{check_loss, check_loss_for}

-- Checks 1 to 4, which every call here makes first.
unfoldable pub check_model : List ℕ → Model → Check
check_model store m =
    in_order (check_store (length store) ∷ check_shape m.n m.d ∷ check_scale m.scale
    ∷ check_loss_for (length store / 12) m.p m.eps ∷ [])

-- "a cost 1 to 4, 6 and 7"
unfoldable pub check_cost : List ℕ → Model → List ℤ → Check
check_cost store m v = in_order (check_model store m ∷ check_vector m.n m.d v ∷ check_stray m.d (points_of store) ∷ [])

-- The same of a call that takes ε for a threshold, as losses and labels do. Document 02: "Labels, peeling and the loss of a single e refuse
-- p = 3 by 4."
unfoldable pub check_threshold : List ℕ → Model → List ℤ → Check
check_threshold store m v =
    in_order (check_model store m ∷ check_loss m.p m.eps ∷ check_vector m.n m.d v ∷ check_stray m.d (points_of store) ∷ [])

-- "a bound 1 to 5 and 7"
unfoldable pub check_bound : List ℕ → Model → Box → Check
check_bound store m B = in_order (check_model store m ∷ check_box m.n m.d B ∷ check_stray m.d (points_of store) ∷ [])
