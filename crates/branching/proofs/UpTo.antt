-- Costs and bounds that are found only as far as a cap, under a model that was checked. Assumes nothing.
use mathlib.Core.Path.{◌≡◌, ◌∙◌}
use mathlib.Core.List.{List}
use Prim.Native.Nat.{ℕ, ◌≤◌, min}
use native.Mathlib.Omega.{arith}
use lib.IntN.{ℤ}
use Rattle.codes.specs.Codes.{pass}
use Rattle.boxes.specs.declared.Box.{Box}
use Rattle.jobs.specs.declared.Model.{Model}
use Rattle.points.specs.Points.{points_of}
use Rattle.residuals.specs.Cost.{bound}
use Rattle.residuals.specs.Cost as model
use Rattle.model_checks.specs.Checks.{check_model}
use Rattle.costs.specs.Calls.{cost_up_to, bound_up_to}

module _ (store : List ℕ) (m : Model) (ok : check_model store m ≡ pass) where
  cost_up_to_lem : (v : List ℤ) (cap : ℕ) → cost_up_to store m v cap ≡ min (model.cost m (points_of store) v) cap
  unfolding cost_up_to
  cost_up_to_lem v cap = rw ok

  bound_up_to_lem : (b : Box) (cap : ℕ) → bound_up_to store m b cap ≡ min (bound m (points_of store) b) cap
  unfolding bound_up_to
  bound_up_to_lem b cap = rw ok

  -- what was found as far as the largest number of 64 bits, and lies below it, is the cost
  pub whole_cost : (v : List ℤ) (x : ℕ) → x ≡ cost_up_to store m v 18446744073709551615 → x ≤ 1152921367167897600
      → x ≡ model.cost m (points_of store) v
  whole_cost v x found small = omega (arith, found, cost_up_to_lem v 18446744073709551615)

  -- from what a call says of lanes that are the store's
  pub bound_found : (b : Box) (cap x : ℕ) → x ≡ bound_up_to store m b cap → x ≡ min (bound m (points_of store) b) cap
  bound_found b cap x e = e ∙ bound_up_to_lem b cap

  pub cost_found : (v : List ℤ) (cap x : ℕ) → x ≡ cost_up_to store m v cap → x ≡ min (model.cost m (points_of store) v) cap
  cost_found v cap x e = e ∙ cost_up_to_lem v cap
