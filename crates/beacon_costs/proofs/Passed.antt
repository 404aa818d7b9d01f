-- What holds where the checks pass. Assumes nothing.
use mathlib.Core.Path.{◌≡◌}
use mathlib.Core.List.{List, [], ◌∷◌}
use Prim.Native.Nat.{ℕ, ◌≤◌}
use lib.Dec.{leb, leb→le}
use lib.IntN.{ℤ}
use lib.ListN.{length}
use Rattle.codes.specs.declared.Refusal.TheVariants.{Short}
use Rattle.codes.specs.Codes.{pass, pass_if}
use Rattle.codes.proofs.Checks.{passed, first_passed, others_passed}
use Rattle.jobs.specs.declared.Model.{Model}
use Rattle.points.specs.Points.{points_of}
use Rattle.residuals.specs.Inside.{Ready}
use Rattle.model_checks.specs.Checks.{check_threshold}
use Rattle.model_checks.proofs.Passed.{ready, threshold_model, threshold_picked}
use Rattle.beacon_costs.specs.BeaconCosts.{groups, check_by_beacon}

module _ (store : List ℕ) (m : Model) (v : List ℤ) (entries : ℕ) (e : check_by_beacon store m v entries ≡ pass) where
  pub all_ready : Ready (length store) m
  unfolding check_by_beacon
  all_ready = ready store m (threshold_model store m v (first_passed (check_threshold store m v) _ e))

  pub picked : m.p ≤ 2
  unfolding check_by_beacon
  picked = threshold_picked store m v (first_passed (check_threshold store m v) _ e)

  pub room : groups (points_of store) ≤ entries
  unfolding check_by_beacon
  room =
      let check = pass_if (leb (groups (points_of store)) entries) Short in
      let pass : check ≡ pass = first_passed check [] (others_passed (check_threshold store m v) (check ∷ []) e) in
      leb→le _ _ (passed (leb (groups (points_of store)) entries) Short pass)
