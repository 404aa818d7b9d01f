-- Which checks of a labelling decide: those of a call with a threshold, then the room. Assumes nothing.
use mathlib.Core.Path.{◌≡◌, refl}
use mathlib.Core.List.{List}
use Prim.Native.Nat.{ℕ}
use lib.Dec.{leb}
use lib.IntN.{ℤ}
use lib.ListN.{length}
use Rattle.std.specs.Prelude.{Err}
use Rattle.codes.specs.declared.Refusal.{Refusal}
use Rattle.codes.specs.declared.Refusal.TheVariants.{Short}
use Rattle.codes.specs.Codes.{pass, pass_if, in_order}
use Rattle.codes.proofs.Laws.{in_order_one}
use Rattle.jobs.specs.declared.Model.{Model}
use Rattle.points.specs.Points.{points_of}
use Rattle.model_checks.specs.Checks.{check_threshold}
use Rattle.labels.specs.Labels.{check_labels}

module _ (store : List ℕ) (m : Model) (v : List ℤ) (out : List ℕ) where
  pub room_decides : check_threshold store m v ≡ pass → check_labels store m v out ≡ pass_if (leb (length (points_of store)) (length out)) Short
  unfolding check_labels in_order
  room_decides e = rw e (in_order_one (pass_if (leb (length (points_of store)) (length out)) Short))

  pub first_refuses : (r : Refusal) → check_threshold store m v ≡ Err r → check_labels store m v out ≡ Err r
  unfolding check_labels in_order
  first_refuses r e = rw e refl
