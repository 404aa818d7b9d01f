-- What holds of a model and a store that the checks let through. Assumes nothing.
use mathlib.Core.Path.{◌≡◌}
use mathlib.Core.Bool.{◌&&◌, ◌||◌}
use mathlib.Core.List.{List, [], ◌∷◌}
use Prim.Native.Nat.{ℕ, ◌/◌, ◌%◌, ◌≤◌}
use native.Mathlib.Omega.{arith}
use borrow.Author.Tests.{eqb-true}
use lib.Dec.{T, leb, ltb, eqb, leb→le, ltb→lt}
use lib.IntN.{ℤ}
use lib.ListN.{length}
use Rattle.codes.specs.declared.Refusal.TheVariants.{Length, Loss}
use Rattle.codes.specs.Codes.{Check, pass, within, pass_if}
use Rattle.codes.proofs.Checks.{passed, first_passed, others_passed}
use Rattle.integers.proofs.Tests.{and_parts, by_test}
use Rattle.boxes.specs.declared.Box.{Box}
use Rattle.boxes.specs.Shape.{check_shape}
use Rattle.boxes.proofs.Checks.{shape_passed}
use Rattle.jobs.specs.declared.Model.{Model}
use Rattle.loss.specs.Loss.{check_loss, check_loss_for}
use Rattle.points.specs.Points.{check_store}
use Rattle.scale.specs.Scale.{check_scale}
use Rattle.scale.proofs.Checks.{scale_within}
use Rattle.residuals.specs.Inside.{Ready}
use Rattle.model_checks.specs.Checks.{check_model, check_cost, check_threshold, check_bound}

-- both ends of `within`
within_parts : (low x high : ℕ) → T (within low x high) → (low ≤ x) × (x ≤ high)
within_parts low x high t =
    let p = and_parts (leb low x) (leb x high) t in
    (leb→le low x p.0, leb→le x high p.1)

module _ (bytes : ℕ) (m : Model) where
  store_few : check_store bytes ≡ pass → bytes ≤ 49152
  unfolding check_store
  store_few e =
      (within_parts 1 bytes 49152 (and_parts (within 1 bytes 49152) (eqb (bytes % 12) 0)
      (passed (within 1 bytes 49152 && eqb (bytes % 12) 0) Length e)).0).1

  loss_cut : check_loss m.p m.eps ≡ pass → (m.eps ≤ 16777215) × (m.p ≤ 2)
  unfolding check_loss
  loss_cut e =
      let some = eqb m.p 0 || leb 1 m.eps in
      let cut =
      and_parts (leb m.eps 16777215) (leb m.p 2 && some) (passed (leb m.eps 16777215 && (leb m.p 2 && some)) Loss e) in
      (leb→le m.eps 16777215 cut.0, leb→le m.p 2 (and_parts (leb m.p 2) some cut.1).0)

  loss_for_cut : (records : ℕ) → records ≤ 4096 → check_loss_for records m.p m.eps ≡ pass → (m.eps ≤ 16777215) × (m.p ≤ 3)
  unfolding check_loss_for
  loss_for_cut records few =
      by_test (eqb m.p 3) (pass_if (ltb m.eps records) Loss) (check_loss m.p m.eps)
      (λ (check : Check). check ≡ pass → (m.eps ≤ 16777215) × (m.p ≤ 3))
      (λ is e.
      let p = eqb-true m.p 3 is in
      (omega (arith, ltb→lt m.eps records (passed (ltb m.eps records) Loss e)), omega (arith, p)))
      (λ no e. ((loss_cut e).0, omega (arith, (loss_cut e).1)))

-- checks 1 to 4 passed
pub ready : (store : List ℕ) (m : Model) → check_model store m ≡ pass → Ready (length store) m
unfolding check_model
ready store m e =
    let scale-loss = check_scale m.scale ∷ check_loss_for (length store / 12) m.p m.eps ∷ [] in
    let e₂ = others_passed (check_store (length store)) (check_shape m.n m.d ∷ scale-loss) e in
    let e₃ = others_passed (check_shape m.n m.d) scale-loss e₂ in
    let e₄ = others_passed (check_scale m.scale) (check_loss_for (length store / 12) m.p m.eps ∷ []) e₃ in
    let shape = shape_passed m.n m.d (first_passed (check_shape m.n m.d) scale-loss e₂) in
    let few = store_few (length store) m (first_passed (check_store (length store)) (check_shape m.n m.d ∷ scale-loss) e) in
    let loss =
    loss_for_cut (length store) m (length store / 12) (omega (arith, few))
    (first_passed (check_loss_for (length store / 12) m.p m.eps) [] e₄) in
    let scale = scale_within m.scale (first_passed (check_scale m.scale) (check_loss_for (length store / 12) m.p m.eps ∷ []) e₃) in
    record {
      few = few;
      lines = shape.some_lines;
      most = shape.few_lines;
      some = shape.some_used;
      used = shape.few_used;
      room = shape.few_coordinates;
      scaled = omega (arith, scale);
      cut = loss.0;
      kind = loss.1;
    }

-- every call makes checks 1 to 4 first
pub cost_model : (store : List ℕ) (m : Model) (v : List ℤ) → check_cost store m v ≡ pass → check_model store m ≡ pass
unfolding check_cost
cost_model store m v e = first_passed (check_model store m) _ e

pub threshold_model : (store : List ℕ) (m : Model) (v : List ℤ) → check_threshold store m v ≡ pass → check_model store m ≡ pass
unfolding check_threshold
threshold_model store m v e = first_passed (check_model store m) _ e

-- there p is 0, 1 or 2
pub threshold_picked : (store : List ℕ) (m : Model) (v : List ℤ) → check_threshold store m v ≡ pass → m.p ≤ 2
unfolding check_threshold
threshold_picked store m v e =
    (loss_cut (length store) m (first_passed (check_loss m.p m.eps) _ (others_passed (check_model store m) _ e))).1

pub bound_model : (store : List ℕ) (m : Model) (B : Box) → check_bound store m B ≡ pass → check_model store m ≡ pass
unfolding check_bound
bound_model store m B e = first_passed (check_model store m) _ e
