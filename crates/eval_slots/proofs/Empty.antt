-- An all-zero point has size 0, as a gap has. Assumes nothing.
use mathlib.Core.Path.{◌≡◌, refl, ap, ◌∙◌}
use mathlib.Core.Bool.{Bool, true, false, cond}
use mathlib.Core.List.{List}
use Prim.Native.Nat.{ℕ, zero, suc, ◌+◌, ◌*◌, ◌^◌}
use native.Mathlib.Nat.{mul-zero}
use native.Mathlib.Omega.{arith}
use lib.IntN.{ℤ, pos, nat_abs, ◌-ℤ◌, ◌*ℤ◌}
use lib.Signed.{lt_z}
use Rattle.integers.specs.Integers.{max_z, min_z}
use Rattle.integers.proofs.Order.{max_either, min_either}
use Rattle.integers.proofs.Parts.{abs_add, abs_sub, abs_mul}
use Rattle.integers.proofs.Tests.{by_cond}
use Rattle.boxes.specs.declared.Box.{Box}
use Rattle.jobs.specs.declared.Model.{Model}
use Rattle.points.specs.declared.Point.{Point}
use Rattle.points.specs.Points.{is_gap, xs}
use Rattle.residuals.specs.Cost.{at, residual, least, unless_gap, size_at, least_at, e_min, e_max, least_size, least_over}
use Rattle.residuals.specs.Inside.{dot, dot_max, dot_min}
use Rattle.integers.specs.Sums.{Σ}
use Rattle.residuals.specs.Cost.{nearest_to0}
use Rattle.eval_columns.specs.Columns.{nowhere, placed}
use Rattle.eval_slots.specs.Laws.{EmptySlot, PlacedPoint}

no_x : (k : ℕ) → nat_abs (at (xs nowhere) k) ≡ 0
no_x zero = refl
no_x (suc zero) = refl
no_x (suc (suc zero)) = refl
no_x (suc (suc (suc zero))) = refl
no_x (suc (suc (suc (suc k)))) = refl

no_product : (w : ℤ) (k : ℕ) → nat_abs (w *ℤ at (xs nowhere) k) ≡ 0
no_product w k = abs_mul w (at (xs nowhere) k) ∙ ap (λ (n : ℕ). nat_abs w * n) (no_x k) ∙ mul-zero (nat_abs w)

no_y : (n : ℕ) → nat_abs (pos 0 *ℤ pos n) ≡ 0
no_y n = abs_mul (pos 0) (pos n) ∙ omega arith

no_difference : (a b : ℤ) → nat_abs a ≡ 0 → nat_abs b ≡ 0 → nat_abs (a -ℤ b) ≡ 0
no_difference a b h k = omega (arith, abs_sub a b)

no_dot : (v : List ℤ) (b d : ℕ) → nat_abs (dot v b (xs nowhere) d) ≡ 0
unfolding Σ
no_dot v b zero = refl
no_dot v b (suc d) =
    omega (arith, abs_add (dot v b (xs nowhere) d) (at v (b + d) *ℤ at (xs nowhere) d), no_dot v b d, no_product (at v (b + d)) d)

module _ (B : Box) (b : ℕ) where
  no_max : (d : ℕ) → nat_abs (dot_max B b (xs nowhere) d) ≡ 0
  unfolding Σ
  no_max zero = refl
  no_max (suc d) =
      let l = at B.low (b + d) *ℤ at (xs nowhere) d in
      let h = at B.high (b + d) *ℤ at (xs nowhere) d in
      omega (
        arith,
        abs_add (dot_max B b (xs nowhere) d) (max_z l h),
        no_max d,
        max_either (λ (z : ℤ). nat_abs z ≡ 0) l h
            (no_product (at B.low (b + d)) d) (no_product (at B.high (b + d)) d),
      )

  no_min : (d : ℕ) → nat_abs (dot_min B b (xs nowhere) d) ≡ 0
  unfolding Σ
  no_min zero = refl
  no_min (suc d) =
      let l = at B.low (b + d) *ℤ at (xs nowhere) d in
      let h = at B.high (b + d) *ℤ at (xs nowhere) d in
      omega (
        arith,
        abs_add (dot_min B b (xs nowhere) d) (min_z l h),
        no_min d,
        min_either (λ (z : ℤ). nat_abs z ≡ 0) l h
            (no_product (at B.low (b + d)) d) (no_product (at B.high (b + d)) d),
      )

no_near : (a z : ℤ) → nat_abs a ≡ 0 → nat_abs z ≡ 0 → nearest_to0 a z ≡ 0
unfolding nearest_to0
no_near a z h k = by_cond (λ (n : ℕ). n ≡ 0) (lt_z (pos 0) a) (λ t. h) (λ t. by_cond (λ (n : ℕ). n ≡ 0) (lt_z z (pos 0)) (λ u. k) (λ u. refl))

no_size_lem : (m : Model) (v : List ℤ) (j : ℕ) → size_at m v nowhere j ≡ 0
unfolding size_at residual
no_size_lem m v j =
    no_difference (pos 0 *ℤ pos (2 ^ m.scale)) (dot v (j * m.d) (xs nowhere) m.d) (no_y (2 ^ m.scale)) (no_dot v (j * m.d) m.d)

no_least : (m : Model) (B : Box) (j : ℕ) → least_size m B nowhere j ≡ 0
unfolding least_size e_min e_max
no_least m B j =
    no_near (pos 0 *ℤ pos (2 ^ m.scale) -ℤ dot_max B (j * m.d) (xs nowhere) m.d)
    (pos 0 *ℤ pos (2 ^ m.scale) -ℤ dot_min B (j * m.d) (xs nowhere) m.d)
    (no_difference (pos 0 *ℤ pos (2 ^ m.scale)) (dot_max B (j * m.d) (xs nowhere) m.d) (no_y (2 ^ m.scale))
    (no_max B (j * m.d) m.d))
    (no_difference (pos 0 *ℤ pos (2 ^ m.scale)) (dot_min B (j * m.d) (xs nowhere) m.d) (no_y (2 ^ m.scale))
    (no_min B (j * m.d) m.d))

pub empty_slot : (m : Model) → EmptySlot m
empty_slot m = record { at_vector = no_size_lem m; over_box = no_least m }

-- where every size is 0, so is the least
pub least_zero : (f : ℕ → ℕ) (n : ℕ) → ((j : ℕ) → f j ≡ 0) → least f n ≡ 0
unfolding least
least_zero f zero z = refl
least_zero f (suc zero) z = z 0
least_zero f (suc (suc n)) z = omega (arith, z (suc n))

-- what is placed in a slot has its point's least size
pub placed_least : (size : Point → ℕ → ℕ) → ((j : ℕ) → size nowhere j ≡ 0) → (q : Point) (n : ℕ)
    → least (size (placed q)) n ≡ unless_gap q (least (size q) n)
unfolding placed unless_gap
placed_least size none q n = by_gap (is_gap q)
  where
    by_gap : (gap : Bool) → least (size (cond gap nowhere q)) n ≡ cond gap 0 (least (size q) n)
    by_gap true = least_zero (size nowhere) n none
    by_gap false = refl

pub placed_point : (m : Model) (q : Point) → PlacedPoint m q
unfolding least_at least_over
placed_point m q =
    record {
      at_vector = λ v. placed_least (size_at m v) (no_size_lem m v) q m.n;
      over_box = λ B. placed_least (least_size m B) (no_least m B) q m.n;
    }
