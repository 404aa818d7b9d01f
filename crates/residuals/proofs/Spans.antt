-- The ends of Σ w × x over a box, and the least size between the ends of e. Assumes nothing.
use mathlib.Core.Path.{◌≡◌, ◌∙◌}
use mathlib.Core.Bool.{cond}
use mathlib.Core.List.{List}
use Prim.Native.Nat.{ℕ, zero, suc, ◌+◌, max}
use native.Mathlib.Omega.{arith}
use lib.IntN.{ℤ, pos, nat_abs, ◌-ℤ◌, ◌*ℤ◌}
use lib.Signed.{le_z, lt_z, ◌≤ℤ◌, ≤ℤ_refl}
use Rattle.integers.specs.Integers.{max_z}
use Rattle.integers.proofs.Order.{≤ℤ-trans, add_mono, max_left, min_left}
use Rattle.integers.proofs.Parts.{up, apart, abs_parts, sub_parts, le_parts, le_z_true, le_z_false, lt_z_true, lt_z_false, pos_up, pos_dn}
use Rattle.integers.proofs.Tests.{by_test}
use Rattle.boxes.specs.declared.Box.{Box}
use Rattle.residuals.specs.Cost.{at, nearest_to0}
use Rattle.integers.specs.Sums.{Σ}
use Rattle.residuals.specs.Inside.{positive, dot_max, dot_min}

-- what lies above 0 of a number is the larger of its parts' difference and 0
pub above : (z : ℤ) → positive z ≡ up z
unfolding positive
above z =
    by_test (lt_z z (pos 0)) 0 (nat_abs z) (λ (n : ℕ). n ≡ up z)
    (λ t. omega (arith, lt_z_true z (pos 0) t, pos_up 0, pos_dn 0, apart z))
    (λ t. omega (arith, lt_z_false z (pos 0) t, pos_up 0, pos_dn 0, apart z, abs_parts z))

max_up : (a b : ℤ) → up (max_z a b) ≡ max (up a) (up b)
unfolding max_z
max_up a b =
    by_test (le_z a b) b a (λ (z : ℤ). up z ≡ max (up a) (up b))
    (λ t. omega (arith, le_z_true a b t, apart a, apart b))
    (λ t. omega (arith, le_z_false a b t, apart a, apart b))

-- "emin if emin > 0, −emax if emax < 0, else 0" is the larger of emin, −emax and 0
pub positive_max : (y lo hi : ℤ) → lo ≤ℤ hi → positive (max_z (y -ℤ hi) (lo -ℤ y)) ≡ nearest_to0 (y -ℤ hi) (y -ℤ lo)
unfolding nearest_to0
positive_max y lo hi h =
    let emin = y -ℤ hi in
    let emax = y -ℤ lo in
    let m : positive (max_z emin (lo -ℤ y)) ≡ max (up emin) (up (lo -ℤ y)) = above (max_z emin (lo -ℤ y)) ∙ max_up emin (lo -ℤ y) in
    let p = le_parts h in
    let s = sub_parts y hi in
    let t = sub_parts lo y in
    let u = sub_parts y lo in
    m
    ∙ by_test (lt_z (pos 0) emin) (nat_abs emin) (cond (lt_z emax (pos 0)) (nat_abs emax) 0) (λ (n : ℕ). max (up emin) (up (lo -ℤ y)) ≡ n)
    (λ e. omega (arith, lt_z_true (pos 0) emin e, pos_up 0, pos_dn 0, apart emin, apart (lo -ℤ y), abs_parts emin))
    (λ e. by_test (lt_z emax (pos 0)) (nat_abs emax) 0 (λ (n : ℕ). max (up emin) (up (lo -ℤ y)) ≡ n)
    (λ f.
    let below = lt_z_true emax (pos 0) f in
    omega (arith, lt_z_false (pos 0) emin e, below, pos_up 0, pos_dn 0, apart emin, apart emax, apart (lo -ℤ y), abs_parts emax))
    (λ f. omega (arith, lt_z_false (pos 0) emin e, lt_z_false emax (pos 0) f, pos_up 0, pos_dn 0, apart emin, apart emax, apart (lo -ℤ y))))

module _ (B : Box) (b : ℕ) (x : List ℤ) where
  pub min_le_max : (k : ℕ) → dot_min B b x k ≤ℤ dot_max B b x k
  unfolding Σ
  min_le_max zero = ≤ℤ_refl (pos 0)
  min_le_max (suc k) =
      let l = at B.low (b + k) *ℤ at x k in
      let h = at B.high (b + k) *ℤ at x k in
      add_mono (min_le_max k) (≤ℤ-trans (min_left l h) (max_left l h))
