-- The larger and the smaller of two whole numbers, sizes, and whole numbers with a bound that is carried along. Assumes nothing.
use mathlib.Core.Path.{◌≡◌, refl, ap, subst}
use mathlib.Core.Bool.{cond}
use Prim.Native.Nat.{ℕ, zero, suc, ◌+◌, ◌*◌, ◌≤◌, ◌<◌, min}
use native.Mathlib.Nat.{mul-le-mul}
use native.Mathlib.Omega.{arith}
use lib.Dec.{ltb, ltb→lt, nltb→le}
use lib.IntN.{ℤ, pos, negsuc, neg_ℤ, nat_abs, ◌+ℤ◌, ◌-ℤ◌, ◌*ℤ◌}
use lib.Signed.{lt_z, le_z}
use lib.Ieee.{Float, binary64, add, sub, mul, of_int}
use Rattle.integers.specs.Integers.{max_z, min_z}
use Rattle.integers.proofs.Order.{max_either, min_either}
use Rattle.integers.proofs.Parts.{abs_add, abs_sub, abs_mul, from_parts, le_z_true, le_z_false, lt_z_true, lt_z_false}
use Rattle.integers.proofs.Tests.{by_cond, by_test}
use Rattle.eval_whole.specs.Whole.{Whole, Within, larger_of, smaller_of, sized}
use Rattle.eval_whole.proofs.Laws.{most, add_whole, sub_whole, mul_whole, neg_whole, pick_whole, cast_whole}

-- ---- what a test picks
larger_is : (a b : ℤ) → cond (lt_z a b) b a ≡ max_z a b
unfolding max_z
larger_is a b =
    by_test (le_z a b) b a (λ (z : ℤ). cond (lt_z a b) b a ≡ z)
    (λ e. by_test (lt_z a b) b a (λ (z : ℤ). z ≡ b) (λ f. refl) (λ f. from_parts a b (omega (arith, le_z_true a b e, lt_z_false a b f))))
    (λ e. by_test (lt_z a b) b a (λ (z : ℤ). z ≡ a) (λ f. absurd (omega (arith, le_z_false a b e, lt_z_true a b f))) (λ f. refl))

smaller_is : (a b : ℤ) → cond (lt_z b a) b a ≡ min_z a b
unfolding min_z
smaller_is a b =
    by_test (le_z a b) a b (λ (z : ℤ). cond (lt_z b a) b a ≡ z)
    (λ e. by_test (lt_z b a) b a (λ (z : ℤ). z ≡ a) (λ f. absurd (omega (arith, le_z_true a b e, lt_z_true b a f))) (λ f. refl))
    (λ e. by_test (lt_z b a) b a (λ (z : ℤ). z ≡ b) (λ f. refl) (λ f. absurd (omega (arith, le_z_false a b e, lt_z_false b a f))))

pub max_whole : {x y : Float} {a b : ℤ} → Whole x a → Whole y b → Whole (larger_of x y) (max_z a b)
max_whole {a = a} {b = b} p q = subst (Whole _) (larger_is a b) (pick_whole p q q p)

pub min_whole : {x y : Float} {a b : ℤ} → Whole x a → Whole y b → Whole (smaller_of x y) (min_z a b)
min_whole {a = a} {b = b} p q = subst (Whole _) (smaller_is a b) (pick_whole q p q p)

least_is : (m n : ℕ) → cond (ltb n m) (pos n) (pos m) ≡ pos (min m n)
least_is m n =
    by_cond (λ (z : ℤ). z ≡ pos (min m n)) (ltb n m)
    (λ t. let h : n < m = ltb→lt n m t in ap pos (omega arith))
    (λ t. let h : m ≤ n = nltb→le n m t in ap pos (omega arith))

pub least_whole : {x y : Float} {m n : ℕ} → Whole x (pos m) → Whole y (pos n) → Whole (smaller_of x y) (pos (min m n))
least_whole {m = m} {n = n} p q = subst (Whole _) (least_is m n) (pick_whole q p q p)

size_is : (a : ℤ) → cond (lt_z a (neg_ℤ a)) (neg_ℤ a) a ≡ pos (nat_abs a)
size_is (pos zero) = refl
size_is (pos (suc n)) = refl
size_is (negsuc n) = refl

pub size_whole : {x : Float} {a : ℤ} → Whole x a → Whole (sized x) (pos (nat_abs a))
size_whole {a = a} w = subst (Whole _) (size_is a) (pick_whole w (neg_whole w) (neg_whole w) w)

-- ---- with a bound
pub cast_within : (z : ℤ) {B : ℕ} → nat_abs z ≤ B → B ≤ most → Within (of_int binary64 z) z B
cast_within z h m = record { whole = cast_whole z (omega arith); small = h }

pub wider : {x : Float} {z : ℤ} {A B : ℕ} → A ≤ B → Within x z A → Within x z B
wider h w = let s = w.small in record { whole = w.whole; small = omega arith }

-- the same number by another name
pub renamed : {x : Float} {y z : ℤ} {B : ℕ} → y ≡ z → Within x y B → Within x z B
renamed {x} {B = B} e w = subst (λ (z : ℤ). Within x z B) e w

module _ {x y : Float} {a b : ℤ} {A B : ℕ} (p : Within x a A) (q : Within y b B) where
  pub add_within : A + B ≤ most → Within (add binary64 x y) (a +ℤ b) (A + B)
  add_within h =
      let m = p.small in
      let n = q.small in
      record { whole = add_whole p.whole q.whole (omega arith); small = omega (arith, abs_add a b) }

  pub sub_within : A + B ≤ most → Within (sub binary64 x y) (a -ℤ b) (A + B)
  sub_within h =
      let m = p.small in
      let n = q.small in
      record { whole = sub_whole p.whole q.whole (omega arith); small = omega (arith, abs_sub a b) }

  pub mul_within : A * B ≤ most → Within (mul binary64 x y) (a *ℤ b) (A * B)
  mul_within h =
      let s : nat_abs (a *ℤ b) ≤ A * B = rw (abs_mul a b) (mul-le-mul p.small q.small) in
      record { whole = mul_whole p.whole q.whole (omega arith); small = s }

module _ {x y : Float} {a b : ℤ} {B : ℕ} (p : Within x a B) (q : Within y b B) where
  pub max_within : Within (larger_of x y) (max_z a b) B
  max_within = record { whole = max_whole p.whole q.whole; small = max_either (λ (z : ℤ). nat_abs z ≤ B) a b p.small q.small }

  pub min_within : Within (smaller_of x y) (min_z a b) B
  min_within = record { whole = min_whole p.whole q.whole; small = min_either (λ (z : ℤ). nat_abs z ≤ B) a b p.small q.small }
