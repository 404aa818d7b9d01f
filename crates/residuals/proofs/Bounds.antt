-- The bound of a box is at most the cost of each of its vectors, and equal for a box of one vector: of every cost that is made from the
-- points' least sizes alone and never falls when one of them grows, and so for the four values of p; residuals have a limit. Assumes
-- nothing.
use mathlib.Core.Path.{◌≡◌, refl, sym, ap, ap₂, ◌∙◌}
use mathlib.Core.Bool.{Bool, true, false, cond}
use mathlib.Core.List.{List, [], ◌∷◌, map}
use Prim.Native.Nat.{ℕ, zero, suc, ◌+◌, ◌*◌, ◌^◌, ◌≤◌}
use native.Mathlib.Nat.{mul-le-mul}
use native.Mathlib.Omega.{arith}
use borrow.Author.Tests.{lt-ltb, ne_eqb}
use lib.Dec.{eqb}
use lib.IntN.{ℤ, pos, negsuc, nat_abs, ◌+ℤ◌, ◌-ℤ◌, ◌*ℤ◌}
use lib.Pow.{pow_mono}
use lib.Signed.{lt_z, ◌≤ℤ◌, ≤ℤ_refl}
use Rattle.integers.proofs.Tests.{by_test}
use Rattle.integers.proofs.Parts.{apart, abs_parts, abs_add, abs_sub, abs_mul, le_parts, lt_z_true, pos_up, pos_dn}
use Rattle.integers.proofs.Order.{max_same, min_same, product_le_max, min_le_product, add_mono, sub_mono}
use Rattle.boxes.specs.declared.Box.{Box}
use Rattle.boxes.specs.Boxes.{InBox}
use Rattle.boxes.proofs.Volume.{between_at, high_low}
use Rattle.jobs.specs.declared.Model.{Model}
use Rattle.points.specs.declared.Point.{Point}
use Rattle.points.specs.Points.{xs}
use Rattle.residuals.specs.Cost.{at, least, residual, size_at, e_min, e_max, nearest_to0, least_size, unless_gap}
use Rattle.residuals.specs.Cost.{total_loss, least_at, cost, least_over, bound}
use Rattle.ranks.specs.Largest.{nth_largest}
use Rattle.ranks.specs.Laws.{Rises}
use Rattle.ranks.proofs.Largest.{nth_largest_rises}
use Rattle.residuals.specs.Laws.{AllBounds, PointBounds, AllMade, loss_sum, make_of, Made, Small, SmallResidual}
use Rattle.integers.specs.Sums.{Σ}
use Rattle.residuals.specs.Inside.{box_of, dot, dot_max, dot_min}
use Rattle.residuals.proofs.Least.{least_mono, loss_of_point, unless_mono}
use Rattle.residuals.proofs.Rising.{made_mono, losses_rise}

-- the least size between two ends is at most the size of each number between them
nearest_le : (a b e : ℤ) → a ≤ℤ e → e ≤ℤ b → nearest_to0 a b ≤ nat_abs e
unfolding nearest_to0
nearest_le a b e h k =
    let ha = le_parts h in
    let hb = le_parts k in
    by_test (lt_z (pos 0) a) _ _ (λ (m : ℕ). m ≤ nat_abs e)
    (λ s. omega (arith, lt_z_true (pos 0) a s, pos_up 0, pos_dn 0, apart a, abs_parts a, abs_parts e))
    (λ s. by_test (lt_z b (pos 0)) _ _ (λ (m : ℕ). m ≤ nat_abs e)
    (λ t. omega (arith, lt_z_true b (pos 0) t, pos_up 0, pos_dn 0, apart b, abs_parts b, abs_parts e))
    (λ t. omega arith))

nearest_same : (e : ℤ) → nearest_to0 e e ≡ nat_abs e
unfolding nearest_to0
nearest_same (pos zero) = refl
nearest_same (pos (suc n)) = rw (lt-ltb 0 (suc n) (omega arith)) refl
nearest_same (negsuc n) = refl

-- Σ w × x lies between its ends over a box
module _ (B : Box) (v : List ℤ) (inside : InBox v B) (b : ℕ) (x : List ℤ) where
  dot_le_max : (k : ℕ) → dot v b x k ≤ℤ dot_max B b x k
  unfolding Σ
  dot_le_max zero = ≤ℤ_refl (pos 0)
  dot_le_max (suc k) =
      let w = between_at inside.between (b + k) in
      add_mono (dot_le_max k) (product_le_max (at B.low (b + k)) (at B.high (b + k)) (at v (b + k)) (at x k) w.0 w.1)

  min_le_dot : (k : ℕ) → dot_min B b x k ≤ℤ dot v b x k
  unfolding Σ
  min_le_dot zero = ≤ℤ_refl (pos 0)
  min_le_dot (suc k) =
      let w = between_at inside.between (b + k) in
      add_mono (min_le_dot k) (min_le_product (at B.low (b + k)) (at B.high (b + k)) (at v (b + k)) (at x k) w.0 w.1)

-- and is both of them over a box of one vector
module _ (v : List ℤ) (b : ℕ) (x : List ℤ) where
  dot_max_same : (k : ℕ) → dot_max (box_of v v) b x k ≡ dot v b x k
  unfolding Σ
  dot_max_same zero = refl
  dot_max_same (suc k) = λ i. dot_max_same k i +ℤ max_same (at v (b + k) *ℤ at x k) i

  dot_min_same : (k : ℕ) → dot_min (box_of v v) b x k ≡ dot v b x k
  unfolding Σ
  dot_min_same zero = refl
  dot_min_same (suc k) = λ i. dot_min_same k i +ℤ min_same (at v (b + k) *ℤ at x k) i

-- Lemma 2 of source document 000, of one point and line
size_below : (m : Model) (B : Box) (v : List ℤ) → InBox v B → (q : Point) (j : ℕ) → least_size m B q j ≤ size_at m v q j
unfolding least_size size_at e_min e_max residual
size_below m B v inside q j =
    let y = q.y *ℤ pos (2 ^ m.scale) in
    nearest_le (e_min m B q j) (e_max m B q j) (residual m v q j)
    (sub_mono (≤ℤ_refl y) (dot_le_max B v inside (j * m.d) (xs q) m.d))
    (sub_mono (≤ℤ_refl y) (min_le_dot B v inside (j * m.d) (xs q) m.d))

size_one : (m : Model) (v : List ℤ) (q : Point) (j : ℕ) → least_size m (box_of v v) q j ≡ size_at m v q j
unfolding least_size size_at e_min e_max residual
size_one m v q j =
    let y = q.y *ℤ pos (2 ^ m.scale) in
    (λ i. nearest_to0 (y -ℤ dot_max_same v (j * m.d) (xs q) m.d i) (y -ℤ dot_min_same v (j * m.d) (xs q) m.d i))
    ∙ nearest_same (residual m v q j)

pub point_bounds : PointBounds
unfolding least_over least_at
point_bounds m q =
    record {
      sound = λ B v inside. unless_mono q (least_mono (least_size m B q) (size_at m v q) (size_below m B v inside q) m.n);
      tight = λ B e.
          let v = B.low in
          ap (λ (h : List ℤ). unless_gap q (least (least_size m (box_of v h) q) m.n)) (high_low B e)
          ∙ ap (λ (f : ℕ → ℕ). unless_gap q (least f m.n)) (λ i j. size_one m v q j i);
    }

-- whatever is made of these and rises
pub all_made : AllMade
all_made make rises m qs =
    record {
      sound = λ B v inside. made_mono make rises (least_over m B) (least_at m v) (λ q. (point_bounds m q).sound B v inside) qs;
      tight = λ B e. ap (λ (f : Point → ℕ). make (map f qs)) (λ i q. (point_bounds m q).tight B e i);
    }

pub total_of_least : (m : Model) (f : Point → ℕ → ℕ) (qs : List Point) →
    total_loss m f qs ≡ loss_sum m.p m.eps (map (λ q. unless_gap q (least (f q) m.n)) qs)
unfolding total_loss loss_sum
total_of_least m f [] = refl
total_of_least m f (q ∷ qs) = ap₂ ◌+◌ (loss_of_point m.p m.eps q (f q) m.n) (total_of_least m f qs)

either_rises : (t : Bool) {f g : List ℕ → ℕ} → Rises f → Rises g → Rises (λ sizes. cond t (f sizes) (g sizes))
either_rises true a b = a
either_rises false a b = b

module _ (m : Model) (qs : List Point) where
  pub made : Made m qs
  unfolding cost bound least_at least_over make_of
  made =
      record {
        rises = either_rises (eqb m.p 3) (nth_largest_rises m.eps) (losses_rise m.p m.eps);
        of_cost = λ v. ap (cond (eqb m.p 3) (nth_largest m.eps (map (least_at m v) qs))) (total_of_least m (size_at m v) qs);
        of_bound = λ B. ap (cond (eqb m.p 3) (nth_largest m.eps (map (least_over m B) qs))) (total_of_least m (least_size m B) qs);
      }

pub bound_laws : AllBounds
bound_laws m qs =
    let laws = all_made (make_of m) (made m qs).rises m qs in
    let of = made m qs in
    record {
      sound = λ B v inside. omega (arith, of.of_cost v, of.of_bound B, laws.sound B v inside);
      tight = λ B e. of.of_bound B ∙ laws.tight B e ∙ sym (of.of_cost B.low);
    }

-- for p of 0, 1 or 2 they are sums
module _ (m : Model) (qs : List Point) (h : m.p ≤ 2) where
  no_rank : eqb m.p 3 ≡ false
  no_rank = ne_eqb m.p 3 (λ (e : m.p ≡ 3). omega arith)

  pub cost_sum : (v : List ℤ) → cost m qs v ≡ total_loss m (size_at m v) qs
  unfolding cost
  cost_sum v = ap (λ (t : Bool). cond t (nth_largest m.eps (map (least_at m v) qs)) (total_loss m (size_at m v) qs)) no_rank

  pub bound_sum : (B : Box) → bound m qs B ≡ total_loss m (least_size m B) qs
  unfolding bound
  bound_sum B = ap (λ (t : Bool). cond t (nth_largest m.eps (map (least_over m B) qs)) (total_loss m (least_size m B) qs)) no_rank

dot_small : (v : List ℤ) (b : ℕ) (x : List ℤ) → Small v → Small x → (k : ℕ) → nat_abs (dot v b x k) ≤ k * 1073741824
unfolding Σ
dot_small v b x hv hx zero = omega arith
dot_small v b x hv hx (suc k) =
    let w = at v (b + k) in
    omega (arith, abs_add (dot v b x k) (w *ℤ at x k), abs_mul w (at x k), mul-le-mul (hv (b + k)) (hx k), dot_small v b x hv hx k)

pub residual_small : (m : Model) (v : List ℤ) (q : Point) (j : ℕ) → SmallResidual m v q j
unfolding residual
residual_small m v q j =
    record {
      small = λ s d hv hq.
          let y = q.y in
          let power : nat_abs (pos (2 ^ m.scale)) ≤ 32768 = pow_mono {i = m.scale} {j = 15} s in
          omega (
            arith,
            abs_sub (y *ℤ pos (2 ^ m.scale)) (dot v (j * m.d) (xs q) m.d),
            abs_mul y (pos (2 ^ m.scale)),
            mul-le-mul (hq 0) power,
            dot_small v (j * m.d) (xs q) hv (λ k. hq (suc k)) m.d,
          );
    }
