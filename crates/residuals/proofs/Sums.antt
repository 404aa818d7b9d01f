-- Sums, and of losses over the first points of a store: one more, their size, and all of them. Assumes nothing.
use mathlib.Core.Path.{◌≡◌, refl, ap, ◌∙◌}
use mathlib.Core.List.{List, [], ◌∷◌, ◌++◌}
use Prim.Native.Nat.{ℕ, zero, suc, ◌+◌, ◌*◌, ◌-◌, ◌/◌, ◌≤◌, ◌<◌, min}
use native.Mathlib.Nat.{add-suc, add-zero}
use native.Mathlib.Numerals.{add-one}
use native.Mathlib.Omega.{arith}
use lib.Dec.{ltb}
use lib.ListN.{length}
use Rattle.integers.proofs.Tests.{by_cond}
use Rattle.loss.specs.Loss.{loss_of}
use Rattle.loss.proofs.Laws.{loss_le}
use Rattle.jobs.specs.declared.Model.{Model}
use Rattle.points.specs.declared.Point.{Point}
use Rattle.points.specs.Points.{point_at, first_points, points_of}
use Rattle.points.proofs.Laws.{points_more, points_length}
use Rattle.residuals.specs.Cost.{least, unless_gap, total_loss}
use Rattle.integers.specs.Sums.{sum_of}
use Rattle.residuals.proofs.Least.{loss_of_point}

pub sum_more : (f : ℕ → ℕ) (n : ℕ) → sum_of f (n + 1) ≡ sum_of f n + f n
unfolding sum_of
sum_more f n = rw add-one

pub sum_same : (f g : ℕ → ℕ) (n : ℕ) → ((k : ℕ) → k < n → f k ≡ g k) → sum_of f n ≡ sum_of g n
unfolding sum_of
sum_same f g zero h = refl
sum_same f g (suc n) h = omega (arith, sum_same f g n (λ k p. h k (omega arith)), h n (omega arith))

sum_rises : (f : ℕ → ℕ) (i k : ℕ) → sum_of f i ≤ sum_of f (i + k)
unfolding sum_of
sum_rises f i zero = rw add-zero (omega arith)
sum_rises f i (suc k) = rw add-suc (omega (arith, sum_rises f i k))

-- where a cap is reached what is behind does not matter
pub cap_stays : (f : ℕ → ℕ) (i n cap : ℕ) → i ≤ n → cap ≤ sum_of f i → cap ≡ min (sum_of f n) cap
cap_stays f i n cap h l = let e : n ≡ i + (n - i) = omega arith in omega (arith, sum_rises f i (n - i), ap (sum_of f) e)

-- no loss exceeds 16,777,215²
abbrev pub LossSmall : ℕ → ℕ → Type 0
LossSmall p ε = (a : ℕ) → loss_of p ε a ≤ 281474943156225

-- under a threshold that check 4 lets through, or where a loss is 0 or 1
pub threshold_small : (p ε : ℕ) → ε ≤ 16777215 → LossSmall p ε
threshold_small p ε cut a = loss_le p ε a cut

pub count_small : (ε : ℕ) → LossSmall 0 ε
unfolding loss_of
count_small ε a = by_cond (λ (n : ℕ). n ≤ 281474943156225) (ltb ε a) (λ t. omega arith) (λ t. omega arith)

module _ (m : Model) (size : Point → ℕ → ℕ) where
  -- what a point adds
  added : Point → ℕ
  added q = unless_gap q (least (λ j. loss_of m.p m.eps (size q j)) m.n)

  total_snoc : (qs : List Point) (q : Point) → total_loss m size (qs ++ (q ∷ [])) ≡ total_loss m size qs + added q
  unfolding total_loss added
  total_snoc [] q = omega arith
  total_snoc (p ∷ qs) q = omega (arith, total_snoc qs q)

  -- the largest total under a threshold that check 4 lets through
  total_le : m.eps ≤ 16777215 → (qs : List Point) → total_loss m size qs ≤ length qs * 281474943156225
  unfolding total_loss
  total_le cut [] = omega arith
  total_le cut (q ∷ qs) =
      let of-least = loss_of_point m.p m.eps q (size q) m.n in
      omega (arith, total_le cut qs, of-least, loss_le m.p m.eps (unless_gap q (least (size q) m.n)) cut)

  module _ (s : List ℕ) where
    -- the largest total of a store that check 1 lets through
    pub total_most : 1 ≤ m.n → m.eps ≤ 16777215 → length s ≤ 49152 → total_loss m size (points_of s) ≤ 1152921367167897600
    unfolding points_of
    total_most lines cut few = omega (arith, total_le cut (first_points s (length s / 12)), points_length s (length s / 12))

    total_more : (i : ℕ) →
        total_loss m size (first_points s (i + 1))
        ≡ total_loss m size (first_points s i) + added (point_at s i)
    total_more i = ap (total_loss m size) (points_more s i) ∙ total_snoc (first_points s i) (point_at s i)

    -- the sum over the first i records of a store, as a loop has it
    pub record Summed (i sum : ℕ) : Type 0 where
      pub few : i ≤ length s / 12
      pub total : sum ≡ total_loss m size (first_points s i)
      pub small : sum ≤ i * 281474943156225

    pub none_summed : Summed 0 0
    unfolding total_loss first_points
    none_summed = record { few = omega arith; total = refl; small = omega arith }

    -- one record more: the loss of its least size
    pub one_summed : {i sum : ℕ} (loss : ℕ) → LossSmall m.p m.eps → i < length s / 12 →
        loss ≡ loss_of m.p m.eps (unless_gap (point_at s i) (least (size (point_at s i)) m.n)) → Summed i sum
        → Summed (i + 1) (sum + loss)
    unfolding added
    one_summed {i} {sum} loss cut h e g =
        let q = point_at s i in
        let a = unless_gap q (least (size q) m.n) in
        record {
          few = omega arith;
          total = omega (arith, g.total, e, total_more i, loss_of_point m.p m.eps q (size q) m.n);
          small = omega (arith, g.small, e, cut a);
        }

    pub all_total : {i sum : ℕ} → Summed i sum → length s / 12 ≤ i → sum ≡ total_loss m size (points_of s)
    unfolding points_of
    all_total {i} g h =
        let e : i ≡ length s / 12 = omega (arith, g.few) in
        g.total ∙ ap (λ (k : ℕ). total_loss m size (first_points s k)) e
