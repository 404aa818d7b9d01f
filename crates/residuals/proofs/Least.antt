-- The least of values over the lines, and the loss of the least size. Assumes nothing.
use mathlib.Core.Path.{◌≡◌, refl, sym, ap, ◌∙◌}
use mathlib.Core.Bool.{Bool, true, false, cond}
use Prim.Native.Nat.{ℕ, zero, suc, ◌+◌, ◌*◌, ◌≤◌, ◌<◌, min}
use native.Mathlib.Nat.{mul-le-mul_right, add-mul, min-eq_left, min-eq_right}
use native.Mathlib.Numerals.{add-one}
use native.Mathlib.Omega.{arith, min_cases}
use lib.Dec.{T, ltb, ltb→lt}
use Rattle.integers.proofs.Tests.{by_cond}
use Rattle.loss.specs.Loss.{loss_of}
use Rattle.loss.proofs.Laws.{loss_mono}
use Rattle.points.specs.declared.Point.{Point}
use Rattle.points.specs.Points.{is_gap}
use Rattle.residuals.specs.Cost.{least, unless_gap}
use Rattle.residuals.specs.Inside.{least_from}

-- one line more
pub least_more : (f : ℕ → ℕ) (j : ℕ) → 1 ≤ j → least f (j + 1) ≡ min (least f j) (f j)
unfolding least
least_more f zero h = absurd (omega arith)
least_more f (suc j) h = rw add-one

-- the least rises with the values
pub least_mono : (f g : ℕ → ℕ) → ((j : ℕ) → f j ≤ g j) → (n : ℕ) → least f n ≤ least g n
unfolding least
least_mono f g h zero = omega arith
least_mono f g h (suc zero) = h 0
least_mono f g h (suc (suc n)) = omega (arith, least_mono f g h (suc n), h (suc n))

-- a size of 0 costs nothing
below_zero : (n : ℕ) → T (ltb n 0) → ⊥
below_zero n t = let h : n < 0 = ltb→lt n 0 t in omega arith

pub loss_zero : (p ε : ℕ) → loss_of p ε 0 ≡ 0
unfolding loss_of
loss_zero zero ε = by_cond (λ (n : ℕ). n ≡ 0) (ltb ε 0) (λ t. absurd (below_zero ε t)) (λ t. refl)
loss_zero (suc zero) ε = omega arith
loss_zero (suc (suc zero)) ε = omega arith
loss_zero (suc (suc (suc p))) ε = refl

-- "the least loss among the lines is the loss of the least |e|": one loss for each point is enough
loss_of_least : (p ε : ℕ) (f : ℕ → ℕ) (n : ℕ) → least (λ j. loss_of p ε (f j)) n ≡ loss_of p ε (least f n)
unfolding least
loss_of_least p ε f zero = sym (loss_zero p ε)
loss_of_least p ε f (suc zero) = refl
loss_of_least p ε f (suc (suc n)) =
    ap (λ (m : ℕ). min m (loss_of p ε (f (suc n)))) (loss_of_least p ε f (suc n))
    ∙ min_cases (least f (suc n)) (f (suc n))
    (min (loss_of p ε (least f (suc n))) (loss_of p ε (f (suc n))) ≡ loss_of p ε (min (least f (suc n)) (f (suc n))))
    (λ k e. rw e (min-eq_left (loss_mono p ε k)))
    (λ k e. rw e (min-eq_right (loss_mono p ε k)))

-- so it is with a gap, where both are 0
pub loss_of_point : (p ε : ℕ) (q : Point) (f : ℕ → ℕ) (n : ℕ) →
    unless_gap q (least (λ j. loss_of p ε (f j)) n) ≡ loss_of p ε (unless_gap q (least f n))
unfolding unless_gap
loss_of_point p ε q f n = by_gap (is_gap q)
  where
    by_gap : (gap : Bool) → cond gap 0 (least (λ j. loss_of p ε (f j)) n) ≡ loss_of p ε (cond gap 0 (least f n))
    by_gap true = sym (loss_zero p ε)
    by_gap false = loss_of_least p ε f n

pub unless_mono : (q : Point) {a b : ℕ} → a ≤ b → unless_gap q a ≤ unless_gap q b
unfolding unless_gap
unless_mono q {a} {b} h = by_gap (is_gap q)
  where
    by_gap : (gap : Bool) → cond gap 0 a ≤ cond gap 0 b
    by_gap true = omega arith
    by_gap false = h

-- the least with a first value to start from
pub from_le : (most : ℕ) (f : ℕ → ℕ) (n : ℕ) → least_from most f n ≤ most
unfolding least_from
from_le most f zero = omega arith
from_le most f (suc n) = omega (arith, from_le most f n)

from_least : (most : ℕ) (f : ℕ → ℕ) (n : ℕ) → 1 ≤ n → least_from most f n ≡ min most (least f n)
unfolding least_from least
from_least most f zero h = absurd (omega arith)
from_least most f (suc zero) h = refl
from_least most f (suc (suc n)) h = omega (arith, from_least most f (suc n) (omega arith))

pub least_first : (f : ℕ → ℕ) (n : ℕ) → 1 ≤ n → least f n ≤ f 0
unfolding least
least_first f zero h = absurd (omega arith)
least_first f (suc zero) h = omega arith
least_first f (suc (suc n)) h = omega (arith, least_first f (suc n) (omega arith))

-- a first value that no other exceeds does not matter
pub from_large : (most : ℕ) (f : ℕ → ℕ) (n : ℕ) → 1 ≤ n → f 0 ≤ most → least_from most f n ≡ least f n
from_large most f n h k = omega (arith, from_least most f n h, least_first f n h)

-- a line's coordinates end within the vector
pub line_room : (j n d room : ℕ) → j < n → n * d ≤ room → j * d + d ≤ room
line_room j n d room h k =
    let g : j + 1 ≤ n = omega arith in
    omega (arith, mul-le-mul_right d g, add-mul j 1 d)
