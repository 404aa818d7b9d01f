-- Before each job at least (jobs left) × (T / count) splits are left. Assumes nothing.
use mathlib.Core.Path.{◌≡◌, ap, ◌∙◌}
use Prim.Native.Nat.{ℕ, zero, suc, ◌+◌, ◌-◌, ◌*◌, ◌/◌, ◌≤◌, ◌<◌}
use native.Mathlib.Nat.{mul_comm, suc-mul, mul-le-mul_left, mul-div-le, le-div_iff_mul-le, div-le_self}
use native.Mathlib.Omega.{arith}
use Rattle.shares.specs.Shares.{left_before, budget_of, splits_of}
use Rattle.shares.specs.Laws.{Shared, AllShared}

-- a share of what is left is at least q where q for each is left
share : (n left q : ℕ) → 0 < n → n * q ≤ left → q ≤ left / n
share n left q some enough = (le-div_iff_mul-le {k = n} {x = q} {y = left} some).1 (omega (arith, mul_comm n q))

-- one job out of n
spends : (n m left q s g : ℕ) → n ≡ suc m → n * q ≤ left → s ≤ g → g ≤ left / n → m * q ≤ left - s
spends n m left q s g more enough few most =
    let share_q : q ≤ left / n = share n left q (omega arith) enough in
    let whole : n * (left / n) ≡ m * (left / n) + left / n = ap (λ (k : ℕ). k * (left / n)) more ∙ suc-mul m (left / n) in
    omega (arith, whole, mul-div-le left n, mul-le-mul_left m share_q)

module _ (own : ℕ → ℕ) (spent : ℕ → ℕ → ℕ) (total count : ℕ) (within : (i b : ℕ) → spent i b ≤ b) where
  abbrev left : ℕ → ℕ
  left i = left_before own spent total count i

  abbrev budget : ℕ → ℕ
  budget i = budget_of own spent total count i

  lasts : (i : ℕ) → i ≤ count → (count - i) * (total / count) ≤ left i
  unfolding left_before
  lasts zero here =
      let all : count - 0 ≡ count = omega arith in
      rw all (mul-div-le total count)
  lasts (suc i) here =
      let more : count - i ≡ suc (count - suc i) = omega arith in
      let most : budget i ≤ left i / (count - i) = omega arith in
      spends (count - i) (count - suc i) (left i) (total / count) (spent i (budget i)) (budget i) more (lasts i (omega arith))
      (within i (budget i)) most

  affordable : (i : ℕ) → budget i ≤ left i
  affordable i = omega (arith, div-le_self (left i) (count - i))

  adds_up : (n : ℕ) → n ≤ count → splits_of own spent total count n + left n ≡ total
  unfolding left_before splits_of
  adds_up zero here = omega arith
  adds_up (suc n) here = omega (arith, adds_up n (omega arith), within n (budget n), affordable n)

  shared : Shared own spent total count
  shared = record {
    together = omega (arith, adds_up count (omega arith));
    fair = λ i here. omega (arith, share (count - i) (left i) (total / count) (omega arith) (lasts i (omega arith)));
    most = λ i. (omega arith, affordable i);
  }

pub all_shared : AllShared
all_shared = shared
