-- The first of the lines with the least size, and the label that names it. Assumes nothing.
use mathlib.Core.Path.{◌≡◌, refl, sym, ap, subst, ◌∙◌}
use mathlib.Core.Bool.{Bool, false, cond}
use mathlib.Core.List.{List}
use mathlib.Core.Logic.{◌⊎◌, inl, inr, ⊎_elim, ◌≢◌}
use Prim.Native.Nat.{ℕ, zero, suc, ◌+◌, ◌≤◌, ◌<◌}
use native.Mathlib.Nat.{min-eq_left, min-eq_right, eq-or-lt_of_le}
use native.Mathlib.Numerals.{add-one}
use native.Mathlib.Omega.{arith}
use borrow.Author.Tests.{ltb-true, ltb-false, le-leb, lt-leb}
use lib.Dec.{leb, ltb}
use lib.IntN.{ℤ}
use Rattle.integers.proofs.Tests.{by_test, le_or_lt}
use Rattle.jobs.specs.declared.Model.{Model}
use Rattle.points.specs.declared.Point.{Point}
use Rattle.points.specs.Points.{is_gap}
use Rattle.residuals.specs.Cost.{least, size_at}
use Rattle.labels.specs.Labels.{first_least, nearest_label, fitting, sample_label, label}
use Rattle.labels.specs.Laws.{TwoFit, OneFits, AllLabelled}

-- one line more
pub first_least_more : (f : ℕ → ℕ) (j : ℕ) → 1 ≤ j → first_least f (j + 1) ≡ cond (ltb (f j) (least f j)) j (first_least f j)
unfolding first_least
first_least_more f zero h = absurd (omega arith)
first_least_more f (suc j) h = rw add-one

-- the first of the least values: it is one of the n, the least, no other is smaller, and those before it are larger
pub record First (f : ℕ → ℕ) (n k : ℕ) : Type 0 where
  pub one_of : k < n
  pub is_least : f k ≡ least f n
  pub none_smaller : (j : ℕ) → j < n → f k ≤ f j
  pub lowest : (j : ℕ) → j < k → f k < f j

-- a place below n + 2 is the last or one before it
last_or : (n j : ℕ) → j < suc (suc n) → (P : ℕ → Type 0) → P (suc n) → (j < suc n → P j) → P j
last_or n j h P last before =
    ⊎_elim (λ (p : suc n ≤ j). let e : suc n ≡ j = omega arith in subst P e last) before (le_or_lt (suc n) j)

pub first_least_lem : (f : ℕ → ℕ) (n : ℕ) → 1 ≤ n → First f n (first_least f n)
unfolding first_least least
first_least_lem f zero h = absurd (omega arith)
first_least_lem f (suc zero) h =
    record {
      one_of = omega arith;
      is_least = refl;
      none_smaller = λ j k. let e : j ≡ 0 = omega arith in rw e (omega arith);
      lowest = λ j k. absurd (omega arith);
    }
first_least_lem f (suc (suc n)) h =
    let g = first_least_lem f (suc n) (omega arith) in
    let k = first_least f (suc n) in
    by_test (ltb (f (suc n)) (least f (suc n))) (suc n) k (First f (suc (suc n)))
    (λ t. let less = ltb-true (f (suc n)) (least f (suc n)) t in
    record {
      one_of = omega arith;
      is_least = sym (min-eq_right (omega arith));
      none_smaller = λ j h. last_or n j h (λ (j : ℕ). f (suc n) ≤ f j) (omega arith) (λ p. omega (arith, g.none_smaller j p, g.is_least));
      lowest = λ j h. omega (arith, g.none_smaller j h, g.is_least);
    })
    (λ t. let more = ltb-false (f (suc n)) (least f (suc n)) t in
    record {
      one_of = omega (arith, g.one_of);
      is_least = g.is_least ∙ sym (min-eq_left (omega arith));
      none_smaller = λ j h. last_or n j h (λ (j : ℕ). f k ≤ f j) (omega (arith, g.is_least)) (g.none_smaller j);
      lowest = g.lowest;
    })

label_by : (m : Model) (v : List ℤ) (q : Point) {gap : Bool} → is_gap q ≡ gap → label m v q ≡ cond gap 6 (sample_label m v q)
unfolding label
label_by m v q e = ap (λ (gap : Bool). cond gap 6 (sample_label m v q)) e

-- how many lines fit
pub fitting_more : (f : ℕ → ℕ) (ε n : ℕ) → fitting f ε (n + 1) ≡ fitting f ε n + cond (leb (f n) ε) 1 0
unfolding fitting
fitting_more f ε n = ap (fitting f ε) (add-one n)

same_or_not : (a b : ℕ) → (a ≡ b) ⊎ (a ≡ b → ⊥)
same_or_not a b =
    ⊎_elim
    (λ (h : a ≤ b). ⊎_elim (λ (e : a ≡ b). inl e) (λ (l : a < b). inr (λ e. omega arith)) (eq-or-lt_of_le h))
    (λ (l : b < a). inr (λ e. omega arith))
    (le_or_lt a b)

module _ (f : ℕ → ℕ) (ε : ℕ) where
  counted : (n : ℕ) → f n ≤ ε → ◌≡◌ {A = ℕ} (cond (leb (f n) ε) 1 0) 1
  counted n h = ap {B = ℕ} (λ (t : Bool). cond t 1 0) (le-leb (f n) ε h)

  not_counted : (n : ℕ) → ε < f n → ◌≡◌ {A = ℕ} (cond (leb (f n) ε) 1 0) 0
  not_counted n h = ap {B = ℕ} (λ (t : Bool). cond t 1 0) (lt-leb (f n) ε h)

  pub once : (n : ℕ) → cond (leb (f n) ε) 1 0 ≤ 1
  once n = by_test (leb (f n) ε) 1 0 (λ (x : ℕ). x ≤ 1) (λ t. omega arith) (λ t. omega arith)

  none_fit : (n : ℕ) → ((j : ℕ) → j < n → ε < f j) → fitting f ε n ≡ 0
  unfolding fitting
  none_fit zero h = refl
  none_fit (suc n) h = omega (arith, none_fit n (λ j l. h j (omega arith)), not_counted n (h n (omega arith)))

  one_fits : (n i : ℕ) → i < n → f i ≤ ε → 1 ≤ fitting f ε n
  unfolding fitting
  one_fits zero i l h = absurd (omega arith)
  one_fits (suc n) i l h =
      let k : i ≤ n = omega arith in
      ⊎_elim
      (λ (e : i ≡ n). omega (arith, counted n (subst (λ (j : ℕ). f j ≤ ε) e h)))
      (λ (e : i < n). omega (arith, one_fits n i e h))
      (eq-or-lt_of_le k)

  two_fit : (n i j : ℕ) → i < j → j < n → f i ≤ ε → f j ≤ ε → 2 ≤ fitting f ε n
  unfolding fitting
  two_fit zero i j o l a b = absurd (omega arith)
  two_fit (suc n) i j o l a b =
      let k : j ≤ n = omega arith in
      ⊎_elim
      (λ (e : j ≡ n). let i-before : i < n = omega arith in
      omega (arith, counted n (subst (λ (j : ℕ). f j ≤ ε) e b), one_fits n i i-before a))
      (λ (e : j < n). omega (arith, two_fit n i j o e a b))
      (eq-or-lt_of_le k)

  at_most_one : (n line : ℕ) → ((j : ℕ) → j < n → j ≢ line → ε < f j) → fitting f ε n ≤ 1
  unfolding fitting
  at_most_one zero line h = omega arith
  at_most_one (suc n) line h =
      ⊎_elim
      (λ (e : n ≡ line). omega (arith, none_fit n (λ j l. h j (omega arith) (λ q. omega arith)), once n))
      (λ (e : n ≡ line → ⊥). omega (arith, at_most_one n line (λ j l. h j (omega arith)), not_counted n (h n (omega arith) e)))
      (same_or_not n line)

-- the label that a sample has
module _ (m : Model) (v : List ℤ) (q : Point) (h : 1 ≤ m.n) (sample : is_gap q ≡ false) where
  abbrev f : ℕ → ℕ
  f = size_at m v q

  abbrev k : ℕ
  k = first_least f m.n

  label_if : {t : Bool} → leb 2 (fitting f m.eps m.n) ≡ t → label m v q ≡ cond t 5 (nearest_label m v q)
  unfolding sample_label
  label_if e = label_by m v q sample ∙ ap (λ (t : Bool). cond t 5 (nearest_label m v q)) e

  nearest_if : {t : Bool} → fitting f m.eps m.n ≤ 1 → leb (least f m.n) m.eps ≡ t → label m v q ≡ cond t (suc k) 0
  unfolding nearest_label
  nearest_if few e = label_if (lt-leb 2 (fitting f m.eps m.n) (omega arith)) ∙ ap (λ (t : Bool). cond t (suc k) 0) e

  undecided : (i j : ℕ) → TwoFit m v q i j → label m v q ≡ 5
  undecided i j t = label_if (le-leb 2 _ (two_fit f m.eps m.n i j t.two t.one_of t.first_fits t.second_fits))

  named : (line : ℕ) → OneFits m v q line → label m v q ≡ suc line
  named line o =
      let g = first_least_lem f m.n h in
      let fits : f k ≤ m.eps = omega (arith, g.none_smaller line o.one_of, o.fits) in
      let same : k ≡ line =
      ⊎_elim (λ (e : k ≡ line). e) (λ (e : k ≡ line → ⊥). absurd (omega (arith, o.alone k g.one_of e))) (same_or_not k line) in
      let least_fits : least f m.n ≤ m.eps = omega (arith, g.is_least) in
      nearest_if (at_most_one f m.eps m.n line o.alone) (le-leb _ _ least_fits) ∙ ap suc same

  no_line : ((j : ℕ) → j < m.n → m.eps < f j) → label m v q ≡ 0
  no_line past =
      let g = first_least_lem f m.n h in
      let far : m.eps < least f m.n = omega (arith, past k g.one_of, g.is_least) in
      nearest_if (omega (arith, none_fit f m.eps m.n past)) (lt-leb _ _ far)

pub all_labelled : AllLabelled
all_labelled m v q h = record { gap = label_by m v q; undecided = undecided m v q h; named = named m v q h; no_line = no_line m v q h }
