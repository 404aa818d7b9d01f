-- A whole number against numbers of any kind: the larger it is, the fewer exceed it. Assumes nothing.
use mathlib.Core.Path.{◌≡◌, sym, ap, ◌∙◌, subst}
use mathlib.Core.Bool.{Bool, true, false, not, cond, true≢false}
use mathlib.Core.List.{List, []}
use mathlib.Core.Logic.{⊎_elim}
use Prim.Native.Nat.{ℕ, zero, suc, ◌+◌, ◌-◌, ◌*◌, ◌≤◌, ◌<◌}
use native.Mathlib.Nat.{add-zero, add-suc, mul-one, mul_right_comm, mul-le-mul_right, mul-lt-mul_of_pos_right, not-le_of_lt}
use native.Mathlib.Omega.{arith}
use lib.Dec.{T, ltb→lt, lt→ltb}
use lib.IntN.{pos}
use lib.ListN.{length, get_or}
use lib.Ieee.{Float, nan, inf, fin, binary64, up, down, lt, of_int}
use lib.Ieee.Exact.{HasValue}
use lib.Ieee.Fits.{down_pos}
use lib.Ieee.Back.{round_whole}
use Rattle.integers.proofs.Tests.{by_cond, le_or_lt}
use Rattle.eval_whole.proofs.Laws.{most}
use Rattle.integers.specs.Sums.{sum_of}
use Rattle.eval_lanes.specs.Lanes.{lane}
use Rattle.eval_selection.specs.Selection.{exceeding_in, exceeding_all, selected}
use Rattle.eval_selection.proofs.Exact.{selected_is}

-- a / e is below n / d, over one denominator, exactly if a × d < n × e
scaled : (a b x y e f n d : ℕ) → 0 < f → 0 < e → a ≤ b → x * 1 ≡ a * e → y * 1 ≡ b * f → y * d < n * f → x * d < n * e
scaled a b x y e f n d F E h p q l =
    let whole : b * d < n =
    ⊎_elim (λ (g : n ≤ b * d). absurd
    (not-le_of_lt l (subst (λ (z : ℕ). n * f ≤ z) (mul_right_comm b d f ∙ ap (λ (z : ℕ). z * d) (sym q ∙ mul-one y))
    (mul-le-mul_right f g)))) (λ (g : b * d < n). g) (le_or_lt n (b * d)) in
    let less : a * d * e < n * e = mul-lt-mul_of_pos_right (omega (arith, mul-le-mul_right d h)) E in
    subst (λ (z : ℕ). z < n * e) (mul_right_comm a d e ∙ ap (λ (z : ℕ). z * d) (sym p ∙ mul-one x)) less

-- what exceeds a number exceeds a smaller one
below_falls : (u v x : Float) (a b : ℕ) → a ≤ b → HasValue u false a 1 → HasValue v false b 1 → T (lt v x) → T (lt u x)
unfolding lt
below_falls nan v x a b h p q t = absurd p
below_falls (inf s) v x a b h p q t = absurd p
below_falls (fin true m e) v x a b h p q t = absurd (true≢false p.0)
below_falls (fin false m e) nan x a b h p q t = absurd q
below_falls (fin false m e) (inf s) x a b h p q t = absurd q
below_falls (fin false m e) (fin true k f) x a b h p q t = absurd (true≢false q.0)
below_falls (fin false m e) (fin false k f) nan a b h p q t = t
below_falls (fin false m e) (fin false k f) (inf s) a b h p q t = t
below_falls (fin false m e) (fin false k f) (fin true n d) a b h p q t = t
below_falls (fin false m e) (fin false k f) (fin false n d) a b h p q t =
    lt→ltb (m * up e * down d) (n * up d * down e)
    (scaled a b (m * up e) (k * up f) (down e) (down f) (n * up d) (down d) (down_pos f) (down_pos e) h p.1 q.1
    (ltb→lt (k * up f * down d) (n * up d * down f) t))

whole_value : (a : ℕ) → a ≤ most → HasValue (of_int binary64 (pos a)) false a 1
unfolding of_int
whole_value a h = round_whole binary64 false a h

pub one_falls : (a b : ℕ) (x : Float) → a ≤ b → b ≤ most
    → cond (lt (of_int binary64 (pos b)) x) 1 0 ≤ cond (lt (of_int binary64 (pos a)) x) 1 0
one_falls a b x h k =
    by_cond (λ (n : ℕ). n ≤ cond (lt (of_int binary64 (pos a)) x) 1 0) (lt (of_int binary64 (pos b)) x)
    (λ t. by_cond (λ (n : ℕ). 1 ≤ n) (lt (of_int binary64 (pos a)) x) (λ s. omega arith)
    (λ s. absurd (not_both (lt (of_int binary64 (pos a)) x) (below_falls _ _ x a b h (whole_value a (omega arith)) (whole_value b k) t) s)))
    (λ t. omega arith)
  where
    not_both : (p : Bool) → T p → T (not p) → ⊥
    not_both true t s = s
    not_both false t s = t

pub sum_mono : (f g : ℕ → ℕ) (n : ℕ) → ((k : ℕ) → f k ≤ g k) → sum_of f n ≤ sum_of g n
unfolding sum_of
sum_mono f g zero h = omega arith
sum_mono f g (suc n) h = omega (arith, sum_mono f g n h, h n)

-- one chunk's, by the doubles themselves
abbrev ones : List (List Float) → ℕ → ℕ → ℕ → ℕ
ones sizes a t i = cond (lt (of_int binary64 (pos a)) (lane (get_or sizes t []) i)) 1 0

pub exceeding_falls : (a b : ℕ) → a ≤ b → b ≤ most → (sizes : List (List Float)) → exceeding_all b sizes ≤ exceeding_all a sizes
unfolding exceeding_all exceeding_in
exceeding_falls a b h k sizes =
    sum_mono (λ t. sum_of (ones sizes b t) 80) (λ t. sum_of (ones sizes a t) 80) (length sizes)
    (λ t. sum_mono (ones sizes b t) (ones sizes a t) 80 (λ i. one_falls a b (lane (get_or sizes t []) i) h k))

-- a sum of more numbers
longer : (f : ℕ → ℕ) (i k : ℕ) → sum_of f i ≤ sum_of f (i + k)
unfolding sum_of
longer f i zero = rw add-zero (omega arith)
longer f i (suc k) = rw add-suc (omega (arith, longer f i k))

pub sum_longer : (f : ℕ → ℕ) (i n : ℕ) → i ≤ n → sum_of f i ≤ sum_of f n
sum_longer f i n h = let e : n ≡ i + (n - i) = omega arith in omega (arith, longer f i (n - i), ap (sum_of f) e)

-- what is selected lies from `low` to `high`, which the cap bounds
pub record Bracketed (q cap : ℕ) (sizes : List (List Float)) (low high : ℕ) : Type 0 where
  pub ordered : low ≤ high
  pub below : high ≤ cap
  pub few : high < cap → exceeding_all high sizes ≤ q
  pub least : (a : ℕ) → a < low → q < exceeding_all a sizes

-- by how many are counted that exceed a number between them, one end moves there
module _ {q cap : ℕ} {sizes : List (List Float)} {low high : ℕ} (g : Bracketed q cap sizes low high) (limit : cap ≤ most)
    (a : ℕ) (above : low ≤ a) (inside : a < high) where
  pub raised : (count : ℕ) → count ≤ exceeding_all a sizes → q < count → Bracketed q cap sizes (a + 1) high
  raised count upper more =
      record {
        ordered = omega arith;
        below = g.below;
        few = g.few;
        least = λ b l. omega (arith, exceeding_falls b a (omega arith) (omega (arith, g.below)) sizes);
      }

  pub lowered : (count stop : ℕ) → (count < exceeding_all a sizes → stop < count) → q ≤ stop → count ≤ q → Bracketed q cap sizes low a
  lowered count stop lower enough few =
      record {
        ordered = above;
        below = omega (arith, g.below);
        few = λ h.
            ⊎_elim (λ (e : exceeding_all a sizes ≤ count). omega arith)
            (λ (l : count < exceeding_all a sizes). absurd (omega (arith, lower l)))
            (le_or_lt (exceeding_all a sizes) count);
        least = g.least;
      }

-- at the start
pub whole_range : {q cap : ℕ} (sizes : List (List Float)) (high : ℕ) → high ≡ cap → Bracketed q cap sizes 0 high
whole_range sizes high e =
    record { ordered = omega arith; below = omega arith; few = λ h. absurd (omega arith); least = λ b h. absurd (omega arith) }

pub found : {q cap : ℕ} {sizes : List (List Float)} {low high : ℕ} → Bracketed q cap sizes low high → high ≤ low
    → low ≡ selected (λ a. exceeding_all a sizes) q cap
found {q} {sizes = sizes} {low} {high} g h =
    let e : low ≡ high = omega (arith, g.ordered) in
    selected_is (record {
      within = omega (arith, g.below);
      few = λ l.
          omega (arith, g.few (omega arith), ap (λ (x : ℕ). exceeding_all x sizes) e);
      least = g.least;
    })
