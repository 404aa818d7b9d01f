-- Which points are gaps, told by y as a double. Assumes nothing.
use mathlib.Core.Path.{◌≡◌, refl, sym, ap, ◌∙◌, subst}
use mathlib.Core.Bool.{Bool, true, false, not, cond}
use mathlib.Core.List.{List, []}
use mathlib.Core.Logic.{⊎_elim}
use Prim.Native.Nat.{ℕ, ◌≤◌, ◌<◌}
use native.Mathlib.Nat.{eq-or-lt_of_le}
use native.Mathlib.Omega.{arith}
use borrow.Author.Tests.{eqb-true, eqb-false, not-true, lt-ltb, le-ltb}
use lib.Dec.{eqb, ltb}
use lib.IntN.{ℤ, pos, negsuc, nat_abs}
use lib.ListN.{length, set}
use lib.Seq.{get_or-set_same, get_or-set_other}
use lib.Ieee.{Float, binary64, lt, mul, of_int}
use lib.Signed.{lt_z}
use Rattle.points.specs.declared.Point.{Point}
use Rattle.points.specs.Points.{skipped, is_gap}
use Rattle.eval_whole.specs.Whole.{Whole, zeroth}
use Rattle.eval_whole.proofs.Laws.{lt_whole}
use Rattle.eval_lanes.specs.Lanes.{lane, cell}
use Rattle.eval_columns.specs.Columns.{nowhere, record_in, placed, slot, field, Cast, Scaled, ChunkOf}
use Rattle.eval_columns.specs.Inside.{RecordsOf, ScaledOf}
use Rattle.eval_columns.proofs.Casts.{within_cast}

-- −32,768
abbrev pub mark : ℤ
mark = negsuc 32767

-- of 16 bits, all others lie above it
above_mark : (y : ℤ) → nat_abs y ≤ 32768 → lt_z mark y ≡ not (skipped y)
unfolding skipped
above_mark (pos n) h = refl
above_mark (negsuc n) h = by (eqb n 32767) refl
  where
    by : (t : Bool) → eqb n 32767 ≡ t → ltb n 32767 ≡ not t
    by true e = let l : 32767 ≤ n = omega (arith, eqb-true n 32767 e) in le-ltb n 32767 l
    by false e =
        let l : n ≤ 32767 = omega arith in
        lt-ltb n 32767 (⊎_elim (λ (q : n ≡ 32767). absurd (eqb-false n 32767 e q)) (λ (q : n < 32767). q) (eq-or-lt_of_le l))

-- what lies above it is no gap's
none_skipped : (y : ℤ) {m x : Float} → Whole m mark → Cast x y → lt m x ≡ true → skipped y ≡ false
none_skipped y wm w e = not-true (skipped y) (sym (lt_whole wm (within_cast w).whole ∙ above_mark y w.small) ∙ e)

pub placed_sample : (q : Point) → is_gap q ≡ false → placed q ≡ q
unfolding placed
placed_sample q e = ap (λ (gap : Bool). cond gap nowhere q) e

-- what holds of a number of a point, kept where its y lies above the mark, holds of what is placed in its slot
kept : (P : Float → Point → Type 0) (q : Point) {m x y : Float} → P zeroth nowhere → nat_abs q.y ≤ 32768 → Whole m mark → Whole y q.y
    → P x q → P (cond (lt m y) x zeroth) (placed q)
unfolding placed
kept P q {m} {x} {y} none small wm wy w =
    subst (λ (t : Bool). P (cond t x zeroth) (cond (is_gap q) nowhere q)) (sym (lt_whole wm wy ∙ above_mark q.y small)) (by (is_gap q))
  where
    by : (gap : Bool) → P (cond (not gap) x zeroth) (cond gap nowhere q)
    by true = none
    by false = w

-- ---- columns
-- a number of a column that d uses is that of its slot
abbrev pub Emptied : List ℕ → ℕ → ℕ → ℕ → ℕ → Float → Type 0
Emptied store t d c k x = c < d → Cast x (field c (slot store t k))

-- a number of slot k, kept by the y of its record
module _ (store : List ℕ) (t k : ℕ) {m y : Float} (wm : Whole m mark) (wy : Cast y (field 4 (record_in store t k))) where
  pub kept_in : (P : Float → Point → Type 0) {x new : Float} → P zeroth nowhere → new ≡ cond (lt m y) x zeroth → P x (record_in store t k)
      → P new (slot store t k)
  unfolding slot
  kept_in P none e w = rw e (kept P (record_in store t k) none wy.small wm (within_cast wy).whole w)

module _ {store : List ℕ} {t d : ℕ} {s : List (List Float)} (records : RecordsOf store t d s) (power : ℕ) (small : power < 65536)
    (ys : List Float)
    (five : length s ≡ 5) (times : (k : ℕ) → k < 80 → lane ys k ≡ mul binary64 (cell s 4 k) (of_int binary64 (pos power))) where
  -- with y scaled
  pub scaled : ScaledOf store t d power (set s 4 ys)
  scaled =
      record {
        column = λ c k u l h. rw (get_or-set_other s 4 c ys [] (λ q. omega arith)) (records.column c k u l h);
        target = λ k h.
            let y = records.target k h in
            rw (get_or-set_same s 4 ys [] (omega arith)) (rw (times k h) (rw y.is (record { is = refl; small = y.small; factor = small })));
      }

  -- where all y lie above the mark, the records are the slots' points
  module _ {m : Float} (wm : Whole m mark) (above : (k : ℕ) → k < 80 → lt m (cell s 4 k) ≡ true) where
    slot_is : (k : ℕ) → k < 80 → record_in store t k ≡ slot store t k
    unfolding slot
    slot_is k h = let q = record_in store t k in sym (placed_sample q (none_skipped q.y wm (records.target k h) (above k h)))

    pub all_samples : ChunkOf store t d power (set s 4 ys)
    all_samples =
        let new = set s 4 ys in
        record {
          column = λ c k u l h. subst (λ (q : Point). Cast (cell new c k) (field c q)) (slot_is k h) (scaled.column c k u l h);
          target = λ k h. subst (λ (q : Point). Scaled (cell new 4 k) q.y power) (slot_is k h) (scaled.target k h);
        }
