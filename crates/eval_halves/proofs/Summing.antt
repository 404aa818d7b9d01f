-- The losses over a half are those of its points, exactly, chunk by chunk and in all. Assumes nothing.
use mathlib.Core.Path.{◌≡◌, refl, sym, ap, ap₂, ◌∙◌, subst}
use mathlib.Core.Bool.{Bool, true, false, cond}
use mathlib.Core.List.{List, []}
use mathlib.Core.Logic.{⊎_elim}
use Prim.Native.Nat.{ℕ, zero, suc, ◌^◌, ◌≤◌, ◌<◌, min}
use native.Mathlib.Omega.{arith}
use borrow.Author.Tests.{eq-eqb, ne_eqb}
use lib.Dec.{eqb}
use lib.IntN.{ℤ, pos}
use lib.ListN.{get_or}
use lib.Ieee.{Float}
use Rattle.integers.proofs.Tests.{le_or_lt, by_cond}
use Rattle.boxes.specs.declared.Box.{Box}
use Rattle.jobs.specs.declared.Model.{Model}
use Rattle.loss.specs.Loss.{loss_of}
use Rattle.residuals.specs.Cost.{least, least_size}
use Rattle.integers.specs.Sums.{sum_of}
use Rattle.residuals.specs.Inside.{Ready, least_from}
use Rattle.residuals.proofs.Least.{from_large}
use Rattle.residuals.proofs.Sums.{threshold_small}
use Rattle.eval_whole.specs.Whole.{Whole, Within}
use Rattle.eval_whole.proofs.Laws.{cast_whole}
use Rattle.eval_whole.proofs.Picks.{least_whole}
use Rattle.eval_columns.specs.Columns.{nowhere, slot, decoded_chunks, ChunkOf}
use Rattle.eval_losses.proofs.Exact.{loss_exact, chunk_exact}
use Rattle.eval_slots.proofs.Empty.{empty_slot}
use Rattle.eval_slots.proofs.Summing.{store_summed}
use Rattle.eval_kernel.specs.Kernel.{doubles, Doubles, no_size}
use Rattle.eval_kernel.proofs.Exact.{least_in_lem}
use Rattle.eval_halves.specs.Halves.{least_but, loss_over, half_loss, half_size, HalfSum}

-- ---- the least of all lines but one, and then of that one
module _ (first c : ℕ) (f : ℕ → ℕ) where
  unfoldable least_others : ℕ → ℕ
  least_others zero = first
  least_others (suc n) = cond (eqb n c) (least_others n) (min (least_others n) (f n))

  module _ (g : ℕ → ℕ) where
    -- line c by g, the others by f
    abbrev mixed : ℕ → ℕ
    mixed j = cond (eqb j c) (g j) (f j)

    least_before : (n : ℕ) → n ≤ c → least_from first mixed n ≡ least_others n
    unfolding least_from least_others
    least_before zero h = refl
    least_before (suc n) h = rw (ne_eqb n c (λ (e : n ≡ c). omega arith), least_before n (omega arith))

    least_mixed : (n : ℕ) → c < n → least_from first mixed n ≡ min (least_others n) (g c)
    unfolding least_from least_others
    least_mixed zero h = absurd (omega arith)
    least_mixed (suc n) h =
        ⊎_elim
        (λ (l : n ≤ c). let e : n ≡ c = omega arith in rw (eq-eqb n c e, least_before n l, e))
        (λ (l : c < n). rw (ne_eqb n c (λ (e : n ≡ c). omega arith)) (omega (arith, least_mixed n l)))
        (le_or_lt n c)

-- ---- in double precision
cond_whole : {x y : Float} {a b : ℕ} (t : Bool) → Whole x (pos a) → Whole y (pos b) → Whole (cond t x y) (pos (cond t a b))
cond_whole true u v = u
cond_whole false u v = v

module _ {bytes : ℕ} {m : Model} (ready : Ready bytes m) {store : List ℕ} {t : ℕ} {s : List (List Float)}
    (chunk : ChunkOf store t m.d (2 ^ m.scale) s) (b half : Box) (c : ℕ) (inside : c < m.n) (low high own_low own_high : List Float)
    (lows : Doubles b.low low) (highs : Doubles b.high high) (own-lows : Doubles half.low own_low)
    (own-highs : Doubles half.high own_high) where
  -- the least size of the point in slot k
  abbrev box_size : ℕ → ℕ → ℕ
  box_size k = least_size m b (slot store t k)

  others_whole : (k : ℕ) → k < 80 → (n : ℕ) → n ≤ m.n
      → Whole (least_but s low high m.d c no_size n k) (pos (least_others 8589934592 c (box_size k) n))
  unfolding least_but least_others
  others_whole k h zero l = cast_whole (pos 8589934592) (omega arith)
  others_whole k h (suc n) l =
      let rest = others_whole k h n (omega arith) in
      cond_whole (eqb n c) rest (least_whole rest (least_in_lem ready chunk low high n k (omega arith) h b.low b.high lows highs).whole)

  -- and its loss
  abbrev loss_on : ℕ → ℕ
  loss_on k = loss_of m.p m.eps (least (half_size m b half c (slot store t k)) m.n)

  -- no size reaches 2^33
  first_small : (k : ℕ) → k < 80 → half_size m b half c (slot store t k) 0 ≤ 8589934592
  first_small k h =
      by_cond (λ (n : ℕ). n ≤ 8589934592) (eqb 0 c)
      (λ t. omega (arith, (least_in_lem ready chunk own_low own_high 0 k ready.lines h half.low half.high own-lows own-highs).small))
      (λ t. omega (arith, (least_in_lem ready chunk low high 0 k ready.lines h b.low b.high lows highs).small))

  losses_within : (k : ℕ) → k < 80 → Within (loss_over s low high own_low own_high m c k) (pos (loss_on k)) 281474943156225
  losses_within k h =
      let own = least_in_lem ready chunk own_low own_high c k inside h half.low half.high own-lows own-highs in
      let size = least_whole (others_whole k h m.n (omega arith)) own.whole in
      let is = sym (least_mixed 8589934592 c (box_size k) (least_size m half (slot store t k)) m.n inside) in
      let none = from_large 8589934592 (half_size m b half c (slot store t k)) m.n ready.lines (first_small k h) in
      loss_exact (subst (Whole _) (ap pos (is ∙ none)) size) ready.cut m.p

  half_exact : half_loss s low high own_low own_high m c ≡ sum_of loss_on 80
  unfolding half_loss
  half_exact = chunk_exact losses_within

-- ---- of a store
nothing : (m : Model) (b half : Box) (c j : ℕ) → half_size m b half c nowhere j ≡ 0
nothing m b half c j = rw ((empty_slot m).over_box half j, (empty_slot m).over_box b j) (same (eqb j c))
  where
    same : (t : Bool) → ◌≡◌ {A = ℕ} (cond t 0 0) 0
    same true = refl
    same false = refl

-- what `eval_kernel::coordinates` says of those of v
abbrev Given : List ℤ → List Float → Type 0
Given v u = (u ≡ doubles v) × Doubles v u

module _ (store : List ℕ) (lanes : List (List (List Float))) (m : Model) (b half : Box) (c : ℕ) (low high own_low own_high : List Float)
    (low_is : Given b.low low) (high_is : Given b.high high) (own-low-is : Given half.low own_low)
    (own-high-is : Given half.high own_high) where
  -- the loss of chunk t, as the loop finds it
  abbrev chunk_loss_at : ℕ → ℕ
  chunk_loss_at t = half_loss (get_or lanes t []) low high own_low own_high m c

  pub half_sum : (cap r : ℕ) → r ≡ min (sum_of chunk_loss_at (decoded_chunks store lanes)) cap → HalfSum store lanes m b half c cap r
  half_sum cap r e =
      let n = decoded_chunks store lanes in
      let sum : List Float → List Float → List Float → List Float → ℕ =
      λ l h u v. min (sum_of (λ t. half_loss (get_or lanes t []) l h u v m c) n) cap in
      record {
        by_lanes =
            e ∙ ap₂ (λ l h. sum l h own_low own_high) low_is.0 high_is.0
            ∙ ap₂ (sum (doubles b.low) (doubles b.high)) own-low-is.0 own-high-is.0;
        by_points = λ ready inside decoded.
            store_summed m (half_size m b half c) store (threshold_small m.p m.eps ready.cut) (nothing m b half c)
            chunk_loss_at (λ t h.
            half_exact ready (decoded.chunk t h) b half c inside low high own_low own_high low_is.1 high_is.1 own-low-is.1
            own-high-is.1) n cap r decoded.all e;
      }
