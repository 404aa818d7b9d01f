-- The losses of a chunk's slots are those of its records, so that chunk after chunk they add up to the store's. Assumes nothing.
use mathlib.Core.Path.{◌≡◌, sym, ap, ◌∙◌, subst, subst₂}
use mathlib.Core.List.{List}
use mathlib.Core.Logic.{⊎_elim}
use Prim.Native.Nat.{ℕ, zero, suc, ◌+◌, ◌*◌, ◌/◌, ◌%◌, ◌≤◌, ◌<◌, min}
use native.Mathlib.Omega.{arith}
use lib.ListN.{length}
use Rattle.integers.proofs.Tests.{le_or_lt}
use Rattle.jobs.specs.declared.Model.{Model}
use Rattle.loss.specs.Loss.{loss_of}
use Rattle.points.specs.declared.Point.{Point}
use Rattle.points.specs.Points.{point_at, points_of}
use Rattle.residuals.specs.Cost.{least, unless_gap, total_loss}
use Rattle.integers.specs.Sums.{sum_of}
use Rattle.residuals.proofs.Least.{loss_zero}
use Rattle.residuals.proofs.Sums.{LossSmall, Summed, none_summed, one_summed, all_total}
use Rattle.eval_columns.specs.Columns.{nowhere, number, placed, slot, chunks}
use Rattle.eval_columns.proofs.Places.{slot_found, slot_full, slot_past}
use Rattle.eval_slots.proofs.Empty.{least_zero, placed_least}

-- ---- the slots of a chunk, one after the other
module _ (m : Model) (size : Point → ℕ → ℕ) (s : List ℕ) (cut : LossSmall m.p m.eps) (none : (j : ℕ) → size nowhere j ≡ 0) where
  -- the loss of the point in slot k of chunk t
  abbrev pub slot_loss : ℕ → ℕ → ℕ
  slot_loss t k = loss_of m.p m.eps (least (size (slot s t k)) m.n)

  loss_in_lem : (t k : ℕ) (q : Point) → slot s t k ≡ q → slot_loss t k ≡ loss_of m.p m.eps (least (size q) m.n)
  loss_in_lem t k q e = ap (λ (q : Point). loss_of m.p m.eps (least (size q) m.n)) e

  -- how many records stand in the first k slots of chunk t, and in the chunks before it
  abbrev reached : ℕ → ℕ → ℕ
  reached t k = min (length s / 12) (t * 76 + k / 20 * 19 + min (k % 20) 19)

  empty : (t k : ℕ) → slot s t k ≡ nowhere → slot_loss t k ≡ 0
  empty t k e =
      loss_in_lem t k nowhere e ∙ ap (loss_of m.p m.eps) (least_zero (size nowhere) m.n none) ∙ loss_zero m.p m.eps

  nothing_more : (t k sum i j : ℕ) → i ≡ j → slot_loss t k ≡ 0 → Summed m size s i (sum + sum_of (slot_loss t) k)
      → Summed m size s j (sum + (sum_of (slot_loss t) k + slot_loss t k))
  nothing_more t k sum i j e z g =
      let f : sum + sum_of (slot_loss t) k ≡ sum + (sum_of (slot_loss t) k + slot_loss t k) = omega arith in
      subst₂ (Summed m size s) e f g

  one_more : (t k sum : ℕ) → Summed m size s (reached t k) (sum + sum_of (slot_loss t) k)
      → Summed m size s (reached t (suc k)) (sum + (sum_of (slot_loss t) k + slot_loss t k))
  one_more t k sum g =
      ⊎_elim
      (λ (h : 19 ≤ k % 20). nothing_more t k sum (reached t k) (reached t (suc k)) (omega arith) (empty t k (slot_full s t k h)) g)
      (λ (h : k % 20 < 19).
      ⊎_elim
      (λ (l : length s / 12 ≤ number t k). nothing_more t k sum (reached t k) (reached t (suc k)) (omega arith)
      (empty t k (slot_past s t k l)) g)
      (λ (l : number t k < length s / 12).
      let here : reached t k ≡ number t k = omega arith in
      let next : number t k + 1 ≡ reached t (suc k) = omega arith in
      let f : sum + sum_of (slot_loss t) k + slot_loss t k ≡ sum + (sum_of (slot_loss t) k + slot_loss t k) = omega arith in
      let q = point_at s (number t k) in
      let loss : slot_loss t k ≡ loss_of m.p m.eps (unless_gap q (least (size q) m.n)) =
      loss_in_lem t k (placed q) (slot_found s t k h l) ∙ ap (loss_of m.p m.eps) (placed_least size none q m.n) in
      subst₂ (Summed m size s) next f
      (one_summed m size s (slot_loss t k) cut l loss (subst (λ (i : ℕ). Summed m size s i (sum + sum_of (slot_loss t) k)) here g)))
      (le_or_lt (length s / 12) (number t k)))
      (le_or_lt 19 (k % 20))

  pub slots_summed : (t k sum : ℕ) → Summed m size s (reached t 0) sum → Summed m size s (reached t k) (sum + sum_of (slot_loss t) k)
  unfolding sum_of
  slots_summed t zero sum g = let e : sum ≡ sum + 0 = omega arith in subst (Summed m size s (reached t 0)) e g
  slots_summed t (suc k) sum g = one_more t k sum (slots_summed t k sum g)

  -- a chunk more
  pub chunk_summed : (t sum r : ℕ) → r ≡ sum_of (slot_loss t) 80 → Summed m size s (min (length s / 12) (t * 76)) sum
      → Summed m size s (min (length s / 12) ((t + 1) * 76)) (sum + r)
  chunk_summed t sum r e g =
      let a : min (length s / 12) (t * 76) ≡ reached t 0 = omega arith in
      let b : reached t 80 ≡ min (length s / 12) ((t + 1) * 76) = omega arith in
      subst₂ (Summed m size s) b (ap (λ (n : ℕ). sum + n) (sym e)) (slots_summed t 80 sum (subst (λ (i : ℕ). Summed m size s i sum) a g))

pub none_yet : (m : Model) (size : Point → ℕ → ℕ) (s : List ℕ) → Summed m size s (min (length s / 12) (0 * 76)) 0
none_yet m size s =
    let e : 0 ≡ min (length s / 12) (0 * 76) = omega arith in subst (λ (i : ℕ). Summed m size s i 0) e (none_summed m size s)

-- ---- chunk after chunk
module _ (m : Model) (size : Point → ℕ → ℕ) (s : List ℕ) (cut : LossSmall m.p m.eps)
    (none : (j : ℕ) → size nowhere j ≡ 0) (loss : ℕ → ℕ)
    (exact : (t : ℕ) → t < chunks s → loss t ≡ sum_of (slot_loss m size s cut none t) 80) where
  first_summed : (n : ℕ) → n ≤ chunks s → Summed m size s (min (length s / 12) (n * 76)) (sum_of loss n)
  unfolding sum_of
  first_summed zero h = none_yet m size s
  first_summed (suc n) h =
      let e : n + 1 ≡ suc n = omega arith in
      subst (λ (k : ℕ). Summed m size s (min (length s / 12) (k * 76)) (sum_of loss (suc n))) e
      (chunk_summed m size s cut none n (sum_of loss n) (loss n) (exact n (omega arith)) (first_summed n (omega arith)))

  -- what all chunks of a store lose, up to a cap, is what its points do
  pub store_summed : (n cap r : ℕ) → n ≡ chunks s → r ≡ min (sum_of loss n) cap → r ≡ min (total_loss m size (points_of s)) cap
  store_summed n cap r all e =
      let total = all_total m size s (first_summed (chunks s) (omega arith)) (omega arith) in
      e ∙ ap (λ (k : ℕ). min k cap) (ap (sum_of loss) all ∙ total)
