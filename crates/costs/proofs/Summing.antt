-- The losses of chunks add up to the store's. Assumes nothing.
use mathlib.Core.Path.{◌≡◌, ap₂, ◌∙◌, subst}
use mathlib.Core.Bool.{Bool, true, false}
use mathlib.Core.List.{List, []}
use Prim.Native.Nat.{ℕ, ◌+◌, ◌*◌, ◌/◌, ◌^◌, min}
use lib.IntN.{ℤ}
use lib.ListN.{length, get_or}
use lib.Ieee.{Float}
use Rattle.jobs.specs.declared.Model.{Model}
use Rattle.integers.specs.Sums.{sum_of}
use Rattle.residuals.specs.Inside.{Ready, box_of}
use Rattle.residuals.proofs.Sums.{threshold_small, Summed}
use Rattle.eval_columns.specs.Columns.{nowhere, slot, decoded_chunks, ChunkOf}
use Rattle.eval_slots.proofs.Empty.{empty_slot}
use Rattle.eval_slots.proofs.Summing.{slot_loss, chunk_summed, none_yet, store_summed}
use Rattle.eval_kernel.specs.Kernel.{doubles, Doubles, chunk_loss}
use Rattle.eval_kernel.proofs.Exact.{size_in_lem, least_in_lem, loss_in_lem}
use Rattle.costs.specs.Inside.{sizes_by, SumIn}

-- an empty slot has no size
pub nothing : (over : Bool) (m : Model) (low high : List ℤ) (j : ℕ) → sizes_by over m low high nowhere j ≡ 0
nothing true m low high j = (empty_slot m).over_box (box_of low high) j
nothing false m low high j = (empty_slot m).at_vector low j

-- the sum over the records of the first t chunks
abbrev pub Through : Bool → Model → List ℕ → List ℤ → List ℤ → ℕ → ℕ → Type 0
Through over m store low high t sum = Summed m (sizes_by over m low high) store (min (length store / 12) (t * 76)) sum

pub none_through : (over : Bool) (m : Model) (store : List ℕ) (low high : List ℤ) → Through over m store low high 0 0
none_through over m store low high = none_yet m (sizes_by over m low high) store

module _ {bytes : ℕ} {m : Model} (ready : Ready bytes m) (store : List ℕ) (low high : List ℤ)
    (from to : List Float) (lows : Doubles low from) (highs : Doubles high to) where
  -- the losses of a chunk, by the definitions
  losses_of : (over : Bool) {t : ℕ} {s : List (List Float)} → ChunkOf store t m.d (2 ^ m.scale) s
      → chunk_loss over s from to m ≡ sum_of
      (slot_loss m (sizes_by over m low high) store (threshold_small m.p m.eps ready.cut) (nothing over m low high) t) 80
  losses_of true {t} {s} chunk =
      loss_in_lem true s from to m (slot store t) (sizes_by true m low high)
      (λ j k l h. least_in_lem ready chunk from to j k l h low high lows highs) ready.lines ready.cut
  losses_of false {t} {s} chunk =
      loss_in_lem false s from to m (slot store t) (sizes_by false m low high) (λ j k l h. size_in_lem ready chunk from to j k l h low lows)
      ready.lines ready.cut

  pub one_through : (over : Bool) {t sum r power : ℕ} {s : List (List Float)} → power ≡ 2 ^ m.scale → ChunkOf store t m.d power s
      → r ≡ chunk_loss over s from to m
      → Through over m store low high t sum → Through over m store low high (t + 1) (sum + r)
  one_through over {t} {sum} {r} {s = s} p chunk e g =
      let here = subst (λ (n : ℕ). ChunkOf store t m.d n s) p chunk in
      chunk_summed m (sizes_by over m low high) store (threshold_small m.p m.eps ready.cut) (nothing over m low high) t sum r
      (e ∙ losses_of over here) g

-- ---- lanes
-- the losses of chunk t, by the doubles of the coordinates
abbrev pub loss_at : Bool → List (List (List Float)) → Model → List Float → List Float → ℕ → ℕ
loss_at over lanes m from to t = chunk_loss over (get_or lanes t []) from to m

module _ {m : Model} (store : List ℕ) (ready : Ready (length store) m) (low high : List ℤ) (lanes : List (List (List Float)))
    (from to : List Float) (from_is : from ≡ doubles low) (to_is : to ≡ doubles high) (lows : Doubles low from) (highs : Doubles high to)
    (over : Bool) where
  -- a sum of the chunks' losses, by the lanes and by the points
  pub sum_in : (cap r : ℕ) → r ≡ min (sum_of (loss_at over lanes m from to) (decoded_chunks store lanes)) cap
      → SumIn over store lanes m low high cap r
  sum_in cap r e =
      let n = decoded_chunks store lanes in
      record {
        by_lanes = e ∙ ap₂ (λ (u : List Float) (w : List Float). min (sum_of (loss_at over lanes m u w) n) cap) from_is to_is;
        by_points = λ decoded.
            store_summed m (sizes_by over m low high) store (threshold_small m.p m.eps ready.cut)
            (nothing over m low high) (loss_at over lanes m from to)
            (λ t h. losses_of ready store low high from to lows highs over (decoded.chunk t h)) n cap r decoded.all e;
      }
