-- The sums of a chunk's groups are the costs of these groups of the store. Assumes nothing.
use mathlib.Core.Path.{◌≡◌, refl, sym, ap, ◌∙◌, subst}
use mathlib.Core.Bool.{false}
use mathlib.Core.List.{List, [], ◌∷◌}
use mathlib.Core.Logic.{⊎_elim}
use Prim.Native.Nat.{ℕ, zero, suc, ◌+◌, ◌*◌, ◌/◌, ◌%◌, ◌^◌, ◌≤◌, ◌<◌, min}
use native.Mathlib.Omega.{arith}
use lib.IntN.{ℤ}
use lib.ListN.{length, get_or, take}
use lib.Seq.{take-nil, take_all, take-append-le}
use lib.Ieee.{Float}
use Rattle.integers.proofs.Tests.{le_or_lt}
use Rattle.jobs.specs.declared.Model.{Model}
use Rattle.loss.specs.Loss.{loss_of}
use Rattle.points.specs.Points.{point_at, first_points, points_of}
use Rattle.points.proofs.Laws.{points_length}
use Rattle.residuals.specs.Cost.{least, unless_gap, total_loss, size_at, cost}
use Rattle.integers.specs.Sums.{sum_of}
use Rattle.residuals.specs.Inside.{Ready}
use Rattle.residuals.proofs.Bounds.{cost_sum}
use Rattle.residuals.proofs.Sums.{threshold_small, Summed, none_summed, one_summed}
use Rattle.eval_columns.specs.Columns.{slot, ChunkOf}
use Rattle.eval_losses.proofs.Exact.{sum_parts, groups_small, groups_added}
use Rattle.eval_slots.proofs.Empty.{empty_slot}
use Rattle.eval_slots.proofs.Summing.{slot_loss, slots_summed}
use Rattle.eval_kernel.specs.Kernel.{group_losses, chunk_loss}
use Rattle.eval_kernel.proofs.Exact.{size_in_lem, groups_in}
use Rattle.beacon_costs.specs.BeaconCosts.{group_cost}
use Rattle.beacon_costs.specs.Inside.{ChunkSums}
use Rattle.beacon_costs.specs.Chunks.{AllChunksGrouped}
use Rattle.beacon_costs.proofs.Adding.{one_group}

-- the first points of a store, and of fewer
first_taken : (s : List ℕ) (n a : ℕ) → take a (first_points s n) ≡ first_points s (min n a)
unfolding first_points
first_taken s zero a = let e : 0 ≡ min 0 a = omega arith in take-nil a ∙ ap (first_points s) e
first_taken s (suc n) a =
    ⊎_elim
    (λ (h : a ≤ n).
    let e : min n a ≡ min (suc n) a = omega arith in
    take-append-le a (first_points s n) (point_at s n ∷ []) (omega (arith, points_length s n)) ∙ first_taken s n a ∙ ap (first_points s) e)
    (λ (h : n < a).
    let e : suc n ≡ min (suc n) a = omega arith in
    take_all a (first_points s (suc n)) (omega (arith, points_length s (suc n))) ∙ ap (first_points s) e)
    (le_or_lt a n)

module _ {m : Model} (store : List ℕ) (ready : Ready (length store) m) (picked : m.p ≤ 2) (v : List ℤ) where
  -- the cost of the first i points, and that it is a sum that a loop has
  abbrev first : ℕ → ℕ
  first i = total_loss m (size_at m v) (first_points store i)

  abbrev Sum : ℕ → ℕ → Type 0
  Sum = Summed m (size_at m v) store

  of_first : {i sum : ℕ} → Sum i sum → Sum i (first i)
  of_first {i} g = subst (Sum i) g.total g

  summed : (i : ℕ) → i ≤ length store / 12 → Sum i (first i)
  summed zero h = of_first (none_summed m (size_at m v) store)
  summed (suc i) h =
      let e : i + 1 ≡ suc i = omega arith in
      let loss = loss_of m.p m.eps (unless_gap (point_at store i) (least (size_at m v (point_at store i)) m.n)) in
      let one = one_summed m (size_at m v) store loss (threshold_small m.p m.eps ready.cut) h refl (summed i (omega arith)) in
      of_first (subst (λ (n : ℕ). Sum n (first i + loss)) e one)

  -- the points in the first k slots of chunk t, behind those of the chunks before it
  abbrev losses : ℕ → ℕ → ℕ
  losses = slot_loss m (size_at m v) store (threshold_small m.p m.eps ready.cut) ((empty_slot m).at_vector v)

  slots_first : (t k : ℕ) → let N = length store / 12 in
      first (min N (t * 76)) + sum_of (losses t) k ≡ first (min N (t * 76 + k / 20 * 19 + min (k % 20) 19))
  slots_first t k =
      let N = length store / 12 in
      let i = min N (t * 76) in
      let e : i ≡ min N (t * 76 + 0 / 20 * 19 + min (0 % 20) 19) = omega arith in
      let before = subst (λ (n : ℕ). Sum n (first i)) e (summed i (omega arith)) in
      (slots_summed m (size_at m v) store (threshold_small m.p m.eps ready.cut) ((empty_slot m).at_vector v) t k (first i) before
      ).total

  cost_first : (a : ℕ) → cost m (take a (points_of store)) v ≡ first (min (length store / 12) a)
  unfolding points_of
  cost_first a =
      cost_sum m (take a (points_of store)) picked v ∙ ap (total_loss m (size_at m v)) (first_taken store (length store / 12) a)

  group_slots : (t g : ℕ) → sum_of (λ k. losses t (g * 20 + k)) 20 ≡ group_cost m (points_of store) v (t * 4 + g)
  group_slots t g =
      let N = length store / 12 in
      let a : min N (t * 76 + g * 20 / 20 * 19 + min (g * 20 % 20) 19) ≡ min N ((t * 4 + g) * 19) = omega arith in
      let b : min N (t * 76 + (g * 20 + 20) / 20 * 19 + min ((g * 20 + 20) % 20) 19) ≡ min N ((t * 4 + g) * 19 + 19) = omega arith in
      omega (
        arith,
        slots_first t (g * 20),
        slots_first t (g * 20 + 20),
        sum_parts (losses t) (g * 20) 20,
        ap first a,
        ap first b,
        cost_first ((t * 4 + g) * 19),
        cost_first ((t * 4 + g) * 19 + 19),
        one_group m picked (points_of store) v (t * 4 + g),
      )

pub chunk_sums : {m : Model} (store : List ℕ) → Ready (length store) m → m.p ≤ 2
    → {t power : ℕ} {s : List (List Float)} {w : List Float} {sums : List ℕ}
    → power ≡ 2 ^ m.scale → ChunkOf store t m.d power s → sums ≡ group_losses false s w w m → ChunkSums m store w t sums
unfolding group_losses
chunk_sums {m} store ready picked {t} {s = s} {w} p chunk e =
    let here = subst (λ (n : ℕ). ChunkOf store t m.d n s) p chunk in
    record {
      costs = λ v d g h.
          ap (λ (l : List ℕ). get_or l g 0) e
          ∙ groups_in false s w w m (slot store t) (size_at m v) (λ j k l i. size_in_lem ready here w w j k l i v d) ready.lines ready.cut
          g h
          ∙ group_slots store ready picked v t g;
      small = λ g h. subst (λ (l : List ℕ). get_or l g 0 < 9007199254740992) (sym e) (groups_small _ g);
    }

pub all_chunks_grouped : AllChunksGrouped
unfolding group_losses chunk_loss
all_chunks_grouped store m t s w ready picked chunk =
    record {
      each = λ v d k h. (chunk_sums store ready picked {t = t} {s = s} {w = w} refl chunk refl).costs v d k h;
      added = sym (groups_added _);
    }
