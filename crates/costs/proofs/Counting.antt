-- How many of the least sizes of a store's chunks exceed a number is how many of its points' do; so what is selected is their rank. Assumes
-- nothing.
use mathlib.Core.Path.{◌≡◌, refl, ap, ap₂, ◌∙◌, subst}
use mathlib.Core.Bool.{Bool, true, false, cond}
use mathlib.Core.List.{List, []}
use Prim.Native.Nat.{ℕ, zero, suc, ◌+◌, ◌-◌, ◌*◌, ◌/◌, ◌^◌, ◌≤◌, ◌<◌, min}
use native.Mathlib.Omega.{arith}
use lib.IntN.{ℤ, pos}
use lib.ListN.{length, get_or, take}
use lib.Seq.{get_or-take, length-take-le}
use lib.Ieee.{Float, binary64, of_int, lt}
use Rattle.jobs.specs.declared.Model.{Model}
use Rattle.points.specs.Points.{points_of}
use Rattle.ranks.specs.Largest.{nth_largest}
use Rattle.ranks.specs.Laws.{exceeding}
use Rattle.ranks.proofs.Largest.{largest}
use Rattle.integers.specs.Sums.{sum_of}
use Rattle.residuals.specs.Inside.{Ready}
use Rattle.residuals.proofs.Sums.{sum_same, sum_more, Summed, count_small, all_total}
use Rattle.residuals.proofs.Ranks.{counting, exceeding_total}
use Rattle.eval_lanes.specs.Lanes.{lane}
use Rattle.eval_columns.specs.Columns.{slot, chunks, decoded_chunks, ChunkOf}
use Rattle.eval_slots.proofs.Summing.{slot_loss, chunk_summed, none_yet}
use Rattle.eval_selection.specs.Selection.{exceeding_in, exceeding_all, selected}
use Rattle.eval_selection.proofs.Exact.{selected_is, selects_largest}
use Rattle.eval_selection.proofs.Order.{one_falls, sum_mono, sum_longer}
use Rattle.eval_kernel.specs.Kernel.{doubles, Doubles, chunk_size}
use Rattle.eval_kernel.proofs.Exact.{size_in_lem, least_in_lem, exceeding_chunk, none_exceed}
use Rattle.costs.specs.Calls.{DecodedFor, exceeding_by}
use Rattle.costs.specs.Inside.{sizes_by, least_sizes, RankIn}
use Rattle.costs.proofs.Summing.{nothing}

module _ {m : Model} (store : List ℕ) (ready : Ready (length store) m) (low high : List ℤ) (from to : List Float) (lows : Doubles low from)
    (highs : Doubles high to) where
  -- how many of a chunk exceed a, by the definitions
  count_of : (over : Bool) {t : ℕ} {s : List (List Float)} → ChunkOf store t m.d (2 ^ m.scale) s → (a : ℕ) → a ≤ 9007199254740992
      → sum_of (λ k. cond (lt (of_int binary64 (pos a)) (chunk_size over s from to m k)) 1 0) 80
      ≡ sum_of (slot_loss (counting a m) (sizes_by over m low high) store (count_small a) (nothing over m low high) t) 80
  count_of true {t} {s} chunk a h =
      exceeding_chunk true s from to m (slot store t) (sizes_by true m low high)
      (λ j k l g. least_in_lem ready chunk from to j k l g low high lows highs) ready.lines a h
  count_of false {t} {s} chunk a h =
      exceeding_chunk false s from to m (slot store t) (sizes_by false m low high) (λ j k l g. size_in_lem ready chunk from to j k l g low lows)
      ready.lines a h

  none_of : (over : Bool) {t : ℕ} {s : List (List Float)} → ChunkOf store t m.d (2 ^ m.scale) s
      → sum_of (λ k. cond (lt (of_int binary64 (pos 8589934592)) (chunk_size over s from to m k)) 1 0) 80 ≡ 0
  none_of true {t} {s} chunk =
      none_exceed true s from to m (slot store t) (sizes_by true m low high)
      (λ j k l g. least_in_lem ready chunk from to j k l g low high lows highs)
  none_of false {t} {s} chunk =
      none_exceed false s from to m (slot store t) (sizes_by false m low high) (λ j k l g. size_in_lem ready chunk from to j k l g low lows)

  module _ (over : Bool) (lanes : List (List (List Float))) (decoded : DecodedFor store m lanes) where
    -- the points' least sizes
    abbrev sizes : List ℕ
    sizes = least_sizes over m low high (points_of store)

    through : (a : ℕ) → a ≤ 9007199254740992 → (n : ℕ) → n ≤ chunks store
        → Summed (counting a m) (sizes_by over m low high) store (min (length store / 12) (n * 76)) (exceeding_by over lanes from to m n a)
    unfolding exceeding_by sum_of
    through a h zero l = none_yet (counting a m) (sizes_by over m low high) store
    through a h (suc n) l =
        let e : n + 1 ≡ suc n = omega arith in
        subst (λ (k : ℕ). Summed (counting a m) (sizes_by over m low high) store (min (length store / 12) (k * 76))
        (exceeding_by over lanes from to m (suc n) a)) e
        (chunk_summed (counting a m) (sizes_by over m low high) store (count_small a) (nothing over m low high) n
        (exceeding_by over lanes from to m n a) _
        (count_of over (decoded.chunk n (omega arith)) a h) (through a h n (omega arith)))

    -- as many of the slots as of the points
    counts : (a : ℕ) → a ≤ 9007199254740992 → exceeding_by over lanes from to m (chunks store) a ≡ exceeding a sizes
    counts a h =
        let few = ready.few in
        all_total (counting a m) (sizes_by over m low high) store (through a h (chunks store) (omega arith)) (omega arith)
        ∙ exceeding_total a m (sizes_by over m low high) (points_of store)

    none_through : (n : ℕ) → n ≤ chunks store → exceeding_by over lanes from to m n 8589934592 ≡ 0
    unfolding exceeding_by sum_of
    none_through zero l = refl
    none_through (suc n) l = ap₂ ◌+◌ (none_through n (omega arith)) (none_of over (decoded.chunk n (omega arith)))

    -- so each rank is at most 2^33
    pub rank_small : (q : ℕ) → nth_largest q sizes ≤ 8589934592
    rank_small q =
        (largest q sizes).least 8589934592 (omega (arith, counts 8589934592 (omega arith), none_through (chunks store) (omega arith)))

    pub rank_of : (q cap : ℕ) → selected (exceeding_by over lanes from to m (decoded_chunks store lanes)) q (min cap 4503599627370496)
        ≡ min (nth_largest q sizes) cap
    rank_of q cap =
        ap (λ (n : ℕ). selected (exceeding_by over lanes from to m n) q (min cap 4503599627370496)) decoded.all
        ∙ selects_largest (exceeding_by over lanes from to m (chunks store)) q cap sizes (λ a h. counts a (omega arith))
        (omega (arith, rank_small q))

module _ (over : Bool) (m : Model) (lanes : List (List (List Float))) (from to : List Float) where
  abbrev ones : ℕ → ℕ → ℕ → ℕ
  ones a t k = cond (lt (of_int binary64 (pos a)) (chunk_size over (get_or lanes t []) from to m k)) 1 0

  -- one chunk more
  pub chunk_counted : (t a : ℕ) (s : List Float) → ((k : ℕ) → k < 80 → lane s k ≡ chunk_size over (get_or lanes t []) from to m k)
      → exceeding_by over lanes from to m t a + exceeding_in (of_int binary64 (pos a)) s ≡ exceeding_by over lanes from to m (t + 1) a
  unfolding exceeding_by exceeding_in
  chunk_counted t a s same =
      let e : sum_of (λ k. cond (lt (of_int binary64 (pos a)) (lane s k)) 1 0) 80 ≡ sum_of (ones a t) 80 =
      sum_same _ _ 80 (λ k l. ap (λ (x : Float). cond {A = ℕ} (lt (of_int binary64 (pos a)) x) 1 0) (same k l)) in
      omega (arith, e, sum_more (λ i. sum_of (ones a i) 80) t)

  -- where more than q of some chunks reach the cap, it is what is selected of all
  pub cap_reached : (q cap t n : ℕ) → t ≤ n → cap ≤ 4503599627370496 → q < exceeding_by over lanes from to m t (cap - 1)
      → cap ≡ selected (exceeding_by over lanes from to m n) q cap
  unfolding exceeding_by
  cap_reached q cap t n h small more =
      selected_is (record {
        within = omega arith;
        few = λ l. absurd (omega arith);
        least = λ a l.
            omega (
              arith,
              sum_longer (λ i. sum_of (ones (cap - 1) i) 80) t n h,
              sum_mono (λ i. sum_of (ones (cap - 1) i) 80) (λ i. sum_of (ones a i) 80) n
                  (λ i. sum_mono (ones (cap - 1) i) (ones a i) 80
                  (λ k. one_falls a (cap - 1) (chunk_size over (get_or lanes i []) from to m k) (omega arith) (omega arith))),
            );
      })

-- the first n chunks of sizes, which are those of the lanes
module _ (over : Bool) (m : Model) (lanes : List (List (List Float))) (from to : List Float) (kept : List (List Float)) (n : ℕ)
    (few : n ≤ length kept)
    (same : (i : ℕ) → i < n → (k : ℕ) → k < 80 → lane (get_or kept i []) k ≡ chunk_size over (get_or lanes i []) from to m k) where
  lane_kept : (i : ℕ) → i < n → (k : ℕ) → k < 80 → lane (get_or (take n kept) i []) k ≡ chunk_size over (get_or lanes i []) from to m k
  lane_kept i h k l = ap (λ (xs : List Float). lane xs k) (get_or-take n kept i [] h) ∙ same i h k l

  kept_count : (a : ℕ) → exceeding_all a (take n kept) ≡ exceeding_by over lanes from to m n a
  unfolding exceeding_all exceeding_in exceeding_by
  kept_count a =
      ap (sum_of (λ i. exceeding_in (of_int binary64 (pos a)) (get_or (take n kept) i []))) (length-take-le n kept few)
      ∙ sum_same _ _ n (λ i h. sum_same _ _ 80
      (λ k l. ap (λ (x : Float). cond {A = ℕ} (lt (of_int binary64 (pos a)) x) 1 0) (lane_kept i h k l)))

  pub kept_selected : (q cap : ℕ) → selected (λ a. exceeding_all a (take n kept)) q cap ≡ selected (exceeding_by over lanes from to m n) q cap
  kept_selected q cap = ap (λ (f : ℕ → ℕ). selected f q cap) (λ i a. kept_count a i)

module _ {m : Model} (store : List ℕ) (ready : Ready (length store) m) (low high : List ℤ) (lanes : List (List (List Float)))
    (from to : List Float) (from_is : from ≡ doubles low) (to_is : to ≡ doubles high) (lows : Doubles low from) (highs : Doubles high to)
    (over : Bool) where
  -- what is selected, by the lanes and by the points
  pub rank_in : (cap r : ℕ) → r ≡ selected (exceeding_by over lanes from to m (decoded_chunks store lanes)) m.eps
      (min cap 4503599627370496)
      → RankIn over store lanes m low high cap r
  rank_in cap r e =
      record {
        by_lanes =
            e ∙ ap₂ (λ (u : List Float) (w : List Float). selected (exceeding_by over lanes u w m (decoded_chunks store lanes)) m.eps
            (min cap 4503599627370496)) from_is to_is;
        by_points = λ decoded. e ∙ rank_of store ready low high from to lows highs over lanes decoded m.eps cap;
        small = λ decoded. rank_small store ready low high from to lows highs over lanes decoded m.eps;
      }
