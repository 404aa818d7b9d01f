-- The first chunks of lanes, with their sizes and how many of these reach a cap. Assumes nothing.
use mathlib.Core.Path.{◌≡◌, ap, ◌∙◌}
use mathlib.Core.Bool.{Bool, false, cond}
use mathlib.Core.List.{List, []}
use Prim.Native.Nat.{ℕ, ◌+◌, ◌-◌, ◌*◌, ◌≤◌, ◌<◌, min}
use native.Mathlib.Omega.{arith}
use lib.IntN.{pos}
use lib.ListN.{length, get_or, set, take}
use lib.Seq.{get_or-set_other, get_or-take, length-take-le}
use lib.Ieee.{Float, binary64, of_int, lt}
use Rattle.integers.specs.Sums.{sum_of}
use Rattle.residuals.proofs.Sums.{sum_same}
use Rattle.jobs.specs.declared.Model.{Model}
use Rattle.eval_lanes.specs.Lanes.{lane}
use Rattle.eval_selection.specs.Selection.{exceeding_in, selected}
use Rattle.eval_kernel.specs.Kernel.{no_sizes, chunk_size}
use Rattle.costs.specs.Calls.{exceeding_by}
use Rattle.costs.proofs.Counting.{chunk_counted, cap_reached}
use Rattle.costs.proofs.Kept.{Sized, none_sized, one_sized}

-- The first t chunks have their sizes among n, and so many of these, or more, reach the cap; the others are as they came.
pub record Ranked
    (over : Bool) (lanes : List (List (List Float))) (from to : List Float) (m : Model) (n : ℕ) (fill : Bool) (cap : ℕ)
    (kept : List (List Float)) (reached t : ℕ) : Type 0
  where
    pub sized : Sized n (λ i k. chunk_size over (get_or lanes i []) from to m k) kept t
    pub few : reached ≤ 80 * t
    pub reaches : reached ≤ exceeding_by over lanes from to m t (min cap 4503599627370496 - 1)
    pub given : fill ≡ false → (i : ℕ) → t ≤ i → i < length lanes → get_or kept i [] ≡ no_sizes

module _ (over : Bool) (lanes : List (List (List Float))) (from to : List Float) (m : Model) where
  pub none_ranked : (fill : Bool) (cap : ℕ) (kept : List (List Float))
      → (fill ≡ false → (i : ℕ) → i < length lanes → get_or kept i [] ≡ no_sizes)
      → Ranked over lanes from to m (length kept) fill cap kept 0 0
  none_ranked fill cap kept given =
      record { sized = none_sized _ kept; few = omega arith; reaches = omega arith; given = λ e i h. given e i }

  module _ {n : ℕ} {fill : Bool} {cap : ℕ} {kept : List (List Float)} {reached t : ℕ} (before : Ranked over lanes from to m n fill cap kept reached t)
      (s : List Float) (inside : t < n) (same : (k : ℕ) → k < 80 → lane s k ≡ chunk_size over (get_or lanes t []) from to m k)
      (more : ℕ) (some : more ≤ exceeding_in (of_int binary64 (pos (min cap 4503599627370496 - 1))) (get_or (set kept t s) t []))
      (most : more ≤ 80) where
    pub one_ranked : Ranked over lanes from to m n fill cap (set kept t s) (reached + more) (t + 1)
    one_ranked =
        let sized = one_sized _ kept t before.sized s inside same in
        record {
          sized = sized;
          few = omega (arith, before.few);
          reaches =
              omega (
                arith,
                before.reaches,
                chunk_counted over m lanes from to t (min cap 4503599627370496 - 1) (get_or (set kept t s) t []) (sized.sizes t (omega arith)),
              );
          given = λ e i h l. get_or-set_other kept t i s [] (λ (is : i ≡ t). omega arith) ∙ before.given e i (omega arith) l;
        }

    -- where more than q of them reach the cap, it is what is selected of all
    pub cap_ranked : (q : ℕ) → t < length lanes → q < reached + more
        → min cap 4503599627370496 ≡ selected (exceeding_by over lanes from to m (length lanes)) q (min cap 4503599627370496)
    cap_ranked q h many =
        cap_reached over m lanes from to q (min cap 4503599627370496) (t + 1) (length lanes) (omega arith) (omega arith)
        (omega (arith, one_ranked.reaches))

  -- the first n chunks of lanes are as many of themselves
  pub cut_count : (n a : ℕ) → exceeding_by over (take n lanes) from to m n a ≡ exceeding_by over lanes from to m n a
  unfolding exceeding_by
  cut_count n a =
      sum_same _ _ n
      (λ i h. ap (λ (s : List (List Float)). sum_of (λ k. cond {A = ℕ} (lt (of_int binary64 (pos a)) (chunk_size over s from to m k)) 1 0) 80)
      (get_or-take n lanes i [] h))

  pub cut_selected : (n q cap : ℕ) → n ≤ length lanes
      → selected (exceeding_by over (take n lanes) from to m (length (take n lanes))) q cap ≡ selected (exceeding_by over lanes from to m n) q cap
  cut_selected n q cap few =
      ap (λ (k : ℕ). selected (exceeding_by over (take n lanes) from to m k) q cap) (length-take-le n lanes few)
      ∙ ap (λ (f : ℕ → ℕ). selected f q cap) (λ i a. cut_count n a i)
