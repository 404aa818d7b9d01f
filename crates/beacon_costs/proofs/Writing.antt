-- A list that a loop fills from the front with one sum a group. Assumes nothing.
use mathlib.Core.Path.{◌≡◌, refl, sym, ap, ap₂, ◌∙◌}
use mathlib.Core.List.{List, [], ◌∷◌, ◌++◌}
use Prim.Native.Nat.{ℕ, zero, suc, ◌+◌, ◌/◌, ◌<◌}
use native.Mathlib.Numerals.{add-one}
use native.Mathlib.Omega.{arith}
use lib.IntN.{ℤ}
use lib.ListN.{length, take, drop, set, length-append, length-set, take-append-drop}
use lib.Seq.{take-suc-set, drop-set-lt, drop-drop}
use Rattle.integers.specs.Lists.{over}
use Rattle.jobs.specs.declared.Model.{Model}
use Rattle.points.specs.declared.Point.{Point}
use Rattle.points.specs.Points.{points_of}
use Rattle.points.proofs.Laws.{points_length}
use Rattle.integers.specs.Sums.{sum_of}
use Rattle.beacon_costs.specs.BeaconCosts.{groups, group_cost, partial_sums, total}

-- the number of groups, by the bytes of a store
pub group_number : (store : List ℕ) → groups (points_of store) ≡ (length store / 12 + 18) / 19
unfolding groups points_of
group_number store = ap (λ (n : ℕ). (n + 18) / 19) (points_length store (length store / 12))

module _ (m : Model) (qs : List Point) (v : List ℤ) where
  sums_length : (n : ℕ) → length (partial_sums m qs v n) ≡ n
  unfolding partial_sums
  sums_length zero = refl
  sums_length (suc n) = omega (arith, length-append (partial_sums m qs v n) (group_cost m qs v n ∷ []), sums_length n)

  -- the first g sums are written, and they add up to `added`
  pub record Written (old : List ℕ) (g added : ℕ) (sums : List ℕ) : Type 0 where
    pub long : length sums ≡ length old
    pub front : take g sums ≡ partial_sums m qs v g
    pub rest : drop g sums ≡ drop g old
    pub all : added ≡ sum_of (group_cost m qs v) g

  module _ {old : List ℕ} where
    pub none_written : Written old 0 0 old
    unfolding partial_sums sum_of
    none_written = record { long = refl; front = refl; rest = refl; all = refl }

    pub one_written : {g added : ℕ} {sums : List ℕ} (sum : ℕ) → sum ≡ group_cost m qs v g → g < length sums → Written old g added sums
        → Written old (g + 1) (added + sum) (set sums g sum)
    unfolding partial_sums sum_of
    one_written {g} {sums = sums} sum e h w =
        record {
          long = length-set sums g sum ∙ w.long;
          front = rw (add-one g) (take-suc-set sums g sum h ∙ ap₂ ◌++◌ w.front (ap (λ (x : ℕ). x ∷ []) e));
          rest =
              rw (add-one g) (drop-set-lt (suc g) sums g sum (omega arith))
              ∙ ap (λ (n : ℕ). drop n sums) (sym (add-one g))
              ∙ sym (drop-drop 1 g sums)
              ∙ ap (drop 1) w.rest
              ∙ drop-drop 1 g old;
          all = rw (add-one g) (ap₂ ◌+◌ w.all e);
        }

    module _ {g added : ℕ} {sums : List ℕ} (last : g ≡ groups qs) (w : Written old g added sums) where
      pub all_written : sums ≡ over (partial_sums m qs v (groups qs)) old
      unfolding over
      all_written =
          sym (take-append-drop g sums)
          ∙ ap₂ ◌++◌ (w.front ∙ ap (partial_sums m qs v) last) (w.rest ∙ ap (λ (n : ℕ). drop n old) (last ∙ sym (sums_length (groups qs))))

      pub all_added : added ≡ total m qs v
      unfolding total
      all_added = w.all ∙ ap (sum_of (group_cost m qs v)) last
