-- A buffer that a loop fills from the front with one byte a point. Assumes nothing.
use mathlib.Core.Path.{◌≡◌, refl, sym, ap, ap₂, ◌∙◌}
use mathlib.Core.List.{List, [], ◌∷◌, ◌++◌, map, map-append}
use Prim.Native.Nat.{ℕ, suc, ◌+◌, ◌/◌, ◌≤◌, ◌<◌}
use native.Mathlib.Numerals.{add-one}
use native.Mathlib.Omega.{arith}
use lib.ListN.{length, take, drop, set, length-map, length-set, take-append-drop}
use lib.Seq.{take-suc-set, drop-set-lt, drop-drop, take_all}
use Rattle.integers.specs.Lists.{over}
use Rattle.points.specs.declared.Point.{Point}
use Rattle.points.specs.Points.{point_at, first_points, points_of}
use Rattle.points.proofs.Laws.{points_more, points_length}

pub points_number : (s : List ℕ) → length (points_of s) ≡ length s / 12
unfolding points_of
points_number s = points_length s (length s / 12)

module _ (f : Point → ℕ) (s : List ℕ) (old : List ℕ) where
  pub record Filled (i : ℕ) (out : List ℕ) : Type 0 where
    pub few : i ≤ length s / 12
    pub long : length out ≡ length old
    pub front : take i out ≡ map f (first_points s i)
    pub rest : drop i out ≡ drop i old

  pub none_filled : Filled 0 old
  unfolding first_points
  none_filled = record { few = omega arith; long = refl; front = refl; rest = refl }

  pub one_filled : {i : ℕ} {out : List ℕ} (b : ℕ) → b ≡ f (point_at s i) → i < length s / 12 → i < length out → Filled i out →
      Filled (i + 1) (set out i b)
  one_filled {i} {out} b e h k g =
      record {
        few = omega arith;
        long = length-set out i b ∙ g.long;
        front =
            rw add-one (take-suc-set out i b k)
            ∙ ap₂ ◌++◌ g.front (ap (λ (x : ℕ). x ∷ []) e)
            ∙ sym (ap (map f) (points_more s i) ∙ map-append f (first_points s i) (point_at s i ∷ []));
        rest =
            rw add-one (drop-set-lt (suc i) out i b (omega arith))
            ∙ ap (λ (n : ℕ). drop n out) (sym (add-one i))
            ∙ sym (drop-drop 1 i out)
            ∙ ap (drop 1) g.rest
            ∙ drop-drop 1 i old;
      }

  pub all_filled : {i : ℕ} {out : List ℕ} → length s / 12 ≤ i → Filled i out → out ≡ over (map f (points_of s)) old
  unfolding points_of over
  all_filled {i} {out} h g =
      let first = first_points s (length s / 12) in
      let n : length (map f first) ≡ i = length-map first f ∙ omega (arith, points_length s (length s / 12), g.few) in
      let m : i ≡ length s / 12 = omega (arith, g.few) in
      sym (take-append-drop i out)
      ∙ ap₂ ◌++◌ (g.front ∙ ap (λ (k : ℕ). map f (first_points s k)) m) (g.rest ∙ ap (λ (k : ℕ). drop k old) (sym n))

  -- where nothing stands behind them
  pub whole_filled : {i : ℕ} {out : List ℕ} → length s / 12 ≤ i → length old ≡ length s / 12 → Filled i out → out ≡ map f (points_of s)
  unfolding points_of
  whole_filled {i} {out} h long g =
      let m : i ≡ length s / 12 = omega (arith, g.few) in
      let all : length out ≤ i = omega (arith, g.long) in
      sym (take_all i out all) ∙ g.front ∙ ap (λ (k : ℕ). map f (first_points s k)) m
