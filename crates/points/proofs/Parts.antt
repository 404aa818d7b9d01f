-- The points of a store made of two parts, the first of whole records: those of the one, then those of the other. Assumes nothing.
use mathlib.Core.Path.{◌≡◌, refl, sym, ap, ◌∙◌}
use mathlib.Core.List.{List, [], ◌∷◌, ◌++◌, append_assoc, append-nil}
use Prim.Native.Nat.{ℕ, zero, suc, ◌+◌, ◌*◌, ◌/◌, ◌%◌, ◌≤◌, ◌<◌}
use native.Mathlib.Nat.{add-zero, add-suc}
use native.Mathlib.Omega.{arith}
use lib.ListN.{length, take, drop, length-append, length-drop}
use lib.Seq.{take-append-le, drop-append-le, drop-append-add}
use mir.Syntax.{w16}
use mir.Val.{to_z}
use Rattle.fields.specs.Fields.{number_at, from_big_endian}
use Rattle.points.specs.Points.{unsigned_at, signed_at, point_at, first_points, points_of}

-- records with the same numbers in their six fields are the same point
same_fields :
    (s s' : List ℕ) (i i' : ℕ) →
    ((o : ℕ) → o + 2 ≤ 12 → number_at s (i * 12 + o) 2 ≡ number_at s' (i' * 12 + o) 2) →
    point_at s i ≡ point_at s' i'
unfolding point_at signed_at unsigned_at
same_fields s s' i i' same =
    let first : number_at s (i * 12) 2 ≡ number_at s' (i' * 12) 2 = simp add-zero at (same 0 (omega arith)) in
    λ j.
    record {
      x1 = to_z w16 (first j);
      x2 = to_z w16 (same 2 (omega arith) j);
      x3 = to_z w16 (same 4 (omega arith) j);
      x4 = to_z w16 (same 6 (omega arith) j);
      y = to_z w16 (same 8 (omega arith) j);
      frame = same 10 (omega arith) j;
    }

module _ (a b : List ℕ) (k : ℕ) (whole : length a ≡ k * 12) where
  -- a record of the first part
  front_point : (i : ℕ) → i < k → point_at (a ++ b) i ≡ point_at a i
  front_point i h =
      same_fields (a ++ b) a i i
      (λ o g.
      ap (λ (l : List ℕ). from_big_endian (take 2 l)) (drop-append-le (i * 12 + o) a b (omega arith))
      ∙ ap from_big_endian (take-append-le 2 (drop (i * 12 + o) a) b (omega (arith, length-drop (i * 12 + o) a))))

  -- a record behind it
  later_point : (i : ℕ) → point_at (a ++ b) (k + i) ≡ point_at b i
  later_point i =
      same_fields (a ++ b) b (k + i) i
      (λ o g.
      let place : (k + i) * 12 + o ≡ length a + (i * 12 + o) = omega arith in
      rw place (ap (λ (l : List ℕ). from_big_endian (take 2 l)) (drop-append-add a b (i * 12 + o))))

  front_points : (n : ℕ) → n ≤ k → first_points (a ++ b) n ≡ first_points a n
  unfolding first_points
  front_points zero h = refl
  front_points (suc n) h = λ j. front_points n (omega arith) j ++ (front_point n (omega arith) j ∷ [])

  both_points : (n : ℕ) → first_points (a ++ b) (k + n) ≡ first_points a k ++ first_points b n
  unfolding first_points
  both_points zero = rw add-zero (front_points k (omega arith) ∙ sym (append-nil (first_points a k)))
  both_points (suc n) =
      rw add-suc
      ((λ j. both_points n j ++ (later_point n j ∷ [])) ∙ append_assoc (first_points a k) (first_points b n) (point_at b n ∷ []))

pub points_append : (a b : List ℕ) → length a % 12 ≡ 0 → points_of (a ++ b) ≡ points_of a ++ points_of b
unfolding points_of
points_append a b whole =
    let records : length (a ++ b) / 12 ≡ length a / 12 + length b / 12 = omega (arith, length-append a b) in
    rw records (both_points a b (length a / 12) (omega arith) (length b / 12))
