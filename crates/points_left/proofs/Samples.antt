-- The labels before the first round, and how many of the points are left then. Assumes nothing.
use mathlib.Core.Path.{◌≡◌, refl, ap}
use mathlib.Core.Bool.{Bool, true, false, cond, not}
use mathlib.Core.List.{List, [], ◌∷◌, ◌++◌}
use Prim.Native.Nat.{ℕ, ◌+◌, ◌/◌, ◌≤◌}
use native.Mathlib.Omega.{arith}
use lib.Dec.{eqb}
use lib.ListN.{length}
use Rattle.points.specs.declared.Point.{Point}
use Rattle.points.specs.Points.{is_gap, point_at, first_points, points_of}
use Rattle.points.proofs.Laws.{points_more, points_length}
use Rattle.rounds.specs.Rounds.{samples}
use Rattle.points_left.specs.Left.{first_label}

one_more : (qs : List Point) (q : Point) → length (samples (qs ++ (q ∷ []))) ≡ length (samples qs) + cond (eqb (first_label q) 0) 1 0
unfolding first_label
one_more [] q = one (is_gap q)
  where
    one : (b : Bool) → length (cond (not b) (q ∷ []) []) ≡ 0 + cond (eqb (cond b 6 0) 0) 1 0
    one true = refl
    one false = refl
one_more (p ∷ qs) q = one (is_gap p) (samples (qs ++ (q ∷ []))) (samples qs) (one_more qs q)
  where
    one : (b : Bool) (xs ys : List Point) → length xs ≡ length ys + cond (eqb (first_label q) 0) 1 0 →
        length (cond (not b) (p ∷ xs) xs) ≡ length (cond (not b) (p ∷ ys) ys) + cond (eqb (first_label q) 0) 1 0
    one true xs ys e = e
    one false xs ys e = omega arith

-- the next point, if it is a sample
pub samples_more : (s : List ℕ) (i n label : ℕ) → label ≡ first_label (point_at s i) → n ≡ cond (eqb label 0) 1 0 →
    length (samples (first_points s i)) + n ≡ length (samples (first_points s (i + 1)))
samples_more s i n label e w =
    let one : ◌≡◌ {A = ℕ} (cond (eqb label 0) 1 0) (cond (eqb (first_label (point_at s i)) 0) 1 0) = ap (λ (l : ℕ). cond (eqb l 0) 1 0) e in
    omega (arith, w, one, one_more (first_points s i) (point_at s i), ap (λ (qs : List Point). length (samples qs)) (points_more s i))

few : (qs : List Point) → length (samples qs) ≤ length qs
few [] = omega arith
few (q ∷ qs) = one (is_gap q) (samples qs) (few qs)
  where
    one : (b : Bool) (xs : List Point) → length xs ≤ length qs → length (cond (not b) (q ∷ xs) xs) ≤ length (q ∷ qs)
    one true xs h = omega arith
    one false xs h = omega arith

pub samples_few : (s : List ℕ) (i : ℕ) → length (samples (first_points s i)) ≤ i
samples_few s i = omega (arith, few (first_points s i), points_length s i)

pub samples_all : (s : List ℕ) (i : ℕ) → i ≡ length s / 12 → length (samples (first_points s i)) ≡ length (samples (points_of s))
unfolding points_of
samples_all s i e = rw e refl
