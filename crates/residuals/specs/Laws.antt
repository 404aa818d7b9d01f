-- What is shown of costs and bounds. The proofs stand in proofs/Bounds.antt, and of frame numbers in proofs/Frames.antt.
use Rattle.std.specs.Prelude.{cond, List, [], ◌∷◌, map, ◌≡◌, ℕ, ◌+◌, ◌≤◌, eqb, ℤ, nat_abs}
use Rattle.boxes.specs.declared.Box.{Box}
use Rattle.boxes.specs.Laws.{Bounds}
use Rattle.jobs.specs.declared.Model.{Model}
use Rattle.loss.specs.Loss.{loss_of}
use Rattle.points.specs.declared.Point.{Point}
use Rattle.points.specs.Points.{xs}
use Rattle.ranks.specs.Largest.{nth_largest}
use Rattle.ranks.specs.Laws.{Rises}
use Rattle.residuals.specs.Cost.{at, residual, least_at, cost, least_over, bound}

-- "This is Lemma 2 of source document 000 under the saturated losses. A box of one vector has that vector's cost as its bound.": the two
-- laws of boxes/specs/Laws.antt, of any model and points
abbrev pub AllBounds : Type 0
AllBounds = (m : Model) (qs : List Point) → Bounds (cost m qs) (bound m qs)

-- The same two laws of one point's least size over a box and its least |e| under a vector, sample or gap.
abbrev pub PointBounds : Type 0
PointBounds = (m : Model) (q : Point) → Bounds (λ v. least_at m v q) (λ B. least_over m B q)

-- Document 02, [5]: "every cost that is made from the points' least |e| alone .., with the box bound made likewise from the least sizes"
abbrev pub cost_by : (List ℕ → ℕ) → Model → List Point → List ℤ → ℕ
cost_by make m qs v = make (map (least_at m v) qs)

abbrev pub bound_by : (List ℕ → ℕ) → Model → List Point → Box → ℕ
bound_by make m qs B = make (map (least_over m B) qs)

-- Where what is made "never falls when one of them grows", these have the two laws, which the certified search rests on.
abbrev pub AllMade : Type 0
AllMade = (make : List ℕ → ℕ) → Rises make → (m : Model) (qs : List Point) → Bounds (cost_by make m qs) (bound_by make m qs)

-- the sum of the losses of sizes
unfoldable pub loss_sum : ℕ → ℕ → List ℕ → ℕ
loss_sum p ε [] = 0
loss_sum p ε (a ∷ sizes) = loss_of p ε a + loss_sum p ε sizes

-- what a model's cost is made by
unfoldable pub make_of : Model → List ℕ → ℕ
make_of m sizes = cond (eqb m.p 3) (nth_largest m.eps sizes) (loss_sum m.p m.eps sizes)

-- "the four values of p then use it": the least loss among the lines is the loss of the least |e|, so that for each p cost and bound are
-- made of the points' least sizes alone.
pub record Made (m : Model) (qs : List Point) : Type 0 where
  pub rises : Rises (make_of m)
  pub of_cost : (v : List ℤ) → cost m qs v ≡ cost_by (make_of m) m qs v
  pub of_bound : (B : Box) → bound m qs B ≡ bound_by (make_of m) m qs B

-- a point with the frame number that f gives it
abbrev pub framed : (Point → ℕ) → Point → Point
framed f q = record { x1 = q.x1; x2 = q.x2; x3 = q.x3; x4 = q.x4; y = q.y; frame = f q }

-- "a frame number, unsigned 16-bit, which no cost uses": other frame numbers, the same cost and bound
pub record NoFrame (m : Model) (qs : List Point) (f : Point → ℕ) : Type 0 where
  pub same_cost : (v : List ℤ) → cost m (map (framed f) qs) v ≡ cost m qs v
  pub same_bound : (B : Box) → bound m (map (framed f) qs) B ≡ bound m qs B

-- every coordinate has the size of a signed 16-bit number
abbrev pub Small : List ℤ → Type 0
Small zs = (k : ℕ) → nat_abs (at zs k) ≤ 32768

-- "a whole number, at most 5,368,709,120 in size"
pub record SmallResidual (m : Model) (v : List ℤ) (q : Point) (j : ℕ) : Type 0 where
  pub small : m.scale ≤ 15 → m.d ≤ 4 → Small v → Small (q.y ∷ xs q) → nat_abs (residual m v q j) ≤ 5368709120
