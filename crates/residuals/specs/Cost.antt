-- "Cost and bound". Lines count from 0 here, coordinates of a list too.
use Rattle.std.specs.Prelude.{cond, List, [], ◌∷◌, map, ℕ, zero, suc, ◌+◌, ◌*◌, ◌^◌, min, eqb, ℤ, pos, nat_abs, ◌-ℤ◌, ◌*ℤ◌, get_or}
use Rattle.std.specs.Int.Signed.{lt_z}
use Rattle.integers.specs.Integers.{max_z, min_z}
use Rattle.integers.specs.Sums.{Σ}
use Rattle.boxes.specs.declared.Box.{Box}
use Rattle.jobs.specs.declared.Model.{Model}
use Rattle.points.specs.declared.Point.{Point}
use Rattle.points.specs.Points.{is_gap, xs}
use Rattle.loss.specs.Loss.{loss_of}
use Rattle.ranks.specs.Largest.{nth_largest}

-- coordinate k of a list, counted from 0
abbrev pub at : List ℤ → ℕ → ℤ
at v k = get_or v k (pos 0)

-- y × 2^S
abbrev pub scaled_y : Model → Point → ℤ
scaled_y m q = q.y *ℤ pos (2 ^ m.scale)

-- "For point i and line j, e = y × 2^S − Σ w_k × x_k". "A vector has 8 signed 16-bit coordinates, line after line, d each": those of line
-- j begin at place j × d.
unfoldable pub residual : Model → List ℤ → Point → ℕ → ℤ
residual m v q j = scaled_y m q -ℤ Σ (λ k. at v (j * m.d + k) *ℤ at (xs q) k) m.d

-- the least of f 0, …, f (n − 1)
unfoldable pub least : (ℕ → ℕ) → ℕ → ℕ
least f zero = 0
least f (suc zero) = f 0
least f (suc (suc n)) = min (least f (suc n)) (f (suc n))

-- "A gap has loss 0 for every vector and box": a value found over a point's lines, and 0 for a gap.
unfoldable pub unless_gap : Point → ℕ → ℕ
unless_gap q value = cond (is_gap q) 0 value

-- The sum over the points of the least loss among the lines, where `size q j` stands for |e| of point q and line j; a gap adds 0.
unfoldable pub total_loss : Model → (Point → ℕ → ℕ) → List Point → ℕ
total_loss m size [] = 0
total_loss m size (q ∷ qs) = unless_gap q (least (λ j. loss_of m.p m.eps (size q j)) m.n) + total_loss m size qs

-- |e| of point q and line j
unfoldable pub size_at : Model → List ℤ → Point → ℕ → ℕ
size_at m v q j = nat_abs (residual m v q j)

-- a point's least |e| over the lines; "A gap counts as |e| = 0."
unfoldable pub least_at : Model → List ℤ → Point → ℕ
least_at m v q = unless_gap q (least (size_at m v q) m.n)

-- "The cost of a vector is the sum over the points of the least loss among its lines." Document 02: "p = 3: the cost is the (q + 1)-th
-- largest of the points' least |e| over the lines". "The ε field carries q".
unfoldable pub cost : Model → List Point → List ℤ → ℕ
cost m qs v = cond (eqb m.p 3) (nth_largest m.eps (map (least_at m v) qs)) (total_loss m (size_at m v) qs)

-- "emin = y × 2^S − Σ max(low × x, high × x)"
unfoldable pub e_min : Model → Box → Point → ℕ → ℤ
e_min m B q j =
    let b = j * m.d in
    scaled_y m q -ℤ Σ (λ k. max_z (at B.low (b + k) *ℤ at (xs q) k) (at B.high (b + k) *ℤ at (xs q) k)) m.d

-- "emax the same with min"
unfoldable pub e_max : Model → Box → Point → ℕ → ℤ
e_max m B q j =
    let b = j * m.d in
    scaled_y m q -ℤ Σ (λ k. min_z (at B.low (b + k) *ℤ at (xs q) k) (at B.high (b + k) *ℤ at (xs q) k)) m.d

-- "emin if emin > 0, −emax if emax < 0, else 0"
unfoldable pub nearest_to0 : ℤ → ℤ → ℕ
nearest_to0 emin emax = cond (lt_z (pos 0) emin) (nat_abs emin) (cond (lt_z emax (pos 0)) (nat_abs emax) 0)

-- "its least size over the box", of point q and line j
unfoldable pub least_size : Model → Box → Point → ℕ → ℕ
least_size m B q j = nearest_to0 (e_min m B q j) (e_max m B q j)

-- a point's least size over a box, of all lines, 0 for a gap
unfoldable pub least_over : Model → Box → Point → ℕ
least_over m B q = unless_gap q (least (least_size m B q) m.n)

-- "The bound of a box is the same sum with |e| replaced by its least size over the box." For p = 3, "The box bound takes the (q + 1)-th
-- largest of the least sizes."
unfoldable pub bound : Model → List Point → Box → ℕ
bound m qs B = cond (eqb m.p 3) (nth_largest m.eps (map (least_over m B) qs)) (total_loss m (least_size m B) qs)
