-- The losses of a chunk of a store are those of the points in its slots, exactly. Assumes nothing.
use mathlib.Core.Path.{◌≡◌, refl, ap, ◌∙◌, subst}
use mathlib.Core.Bool.{Bool, true, false, cond}
use mathlib.Core.List.{List}
use Prim.Native.Nat.{ℕ, zero, suc, ◌+◌, ◌*◌, ◌^◌, ◌≤◌, ◌<◌, min}
use native.Mathlib.Omega.{arith}
use borrow.Author.Tests.{le-ltb}
use lib.IntN.{ℤ, pos}
use lib.ListN.{get_or}
use lib.Ieee.{Float, binary64, of_int, lt}
use Rattle.jobs.specs.declared.Model.{Model}
use Rattle.loss.specs.Loss.{loss_of}
use Rattle.points.specs.declared.Point.{Point}
use Rattle.points.specs.Points.{xs}
use Rattle.residuals.specs.Cost.{at, residual, least, size_at, e_min, e_max, least_size}
use Rattle.integers.specs.Sums.{sum_of}
use Rattle.residuals.specs.Inside.{Ready, box_of, least_from}
use Rattle.residuals.proofs.Least.{line_room, from_le, from_large}
use Rattle.residuals.proofs.Sums.{sum_same}
use Rattle.eval_whole.specs.Whole.{Whole, Within}
use Rattle.eval_whole.proofs.Laws.{most, cast_whole, lt_whole}
use Rattle.eval_whole.proofs.Picks.{least_whole}
use Rattle.eval_lanes.specs.Lanes.{lane, xs_at, taken}
use Rattle.eval_columns.specs.Columns.{slot, ChunkOf}
use Rattle.eval_columns.proofs.Casts.{within_cast, within_scaled}
use Rattle.eval_sizes.proofs.Exact.{size_exact}
use Rattle.eval_box_ends.proofs.Exact.{least_exact}
use Rattle.eval_losses.proofs.Exact.{loss_exact, groups_exact, chunk_exact}
use Rattle.eval_kernel.specs.Kernel.{Doubles, line, size_by, least_by, loss_by, chunk_size, group_losses, chunk_loss}

-- the coordinates of a line, and the x of a point, by their places
line_within : (v : List ℤ) (u : List Float) (b d : ℕ) → Doubles v u → d ≤ 4 → b + d ≤ 8 → (k : ℕ) → k < d
    → Within (line u b k) (at v (b + k)) 32768
line_within v u b d w few room zero h =
    let e : b ≡ b + 0 = omega arith in subst (λ (i : ℕ). Within (lane u b) (at v i) 32768) e (w b (omega arith))
line_within v u b d w few room (suc zero) h = w (b + 1) (omega arith)
line_within v u b d w few room (suc (suc zero)) h = w (b + 2) (omega arith)
line_within v u b d w few room (suc (suc (suc zero))) h = w (b + 3) (omega arith)
line_within v u b d w few room (suc (suc (suc (suc k)))) h = absurd (omega arith)

module _ {store : List ℕ} {t d power : ℕ} {s : List (List Float)} (chunk : ChunkOf store t d power s) (k : ℕ) (h : k < 80) where
  point_within : d ≤ 4 → (c : ℕ) → c < d → Within (xs_at s k c) (at (xs (slot store t k)) c) 32768
  point_within few zero i = within_cast (chunk.column 0 k i (omega arith) h)
  point_within few (suc zero) i = within_cast (chunk.column 1 k i (omega arith) h)
  point_within few (suc (suc zero)) i = within_cast (chunk.column 2 k i (omega arith) h)
  point_within few (suc (suc (suc zero))) i = within_cast (chunk.column 3 k i (omega arith) h)
  point_within few (suc (suc (suc (suc c)))) i = absurd (omega arith)

-- ---- the size of one point and line
module _ {bytes : ℕ} {m : Model} (ready : Ready bytes m) {store : List ℕ} {t : ℕ} {s : List (List Float)}
    (chunk : ChunkOf store t m.d (2 ^ m.scale) s)
    (low high : List Float) (j k : ℕ) (lines : j < m.n) (h : k < 80) where
  room : j * m.d + m.d ≤ 8
  room = line_room j m.n m.d 8 lines ready.room

  begins : min (j * m.d) 8 ≡ j * m.d
  begins = omega (arith, room)

  uses : taken m.d ≡ m.d
  uses = let a = ready.some in let b = ready.used in omega arith

  pub size_in_lem : (v : List ℤ) → Doubles v low
      → Within (size_by false s low high m.d (min (j * m.d) 8) k) (pos (size_at m v (slot store t k) j)) 6442450944
  unfolding size_at residual
  size_in_lem v w =
      rw (begins, uses)
      (size_exact v (j * m.d) (xs (slot store t k)) (within_scaled (chunk.target k h)) m.d ready.used
      (line_within v low (j * m.d) m.d w ready.used room) (point_within chunk k h ready.used))

  pub least_in_lem : (l u : List ℤ) → Doubles l low → Doubles u high
      → Within (size_by true s low high m.d (min (j * m.d) 8) k) (pos (least_size m (box_of l u) (slot store t k) j)) 6442450944
  unfolding least_size e_min e_max
  least_in_lem l u w x =
      rw (begins, uses)
      (least_exact (box_of l u) (j * m.d) (xs (slot store t k)) (within_scaled (chunk.target k h)) m.d ready.used
      (line_within l low (j * m.d) m.d w ready.used room) (line_within u high (j * m.d) m.d x ready.used room)
      (point_within chunk k h ready.used))

zeros : (n : ℕ) → sum_of (λ k. 0) n ≡ 0
unfolding sum_of
zeros zero = refl
zeros (suc n) = omega (arith, zeros n)

-- ---- of all points, for any sizes that the lines' steps find
module _ (over : Bool) (s : List (List Float)) (low high : List Float) (m : Model) (point : ℕ → Point) (size : Point → ℕ → ℕ)
    (exact : (j k : ℕ) → j < m.n → k < 80
    → Within (size_by over s low high m.d (min (j * m.d) 8) k) (pos (size (point k) j)) 6442450944) where
  -- the least of them and a first number
  least_whole_by : (first : ℕ) → first ≤ most → (k : ℕ) → k < 80 → (n : ℕ) → n ≤ m.n
      → Whole (least_by over s low high m.d (of_int binary64 (pos first)) n k) (pos (least_from first (size (point k)) n))
  unfolding least_by least_from
  least_whole_by first f k h zero l = cast_whole (pos first) f
  least_whole_by first f k h (suc n) l = least_whole (least_whole_by first f k h n (omega arith)) (exact n k (omega arith) h).whole

  -- the least size of a point, since none reaches the number that it starts from
  size_whole : 1 ≤ m.n → (k : ℕ) → k < 80 → Whole (chunk_size over s low high m k) (pos (least (size (point k)) m.n))
  unfolding chunk_size
  size_whole lines k h =
      let is = from_large 8589934592 (size (point k)) m.n lines (omega (arith, (exact 0 k lines h).small)) in
      subst (Whole _) (ap pos is) (least_whole_by 8589934592 (omega arith) k h m.n (omega arith))

  -- the loss of the point in slot k
  abbrev loss_at : ℕ → ℕ
  loss_at k = loss_of m.p m.eps (least (size (point k)) m.n)

  losses_within : 1 ≤ m.n → m.eps ≤ 16777215 → (k : ℕ) → k < 80 → Within (loss_by over s low high m k) (pos (loss_at k)) 281474943156225
  losses_within lines cut k h = loss_exact (size_whole lines k h) cut m.p

  pub groups_in : 1 ≤ m.n → m.eps ≤ 16777215 → (g : ℕ) → g < 4
      → get_or (group_losses over s low high m) g 0 ≡ sum_of (λ k. loss_at (g * 20 + k)) 20
  unfolding group_losses
  groups_in lines cut = groups_exact (losses_within lines cut)

  pub loss_in_lem : 1 ≤ m.n → m.eps ≤ 16777215 → chunk_loss over s low high m ≡ sum_of loss_at 80
  unfolding chunk_loss
  loss_in_lem lines cut = chunk_exact (losses_within lines cut)

  -- whether the least size of a point exceeds a whole number: as its loss for p = 0 tells
  exceeds : 1 ≤ m.n → (a : ℕ) → a ≤ most → (k : ℕ) → k < 80
      → cond (lt (of_int binary64 (pos a)) (chunk_size over s low high m k)) 1 0 ≡ loss_of 0 a (least (size (point k)) m.n)
  unfolding loss_of
  exceeds lines a h k l = ap (λ (t : Bool). cond {A = ℕ} t 1 0) (lt_whole (cast_whole (pos a) h) (size_whole lines k l))

  pub exceeding_chunk : 1 ≤ m.n → (a : ℕ) → a ≤ most
      → sum_of (λ k. cond (lt (of_int binary64 (pos a)) (chunk_size over s low high m k)) 1 0) 80
      ≡ sum_of (λ k. loss_of 0 a (least (size (point k)) m.n)) 80
  exceeding_chunk lines a h = sum_same _ _ 80 (λ k l. exceeds lines a h k l)

  none : (k : ℕ) → k < 80 → cond {A = ℕ} (lt (of_int binary64 (pos 8589934592)) (chunk_size over s low high m k)) 1 0 ≡ 0
  unfolding chunk_size
  none k l =
      let least = least_from 8589934592 (size (point k)) m.n in
      ap (λ (t : Bool). cond {A = ℕ} t 1 0)
      (lt_whole (cast_whole (pos 8589934592) (omega arith)) (least_whole_by 8589934592 (omega arith) k l m.n (omega arith)))
      ∙ ap (λ (t : Bool). cond {A = ℕ} t 1 0) (le-ltb 8589934592 least (from_le 8589934592 (size (point k)) m.n))

  -- none exceeds 2^33
  pub none_exceed : sum_of (λ k. cond (lt (of_int binary64 (pos 8589934592)) (chunk_size over s low high m k)) 1 0) 80 ≡ 0
  none_exceed = sum_same _ (λ k. 0) 80 none ∙ zeros 80
