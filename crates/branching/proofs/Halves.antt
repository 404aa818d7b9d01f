-- Both halves of a box have its lines but for the one whose side is cut, so the sums side by side are their bounds. Assumes nothing.
use mathlib.Core.Path.{◌≡◌, refl, sym, ap, ◌∙◌, subst, subst₂, fun_ext}
use mathlib.Core.Bool.{Bool, true, false, cond}
use mathlib.Core.List.{List}
use mathlib.Core.Logic.{◌≢◌}
use Prim.Native.Nat.{ℕ, ◌+◌, ◌*◌, ◌/◌, ◌≤◌, ◌<◌, min}
use native.Mathlib.Nat.{mul-add-div_right, div-eq_of_lt}
use native.Mathlib.Omega.{arith}
use borrow.Author.Tests.{eqb-false}
use lib.Dec.{eqb}
use lib.IntN.{pos}
use lib.ListN.{length}
use lib.Seq.{get_or-set_other}
use lib.Ieee.{Float}
use Rattle.boxes.specs.declared.Box.{Box}
use Rattle.boxes.specs.Split.{longest_side, left_half, right_half}
use Rattle.jobs.specs.declared.Model.{Model}
use Rattle.points.specs.declared.Point.{Point}
use Rattle.points.specs.Points.{points_of}
use Rattle.residuals.specs.Cost.{at, least_size, total_loss, bound}
use Rattle.residuals.specs.Inside.{Ready, box_of}
use Rattle.residuals.proofs.Bounds.{bound_sum}
use Rattle.residuals.proofs.Lines.{size_agrees}
use Rattle.model_checks.proofs.Passed.{ready}
use Rattle.eval_halves.specs.Halves.{half_size, HalfSum}
use Rattle.branching.specs.declared.HalfBounds.{HalfBounds}
use Rattle.branching.specs.Branching.{Evaluable, bounds_up_to}

-- ---- the line of a coordinate
-- no other line has coordinate k
elsewhere : (k d j i : ℕ) → 1 ≤ d → i < d → j ≢ k / d → j * d + i ≢ k
elsewhere k d j i some h other e =
    let is = mul-add-div_right {m = d} some j i in
    other (omega (arith, is, div-eq_of_lt h, ap (λ (n : ℕ). n / d) e))

-- ---- each half, by its own line where the cut is
-- a box with the coordinates of b but for the side that is cut
abbrev SameBut : Box → Box → Type 0
SameBut b half = (k : ℕ) → k ≢ longest_side b → (at b.low k ≡ at half.low k) × (at b.high k ≡ at half.high k)

left_same : (b : Box) → SameBut b (left_half b)
unfolding left_half
left_same b k other = (refl, sym (get_or-set_other b.high (longest_side b) k _ (pos 0) other))

right_same : (b : Box) → SameBut b (right_half b)
unfolding right_half
right_same b k other = (sym (get_or-set_other b.low (longest_side b) k _ (pos 0) other), refl)

module _ (m : Model) (some : 1 ≤ m.d) (b half : Box) (same : SameBut b half) where
  abbrev cut_line : ℕ
  cut_line = longest_side b / m.d

  half_size_lem : (q : Point) (j : ℕ) → half_size m b half cut_line q j ≡ least_size m half q j
  half_size_lem q j = by (eqb j cut_line) refl
    where
      by : (t : Bool) → eqb j cut_line ≡ t → cond t (least_size m half q j) (least_size m b q j) ≡ least_size m half q j
      by true e = refl
      by false e =
          size_agrees m b half q j (λ i h. same (j * m.d + i) (elsewhere (longest_side b) m.d j i some h (eqb-false j cut_line e)))

  half_bound : m.p ≤ 2 → (qs : List Point) → total_loss m (half_size m b half cut_line) qs ≡ bound m qs half
  half_bound sums qs =
      ap (λ (size : Point → ℕ → ℕ). total_loss m size qs) (fun_ext (λ q. fun_ext (half_size_lem q))) ∙ sym (bound_sum m qs sums half)

-- both bounds, each up to a cap
pub both_are : (B : Box → ℕ) (left right : Box) (cap x y : ℕ) → x ≡ min (B left) cap → y ≡ min (B right) cap
    → ◌≡◌ {A = HalfBounds} (record { left = x; right = y }) (bounds_up_to B left right cap)
both_are B left right cap x y e f = rw (e, f)

-- ---- what is found side by side of the halves of a box b, whose line is cut
module _ (store : List ℕ) (lanes : List (List (List Float))) (m : Model) (go : Evaluable store lanes m) (sums : m.p ≤ 2) (b : Box)
    (cap : ℕ) where
  abbrev qs : List Point
  qs = points_of store

  passed : Ready (length store) m
  passed = ready store m go.checked

  -- a sum over a half of the box B, whose line j is cut
  abbrev Sum : Box → Box → ℕ → ℕ → Type 0
  Sum B half j x = HalfSum store lanes m B half j cap x

  bound_of : (half : Box) → SameBut b half → longest_side b / m.d < m.n → (x : ℕ) → Sum b half (longest_side b / m.d) x
      → x ≡ min (bound m qs half) cap
  bound_of half same inside x found =
      found.by_points passed inside go.decoded ∙ ap (λ (n : ℕ). min n cap) (half_bound m passed.some b half same sums qs)

  module _ (left right : Box) (is-left : left ≡ left_half b) (is_right : right ≡ right_half b) (line : ℕ)
      (is-line : line ≡ longest_side b / m.d) (inside : line < m.n) where
    -- from the left half's low vector to the right half's high vector, which is b
    abbrev uncut : Box
    uncut = box_of left.low right.high

    here : (half : Box) (x : ℕ) → Sum uncut half line x → Sum b half (longest_side b / m.d) x
    unfolding left_half right_half
    here half x found =
        subst (λ (i : ℕ). Sum b half i x) is-line
        (subst₂ (λ (l : Box) (r : Box). Sum (box_of l.low r.high) half line x) is-left is_right found)

    within : longest_side b / m.d < m.n
    within = subst (λ (i : ℕ). i < m.n) is-line inside

    left_bound : (x : ℕ) → Sum uncut left line x → x ≡ min (bound m qs left) cap
    left_bound x found =
        bound_of (left_half b) (left_same b) within x (here (left_half b) x (subst (λ (h : Box). Sum uncut h line x) is-left found))
        ∙ ap (λ (h : Box). min (bound m qs h) cap) (sym is-left)

    right_bound : (x : ℕ) → Sum uncut right line x → x ≡ min (bound m qs right) cap
    right_bound x found =
        bound_of (right_half b) (right_same b) within x (here (right_half b) x (subst (λ (h : Box). Sum uncut h line x) is_right found))
        ∙ ap (λ (h : Box). min (bound m qs h) cap) (sym is_right)

    -- both sums
    pub halves_are : (x y : ℕ) → Sum uncut left line x → Sum uncut right line y
        → ◌≡◌ {A = HalfBounds} (record { left = x; right = y }) (bounds_up_to (bound m qs) left right cap)
    halves_are x y found_left found_right = both_are (bound m qs) left right cap x y (left_bound x found_left) (right_bound y found_right)
