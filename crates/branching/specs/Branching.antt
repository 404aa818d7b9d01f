-- A box is cut: what is found over lanes, by the numbers in them, and of a store's own lanes by its points. These definitions say what this
-- crate's functions do; the contract of a search does not rest on them, and a reader of that need not believe them.
use Rattle.codes.specs.Codes.{pass}
use Rattle.std.specs.Prelude.{◌≡◌, Bool, true, cond, not, ◌&&◌, List, ℕ, ◌+◌, ◌/◌, ◌<◌, min, ltb, eqb, ℤ, Float, Result, Ok, Err}
use Rattle.codes.specs.declared.Refusal.{Refusal}
use Rattle.boxes.specs.declared.Box.{Box}
use Rattle.boxes.specs.declared.Halves.{Halves}
use Rattle.boxes.specs.Split.{longest_side, left_half, right_half, zero_box, cut_answer}
use Rattle.jobs.specs.declared.Model.{Model}
use Rattle.integers.specs.Sums.{sum_of}
use Rattle.residuals.specs.Inside.{box_of}
use Rattle.model_checks.specs.Checks.{check_model}
use Rattle.costs.specs.Calls.{DecodedFor, cost_in, bound_in}
use Rattle.eval_columns.specs.Columns.{decoded_chunks}
use Rattle.eval_halves.specs.Halves.{half_loss_in}
use Rattle.certificate.specs.Search.{better}
use Rattle.incumbent.specs.declared.Child.{Child}
use Rattle.incumbent.specs.declared.Mark.{Mark}
use Rattle.incumbent.specs.Incumbent.{ahead_of, child_of, kept_by, mark_of, Tested}
use Rattle.branching.specs.declared.HalfBounds.{HalfBounds}
use Rattle.branching.specs.declared.Branches.{Branches}

-- what an evaluation asks: checks 1 to 4 passed, and the lanes are the store's, which a search decodes once
pub record Evaluable (store : List ℕ) (lanes : List (List (List Float))) (m : Model) : Type 0 where
  pub checked : check_model store m ≡ pass
  pub decoded : DecodedFor store m lanes

-- one more than a cost, as far as 64 bits go
abbrev pub just_above : ℕ → ℕ
just_above c = min (c + 1) 18446744073709551615

-- the line of the longest side; where lines have no coordinates, none of the n
abbrev pub cut_line : Model → Box → ℕ
cut_line m b = cond (eqb m.d 0) m.n (longest_side b / m.d)

-- whether both bounds are found side by side: they are sums, and there are other lines than the one that is cut
abbrev pub side_by_side : Model → ℕ → Bool
side_by_side m line = ltb m.p 3 && ltb 1 m.n && ltb line m.n

-- the bounds of two boxes, each up to a cap
abbrev pub bounds_up_to : (Box → ℕ) → Box → Box → ℕ → HalfBounds
bounds_up_to bound left right cap = record { left = min (bound left) cap; right = min (bound right) cap }

-- the two halves that a cut gives; of a box of one vector, which no search cuts, nothing but zeros
abbrev pub halves_of : Result Halves Refusal → Halves
halves_of (Ok h) = h
halves_of (Err r) = record { left = zero_box; right = zero_box }

module _ (store : List ℕ) (lanes : List (List (List Float))) (m : Model) where
  -- the losses over a half of the box from `left` to `right`, whose line c is cut, added up
  abbrev pub half_sum_in : Box → Box → Box → ℕ → ℕ → ℕ
  half_sum_in left right half c cap =
      min (sum_of (half_loss_in lanes m (box_of left.low right.high) half c) (decoded_chunks store lanes)) cap

  -- what is found of the bounds of both halves
  abbrev pub half_bounds_in : Box → Box → Box → ℕ → HalfBounds
  half_bounds_in b left right cap =
      cond (side_by_side m (cut_line m b))
      (record { left = half_sum_in left right left (cut_line m b) cap; right = half_sum_in left right right (cut_line m b) cap })
      (record { left = bound_in store lanes m left cap; right = bound_in store lanes m right cap })

  -- a box and what its test says
  abbrev pub tested_in : Box → Mark → Child
  tested_in half mark = child_of half (bound_in store lanes m half (just_above mark.cost)) mark

  -- the best vector after v is tried, if that is needed
  abbrev pub tried_in : Mark → List ℤ → Bool → Mark
  tried_in mark v needed =
      let c = cost_in store lanes m v (just_above mark.cost) in
      cond (needed && ahead_of mark c v) (record { t = mark.t; cost = c; best = v }) mark

  -- what a box that is cut leaves
  unfoldable pub cut_in : Box → Mark → Bool → Branches
  cut_in b mark given =
      let h = halves_of (cut_answer b) in
      let x = half_bounds_in b h.left h.right (just_above mark.cost) in
      let one = tried_in mark h.left.low given in
      let new = tried_in one h.right.low (ahead_of mark x.right h.right.low) in
      record {
        mark = new;
        stays = not (ahead_of mark new.cost new.best);
        left = child_of h.left x.left new;
        right = child_of h.right x.right new;
      }

-- What is left of a box b that is cut, where `mark` had the best vector: the new best, and the tested halves.
pub record Cut (cost : List ℤ → ℕ) (bound : Box → ℕ) (b : Box) (mark : Mark) (r : Branches) : Type 0 where
  pub new :
      r.mark
      ≡ mark_of cost mark.t
      (better cost mark.t (better cost mark.t mark.best (left_half b).low) (right_half b).low)
  pub fits : r.mark.cost < 18446744073709551615
  pub same : r.stays ≡ true → r.mark ≡ mark
  pub left : Tested bound (kept_by bound r.mark) (left_half b) r.left
  pub right : Tested bound (kept_by bound r.mark) (right_half b) r.right
