-- A box that is cut: of a right half that is dropped no vector becomes best, and what was found of a half's bound beside the best vector
-- from before decides beside the one after both low vectors were tried. Assumes nothing.
use mathlib.Core.Path.{◌≡◌, sym, ap, subst, ◌∙◌}
use mathlib.Core.Bool.{Bool, true, false, not}
use mathlib.Core.List.{List}
use Prim.Native.Nat.{ℕ, ◌≤◌, ◌<◌, min}
use native.Mathlib.Omega.{arith}
use lib.Dec.{T, T_not}
use lib.IntN.{ℤ}
use Rattle.boxes.specs.declared.Box.{Box}
use Rattle.boxes.specs.declared.Halves.{Halves}
use Rattle.boxes.specs.Boxes.{volume}
use Rattle.boxes.specs.Split.{left_half, right_half}
use Rattle.boxes.specs.Laws.{Bounds}
use Rattle.boxes.proofs.Volume.{low_in}
use Rattle.boxes.proofs.Halving.{halved}
use Rattle.certificate.specs.Search.{ahead, better}
use Rattle.certificate.proofs.Ahead.{Settled, better_le, none_better}
use Rattle.certificate.proofs.Dropped.{dropped}
use Rattle.incumbent.specs.declared.Child.{Child}
use Rattle.incumbent.specs.declared.Mark.{Mark}
use Rattle.incumbent.specs.Incumbent.{ahead_of, child_of, mark_of, Marks}
use Rattle.incumbent.proofs.UpTo.{same_test, found_tested}
use Rattle.branching.specs.declared.HalfBounds.{HalfBounds}
use Rattle.branching.specs.Branching.{just_above, bounds_up_to, Cut}

-- where C fits, the cap is one more
pub above_far : (cost : List ℤ → ℕ) (mark : Mark) → Marks cost mark → cost mark.best < just_above mark.cost
above_far cost mark is = omega (arith, is.exact, is.fits)

module _ (cost : List ℤ → ℕ) (bound : Box → ℕ) (laws : Bounds cost bound) (b : Box) (mark : Mark) (is : Marks cost mark) (two : 2 ≤ volume b) where
  abbrev t : ℕ
  t = mark.t

  abbrev v : List ℤ
  v = mark.best

  abbrev l : List ℤ
  l = (left_half b).low

  abbrev r : List ℤ
  r = (right_half b).low

  abbrev cap : ℕ
  cap = just_above mark.cost

  -- a right half that is dropped, by what was found of its bound, has no vector that becomes best, after the left low vector was tried
  right_dropped :
      (x : ℕ) → x ≡ min (bound (right_half b)) cap → ahead_of mark x r ≡ false → better cost t (better cost t v l) r ≡ better cost t v l
  right_dropped x found e =
      let far : mark.cost < cap = omega (arith, is.fits) in
      let drops = sym (same_test t mark.cost v (bound (right_half b)) r x cap found far) ∙ e in
      let first = (dropped cost bound laws t v (right_half b) (rw is.exact at drops)).later l in
      (dropped cost bound laws t (better cost t v l) (right_half b) first).none_better r (low_in (right_half b) (halved b two).right_some)

  -- where the new best is not ahead of the one from before, it is that
  best_stays : (stays : Bool) (new : Mark) → new ≡ mark_of cost t (better cost t (better cost t v l) r)
      → stays ≡ not (ahead_of mark new.cost new.best) → stays ≡ true → new ≡ mark
  best_stays stays new e told so =
      let w = better cost t (better cost t v l) r in
      let behind : not (ahead t (cost v) v (cost w) w) ≡ true = rw (is.exact, e) at (sym told ∙ so) in
      let settled : Settled cost t v w = T_not (ahead t (cost v) v (cost w) w) (subst T (sym behind) tt) in
      e ∙ ap (mark_of cost t) (none_better cost t v l r settled)
      ∙ ap (λ (c : ℕ). record { t = t; cost = c; best = v }) (sym is.exact)

  -- what is left, once the new best is known
  cut_is : (stays : Bool) (new : Mark) (x y : ℕ) → new ≡ mark_of cost t (better cost t (better cost t v l) r) → new.cost < 18446744073709551615
      → stays ≡ not (ahead_of mark new.cost new.best) → x ≡ min (bound (left_half b)) cap → y ≡ min (bound (right_half b)) cap
      → Cut cost bound b mark (record { mark = new; stays = stays; left = child_of (left_half b) x new; right = child_of (right_half b) y new })
  cut_is stays new x y e fits told left right =
      let far : new.cost < cap =
      omega (
        arith,
        ap (λ (n : Mark). n.cost) e,
        better_le cost t (better cost t v l) r,
        better_le cost t v l,
        above_far cost mark is,
      ) in
      record {
        new = e;
        fits = fits;
        same = best_stays stays new e told;
        left = found_tested bound (left_half b) new x cap left far;
        right = found_tested bound (right_half b) new y cap right far;
      }

  -- the best vector after w is tried beside k
  abbrev Tried : Mark → List ℤ → Mark → Type 0
  Tried k w new = (new ≡ mark_of cost k.t (better cost k.t k.best w)) × (new.cost < 18446744073709551615)

  -- step by step, as the code finds them
  pub cut_whole :
      (h : Halves) (top : ℕ) (x : HalfBounds) (given test stays : Bool) (one new : Mark) (left right : Child) → h ≡ record { left = left_half b; right = right_half b } →
      top ≡ cap →
      (h.left ≡ left_half b → h.right ≡ right_half b → x ≡ bounds_up_to bound h.left h.right top) →
      ((given ≡ false → better cost t v h.left.low ≡ v) → Tried mark h.left.low one) →
      (given ≡ false → better cost t v b.low ≡ v) →
      test ≡ ahead_of mark x.right h.right.low →
      (Marks cost one → (test ≡ false → better cost one.t one.best h.right.low ≡ one.best) → Tried one h.right.low new) → stays ≡ not (ahead_of mark new.cost new.best) →
      left ≡ child_of h.left x.left new → right ≡ child_of h.right x.right new →
      Cut cost bound b mark (record { mark = new; stays = stays; left = left; right = right })
  unfolding left_half
  cut_whole h top x given test stays one new left right halves tops found first costed asks second told is-left is_right =
      let is-l = ap (λ (k : Halves). k.left) halves in
      let is-r = ap (λ (k : Halves). k.right) halves in
      let bounds : x ≡ bounds_up_to bound (left_half b) (right_half b) cap = rw (is-l, is-r, tops) at (found is-l is-r) in
      let tries : Tried mark l one = subst (λ (w : Box). Tried mark w.low one) is-l (first (subst Costed (sym is-l) costed)) in
      let right_is = ap (λ (k : HalfBounds). k.right) bounds in
      let asked : test ≡ ahead_of mark x.right r = asks ∙ ap (λ (w : Box). ahead_of mark x.right w.low) is-r in
      let none : test ≡ false → better cost one.t one.best r ≡ one.best =
      λ e. rw tries.0 (right_dropped x.right right_is (sym asked ∙ e)) in
      let marks : Marks cost one = record { exact = rw tries.0; fits = tries.1 } in
      let last : Tried one r new =
      subst (λ (w : Box). Tried one w.low new) is-r
      (second marks (subst (λ (w : Box). test ≡ false → better cost one.t one.best w.low ≡ one.best) (sym is-r) none)) in
      rw (is-left, is_right, is-l, is-r)
      (cut_is stays new x.left x.right (last.0 ∙ ap (λ (o : Mark). mark_of cost o.t (better cost o.t o.best r)) tries.0) last.1
      told
      (ap (λ (k : HalfBounds). k.left) bounds) right_is)
    where
      Costed : Box → Type 0
      Costed w = given ≡ false → better cost t v w.low ≡ v
