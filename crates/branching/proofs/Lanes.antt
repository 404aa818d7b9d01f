-- What is found over lanes is what the definitions say, step by step. Assumes nothing.
use mathlib.Core.Path.{◌≡◌, refl, sym, ap, subst, ◌∙◌}
use mathlib.Core.Bool.{Bool, true, false, not, ◌&&◌}
use mathlib.Core.List.{List}
use Prim.Native.Nat.{ℕ, ◌/◌, ◌≤◌, ◌<◌}
use native.Mathlib.Omega.{arith}
use borrow.Author.Tests.{ltb-true, ne_eqb}
use lib.Dec.{T, ltb}
use lib.IntN.{ℤ}
use lib.Ieee.{Float}
use Rattle.boxes.specs.declared.Box.{Box}
use Rattle.boxes.specs.declared.Halves.{Halves}
use Rattle.boxes.specs.Split.{zero_box, longest_side, cut_answer}
use Rattle.codes.specs.declared.Refusal.{Refusal}
use Rattle.std.specs.Prelude.{Result, Ok, Err}
use Rattle.std.specs.Result.{result_unwrap_or}
use Rattle.jobs.specs.declared.Model.{Model}
use Rattle.costs.specs.Calls.{cost_in, bound_in}
use Rattle.incumbent.specs.declared.Child.{Child}
use Rattle.incumbent.specs.declared.Mark.{Mark}
use Rattle.incumbent.specs.Incumbent.{ahead_of, child_of}
use Rattle.branching.specs.declared.HalfBounds.{HalfBounds}
use Rattle.branching.specs.declared.Branches.{Branches}
use Rattle.branching.specs.Branching.{just_above, cut_line, side_by_side, half_sum_in, half_bounds_in, tried_in, halves_of, cut_in}

-- the halves, or zeros, as they are taken out of what a cut gives
pub unwrapped : (r : Result Halves Refusal) → result_unwrap_or r (record { left = zero_box; right = zero_box }) ≡ halves_of r
unwrapped (Ok h) = refl
unwrapped (Err e) = refl

-- side by side the line that is cut is one of the n, and bounds are sums
pub cut_inside : (m : Model) (line : ℕ) → side_by_side m line ≡ true → (m.p < 3) × (line < m.n)
cut_inside m line e = by (ltb m.p 3) (ltb 1 m.n) (ltb line m.n) refl refl e
  where
    by : (x y z : Bool) → ltb m.p 3 ≡ x → ltb line m.n ≡ z → (x && y && z) ≡ true → (m.p < 3) × (line < m.n)
    by true true true p q h = (ltb-true _ _ p, ltb-true _ _ q)
    by true true false p q h = absurd (subst T (sym h) tt)
    by true false z p q h = absurd (subst T (sym h) tt)
    by false y z p q h = absurd (subst T (sym h) tt)

-- the line is the longest side's, which a checked model has
pub longest_line : (m : Model) (b : Box) → 1 ≤ m.d → cut_line m b ≡ longest_side b / m.d
longest_line m b some = let other : m.d ≡ 0 → ⊥ = λ e. omega arith in rw (ne_eqb m.d 0 other)

module _ (store : List ℕ) (lanes : List (List (List Float))) (m : Model) where
  module _ (b left right : Box) (cap line x y : ℕ) (side : Bool) (is : line ≡ cut_line m b) (told : side ≡ side_by_side m line) where
    tells : side ≡ side_by_side m (cut_line m b)
    tells = told ∙ ap (side_by_side m) is

    pub together : side ≡ true → x ≡ half_sum_in store lanes m left right left line cap → y ≡ half_sum_in store lanes m left right right line cap
        → ◌≡◌ {A = HalfBounds} (record { left = x; right = y }) (half_bounds_in store lanes m b left right cap)
    together so e f = rw (e, f, is, sym tells ∙ so)

    pub apart : side ≡ false → x ≡ bound_in store lanes m left cap → y ≡ bound_in store lanes m right cap
        → ◌≡◌ {A = HalfBounds} (record { left = x; right = y }) (half_bounds_in store lanes m b left right cap)
    apart not_so e f = rw (e, f, sym tells ∙ not_so)

  module _ (mark : Mark) (v : List ℤ) (needed test : Bool) (x cap : ℕ) (costed : needed ≡ true) (above : cap ≡ just_above mark.cost)
      (found : x ≡ cost_in store lanes m v cap) (told : test ≡ ahead_of mark x v) where
    abbrev whole : ℕ
    whole = cost_in store lanes m v (just_above mark.cost)

    exact : x ≡ whole
    exact = found ∙ ap (cost_in store lanes m v) above

    decides : test ≡ ahead_of mark whole v
    decides = told ∙ ap (λ (k : ℕ). ahead_of mark k v) exact

    pub takes : test ≡ true → ◌≡◌ {A = Mark} (record { t = mark.t; cost = x; best = v }) (tried_in store lanes m mark v needed)
    takes is = rw (costed, sym decides ∙ is, exact)

    pub leaves : test ≡ false → mark ≡ tried_in store lanes m mark v needed
    leaves is = rw (costed, sym decides ∙ is)

  pub cut_lanes :
      (b : Box) (mark : Mark) (given test stays : Bool) (h : Halves) (cap : ℕ) (x : HalfBounds) (one new : Mark) (l r : Child) → h ≡ halves_of (cut_answer b) →
      cap ≡ just_above mark.cost → x ≡ half_bounds_in store lanes m b h.left h.right cap →
      one ≡ tried_in store lanes m mark h.left.low given → test ≡ ahead_of mark x.right h.right.low →
      new ≡ tried_in store lanes m one h.right.low test → stays ≡ not (ahead_of mark new.cost new.best) → l ≡ child_of h.left x.left new → r ≡ child_of h.right x.right new →
      ◌≡◌ {A = Branches} (record { mark = new; stays = stays; left = l; right = r }) (cut_in store lanes m b mark given)
  unfolding cut_in
  cut_lanes b mark given test stays h cap x one new l r cuts above found first asks second same left right =
      rw (left, right, same, second, asks, first, found, above, cuts)
