-- Costs and bounds that are found only as far as a cap above C. Assumes nothing.
use mathlib.Core.Bool.{true, false}
use mathlib.Core.Path.{◌≡◌, refl, sym, ◌∙◌}
use mathlib.Core.List.{List}
use Prim.Native.Nat.{ℕ, ◌<◌, min}
use native.Mathlib.Omega.{arith}
use lib.IntN.{ℤ}
use Rattle.boxes.specs.declared.Box.{Box}
use Rattle.certificate.specs.Search.{ahead, better}
use Rattle.certificate.proofs.Ahead.{ahead_capped, ahead_le}
use Rattle.incumbent.specs.declared.Mark.{Mark}
use Rattle.incumbent.specs.Incumbent.{kept_by, child_of, Tested, mark_of}

-- a number x that was found as far as a cap above c decides as the whole one does, and is the whole one where it is ahead
module _ (tol c : ℕ) (best : List ℤ) (y : ℕ) (v : List ℤ) (x cap : ℕ) (found : x ≡ min y cap) (far : c < cap) where
  pub same_test : ahead tol c best x v ≡ ahead tol c best y v
  same_test = rw found (ahead_capped tol c best y v cap far)

  whole_ahead : ahead tol c best x v ≡ true → x ≡ y
  whole_ahead is = let le = ahead_le tol c best x v (rw is tt) in omega arith

-- a vector v that is tried, x being what was found of its cost as far as a cap above the best one's
module _ (cost : List ℤ → ℕ) (tol : ℕ) (best v : List ℤ) (x cap : ℕ) (found : x ≡ min (cost v) cap) (far : cost best < cap) where
  pub tried_new : ahead tol (cost best) best x v ≡ true
      → ◌≡◌ {A = Mark} (record { t = tol; cost = x; best = v }) (mark_of cost tol (better cost tol best v))
  unfolding better
  tried_new is =
      let e = whole_ahead tol (cost best) best (cost v) v x cap found far is in
      rw (sym (same_test tol (cost best) best (cost v) v x cap found far) ∙ is, e)

  pub tried_old : ahead tol (cost best) best x v ≡ false → mark_of cost tol best ≡ mark_of cost tol (better cost tol best v)
  unfolding better
  tried_old is = rw (sym (same_test tol (cost best) best (cost v) v x cap found far) ∙ is)

-- a box whose bound x was found as far as a cap above the cost
pub found_tested :
    (bound : Box → ℕ) (b : Box) (mark : Mark) (x cap : ℕ) → x ≡ min (bound b) cap → mark.cost < cap →
    Tested bound (kept_by bound mark) b (child_of b x mark)
found_tested bound b mark x cap is far =
    record {
      half = refl;
      decided = same_test mark.t mark.cost mark.best (bound b) b.low x cap is far;
      exact = whole_ahead mark.t mark.cost mark.best (bound b) b.low x cap is far;
    }
