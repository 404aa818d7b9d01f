-- With one line and p = 0 the cost of samples is how many of them the line does not fit. Assumes nothing.
use mathlib.Core.Path.{◌≡◌, refl}
use mathlib.Core.Logic.{⊎_elim}
use mathlib.Core.Bool.{false, cond}
use mathlib.Core.List.{List, [], ◌∷◌, map}
use Prim.Native.Nat.{ℕ, ◌+◌}
use native.Mathlib.Omega.{arith}
use borrow.Author.Tests.{le-leb, lt-leb, lt-ltb, le-ltb}
use lib.Dec.{leb, ltb, eqb}
use lib.IntN.{ℤ}
use lib.ListN.{length}
use Rattle.integers.specs.Lists.{All, none, also}
use Rattle.integers.proofs.Tests.{le_or_lt}
use Rattle.loss.specs.Loss.{loss_of}
use Rattle.jobs.specs.declared.Model.{Model}
use Rattle.points.specs.declared.Point.{Point}
use Rattle.points.specs.Points.{is_gap}
use Rattle.residuals.specs.Cost.{least, unless_gap, total_loss, size_at, least_at, cost}
use Rattle.ranks.specs.Largest.{nth_largest}
use Rattle.rounds.specs.Rounds.{fits, fitted}

-- the least loss among one line is 1 or 0
one_line : (n p ε : ℕ) (f : ℕ → ℕ) → n ≡ 1 → p ≡ 0 → least (λ j. loss_of p ε (f j)) n ≡ cond (ltb ε (f 0)) 1 0
unfolding least loss_of
one_line n p ε f line counts = rw (line, counts) refl

no_rank : (p a b : ℕ) → p ≡ 0 → cond (eqb p 3) a b ≡ b
no_rank p a b counts = rw counts refl

-- a point adds 1 to the cost, or is fitted
one_point : (a ε : ℕ) → cond (ltb ε a) 1 0 + cond (leb a ε) 1 0 ≡ 1
one_point a ε = ⊎_elim (λ h. rw (le-leb a ε h, le-ltb ε a h) refl) (λ h. rw (lt-leb a ε h, lt-ltb ε a h) refl) (le_or_lt a ε)

module _ (m : Model) (line : m.n ≡ 1) (counts : m.p ≡ 0) (v : List ℤ) where
  all_points : (qs : List Point) → All (λ q. is_gap q ≡ false) qs → total_loss m (size_at m v) qs + fitted m v qs ≡ length qs
  unfolding total_loss fitted unless_gap fits
  all_points [] none = refl
  all_points (q ∷ qs) (also h hs) =
      let own : unless_gap q (least (λ j. loss_of m.p m.eps (size_at m v q j)) m.n) ≡ cond (ltb m.eps (size_at m v q 0)) 1 0 =
      rw h (one_line m.n m.p m.eps (size_at m v q) line counts) in
      omega (arith, own, one_point (size_at m v q 0) m.eps, all_points qs hs)

  -- the cost is the number of points less those fitted
  pub cost_fitted : (qs : List Point) → All (λ q. is_gap q ≡ false) qs → cost m qs v + fitted m v qs ≡ length qs
  unfolding cost
  cost_fitted qs h = omega
      (arith, no_rank m.p (nth_largest m.eps (map (least_at m v) qs)) (total_loss m (size_at m v) qs) counts, all_points qs h)
