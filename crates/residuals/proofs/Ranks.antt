-- For p = 3 a cost is a rank of the points' least sizes; how many of these exceed a number is the cost for p = 0 with that number as
-- threshold. Assumes nothing.
use mathlib.Core.Path.{◌≡◌, refl, sym, ap, ◌∙◌}
use mathlib.Core.Bool.{Bool, true, cond}
use mathlib.Core.List.{List, [], ◌∷◌, map}
use Prim.Native.Nat.{ℕ, ◌+◌}
use lib.Dec.{eqb, ltb}
use lib.IntN.{ℤ}
use Rattle.boxes.specs.declared.Box.{Box}
use Rattle.jobs.specs.declared.Model.{Model}
use Rattle.loss.specs.Loss.{loss_of}
use Rattle.points.specs.declared.Point.{Point}
use Rattle.ranks.specs.Largest.{nth_largest}
use Rattle.ranks.specs.Laws.{exceeding}
use Rattle.ranks.proofs.Largest.{exceeding_more}
use Rattle.residuals.specs.Cost.{least, unless_gap, size_at, least_size, total_loss, least_at, cost, least_over, bound}
use Rattle.residuals.specs.Laws.{loss_sum}
use Rattle.residuals.proofs.Bounds.{total_of_least}

-- the same lines, with a loss of 1 for each point whose least size exceeds a
abbrev pub counting : ℕ → Model → Model
counting a m = record { n = m.n; d = m.d; scale = m.scale; p = 0; eps = a }

exceeding_sum : (a : ℕ) (sizes : List ℕ) → exceeding a sizes ≡ loss_sum 0 a sizes
unfolding exceeding loss_sum loss_of
exceeding_sum a [] = refl
exceeding_sum a (x ∷ sizes) = exceeding_more a x sizes ∙ ap (λ (n : ℕ). cond (ltb a x) 1 0 + n) (exceeding_sum a sizes)

-- how many of the points' least sizes exceed a
pub exceeding_total : (a : ℕ) (m : Model) (size : Point → ℕ → ℕ) (qs : List Point) →
    total_loss (counting a m) size qs ≡ exceeding a (map (λ q. unless_gap q (least (size q) m.n)) qs)
exceeding_total a m size qs =
    total_of_least (counting a m) size qs ∙ sym (exceeding_sum a (map (λ q. unless_gap q (least (size q) m.n)) qs))

module _ (m : Model) (qs : List Point) (h : eqb m.p 3 ≡ true) where
  pub cost_rank : (v : List ℤ) → cost m qs v ≡ nth_largest m.eps (map (λ q. unless_gap q (least (size_at m v q) m.n)) qs)
  unfolding cost least_at
  cost_rank v = ap (λ (t : Bool). cond t (nth_largest m.eps (map (least_at m v) qs)) (total_loss m (size_at m v) qs)) h

  pub bound_rank : (B : Box) → bound m qs B ≡ nth_largest m.eps (map (λ q. unless_gap q (least (least_size m B q) m.n)) qs)
  unfolding bound least_over
  bound_rank B = ap (λ (t : Bool). cond t (nth_largest m.eps (map (least_over m B) qs)) (total_loss m (least_size m B) qs)) h
