-- No cost and no bound uses a frame number. Assumes nothing.
use mathlib.Core.Path.{◌≡◌, refl, ap₂}
use mathlib.Core.Bool.{cond}
use mathlib.Core.List.{List, [], ◌∷◌, map}
use Prim.Native.Nat.{ℕ, ◌+◌}
use lib.Dec.{eqb}
use Rattle.jobs.specs.declared.Model.{Model}
use Rattle.loss.specs.Loss.{loss_of}
use Rattle.points.specs.declared.Point.{Point}
use Rattle.points.specs.Points.{is_gap}
use Rattle.residuals.specs.Cost.{residual, least, unless_gap, total_loss, size_at, least_at, cost, e_min, e_max, least_size, least_over}
use Rattle.residuals.specs.Cost.{bound}
use Rattle.ranks.specs.Largest.{nth_largest}
use Rattle.residuals.specs.Laws.{framed, NoFrame}

module _ (m : Model) (f : Point → ℕ) where
  -- a sum over sizes that are the same with another frame number
  same_total : (size : Point → ℕ → ℕ) → ((q : Point) → ◌≡◌ {A = ℕ → ℕ} (size (framed f q)) (size q)) → (qs : List Point) →
      total_loss m size (map (framed f) qs) ≡ total_loss m size qs
  unfolding total_loss unless_gap
  same_total size same [] = refl
  same_total size same (q ∷ qs) =
      λ i. cond (is_gap q) 0 (least (λ j. loss_of m.p m.eps (same q i j)) m.n) + same_total size same qs i

  -- what is found of each point without its frame number
  same_map : (size : Point → ℕ) → ((q : Point) → size (framed f q) ≡ size q) → (qs : List Point)
      → map size (map (framed f) qs) ≡ map size qs
  same_map size same [] = refl
  same_map size same (q ∷ qs) = ap₂ ◌∷◌ (same q) (same_map size same qs)

  pub no_frame : (qs : List Point) → NoFrame m qs f
  unfolding cost bound least_at least_over unless_gap size_at residual least_size e_min e_max
  no_frame qs = record {
    same_cost =
        λ v i. cond (eqb m.p 3) (nth_largest m.eps (same_map (least_at m v) (λ q. refl) qs i))
        (same_total (size_at m v) (λ q. refl) qs i);
    same_bound =
        λ B i. cond (eqb m.p 3) (nth_largest m.eps (same_map (least_over m B) (λ q. refl) qs i))
        (same_total (least_size m B) (λ q. refl) qs i);
  }
