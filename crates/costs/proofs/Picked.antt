-- Cost and bound by p: a rank for p = 3, else a sum. Assumes nothing.
use mathlib.Core.Path.{◌≡◌, sym, ap, ◌∙◌}
use mathlib.Core.Bool.{Bool, true, false, cond}
use mathlib.Core.List.{List}
use mathlib.Core.Logic.{⊎_elim}
use Prim.Native.Nat.{ℕ, ◌≤◌, ◌<◌, min}
use native.Mathlib.Omega.{arith}
use borrow.Author.Tests.{eq-eqb, ne_eqb}
use lib.IntN.{ℤ}
use lib.ListN.{length}
use lib.Ieee.{Float}
use Rattle.integers.proofs.Tests.{le_or_lt}
use Rattle.jobs.specs.declared.Model.{Model}
use Rattle.points.specs.declared.Point.{Point}
use Rattle.points.specs.Points.{points_of}
use Rattle.ranks.specs.Largest.{nth_largest}
use Rattle.residuals.specs.Cost.{total_loss}
use Rattle.integers.specs.Sums.{sum_of}
use Rattle.residuals.specs.Inside.{Ready, box_of}
use Rattle.residuals.proofs.Bounds.{cost_sum, bound_sum}
use Rattle.residuals.proofs.Ranks.{cost_rank, bound_rank}
use Rattle.residuals.proofs.Sums.{total_most}
use Rattle.eval_columns.specs.Columns.{decoded_chunks}
use Rattle.eval_selection.specs.Selection.{selected}
use Rattle.eval_kernel.specs.Kernel.{doubles}
use Rattle.costs.specs.Calls.{chunk_loss_in, exceeding_by, value_in}
use Rattle.costs.specs.Inside.{sizes_by, least_sizes, SumIn, RankIn, value_of, ValueIn}

-- with p of 3 ruled out
pub sum_kind : {p : ℕ} → p ≤ 3 → (p ≡ 3 → ⊥) → p ≤ 2
sum_kind {p} h other = ⊎_elim (λ (le : p ≤ 2). le) (λ (lt : 2 < p). absurd (other (omega arith))) (le_or_lt p 2)

module _ (m : Model) (low high : List ℤ) where
  pub value_rank : (over : Bool) (qs : List Point) → m.p ≡ 3
      → value_of over m qs low high ≡ nth_largest m.eps (least_sizes over m low high qs)
  value_rank true qs e = bound_rank m qs (eq-eqb _ _ e) (box_of low high)
  value_rank false qs e = cost_rank m qs (eq-eqb _ _ e) low

  pub value_sum : (over : Bool) (qs : List Point) → m.p ≤ 2 → value_of over m qs low high ≡ total_loss m (sizes_by over m low high) qs
  value_sum true qs h = bound_sum m qs h (box_of low high)
  value_sum false qs h = cost_sum m qs h low

  module _ (over : Bool) (store : List ℕ) (lanes : List (List (List Float))) (cap r : ℕ) where
    abbrev rank : ℕ
    rank = selected (exceeding_by over lanes (doubles low) (doubles high) m (decoded_chunks store lanes)) m.eps (min cap 4503599627370496)

    abbrev sum : ℕ
    sum = min (sum_of (chunk_loss_in over lanes m low high) (decoded_chunks store lanes)) cap

    pub by_rank : m.p ≡ 3 → RankIn over store lanes m low high cap r → ValueIn over store lanes m low high cap r
    unfolding value_in
    by_rank e g =
        record {
          by_lanes = g.by_lanes ∙ sym (ap (λ (t : Bool). cond t rank sum) (eq-eqb m.p 3 e));
          by_points = λ decoded. g.by_points decoded ∙ ap (λ (n : ℕ). min n cap) (sym (value_rank over (points_of store) e));
          small = λ decoded. omega (arith, value_rank over (points_of store) e, g.small decoded);
        }

    pub by_sum : Ready (length store) m → m.p ≤ 2 → SumIn over store lanes m low high cap r → ValueIn over store lanes m low high cap r
    unfolding value_in
    by_sum ready h g =
        record {
          by_lanes = g.by_lanes ∙ sym (ap (λ (t : Bool). cond t rank sum) (ne_eqb m.p 3 (λ (e : m.p ≡ 3). omega arith)));
          by_points = λ decoded. g.by_points decoded ∙ ap (λ (n : ℕ). min n cap) (sym (value_sum over (points_of store) h));
          small = λ decoded.
              omega (
                arith,
                value_sum over (points_of store) h,
                total_most m (sizes_by over m low high) store ready.lines ready.cut ready.few,
              );
        }
