-- The lines of a half: all but one, line after line, and then its own. Assumes nothing.
use mathlib.Core.Path.{◌≡◌, ap, ◌∙◌}
use mathlib.Core.Bool.{true}
use mathlib.Core.List.{List}
use Prim.Native.Nat.{ℕ, ◌+◌, ◌*◌, ◌<◌, min}
use native.Mathlib.Numerals.{add-one}
use borrow.Author.Tests.{eq-eqb, ne_eqb}
use lib.IntN.{pos}
use lib.ListN.{get_or-replicate}
use lib.Ieee.{Float, nan, binary64, of_int}
use Rattle.jobs.specs.declared.Model.{Model}
use Rattle.eval_whole.specs.Whole.{smaller_of}
use Rattle.eval_lanes.specs.Lanes.{lane, Lessened}
use Rattle.eval_losses.specs.Losses.{loss_in, chunk_sum}
use Rattle.eval_losses.proofs.Exact.{chunk_same}
use Rattle.eval_kernel.specs.Kernel.{size_by, no_size, no_sizes}
use Rattle.eval_halves.specs.Halves.{least_but, half_loss}

module _ (s : List (List Float)) (low high : List Float) (d c : ℕ) (most : Float) (j k : ℕ) where
  pub own_line : j ≡ c → least_but s low high d c most (j + 1) k ≡ least_but s low high d c most j k
  unfolding least_but
  own_line e = rw (add-one j, eq-eqb j c e)

  pub other_line : (j ≡ c → ⊥)
      → least_but s low high d c most (j + 1) k ≡ smaller_of (least_but s low high d c most j k) (size_by true s low high d (min (j * d) 8) k)
  unfolding least_but
  other_line e = rw (add-one j, ne_eqb j c e)

-- the losses of lanes that were lessened from a number that no size reaches, by the other lines and then by the half's own
pub half_summed :
    (s : List (List Float)) (low high own_low own_high : List Float) (m : Model) (c : ℕ) (old others own : List Float) (r : ℕ)
    → old ≡ no_sizes
    → ((k : ℕ) → k < 80 → lane others k ≡ least_but s low high m.d c (lane old k) m.n k)
    → Lessened others own (size_by true s own_low own_high m.d (min (c * m.d) 8))
    → r ≡ chunk_sum (λ k. loss_in m.p (of_int binary64 (pos m.eps)) (lane own k)) → r ≡ half_loss s low high own_low own_high m c
unfolding half_loss
half_summed s low high own_low own_high m c old others own r none rest mine sum =
    let size = size_by true s own_low own_high m.d (min (c * m.d) 8) in
    let loss : Float → Float = loss_in m.p (of_int binary64 (pos m.eps)) in
    let from : (k : ℕ) → k < 80 → lane others k ≡ least_but s low high m.d c no_size m.n k =
    λ k h.
    rest k h
    ∙ ap (λ (z : Float). least_but s low high m.d c z m.n k)
    (ap (λ (xs : List Float). lane xs k) none ∙ get_or-replicate 80 k no_size nan h) in
    sum ∙ chunk_same _ _ (λ k h. ap loss (mine k h ∙ ap (λ (z : Float). smaller_of z (size k)) (from k h)))
