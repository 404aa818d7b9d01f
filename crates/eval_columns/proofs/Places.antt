-- Which point stands in a slot. Assumes nothing.
use mathlib.Core.Path.{◌≡◌, refl, ap, ap₂, ◌∙◌}
use mathlib.Core.Bool.{Bool, true, false, ◌&&◌, cond}
use mathlib.Core.List.{List}
use Prim.Native.Nat.{ℕ, ◌/◌, ◌%◌, ◌≤◌, ◌<◌}
use borrow.Author.Tests.{lt-ltb, le-ltb}
use lib.Dec.{ltb}
use lib.ListN.{length}
use Rattle.points.specs.declared.Point.{Point}
use Rattle.points.specs.Points.{point_at, skipped}
use Rattle.eval_columns.specs.Columns.{nowhere, number, record_in, placed, slot}

module _ (store : List ℕ) (t k : ℕ) where
  pick : Bool → Bool → Point
  pick a b = cond (a && b) (point_at store (number t k)) nowhere

  past : (a : Bool) → pick a false ≡ nowhere
  unfolding pick
  past true = refl
  past false = refl

  pub record_found : k % 20 < 19 → number t k < length store / 12 → record_in store t k ≡ point_at store (number t k)
  unfolding record_in pick
  record_found a b = ap₂ pick (lt-ltb _ _ a) (lt-ltb _ _ b)

  pub record_full : 19 ≤ k % 20 → record_in store t k ≡ nowhere
  unfolding record_in pick
  record_full a = ap (λ (x : Bool). pick x (ltb (number t k) (length store / 12))) (le-ltb _ _ a)

  pub record_past : length store / 12 ≤ number t k → record_in store t k ≡ nowhere
  unfolding record_in pick
  record_past a = ap (pick (ltb (k % 20) 19)) (le-ltb _ _ a) ∙ past (ltb (k % 20) 19)

  -- what a slot has of its record
  pub slot_found : k % 20 < 19 → number t k < length store / 12 → slot store t k ≡ placed (point_at store (number t k))
  unfolding slot
  slot_found a b = ap placed (record_found a b)

  pub slot_full : 19 ≤ k % 20 → slot store t k ≡ nowhere
  unfolding slot placed skipped
  slot_full a = ap placed (record_full a)

  pub slot_past : length store / 12 ≤ number t k → slot store t k ≡ nowhere
  unfolding slot placed skipped
  slot_past a = ap placed (record_past a)
