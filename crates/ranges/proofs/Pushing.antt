-- A box that is kept is written behind the first rows. Assumes nothing.
use mathlib.Core.Path.{◌≡◌, refl, sym, ◌∙◌}
use mathlib.Core.Bool.{Bool, true, false, cond}
use mathlib.Core.List.{List, [], ◌∷◌, ◌++◌, append-nil}
use Prim.Native.Nat.{ℕ, ◌+◌, ◌*◌, ◌≤◌}
use native.Mathlib.Omega.{arith}
use lib.IntN.{ℤ}
use lib.ListN.{length-set}
use Rattle.boxes.specs.declared.Box.{Box}
use Rattle.boxes.specs.Split.{left_half, right_half}
use Rattle.list_rows.specs.Rows.{row_count, rows_of}
use Rattle.list_rows.proofs.Rows.{Whole, rows_with, length_with, rest_with, rest_later}
use Rattle.ranges.specs.Inside.{pushed, place_after, Within}

-- halves of a box of sixteen numbers
pub left_whole : (b : Box) → Whole b → Whole (left_half b)
unfolding left_half
left_whole b w = record { low = w.low; high = length-set b.high _ _ ∙ w.high }

pub right_whole : (b : Box) → Whole b → Whole (right_half b)
unfolding right_half
right_whole b w = record { low = length-set b.low _ _ ∙ w.low; high = w.high }

-- from row n on, and so from each later row on
pub within_later : {n k : ℕ} {t u : List ℤ} → n ≤ k → Within n t u → Within k t u
within_later {n} {k} {t} {u} h w = record { long = w.long; rest = rest_later t u (16 * n) (16 * k) (omega arith) w.rest }

pub within_along : {n : ℕ} {t u v : List ℤ} → Within n t u → Within n u v → Within n t v
within_along a b = record { long = b.long ∙ a.long; rest = b.rest ∙ a.rest }

module _ (t : List ℤ) (at : ℕ) (b : Box) (w : Whole b) where
  pub push_rows : (kept : Bool) → place_after at kept ≤ row_count t
      → rows_of (pushed t at b kept) (place_after at kept) ≡ rows_of t at ++ cond kept (b ∷ []) []
  push_rows true room = rows_with t at b (omega arith) w
  push_rows false room = let none : at + 0 ≡ at = omega arith in rw none (sym (append-nil (rows_of t at)))

  pub push_within : (kept : Bool) → Within (place_after at kept) t (pushed t at b kept)
  push_within true = record { long = length_with t at b w; rest = rest_with t at b w (16 * (at + 1)) (omega arith) }
  push_within false = record { long = refl; rest = refl }
