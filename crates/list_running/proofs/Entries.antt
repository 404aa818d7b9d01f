-- The entries of a list, where they are its bounds: of the late rows by their places, and those of the rows that are open. Assumes nothing.
use mathlib.Core.Path.{◌≡◌, refl, sym, ap, ◌∙◌}
use mathlib.Core.Bool.{Bool, true, false, cond}
use mathlib.Core.List.{List, [], ◌∷◌, map}
use Prim.Native.Nat.{ℕ, zero, suc, ◌<◌}
use native.Mathlib.Omega.{arith}
use lib.Dec.{eqb}
use lib.IntN.{ℤ}
use lib.ListN.{length, get_or, set, take}
use lib.Seq.{get_or-take, get_or-set_same, get_or-set_other}
use borrow.Author.Tests.{le-ltb, eqb-true, eqb-false}
use Rattle.boxes.specs.declared.Box.{Box}
use Rattle.boxes.specs.Split.{zero_box}
use Rattle.list_rows.specs.Rows.{row_at, rows_of}
use Rattle.list_rows.proofs.Rows.{rows_length, rows_at}
use Rattle.list_first_smallest.specs.FirstSmallest.{entry_at}
use Rattle.list_blocks.specs.Blocks.{gone}
use Rattle.list_running.specs.Listing.{open_at}

-- a test has one answer
pub one_answer : true ≡ false → ⊥
one_answer e = let z : ◌≡◌ {A = ℕ} 1 0 = ap (λ (b : Bool). cond b 1 0) e in absurd (omega arith)

-- the entry beside row k, where the first n entries are bounds
pub entry_is :
    (bound : Box → ℕ) (v : List ℤ) (f : List ℕ) (n : ℕ) → take n f ≡ map bound (rows_of v n) → (k : ℕ) → k < n →
    entry_at f k ≡ bound (row_at v k)
entry_is bound v f n stored k less =
    sym (get_or-take n f k 0 less)
    ∙ ap (λ (l : List ℕ). entry_at l k) stored
    ∙ map_at bound (rows_of v n) k (omega (arith, rows_length v n))
    ∙ ap bound (rows_at v n k zero_box less)
  where
    map_at : (h : Box → ℕ) (xs : List Box) (k : ℕ) → k < length xs → entry_at (map h xs) k ≡ h (get_or xs k zero_box)
    map_at h [] k less = absurd (omega arith)
    map_at h (x ∷ xs) zero less = refl
    map_at h (x ∷ xs) (suc k) less = map_at h xs k (omega arith)

-- where the entry at one place is gone, that row is not open, and all others are as they were
pub open_others :
    (d : List ℕ) (at : ℕ) → at < length d → (k : ℕ) → open_at (set d at gone) k ≡ cond (eqb k at) false (open_at d k)
open_others d at there k =
    by_eq (eqb k at) refl
  where
    by_eq : (b : Bool) → eqb k at ≡ b → open_at (set d at gone) k ≡ cond b false (open_at d k)
    by_eq true same = let e = eqb-true k at same in rw (e, get_or-set_same d at gone 0 there, le-ltb gone gone (omega arith))
    by_eq false other = rw (get_or-set_other d at k gone 0 (eqb-false k at other))
