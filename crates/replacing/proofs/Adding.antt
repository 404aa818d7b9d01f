-- One more late box, or two, as the code adds them. Assumes nothing.
use mathlib.Core.Path.{◌≡◌, refl, ap, ◌∙◌}
use mathlib.Core.Bool.{Bool, true, false, cond}
use mathlib.Core.List.{List}
use Prim.Native.Nat.{ℕ, ◌+◌}
use native.Mathlib.Omega.{arith}
use borrow.Author.Tests.{eq-eqb, ne_eqb}
use lib.IntN.{ℤ}
use lib.ListN.{set}
use Rattle.incumbent.specs.declared.Child.{Child}
use Rattle.list_first_smallest.specs.declared.Lowest.{Lowest}
use Rattle.list_rows.specs.Rows.{with_row}
use Rattle.list_blocks.specs.Blocks.{gone}
use Rattle.list_open_boxes.specs.OpenBoxes.{fits}
use Rattle.list_running.specs.declared.Listing.{Listing}
use Rattle.list_running.specs.Listing.{nearer}
use Rattle.replacing.specs.Replacing.{Memory, memory, put_late, put_row, put_entry, list_with, memory_with}

module _ (v : List ℤ) (f : List ℕ) (g : Listing) (child : Child) where
  -- the list, the late rows and the entries are those with the child
  abbrev Added : Listing → List ℤ → List ℕ → Type 0
  Added r w k = (r ≡ put_late v f g child) × ((w ≡ put_row v f g child) × (k ≡ put_entry v f g child))

  pub none_more : g.number ≡ gone → Added g v f
  none_more e = rw (eq-eqb g.number gone e) (refl, (refl, refl))

  abbrev room : Bool
  room = fits v f g.late child

  module _ (end : ℕ) (w : List ℤ) (k : List ℕ) (other : g.number ≡ gone → ⊥) (told : end ≡ g.late + cond room 1 0)
      (rows : w ≡ cond room (with_row v g.late child.half) v) (entries : k ≡ cond room (set f g.late child.bound) f)
    where
      pub put_none : end ≡ g.late → Added g w k
      put_none same =
          let none : room ≡ false = by room refl in
          rw (ne_eqb g.number gone other, rows, entries, none) (refl, (refl, refl))
        where
          by : (x : Bool) → room ≡ x → room ≡ false
          by true e = absurd (omega (arith, told, ap {B = ℕ} (λ (x : Bool). cond x 1 0) e))
          by false e = e

      pub put_one : (end ≡ g.late → ⊥) → (near : Lowest) → near ≡ nearer g.near g.late child.bound
          → Added (record { rows = g.rows; late = end; near = near; number = g.number + 1 }) w k
      put_one more near is =
          let one : room ≡ true = by room refl in
          let last : end ≡ g.late + 1 = told ∙ ap {B = ℕ} (λ (x : Bool). g.late + cond x 1 0) one in
          rw (ne_eqb g.number gone other, rows, entries, one, is, last) (refl, (refl, refl))
        where
          by : (x : Bool) → room ≡ x → room ≡ true
          by true e = e
          by false e = absurd (more (omega (arith, told, ap {B = ℕ} (λ (x : Bool). cond x 1 0) e)))

-- both halves, one after the other
pub two_added :
    (h : Memory) (g : Listing) (left right : Child) (one : Listing) (w : List ℤ) (k : List ℕ) (two : Listing) (x : List ℤ) (y : List ℕ) →
    one ≡ put_late h.late h.beside g left → w ≡ put_row h.late h.beside g left → k ≡ put_entry h.late h.beside g left →
    two ≡ put_late w k one right → x ≡ put_row w k one right → y ≡ put_entry w k one right →
    (two ≡ list_with (memory_with h g left) (list_with h g left) right)
    × (memory h.table h.bounds h.blocks x y ≡ memory_with (memory_with h g left) (list_with h g left) right)
two_added h g left right one w k two x y is_one is-w is-k is-two is_x is_y = rw (is-two, is_x, is_y, is_one, is-w, is-k) (refl, refl)
