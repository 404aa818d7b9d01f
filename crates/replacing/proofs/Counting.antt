-- Whether there is room, test by test as the code makes them. Assumes nothing.
use mathlib.Core.Path.{◌≡◌}
use mathlib.Core.Bool.{Bool, true, false, cond}
use mathlib.Core.List.{List}
use Prim.Native.Nat.{ℕ, ◌+◌, ◌≤◌, ◌<◌, min}
use borrow.Author.Tests.{le-ltb, lt-ltb, le-leb, lt-leb}
use lib.Dec.{ltb}
use lib.IntN.{ℤ}
use Rattle.incumbent.specs.Incumbent.{ahead_of}
use Rattle.branching.specs.declared.Branches.{Branches}
use Rattle.list_rows.specs.Rows.{row_count}
use Rattle.list_open_boxes.specs.OpenBoxes.{kept_at, number, room_in}
use Rattle.list_running.specs.declared.Found.{Found}
use Rattle.list_running.specs.declared.Listing.{Listing}
use Rattle.list_running.specs.Listing.{spot_in, box_in}
use Rattle.replacing.specs.Replacing.{too_many}

module _ (t : List ℤ) (d : List ℕ) (v : List ℤ) (f : List ℕ) (g : Listing) (found : Found) (br : Branches) where
  pub too_long : row_count t < g.number → true ≡ too_many t d v f g found br
  unfolding too_many
  too_long h = rw (lt-ltb (row_count t) g.number h)

  module _ (within : g.number ≤ row_count t) (a b : ℕ) (left : a ≡ cond br.left.kept 1 0) (right : b ≡ cond br.right.kept 1 0) where
    pub enough : g.number + (a + b) ≤ row_count t + 1 → false ≡ too_many t d v f g found br
    unfolding too_many
    enough h = rw (le-ltb (row_count t) g.number within, ← left, ← right, le-leb (g.number + (a + b)) (row_count t + 1) h)

    module _ (many : row_count t + 1 < g.number + (a + b)) where
      pub all_stay : br.stays ≡ true → true ≡ too_many t d v f g found br
      unfolding too_many
      all_stay is = rw (le-ltb (row_count t) g.number within, ← left, ← right, lt-leb (g.number + (a + b)) (row_count t + 1) many, is)

      pub counted :
          br.stays ≡ false → (own : Bool) (o : ℕ) → own ≡ ahead_of br.mark (spot_in found).bound (box_in t v found).low →
          o ≡ cond own 1 0 → (x y : ℕ) → x ≡ number (kept_at t d br.mark) (min g.rows (room_in t d)) →
          y ≡ number (kept_at v f br.mark) (min g.late (room_in v f)) →
          ltb (row_count t + o) (x + y + (a + b)) ≡ too_many t d v f g found br
      unfolding too_many
      counted is own o own_is o_is x y far near =
          rw (
            le-ltb (row_count t) g.number within,
            ← left,
            ← right,
            lt-leb (g.number + (a + b)) (row_count t + 1) many,
            is,
            o_is,
            own_is,
            far,
            near,
          )
