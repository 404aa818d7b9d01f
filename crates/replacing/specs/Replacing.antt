-- What a step does to the list, by the memory that holds it. These definitions say what this crate's functions do; the contract of a search
-- does not rest on them, and a reader of that need not believe them.
use Rattle.std.specs.Prelude.{Option, Some, is_none, ◌≡◌, Bool, true, false, cond, List, [], ◌∷◌, ◌++◌, ◌⊎◌, ℕ, ◌+◌, ◌*◌, ◌≤◌, ◌<◌, min, max, ltb, leb, eqb, ℤ, length, set, drop}
use Rattle.integers.specs.Lists.{All}
use Rattle.boxes.specs.declared.Box.{Box}
use Rattle.certificate.specs.Search.{keep_if, first_smallest, without}
use Rattle.incumbent.specs.declared.Child.{Child}
use Rattle.incumbent.specs.declared.Mark.{Mark}
use Rattle.incumbent.specs.Incumbent.{ahead_of, kept_by, Tested}
use Rattle.branching.specs.declared.Branches.{Branches}
use Rattle.list_rows.specs.Rows.{row_count, with_row}
use Rattle.list_blocks.specs.Blocks.{gone}
use Rattle.list_blocks.specs.declared.Blocks.{Blocks}
use Rattle.list_open_boxes.specs.OpenBoxes.{kept_at, number, room_in, fits}
use Rattle.list_running.specs.declared.Found.{Found}
use Rattle.list_running.specs.declared.Listing.{Listing}
use Rattle.list_running.specs.Listing.{spot_in, list_of, box_in, with_late, TakenBy, SettledBy, Listed, Chosen}

-- The memory of a list: the table and the entries beside its rows, the blocks of these with their first smallest numbers, the late rows
-- and the entries beside them.
pub record Memory : Type 0 where
  pub table : List ℤ
  pub bounds : List ℕ
  pub blocks : Blocks
  pub late : List ℤ
  pub beside : List ℕ

abbrev pub memory : List ℤ → List ℕ → Blocks → List ℤ → List ℕ → Memory
memory t d l v f = record { table = t; bounds = d; blocks = l; late = v; beside = f }

-- the list that it holds, the box that was found in it
abbrev pub list_in : Memory → Listing → List Box
list_in h g = list_of h.table h.bounds h.late g

abbrev pub box_found : Memory → Found → Box
box_found h found = box_in h.table h.late found

-- a list is held in it, with the bound of each box beside it; what was found is the first with the smallest bound
abbrev pub HeldIn : (Box → ℕ) → Memory → Listing → List Box → Type 0
HeldIn bound h g list = Listed bound h.table h.bounds h.blocks h.late h.beside g list

abbrev pub ChosenIn : (Box → ℕ) → Memory → Listing → List Box → Found → Type 0
ChosenIn bound h g list found = Chosen bound h.table h.bounds h.blocks h.late g list found

-- ---- one more late box
-- whether it is written: it is kept, and there is room
abbrev pub takes_in : List ℤ → List ℕ → Listing → Child → Bool
takes_in v f g child = cond (eqb g.number gone) false (fits v f g.late child)

abbrev pub put_late : List ℤ → List ℕ → Listing → Child → Listing
put_late v f g child = cond (takes_in v f g child) (with_late g child.bound) g

abbrev pub put_row : List ℤ → List ℕ → Listing → Child → List ℤ
put_row v f g child = cond (takes_in v f g child) (with_row v g.late child.half) v

abbrev pub put_entry : List ℤ → List ℕ → Listing → Child → List ℕ
put_entry v f g child = cond (takes_in v f g child) (set f g.late child.bound) f

abbrev pub list_with : Memory → Listing → Child → Listing
list_with h g child = put_late h.late h.beside g child

abbrev pub memory_with : Memory → Listing → Child → Memory
memory_with h g child =
    memory h.table h.bounds h.blocks (put_row h.late h.beside g child) (put_entry h.late h.beside g child)

-- ---- whether there is room
-- how many halves are kept, and how many of the boxes in the list
abbrev pub more_of : Branches → ℕ
more_of br = cond br.left.kept 1 0 + cond br.right.kept 1 0

abbrev pub kept_number : List ℤ → List ℕ → List ℤ → List ℕ → Listing → Mark → ℕ
kept_number t d v f g mark =
    number (kept_at t d mark) (min g.rows (room_in t d)) + number (kept_at v f mark) (min g.late (room_in v f))

-- Whether more boxes would remain than the table has rows, of those that are kept: the box that was found goes, which may be kept itself.
unfoldable pub too_many : List ℤ → List ℕ → List ℤ → List ℕ → Listing → Found → Branches → Bool
too_many t d v f g found br =
    cond (ltb (row_count t) g.number) true
    (cond (leb (g.number + more_of br) (row_count t + 1)) false
    (cond br.stays true
    (ltb (row_count t + cond (ahead_of br.mark (spot_in found).bound (box_in t v found).low) 1 0)
    (kept_number t d v f g br.mark + more_of br))))

-- ---- what is done, step after step
-- There is room for two more late boxes: there was and nothing changed, or all boxes that are kept were moved into the table.
abbrev pub RoomMade : Memory → Listing → Mark → Bool → Listing → Memory → Type 0
RoomMade h g mark stays r k =
    ((stays ≡ true) × (g.late ≤ 126) × (r ≡ g) × (k ≡ h))
    ⊎ (SettledBy h.table h.bounds h.blocks h.late h.beside g mark r k.table k.bounds k.blocks
    × (k.late ≡ h.late)
    × (k.beside ≡ h.beside))

-- The box that was found is taken out, room is made, and both halves that are kept follow.
pub record Made (h : Memory) (g : Listing) (found : Found) (br : Branches) (r : Listing) (k : Memory) : Type 0 where
  pub taken : Listing
  pub left_over : Memory
  pub takes :
      TakenBy h.bounds h.blocks h.late h.beside g found taken left_over.bounds left_over.blocks
      left_over.late left_over.beside
  pub same_table : left_over.table ≡ h.table
  pub ready : Listing
  pub roomy : Memory
  pub makes : RoomMade left_over taken br.mark br.stays ready roomy
  pub list : r ≡ list_with (memory_with roomy ready br.left) (list_with roomy ready br.left) br.right
  pub held : k ≡ memory_with (memory_with roomy ready br.left) (list_with roomy ready br.left) br.right

-- The list after it, or nothing where there is no room: then nothing changed.
pub record ReplacedBy (h : Memory) (g : Listing) (found : Found) (br : Branches) (r : Option Listing) (k : Memory) : Type 0 where
  pub told : is_none r ≡ too_many h.table h.bounds h.late h.beside g found br
  pub kept : is_none r ≡ true → k ≡ h
  pub made : (n : Listing) → r ≡ Some n → Made h g found br n k

-- ---- what that is, of a list that is held
-- How many late rows there are, and entries beside them.
abbrev pub LateLong : Memory → Type 0
LateLong h = (length h.late ≡ 2048) × (length h.beside ≡ 128)

-- From row and entry n of the table on nothing changed.
pub record Within (n : ℕ) (h k : Memory) : Type 0 where
  pub long : length k.table ≡ length h.table
  pub long_entries : length k.bounds ≡ length h.bounds
  pub rest : drop (16 * n) k.table ≡ drop (16 * n) h.table
  pub rest_entries : drop n k.bounds ≡ drop n h.bounds

-- A box was found that can be replaced by its halves, of which it is known whether they are kept; where best stays, so are all others.
pub record Replaceable (bound : Box → ℕ) (h : Memory) (g : Listing) (found : Found) (br : Branches) : Type 0 where
  pub listed : HeldIn bound h g (list_in h g)
  pub chosen : ChosenIn bound h g (list_in h g) found
  pub below : br.mark.cost < gone
  pub stay : br.stays ≡ true → All (λ b. kept_by bound br.mark b ≡ true) (list_in h g)
  pub left_tested : Tested bound (kept_by bound br.mark) br.left.half br.left
  pub right_tested : Tested bound (kept_by bound br.mark) br.right.half br.right
  pub room : g.number ≤ room_in h.table h.bounds
  pub few : g.number < 1152921504606846976
  pub late : LateLong h

-- "From the remaining list, then left, then right, keep in order": what remains of a list.
abbrev pub remaining : (Box → ℕ) → Branches → List Box → List Box
remaining bound br list =
    keep_if (kept_by bound br.mark) (without list (first_smallest bound list) ++ (br.left.half ∷ br.right.half ∷ []))

-- The box was replaced.
pub record ReplacedIn (bound : Box → ℕ) (h : Memory) (g : Listing) (br : Branches) (r : Listing) (k : Memory) : Type 0 where
  pub listed : HeldIn bound k r (remaining bound br (list_in h g))
  pub rows : r.rows ≤ max g.rows g.number
  pub within : Within (max g.rows g.number) h k
  pub late : LateLong k
