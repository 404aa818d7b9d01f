-- The open boxes while a search runs: which list they are, by the rows of the table that are not gone and by the late rows behind them.
-- These definitions say what this crate's functions do; the contract of a search does not rest on them, and a reader of that need not
-- believe them: at the end the first rows of the table hold the list itself.
use Rattle.std.specs.Prelude.{◌≡◌, Bool, true, false, cond, List, ◌++◌, map, ℕ, ◌+◌, ◌-◌, ◌≤◌, ◌<◌, min, ltb, eqb, ℤ, length, set, take}
use Rattle.boxes.specs.declared.Box.{Box}
use Rattle.list_rows.specs.Rows.{row_at, rows_of}
use Rattle.list_first_smallest.specs.declared.Lowest.{Lowest}
use Rattle.list_first_smallest.specs.FirstSmallest.{entry_at, LowestOf}
use Rattle.list_blocks.specs.declared.Blocks.{Blocks}
use Rattle.list_blocks.specs.declared.Spot.{Spot}
use Rattle.list_blocks.specs.Blocks.{gone, Blocked, LeastsFound, SpotOf, TakenAway}
use Rattle.incumbent.specs.declared.Mark.{Mark}
use Rattle.list_open_boxes.specs.OpenBoxes.{others_than, picked, room_in, Held, Settled}
use Rattle.certificate.specs.Search.{first_smallest, box_at, without}
use Rattle.list_running.specs.declared.Found.{Found}
use Rattle.list_running.specs.declared.Found.TheVariants.{Row, Late}
use Rattle.list_running.specs.declared.Listing.{Listing}

-- whether row k is open, by its entry: it is not gone
abbrev pub open_at : List ℕ → ℕ → Bool
open_at d k = ltb (entry_at d k) gone

-- the open rows of the first n
abbrev pub open_rows : List ℤ → List ℕ → ℕ → List Box
open_rows t d n = picked (row_at t) (open_at d) n

-- the list: the open rows of the table t, then the late ones, those of v
abbrev pub list_of : List ℤ → List ℕ → List ℤ → Listing → List Box
list_of t d v g = open_rows t d g.rows ++ rows_of v g.late

-- whether a late box was found, and where: its place, its block if it is a row of the table, and L
abbrev pub is_late : Found → Bool
is_late (Row spot) = false
is_late (Late near) = true

abbrev pub spot_in : Found → Spot
spot_in (Row spot) = spot
spot_in (Late near) = record { at = near.at; block = 0; bound = near.bound }

-- the box that was found, and what is left of the list without it
abbrev pub box_in : List ℤ → List ℤ → Found → Box
box_in t v found = cond (is_late found) (row_at v (spot_in found).at) (row_at t (spot_in found).at)

abbrev pub left_of : List ℤ → List ℕ → List ℤ → Listing → Found → List Box
left_of t d v g found =
    cond (is_late found)
    (open_rows t d g.rows ++ picked (row_at v) (others_than (spot_in found).at) g.late)
    (open_rows t (set d (spot_in found).at gone) g.rows ++ rows_of v g.late)

-- What is found, whatever the blocks l are: the smaller of what they have and the near one, or c.
pub record FoundBy (l : Blocks) (g : Listing) (c : ℕ) (r : Found) : Type 0 where
  pub far : Spot
  pub far_is : SpotOf l far
  pub is :
      r
      ≡ cond (eqb g.number 0) (Row (record { at = 0; block = 0; bound = c }))
      (cond (ltb g.near.bound far.bound) (Late g.near) (Row far))

-- What was found is taken out: a late box with its row and entry, or a row of the table by its entry alone. The entries e, the blocks m,
-- the late rows w and entries h were d, l, v and f.
pub record TakenBy
    (d : List ℕ) (l : Blocks) (v : List ℤ) (f : List ℕ) (g : Listing) (found : Found)
    (r : Listing) (e : List ℕ) (m : Blocks) (w : List ℤ) (h : List ℕ) : Type 0
  where
    pub sizes : r ≡ record { rows = g.rows; late = r.late; near = r.near; number = g.number - 1 }
    pub late_same : is_late found ≡ true → (e ≡ d) × (m ≡ l)
    pub late_held :
        is_late found ≡ true →
        Held v f (min g.late (room_in v f))
        (picked (row_at v) (others_than (spot_in found).at) (min g.late (room_in v f)))
        (picked (entry_at f) (others_than (spot_in found).at) (min g.late (room_in v f)))
        r.late w h
    pub late_near : is_late found ≡ true → LowestOf h (min r.late (length h)) gone r.near
    pub row_same : is_late found ≡ false → (r.late ≡ g.late) × ((r.near ≡ g.near) × ((w ≡ v) × (h ≡ f)))
    pub row_gone : is_late found ≡ false → TakenAway d (min g.rows (length d)) l (spot_in found) e m

-- All boxes that are kept are the first rows of the table u, with the entries e and the blocks m, which were t, d and l.
pub record SettledBy
    (t : List ℤ) (d : List ℕ) (l : Blocks) (v : List ℤ) (f : List ℕ) (g : Listing) (mark : Mark)
    (r : Listing) (u : List ℤ) (e : List ℕ) (m : Blocks) : Type 0
  where
    pub sizes : r ≡ record { rows = r.rows; late = 0; near = record { at = 0; bound = gone }; number = r.rows }
    pub held : Settled t d (min g.rows (room_in t d)) v f (min g.late (room_in v f)) mark r.rows u e
    pub leasts : LeastsFound e (min r.rows (length e)) l m

-- the near one where there is one more late box, with the number x beside it
abbrev pub nearer : Lowest → ℕ → ℕ → Lowest
nearer near at x = cond (ltb x near.bound) (record { at = at; bound = x }) near

abbrev pub with_late : Listing → ℕ → Listing
with_late g x =
    record { rows = g.rows; late = g.late + 1; near = nearer g.near g.late x; number = g.number + 1 }

-- The list is held, with the bound of each box beside it.
pub record Listed
    (bound : Box → ℕ) (t : List ℤ) (d : List ℕ) (l : Blocks) (v : List ℤ) (f : List ℕ) (g : Listing) (list : List Box) : Type 0
  where
    pub is : list_of t d v g ≡ list
    pub number : g.number ≡ length list
    pub bounds : (k : ℕ) → k < g.rows → open_at d k ≡ true → entry_at d k ≡ bound (row_at t k)
    pub late_bounds : take g.late f ≡ map bound (rows_of v g.late)
    pub room : g.rows ≤ room_in t d
    pub late_room : g.late ≤ room_in v f
    pub blocked : Blocked d g.rows l
    pub near : LowestOf f g.late gone g.near

-- What was found is the first box of the list with the smallest bound.
pub record Chosen
    (bound : Box → ℕ) (t : List ℤ) (d : List ℕ) (l : Blocks) (v : List ℤ) (g : Listing) (list : List Box) (found : Found) : Type 0
  where
    pub box : box_at list (first_smallest bound list) ≡ box_in t v found
    pub left : without list (first_smallest bound list) ≡ left_of t d v g found
    pub inside : first_smallest bound list < length list
    pub exact : (spot_in found).bound ≡ bound (box_in t v found)
    pub row : is_late found ≡ false → (spot_in found).at < g.rows
    pub spot : is_late found ≡ false → SpotOf l (spot_in found)
