-- Boxes, from "Points and job": the vectors of a box, their number V, and the checks 5 and 6 of a box.
use Rattle.std.specs.Prelude.{Bool, true, false, ◌&&◌, cond, List, [], ◌∷◌, ◌++◌, map, ℕ, zero, suc, ◌*◌, ℤ, pos, nat_abs, ◌+ℤ◌, ◌-ℤ◌, ◌≤ℤ◌, get_or}
use Rattle.std.specs.Int.Signed.{le_z, lt_z}
use Rattle.codes.specs.declared.Refusal.{Refusal}
use Rattle.codes.specs.Codes.{Check, pass_if}
use Rattle.boxes.specs.declared.Box.{Box}
use Rattle.boxes.specs.Shape.{unused_zero}

-- "low at most high in each coordinate"
unfoldable pub at_most : List ℤ → List ℤ → Bool
at_most [] [] = true
at_most [] (h ∷ hs) = false
at_most (l ∷ ls) [] = false
at_most (l ∷ ls) (h ∷ hs) = le_z l h && at_most ls hs

-- "Its grid vectors are all vectors between them, ends included": v between low and high, coordinate by coordinate.
pub data Between : List ℤ → List ℤ → List ℤ → Type 0 where
  empty : Between [] [] []
  side : {x l h : ℤ} {xs ls hs : List ℤ} → l ≤ℤ x → x ≤ℤ h → Between xs ls hs → Between (x ∷ xs) (l ∷ ls) (h ∷ hs)

-- v is a grid vector of b
pub record InBox (v : List ℤ) (b : Box) : Type 0 where
  pub between : Between v b.low b.high

-- Document 02, request 6: "comparing coordinate 1 first". Of two vectors the one comes before the other that is smaller in the first
-- coordinate in which they differ.
unfoldable pub before : List ℤ → List ℤ → Bool
before [] ws = false
before (v ∷ vs) [] = false
before (v ∷ vs) (w ∷ ws) = cond (lt_z v w) true (cond (lt_z w v) false (before vs ws))

-- how many whole numbers there are from l to h, ends included
unfoldable pub side_size : ℤ → ℤ → ℕ
side_size l h = cond (le_z l h) (suc (nat_abs (h -ℤ l))) 0

-- the sizes of the sides, coordinate by coordinate; vectors of different lengths have nothing between them
unfoldable pub sides : List ℤ → List ℤ → List ℕ
sides [] [] = []
sides [] (h ∷ hs) = 0 ∷ []
sides (l ∷ ls) [] = 0 ∷ []
sides (l ∷ ls) (h ∷ hs) = side_size l h ∷ sides ls hs

-- the size of the side at coordinate k
abbrev pub side_at : Box → ℕ → ℕ
side_at b k = get_or (sides b.low b.high) k 0

-- the product of all numbers of a list
unfoldable pub product : List ℕ → ℕ
product [] = 1
product (s ∷ ss) = s * product ss

-- "V is their number": the product of the sizes of the sides.
abbrev pub volume : Box → ℕ
volume b = product (sides b.low b.high)

-- the n numbers from l on: l, l + 1, ..
unfoldable pub from : ℤ → ℕ → List ℤ
from l zero = []
from l (suc n) = l ∷ from (l +ℤ pos 1) n

-- each number of the first list before each vector of the second
unfoldable pub each : List ℤ → List (List ℤ) → List (List ℤ)
each [] vs = []
each (x ∷ xs) vs = map (λ v. x ∷ v) vs ++ each xs vs

-- the vectors from low to high, those with the lowest first coordinate first
unfoldable pub grid_between : List ℤ → List ℤ → List (List ℤ)
grid_between [] [] = [] ∷ []
grid_between [] (h ∷ hs) = []
grid_between (l ∷ ls) [] = []
grid_between (l ∷ ls) (h ∷ hs) = each (from l (side_size l h)) (grid_between ls hs)

-- "all vectors between them", one after the other
abbrev pub grid : Box → List (List ℤ)
grid b = grid_between b.low b.high

-- Check 5: "low over high, or an unused coordinate not 0".
unfoldable pub check_box : ℕ → ℕ → Box → Check
check_box n d b = pass_if (at_most b.low b.high && unused_zero n d b.low && unused_zero n d b.high) Refusal.Box

-- Check 6 of a search: "start outside the box".
unfoldable pub check_start : Box → List ℤ → Check
check_start b v = pass_if (at_most b.low v && at_most v b.high) Refusal.Start
