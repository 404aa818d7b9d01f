-- Searches of small boxes where vectors cost the same, by computing the definitions. The bound of a box is the least cost in it.
-- Assumes nothing.
use mathlib.Core.Path.{◌≡◌, refl}
use mathlib.Core.List.{List, [], ◌∷◌, map}
use Prim.Native.Nat.{ℕ, min}
use lib.IntN.{ℤ, pos, negsuc, nat_abs, ◌+ℤ◌}
use lib.ListN.{get_or}
use Rattle.integers.specs.Integers.{floor_half}
use Rattle.boxes.specs.declared.Box.{Box}
use Rattle.boxes.specs.Boxes.{before, side_size, sides, from, each, grid_between, grid}
use Rattle.boxes.specs.Split.{first_largest, left_half, right_half}
use Rattle.certificate.specs.Search.{Kind, solved, spent, Answer, ahead, lower_bound, first_smallest, better, begin, split, is_solved}
use Rattle.certificate.specs.Search.{answer, if_room, step, follow, run, search}

abbrev least_of : List ℕ → ℕ
least_of [] = 0
least_of (x ∷ []) = x
least_of (x ∷ y ∷ ys) = min x (least_of (y ∷ ys))

-- a search with 4 rows, by the cost, t, the budget, the start vector, and the low and the high vector of the box
abbrev found : (List ℤ → ℕ) → ℕ → ℕ → List ℤ → List ℤ → List ℤ → Answer
found cost t budget start low high = search cost (λ b. least_of (map cost (grid b))) budget 4 t start (record { low = low; high = high })

-- kind, vector, C, L, count, open boxes, peak
abbrev told : Kind → List ℤ → ℕ → ℕ → ℕ → List Box → ℕ → Answer
told kind v c low count list peak = record { kind = kind; vector = v; cost = c; bound = low; count = count; list = list; peak = peak }

abbrev one : ℤ → List ℤ
one x = x ∷ []

abbrev two : ℤ → ℤ → List ℤ
two x y = x ∷ y ∷ []

-- every vector costs 7
abbrev even : List ℤ → ℕ
even v = 7

-- how far coordinate k is from −x
abbrev away : ℕ → ℤ → List ℤ → ℕ
away k x v = nat_abs (get_or v k (pos 0) +ℤ x)

pub record Ties : Type 0 where
  -- "a spent or full answer may have C = L"
  pub spent_even : found even 0 0 (one (pos 1)) (one (pos 0)) (one (pos 1))
      ≡ told spent (one (pos 1)) 7 7 0 (record { low = one (pos 0); high = one (pos 1) } ∷ []) 1
  -- with a budget the first vector is found, and no box is open then
  pub solved_even : found even 0 9 (one (pos 1)) (one (pos 0)) (one (pos 1)) ≡ told solved (one (pos 0)) 7 7 1 [] 1
  -- "For larger t the answer remains as it was": the start vector, before any split
  pub later_even : found even 1 9 (one (pos 1)) (one (pos 0)) (one (pos 1)) ≡ told solved (one (pos 1)) 7 7 0 [] 0
  -- −1 comes before 0
  pub signed : found even 0 9 (one (pos 0)) (one (negsuc 0)) (one (pos 0)) ≡ told solved (one (negsuc 0)) 7 7 1 [] 1
  -- A box of one vector whose bound is above C is not kept, though its low vector comes before best.
  pub dearer : found (away 0 (pos 1)) 0 9 (one (negsuc 1)) (one (negsuc 1)) (one (negsuc 0)) ≡ told solved (one (negsuc 0)) 0 0 1 [] 1
  -- Where C stays and best comes earlier, an open box whose low vector no longer comes before best is dropped.
  pub earlier : found (away 1 (pos 2)) 0 9 (two (pos 2) (negsuc 1)) (two (pos 1) (negsuc 2)) (two (pos 2) (negsuc 1))
      ≡ told solved (two (pos 1) (negsuc 1)) 0 0 2 [] 2

pub ties : Ties
unfolding floor_half before side_size sides from each grid_between first_largest left_half right_half ahead lower_bound first_smallest better begin
    split is_solved answer if_room step follow run search
ties = record { spent_even = refl; solved_even = refl; later_even = refl; signed = refl; dearer = refl; earlier = refl }
