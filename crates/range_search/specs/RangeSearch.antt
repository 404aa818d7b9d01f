-- Request 13 of document 02, over any cost of a vector and any bound of a box: "Given an unsigned 64-bit cost ceiling K, find for each used
-- coordinate the least and greatest value among all grid vectors of the box that cost at most K." "Search as before, but ..": what stands
-- in quotes behind "01:" is as in certificate/specs/Search.antt, of which the kinds, the lists and the halves are.
use Rattle.std.specs.Prelude.{Bool, cond, ◌&&◌, List, [], ◌∷◌, ◌++◌, ℕ, zero, suc, pred, max, leb, ltb, eqb, ℤ, length}
use Rattle.integers.specs.Integers.{max_z, min_z}
use Rattle.boxes.specs.declared.Box.{Box}
use Rattle.boxes.specs.Boxes.{volume}
use Rattle.boxes.specs.Split.{left_half, right_half}
use Rattle.certificate.specs.Search.{Kind, solved, spent, full, keep_if, box_at, without}

-- The least and the greatest value of each coordinate among the vectors found so far, as the low and the high vector of a box; or nothing,
-- as long as none is found.
pub data Found : Type 0 where
  nothing : Found
  ends : Box → Found

-- coordinate by coordinate, the least and the greatest value with one vector more
unfoldable pub least : List ℤ → List ℤ → List ℤ
least [] v = []
least (l ∷ ls) [] = l ∷ ls
least (l ∷ ls) (x ∷ v) = min_z l x ∷ least ls v

unfoldable pub greatest : List ℤ → List ℤ → List ℤ
greatest [] v = []
greatest (h ∷ hs) [] = h ∷ hs
greatest (h ∷ hs) (x ∷ v) = max_z h x ∷ greatest hs v

-- one vector more is found
unfoldable pub widen : Found → List ℤ → Found
widen nothing v = ends (record { low = v; high = v })
widen (ends b) v = ends (record { low = least b.low v; high = greatest b.high v })

-- 01: "State: .. a list of open boxes, the split count, and peak (the longest that the list has been)." What is found stands in place of
-- the best vector.
pub record State : Type 0 where
  pub found : Found
  pub list : List Box
  pub count : ℕ
  pub peak : ℕ

-- the kind of an answer, where `solved` stands for "The search is finished", and the state that it tells
pub record Answer : Type 0 where
  pub kind : Kind
  pub state : State

-- What a step comes to: an answer with the state before it, or the state after one more split.
pub data Next : Type 0 where
  stop : Kind → Next
  go : State → Next

-- "keep a box while its bound is at most K, .. and take a box of one vector out of the list as soon as it is costed"
unfoldable pub keeps : (Box → ℕ) → ℕ → Box → Bool
keeps bound K b = leb (bound b) K && leb 2 (volume b)

-- "a box of one vector .. is costed": its vector is found if it costs at most K
unfoldable pub costed : (List ℤ → ℕ) → ℕ → Found → Box → Found
costed cost K found b = cond (eqb (volume b) 1 && leb (cost b.low) K) (widen found b.low) found

module _ (cost : List ℤ → ℕ) (bound : Box → ℕ) (K : ℕ) where
  -- 01: "The list holds the given box" if it is kept, "else nothing. Count is 0." "A given box of one vector is costed at the beginning."
  unfoldable pub begin : Box → State
  begin box =
      let held = keep_if (keeps bound K) (box ∷ []) in
      record { found = costed cost K nothing box; list = held; count = 0; peak = length held }

  -- (c) "always cut the last open one". 01: "From the remaining list, then left, then right, keep in order the boxes" that are kept; of the
  -- halves, a box of one vector is costed, the left one first. The count is the one after "count one split".
  unfoldable pub split : State → State
  split s =
      let k = pred (length s.list) in
      let left = left_half (box_at s.list k) in
      let right = right_half (box_at s.list k) in
      let kept = keep_if (keeps bound K) (without s.list k ++ (left ∷ right ∷ [])) in
      record {
        found = costed cost K (costed cost K s.found left) right;
        list = kept;
        count = suc s.count;
        peak = max s.peak (length kept);
      }

  module _ (budget rows : ℕ) where
    -- 01: "If more than r remain, answer full with the state before this step; else count one split."
    unfoldable pub if_room : State → Next
    if_room after = cond (ltb rows (length after.list)) (stop full) (go after)

    -- (a) "The search is finished when no box is open, and t isn't used." 01: "(b) If the count equals the budget, answer spent. (c) .."
    unfoldable pub step : State → Next
    step s =
        cond (eqb (length s.list) 0) (stop solved)
        (cond (eqb s.count budget) (stop spent)
        (if_room (split s)))

    -- what follows a step at s, where `on` goes on from the state after a split
    unfoldable pub follow : (State → Answer) → State → Next → Answer
    follow on s (stop kind) = record { kind = kind; state = s }
    follow on s (go after) = on after

    -- Step after step, n of them at most. Each step but the last counts a split, so `suc budget` of them are enough, and the line for none
    -- is never come to: `Finished` in Ranged.antt.
    unfoldable pub run : ℕ → State → Answer
    run zero s = record { kind = spent; state = s }
    run (suc n) s = follow (run n) s (step s)

    -- from the beginning to an answer
    unfoldable pub range_search : Box → Answer
    range_search box = run (suc budget) (begin box)
