-- "The search", in the paper's words and order, over any cost of a vector and any bound of a box. For t = 0 three of its steps are as
-- request 6 of document 02 says, quoted behind "02:". "For larger t the answer remains as it was": `AllLater` in Laws.antt.
use Rattle.std.specs.Prelude.{Bool, cond, ◌&&◌, ◌||◌, List, [], ◌∷◌, ◌++◌, ℕ, zero, suc, ◌-◌, min, max, leb, ltb, eqb, ℤ, length, get_or, take, drop}
use Rattle.boxes.specs.declared.Box.{Box}
use Rattle.boxes.specs.Boxes.{before}
use Rattle.boxes.specs.Split.{left_half, right_half, zero_box}

-- "State: the best vector and C, a list of open boxes, the split count, and peak (the longest that the list has been)."
-- C is the cost of the best vector.
pub record State : Type 0 where
  pub best : List ℤ
  pub list : List Box
  pub count : ℕ
  pub peak : ℕ

-- "answer solved", "answer spent", "answer full"
pub data Kind : Type 0 where
  solved spent full : Kind

-- "The answer carries vector, C, L, count, open boxes and peak", beside its kind.
pub record Answer : Type 0 where
  pub kind : Kind
  pub vector : List ℤ
  pub cost : ℕ
  pub bound : ℕ
  pub count : ℕ
  pub list : List Box
  pub peak : ℕ

-- What a step comes to: an answer with the state before it, or the state after one more split.
pub data Next : Type 0 where
  stop : Kind → Next
  go : State → Next

-- Asked of a vector v that costs a, and of a box with the bound a and the low vector v, beside the best vector, which costs c: whether a
-- is below c. 02: or, for t = 0, equals c, and v "comes before best".
unfoldable pub ahead : ℕ → ℕ → List ℤ → ℕ → List ℤ → Bool
ahead t c best a v = ltb a c || (eqb t 0 && eqb a c && before v best)

-- "keep in order" what passes a test
abbrev pub keep_if : {A : Type 0} → (A → Bool) → List A → List A
keep_if p [] = []
keep_if p (x ∷ xs) = cond (p x) (x ∷ keep_if p xs) (keep_if p xs)

module _ (bound : Box → ℕ) where
  -- "keep in order the boxes with bounds below the new C." 02: for t = 0 a box "is kept also when its bound equals C and its low vector
  -- comes before best"
  abbrev pub keeps : ℕ → ℕ → List ℤ → Box → Bool
  keeps t c best b = ahead t c best (bound b) b.low

  -- "L is C if the list is empty, else the smallest bound in it."
  unfoldable pub lower_bound : ℕ → List Box → ℕ
  lower_bound c [] = c
  lower_bound c (b ∷ bs) = min (bound b) (lower_bound (bound b) bs)

  -- the place of "the first box with the smallest bound": the first stays where none after it has a smaller one
  unfoldable pub first_smallest : List Box → ℕ
  first_smallest [] = 0
  first_smallest (b ∷ bs) = cond (leb (bound b) (lower_bound (bound b) bs)) 0 (suc (first_smallest bs))

-- the box at place k, and the list without it
abbrev pub box_at : List Box → ℕ → Box
box_at list k = get_or list k zero_box

abbrev pub without : List Box → ℕ → List Box
without list k = take k list ++ drop (suc k) list

-- "becomes best only if cheaper". 02: for t = 0 "a vector of equal cost that comes earlier becomes best"
unfoldable pub better : (List ℤ → ℕ) → ℕ → List ℤ → List ℤ → List ℤ
better cost t best v = cond (ahead t (cost best) best (cost v) v) v best

module _ (cost : List ℤ → ℕ) (bound : Box → ℕ) where
  -- "Beginning: best is the start vector. The list holds the given box if its bound is below C, else nothing. Count is 0." 02: for t = 0
  -- the changed rule is for "a box, the given one at the beginning included".
  unfoldable pub begin : ℕ → List ℤ → Box → State
  begin t start box =
      let held = keep_if (keeps bound t (cost start) start) (box ∷ []) in
      record { best = start; list = held; count = 0; peak = length held }

  -- L of a state
  abbrev pub lowest : State → ℕ
  lowest s = lower_bound bound (cost s.best) s.list

  -- (c) "Take out the first box with the smallest bound. Cut its longest side": its halves are as boxes/specs/Split.antt says.
  -- "Cost the left child's low vector, then the right child's; either becomes best only if cheaper. From the remaining list, then
  -- left, then right, keep in order the boxes with bounds below the new C." The count is the one after "count one split".
  unfoldable pub split : ℕ → State → State
  split t s =
      let k = first_smallest bound s.list in
      let left = left_half (box_at s.list k) in
      let right = right_half (box_at s.list k) in
      let best = better cost t (better cost t s.best left.low) right.low in
      let kept = keep_if (keeps bound t (cost best) best) (without s.list k ++ (left ∷ right ∷ [])) in
      record { best = best; list = kept; count = suc s.count; peak = max s.peak (length kept) }

  -- (a) "C − L ≤ t". 02: for t = 0 "solved means that no box is open"
  unfoldable pub is_solved : ℕ → State → Bool
  is_solved t s = cond (eqb t 0) (eqb (length s.list) 0) (leb (cost s.best - lowest s) t)

  -- an answer with a state
  unfoldable pub answer : Kind → State → Answer
  answer kind s =
      record {
        kind = kind;
        vector = s.best;
        cost = cost s.best;
        bound = lowest s;
        count = s.count;
        list = s.list;
        peak = s.peak;
      }

  module _ (budget rows t : ℕ) where
    -- "If more than r remain, answer full with the state before this step; else count one split."
    unfoldable pub if_room : State → Next
    if_room after = cond (ltb rows (length after.list)) (stop full) (go after)

    -- "Step: (a) if C − L ≤ t, answer solved. (b) If the count equals the budget, answer spent. (c) .."
    unfoldable pub step : State → Next
    step s =
        cond (is_solved t s) (stop solved)
        (cond (eqb s.count budget) (stop spent)
        (if_room (split t s)))

    -- what follows a step at s, where `on` goes on from the state after a split
    unfoldable pub follow : (State → Answer) → State → Next → Answer
    follow on s (stop kind) = answer kind s
    follow on s (go after) = on after

    -- Step after step, n of them at most. Each step but the last counts a split, so `suc budget` of them are enough, and the line
    -- for none is never come to: `Finished` in Certificate.antt.
    unfoldable pub run : ℕ → State → Answer
    run zero s = answer spent s
    run (suc n) s = follow (run n) s (step s)

    -- from the beginning to an answer
    unfoldable pub search : List ℤ → Box → Answer
    search start box = run (suc budget) (begin t start box)
