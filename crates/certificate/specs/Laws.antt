-- What is shown of the definitions of the search. The proofs stand in proofs/.
use Rattle.std.specs.Prelude.{◌≡◌, false, cond, List, ℕ, ◌+◌, ◌-◌, ◌≤◌, ◌<◌, max, T, leb, ltb, ℤ, length}
use Rattle.integers.specs.Lists.{All}
use Rattle.boxes.specs.declared.Box.{Box}
use Rattle.boxes.specs.Boxes.{InBox, volume}
use Rattle.boxes.specs.Laws.{Bounds}
use Rattle.certificate.specs.Search.{State, solved, Answer, keeps, lower_bound, first_smallest, box_at, better, lowest, is_solved}
use Rattle.certificate.specs.Certificate.{Reached, First, Certificate}

-- "the first box with the smallest bound": its bound is L, none is smaller, and those before it are larger.
pub record Smallest (bound : Box → ℕ) (list : List Box) : Type 0 where
  pub inside : first_smallest bound list < length list
  pub lowest : (c : ℕ) → bound (box_at list (first_smallest bound list)) ≡ lower_bound bound c list
  pub none_smaller : (k : ℕ) → k < length list → bound (box_at list (first_smallest bound list)) ≤ bound (box_at list k)
  pub first : (k : ℕ) → k < first_smallest bound list → bound (box_at list (first_smallest bound list)) < bound (box_at list k)

-- So it is with every list that has a box.
abbrev pub AllSmallest : Type 0
AllSmallest = (bound : Box → ℕ) (list : List Box) → 1 ≤ length list → Smallest bound list

-- A box that is open in a search of the box `root`: it has two vectors at least, all of them vectors of root.
pub record Open (root b : Box) : Type 0 where
  pub two : 2 ≤ volume b
  pub inside : (v : List ℤ) → InBox v b → InBox v root

-- A state of a search of `box`: the best vector lies in the box, the open boxes are such as are kept, the list is no longer than peak,
-- peak is at most r (at the beginning one box may be open, whatever r is), and the count is within the budget.
pub record Sound (cost : List ℤ → ℕ) (bound : Box → ℕ) (budget rows t : ℕ) (box : Box) (s : State) : Type 0 where
  pub best_in : InBox s.best box
  pub opened : All (Open box) s.list
  pub kept : All (λ b. T (keeps bound t (cost s.best) s.best b)) s.list
  pub longest : length s.list ≤ s.peak
  pub room : s.peak ≤ max 1 rows
  pub within : s.count ≤ budget

-- So it is with every state that steps lead to from a start vector in the box, where the cost and the bound have the two laws.
abbrev pub AllSound : Type 0
AllSound =
    (cost : List ℤ → ℕ) (bound : Box → ℕ) →
    Bounds cost bound →
    (budget rows t : ℕ) (start : List ℤ) (box : Box) →
    InBox start box →
    (k : ℕ) (s : State) →
    Reached cost bound budget rows t start box k s →
    Sound cost bound budget rows t box s

-- "Cost the left child's low vector": it is that of the box cut, which was costed when that box was made, but for the given box. So where
-- a split has been counted, no open box's low vector becomes best, and to cost it again changes nothing.
abbrev pub AllCosted : Type 0
AllCosted =
    (cost : List ℤ → ℕ) (bound : Box → ℕ) (budget rows t : ℕ) (start : List ℤ) (box : Box) (k : ℕ) (s : State) →
    1 ≤ k →
    Reached cost bound budget rows t start box k s →
    All (λ b. better cost t s.best b.low ≡ s.best) s.list

-- A box that is not kept beside the best vector: none of its vectors becomes best, and it is not kept after another vector is tried.
pub record Dropped (cost : List ℤ → ℕ) (bound : Box → ℕ) (t : ℕ) (best : List ℤ) (b : Box) : Type 0 where
  pub none_better : (v : List ℤ) → InBox v b → better cost t best v ≡ best
  pub later : (v : List ℤ) → keeps bound t (cost (better cost t best v)) (better cost t best v) b ≡ false

-- "then the right child's": so where the right half is not kept, to cost its low vector changes nothing.
abbrev pub AllDropped : Type 0
AllDropped =
    (cost : List ℤ → ℕ) (bound : Box → ℕ) →
    Bounds cost bound →
    (t : ℕ) (best : List ℤ) (b : Box) →
    keeps bound t (cost best) best b ≡ false →
    Dropped cost bound t best b

-- "For larger t the answer remains as it was": where request 6 changed a step, it is that of document 01, in its words.
pub record Later (cost : List ℤ → ℕ) (bound : Box → ℕ) (t : ℕ) : Type 0 where
  -- "keep in order the boxes with bounds below the new C"
  pub kept : (c : ℕ) (best : List ℤ) (b : Box) → keeps bound t c best b ≡ ltb (bound b) c
  -- "becomes best only if cheaper"
  pub cheaper : (best v : List ℤ) → better cost t best v ≡ cond (ltb (cost v) (cost best)) v best
  -- "if C − L ≤ t, answer solved"
  pub near : (s : State) → is_solved cost bound t s ≡ leb (cost s.best - lowest cost bound s) t

abbrev pub AllLater : Type 0
AllLater = (cost : List ℤ → ℕ) (bound : Box → ℕ) (t : ℕ) → 1 ≤ t → Later cost bound t

-- There is one first of all vectors of least cost.
abbrev pub OneFirst : Type 0
OneFirst = (cost : List ℤ → ℕ) (box : Box) (v w : List ℤ) → First cost box v → First cost box w → v ≡ w

-- "From different start vectors two operators got different fits of equal cost." With t = 0 two solved answers over one cost and one box
-- have one vector, "whatever the start", the bounds, the budgets and the rows.
abbrev pub SameFit : Type 0
SameFit =
    (cost : List ℤ → ℕ) (box : Box) (bound bound' : Box → ℕ) (budget budget' rows rows' : ℕ) (start start' : List ℤ) (r r' : Answer) →
    Certificate cost bound budget rows 0 start box r →
    Certificate cost bound' budget' rows' 0 start' box r' →
    r.kind ≡ solved →
    r'.kind ≡ solved →
    r.vector ≡ r'.vector

-- Where one cost is nowhere above another by more than a cap, a solved answer for it costs at most what any answer for the other does,
-- plus its own tolerance, plus the cap.
abbrev pub SolvedNear : Type 0
SolvedNear =
    (cost cost' : List ℤ → ℕ) (box : Box) (cap : ℕ) →
    ((v : List ℤ) → InBox v box → cost v ≤ cost' v + cap) →
    (bound bound' : Box → ℕ) (budget budget' rows rows' t t' : ℕ) (start start' : List ℤ) (r r' : Answer) →
    Certificate cost bound budget rows t start box r →
    Certificate cost' bound' budget' rows' t' start' box r' →
    r.kind ≡ solved →
    r.cost ≤ r'.cost + t + cap
