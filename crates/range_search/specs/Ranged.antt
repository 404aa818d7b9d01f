-- What request 13 of document 02 promises of every answer of the search for ranges, clause by clause. It rests on the two laws `Bounds` of
-- boxes/specs/Laws.antt. V is `volume box`.
use Rattle.std.specs.Prelude.{◌≡◌, List, [], ◌↔◌, ℕ, suc, ◌-◌, ◌*◌, ◌≤◌, ◌<◌, ℤ, pos, get_or}
use Rattle.boxes.specs.declared.Box.{Box}
use Rattle.boxes.specs.Boxes.{InBox, volume}
use Rattle.certificate.specs.Search.{solved}
use Rattle.range_search.specs.RangeSearch.{nothing, ends, State, Answer, stop, go, begin, step}

module _ (cost : List ℤ → ℕ) (K : ℕ) (box : Box) where
  -- a grid vector of the box that costs at most K and has the value z at coordinate k
  pub record Has (k : ℕ) (z : ℤ) : Type 0 where
    pub vector : List ℤ
    pub inside : InBox vector box
    pub cheap : cost vector ≤ K
    pub value : get_or vector k (pos 0) ≡ z

  -- "the least and greatest value among all grid vectors of the box that cost at most K": in each coordinate all of these lie between low
  -- and high, and some have the value at either end.
  pub record Exact (b : Box) : Type 0 where
    pub all_in : (v : List ℤ) → InBox v box → cost v ≤ K → InBox v b
    pub low_end : (k : ℕ) → Has k (get_or b.low k (pos 0))
    pub high_end : (k : ℕ) → Has k (get_or b.high k (pos 0))

module _ (cost : List ℤ → ℕ) (bound : Box → ℕ) (K budget rows : ℕ) (box : Box) where
  -- `Reached k s`: from the beginning, k steps that each count one split lead to s.
  pub data Reached : ℕ → State → Type 0 where
    beginning : Reached 0 (begin cost bound K box)
    counting : {k : ℕ} {s after : State} → Reached k s → step cost bound K budget rows s ≡ go after → Reached (suc k) after

  -- The answer is what a step says at the state told, which as many steps as the count have led to.
  pub record Finished (r : Answer) : Type 0 where
    pub reached : Reached r.state.count r.state
    pub stopped : step cost bound K budget rows r.state ≡ stop r.kind
    pub within : r.state.count ≤ budget

  pub record Ranged (r : Answer) : Type 0 where
    -- the count is the number of splits that this search counted, and the kind is what the step rules say then
    pub counted : Finished r
    -- "The search is finished when no box is open"
    pub reads : (r.kind ≡ solved) ↔ (r.state.list ≡ [])
    -- "A range is exact whenever one is given"
    pub exact : r.kind ≡ solved → (b : Box) → r.state.found ≡ ends b → Exact cost K box b
    -- "none that no vector costs at most K"
    pub none : r.kind ≡ solved → (r.state.found ≡ nothing) ↔ ((v : List ℤ) → InBox v box → K < cost v)
    -- no search counts more splits than V − 1
    pub few : r.state.count ≤ volume box - 1
    -- "and it is given whenever the budget is at least V − 1 and the rows at least V / 2", with V ≤ 2 × r, so that nothing is rounded
    pub suffices : volume box - 1 ≤ budget → volume box ≤ 2 * rows → r.kind ≡ solved
