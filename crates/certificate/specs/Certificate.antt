-- Demand 3 (its text is in docs/ARCHITECTURE.md; document 01 speaks of it in "The search"): what is promised of every answer of a
-- search, clause by clause, and behind "02:" what request 6 of document 02 promises for t = 0. It rests on the two laws `Bounds` of
-- boxes/specs/Laws.antt. V is `volume box`, an exact number of any size.
use Rattle.std.specs.Prelude.{◌≡◌, List, [], ◌↔◌, ℕ, suc, ◌-◌, ◌*◌, ◌≤◌, T, ℤ}
use Rattle.boxes.specs.declared.Box.{Box}
use Rattle.boxes.specs.Boxes.{InBox, before, volume}
use Rattle.certificate.specs.Search.{State, solved, Answer, go, stop, begin, answer, step}

-- the state that an answer tells
abbrev pub state_of : Answer → State
state_of r = record { best = r.vector; list = r.list; count = r.count; peak = r.peak }

-- 02: "the first of all vectors of least cost, comparing coordinate 1 first"
pub record First (cost : List ℤ → ℕ) (box : Box) (w : List ℤ) : Type 0 where
  pub inside : InBox w box
  pub cheapest : (v : List ℤ) → InBox v box → cost w ≤ cost v
  pub earliest : (v : List ℤ) → InBox v box → cost v ≡ cost w → T (before v w) → ⊥

module _ (cost : List ℤ → ℕ) (bound : Box → ℕ) (budget rows t : ℕ) (start : List ℤ) (box : Box) where
  -- `Reached k s`: from the beginning, k steps that each count one split lead to s.
  pub data Reached : ℕ → State → Type 0 where
    beginning : Reached 0 (begin cost bound t start box)
    counting : {k : ℕ} {s after : State} → Reached k s → step cost bound budget rows t s ≡ go after → Reached (suc k) after

  -- The search finishes: the answer is what a step says at the state told, which as many steps as the count have led to.
  pub record Finished (r : Answer) : Type 0 where
    pub reached : Reached r.count (state_of r)
    pub stopped : step cost bound budget rows t (state_of r) ≡ stop r.kind
    pub told : r ≡ answer cost bound r.kind (state_of r)
    pub within : r.count ≤ budget

  -- V is at least 1 and V − 1 exact, since the start vector lies in the box; C − L is exact by `ordered`.
  pub record Certificate (r : Answer) : Type 0 where
    -- "The vector lies in the box and costs exactly C."
    pub inside : InBox r.vector box
    pub exact : r.cost ≡ cost r.vector
    -- "L is at most C,
    pub ordered : r.bound ≤ r.cost
    -- and every other grid vector of the box costs at least L."
    pub least : (v : List ℤ) → InBox v box → r.bound ≤ cost v
    -- "The count is the number of splits that this search counted, and it is at most V − 1."
    pub counted : Reached r.count (state_of r)
    pub few : r.count ≤ volume box - 1
    -- "The answer reads solved exactly when C − L is at most t,
    pub reads : 1 ≤ t → (r.kind ≡ solved) ↔ (r.cost - r.bound ≤ t)
    -- 02: for t = 0 "the certificate reads solved exactly when no box is open, so a spent or full answer may have C = L."
    pub reads_empty : t ≡ 0 → (r.kind ≡ solved) ↔ (r.list ≡ [])
    -- So whatever t is, C − L is at most t where the answer reads solved.
    pub near : r.kind ≡ solved → r.cost - r.bound ≤ t
    -- 02: "With t = 0, a solved answer is to be the first of all vectors of least cost, comparing coordinate 1 first, whatever the start."
    pub first : t ≡ 0 → r.kind ≡ solved → First cost box r.vector
    -- and it reads solved whenever the budget is at least V − 1 and r is at least V / 2." 02: "The limits V − 1 and V / 2 still suffice."
    pub suffices : volume box - 1 ≤ budget → volume box ≤ 2 * rows → r.kind ≡ solved
