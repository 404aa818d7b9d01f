-- What the functions behind a search for ranges say to each other of its state.
use Rattle.std.specs.Prelude.{◌≡◌, Bool, true, false, cond, List, ℕ, ◌+◌, ◌-◌, ◌*◌, ◌≤◌, ◌<◌, T, leb, eqb, ℤ, length, drop, Option, Some, None}
use Rattle.integers.specs.Lists.{All}
use Rattle.boxes.specs.declared.Box.{Box}
use Rattle.boxes.specs.Boxes.{InBox, volume}
use Rattle.boxes.specs.Split.{left_half, right_half}
use Rattle.jobs.specs.declared.Model.{Model}
use Rattle.list_rows.specs.Rows.{row_count, row_at, rows_of, with_row}
use Rattle.coefficients.specs.Coefficient.{coefficient_or_zero}
use Rattle.range_search.specs.RangeSearch as Search
use Rattle.range_search.specs.RangeSearch.{keeps, begin, split}
use Rattle.range_hulls.specs.Hulls.{found_of, slots_of}
use Rattle.ranges.specs.declared.Answer.{Answer}
use Rattle.ranges.specs.declared.step.State.{State}
use Rattle.ranges.specs.declared.step.Tested.{Tested}
use Rattle.ranges.specs.declared.step.Tested.TheVariants.{Counted, Kept, Dropped}
use Rattle.ranges.specs.declared.run.End.{End}
use Rattle.ranges.specs.Ranges.{kind_of, given_by}

-- what a number x says of the box b, where it is found as far as it decides of the bound: whether its one vector counts, or it is kept
abbrev pub tested_by : Box → ℕ → ℕ → Tested
tested_by b x K = cond (leb x K) (cond (eqb (volume b) 1) Counted Kept) Dropped

abbrev pub is_counted : Tested → Bool
is_counted Counted = true
is_counted Kept = false
is_counted Dropped = false

abbrev pub is_kept : Tested → Bool
is_kept Counted = false
is_kept Kept = true
is_kept Dropped = false

-- the table with a box written as row `at`, if it is kept, and the place behind it
abbrev pub pushed : List ℤ → ℕ → Box → Bool → List ℤ
pushed t at b kept = cond kept (with_row t at b) t

abbrev pub place_after : ℕ → Bool → ℕ
place_after at kept = at + cond kept 1 0

-- a state of the search, with its list in the first rows of the table
abbrev pub state_in : List ℤ → State → Search.State
state_in t s = record { found = found_of s.hull; list = rows_of t s.«open»; count = s.count; peak = s.peak }

-- from row n on nothing changed: u was t
pub record Within (n : ℕ) (t u : List ℤ) : Type 0 where
  pub long : length u ≡ length t
  pub rest : drop (16 * n) u ≡ drop (16 * n) t

-- no bound of a box in the given one is as large as the largest number of 64 bits
abbrev pub Limited : (Box → ℕ) → Box → Type 0
Limited bound box = (b : Box) → 1 ≤ volume b → ((v : List ℤ) → InBox v b → InBox v box) → bound b < 18446744073709551615

-- what the beginning leaves, in the table u that was t
pub record Begun (cost : List ℤ → ℕ) (bound : Box → ℕ) (K : ℕ) (box : Box) (t : List ℤ) (s : State) (u : List ℤ) : Type 0 where
  pub state : state_in u s ≡ begin cost bound K box
  pub within : Within s.peak t u

-- the last open box
abbrev pub last_in : List ℤ → State → Box
last_in t s = row_at t (s.«open» - 1)

-- what a step is handed: a box is open, the last can be cut, all would be kept again, and one more split can be counted
pub record Steppable (bound : Box → ℕ) (K : ℕ) (t : List ℤ) (s : State) : Type 0 where
  pub some : 1 ≤ s.«open»
  pub room : s.«open» ≤ row_count t
  pub kept : All (λ b. T (keeps bound K b)) (rows_of t s.«open»)
  pub two : 2 ≤ volume (last_in t s)
  pub left_limit : bound (left_half (last_in t s)) < 18446744073709551615
  pub right_limit : bound (right_half (last_in t s)) < 18446744073709551615
  pub countable : s.count < 4294967295

-- what a step says: there is no room for the split and nothing changed
pub record NoRoom (cost : List ℤ → ℕ) (bound : Box → ℕ) (K : ℕ) (t : List ℤ) (s : State) (u : List ℤ) : Type 0 where
  pub full : row_count t < length (split cost bound K (state_in t s)).list
  pub kept : u ≡ t

-- or the split is made
pub record Split (cost : List ℤ → ℕ) (bound : Box → ℕ) (K : ℕ) (t : List ℤ) (s next : State) (u : List ℤ) : Type 0 where
  pub room : length (split cost bound K (state_in t s)).list ≤ row_count t
  pub state : state_in u next ≡ split cost bound K (state_in t s)
  pub within : Within next.peak t u

abbrev pub StepOutcome : (List ℤ → ℕ) → (Box → ℕ) → ℕ → List ℤ → State → Option State → List ℤ → Type 0
StepOutcome cost bound K t s None u = NoRoom cost bound K t s u
StepOutcome cost bound K t s (Some next) u = Split cost bound K t s next u

-- what the steps end with is the answer `def`, where the table was t
pub record Ended (def : Search.Answer) (t : List ℤ) (z : End) (u : List ℤ) : Type 0 where
  pub kind : z.kind ≡ kind_of def.kind
  pub state : state_in u z.state ≡ def.state
  pub few : length def.state.list ≤ def.state.peak
  pub within : Within def.state.peak t u

-- an answer with a kind and a state
abbrev pub told_of : Model → End → Answer
told_of m z =
    record {
      kind = z.kind;
      slots = slots_of (coefficient_or_zero m.scale) (m.n * m.d) (given_by z.kind (found_of z.state.hull));
      count = z.state.count;
      «open» = z.state.«open»;
      peak = z.state.peak;
    }
