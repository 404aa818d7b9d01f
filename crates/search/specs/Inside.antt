-- What the functions behind a search say to each other of its state, and of the memory that holds its list (replacing/Replacing).
use Rattle.std.specs.Prelude.{Option, Some, is_none, ◌≡◌, true, List, map, ℕ, ◌*◌, ◌≤◌, ◌<◌, ltb, ℤ, length, take, drop}
use Rattle.integers.specs.Lists.{All}
use Rattle.boxes.specs.declared.Box.{Box}
use Rattle.boxes.specs.Boxes.{volume}
use Rattle.certificate.specs.Search as Search
use Rattle.certificate.specs.Search.{better, begin, split}
use Rattle.incumbent.specs.Incumbent.{kept_by, Marks}
use Rattle.list_rows.specs.Rows.{row_count, rows_of}
use Rattle.list_open_boxes.specs.OpenBoxes.{room_in}
use Rattle.list_blocks.specs.declared.Blocks.{Blocks}
use Rattle.list_running.specs.declared.Found.{Found}
use Rattle.replacing.specs.Replacing.{Memory, memory, list_in, box_found, HeldIn, ChosenIn, LateLong, Within}
use Rattle.search.specs.declared.Kind.{Kind}
use Rattle.search.specs.declared.Answer.{Answer}
use Rattle.search.specs.declared.step.State.{State}
use Rattle.search.specs.declared.run.End.{End}
use Rattle.search.specs.Search.{told}

-- the state of a search, with the list that is held
abbrev pub state_in : Memory → State → Search.State
state_in h s = record { best = s.mark.best; list = list_in h s.list; count = s.count; peak = s.peak }

-- What holds of a state between two steps, and of how its list is held: in `HeldIn` the bound of each open box stands beside it, in the
-- lent list or, for a late box, in the search's own memory.
pub record Stands (cost : List ℤ → ℕ) (bound : Box → ℕ) (h : Memory) (s : State) : Type 0 where
  pub marks : Marks cost s.mark
  pub listed : HeldIn bound h s.list (list_in h s.list)
  pub few : s.list.rows ≤ s.peak
  pub late : LateLong h

-- What a step is handed: what was found is the first box with the smallest bound, which can be cut, and every open box is one that is kept
-- beside the best vector. Where a split has been counted, the low vector of the box does not become best.
pub record Steppable (cost : List ℤ → ℕ) (bound : Box → ℕ) (h : Memory) (s : State) (found : Found) : Type 0 where
  pub stands : Stands cost bound h s
  pub chosen : ChosenIn bound h s.list (list_in h s.list) found
  pub wide : 2 ≤ volume (box_found h found)
  pub kept : All (λ b. kept_by bound s.mark b ≡ true) (list_in h s.list)
  pub costed : 1 ≤ s.count → better cost s.mark.t s.mark.best (box_found h found).low ≡ s.mark.best
  pub room : s.list.number ≤ row_count h.table
  pub entries : row_count h.table ≤ length h.bounds
  pub longest : s.list.number ≤ s.peak
  pub countable : s.count < 4294967295

-- The state s₂ and the memory k are those after a split of s₁ and h.
pub record Moved (cost : List ℤ → ℕ) (bound : Box → ℕ) (h : Memory) (s₁ s₂ : State) (k : Memory) : Type 0 where
  pub stands : Stands cost bound k s₂
  pub tolerance : s₂.mark.t ≡ s₁.mark.t
  pub state : state_in k s₂ ≡ split cost bound s₁.mark.t (state_in h s₁)
  pub within : Within s₂.peak h k

-- What a step says: there is no room for the split and nothing changed, or the split is made.
pub record StepOutcome (cost : List ℤ → ℕ) (bound : Box → ℕ) (h : Memory) (s : State) (r : Option State) (k : Memory) : Type 0 where
  pub kept : is_none r ≡ true → k ≡ h
  pub told : is_none r ≡ ltb (row_count h.table) (length (split cost bound s.mark.t (state_in h s)).list)
  pub moved : (after : State) → r ≡ Some after → Moved cost bound h s after k

-- The state s and the late rows and entries are those of the beginning, whatever the table, its entries and the blocks are.
pub record Begun
    (cost : List ℤ → ℕ) (bound : Box → ℕ) (tol : ℕ) (start : List ℤ) (domain : Box) (s : State) (v : List ℤ) (f : List ℕ) : Type 0
  where
    pub tolerance : s.mark.t ≡ tol
    pub stands :
        (t : List ℤ) (d : List ℕ) (l : Blocks) → l.count ≡ 0 → length l.leasts ≡ 64 → length l.places ≡ 64 →
        Stands cost bound (memory t d l v f) s
    pub state : (t : List ℤ) (d : List ℕ) (l : Blocks) → state_in (memory t d l v f) s ≡ begin cost bound tol start domain

-- an answer with a state and L
abbrev pub answer_with : Kind → State → ℕ → Answer
answer_with kind s low =
    record {
      kind = kind;
      vector = s.mark.best;
      cost = s.mark.cost;
      bound = low;
      count = s.count;
      «open» = s.list.number;
      peak = s.peak;
    }

-- What the steps end with is the answer `def`; its list is held, and each box in it is kept. The memory k was h.
pub record Ended (bound : Box → ℕ) (def : Search.Answer) (h : Memory) (z : End) (k : Memory) : Type 0 where
  pub answer : answer_with z.kind z.state z.low ≡ told def
  pub listed : HeldIn bound k z.state.list def.list
  pub kept : All (λ b. kept_by bound z.state.mark b ≡ true) def.list
  pub fits : z.state.mark.cost < 18446744073709551615
  pub room : length def.list ≤ room_in k.table k.bounds
  pub few : length def.list ≤ def.peak
  pub rows : z.state.list.rows ≤ def.peak
  pub late : LateLong k
  pub within : Within def.peak h k

-- The answer r, the table u and the list e are those of the answer `def`, where they were t and d.
pub record Ran (bound : Box → ℕ) (def : Search.Answer) (t : List ℤ) (d : List ℕ) (r : Answer) (u : List ℤ) (e : List ℕ) : Type 0 where
  pub answer : r ≡ told def
  pub open_rows : rows_of u (length def.list) ≡ def.list
  pub open_entries : take (length def.list) e ≡ map bound def.list
  pub few : length def.list ≤ def.peak
  pub long : length u ≡ length t
  pub long_entries : length e ≡ length d
  pub rest : drop (16 * def.peak) u ≡ drop (16 * def.peak) t
  pub rest_entries : drop def.peak e ≡ drop def.peak d
