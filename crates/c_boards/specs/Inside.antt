-- What the functions behind the boards for C say to each other.
use Rattle.std.specs.Prelude.{◌≡◌, List, ℕ, ◌*◌, ◌≤◌, ℤ, length}
use Rattle.integers.specs.Lists.{over}
use Rattle.search.specs.declared.Answer.{Answer}
use Rattle.boards.specs.Boards.{in_turn}
use Rattle.c_boards.specs.Calls.{slot, slot_code, board_numbers, one_behind_other}

-- The first i slots are handed over: what the lent codes, vectors and numbers hold then.
pub record Handed
    (count : ℕ) (answers : List Answer) (codes : List ℕ) (vectors : List ℤ) (numbers : List ℕ) (i : ℕ) (codes' : List ℕ) (vectors' : List ℤ)
    (numbers' : List ℕ) : Type 0
  where
    pub few : i ≤ 8
    pub long : length (one_behind_other (λ j. (slot count answers j).vector) i) ≡ 8 * i
    pub codes_told : codes' ≡ over (in_turn (slot_code count answers) i) codes
    pub vectors_told : vectors' ≡ over (one_behind_other (λ j. (slot count answers j).vector) i) vectors
    pub numbers_told : numbers' ≡ over (one_behind_other (λ j. board_numbers (slot count answers j)) i) numbers
