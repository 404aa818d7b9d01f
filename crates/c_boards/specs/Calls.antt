-- One split budget for several boards, through the C interface.
use Rattle.codes.specs.Codes.{pass}
use Rattle.std.specs.Prelude.{◌≡◌, Bool, true, false, ◌&&◌, cond, List, [], ◌∷◌, ◌++◌, ℕ, zero, suc, ◌<◌, eqb, ltb, ℤ, length, get_or, Ok}
use Rattle.codes.specs.declared.Refusal.{Refusal}
use Rattle.search.specs.declared.Answer.{Answer}
use Rattle.search.specs.Search.{kind_number, refused, check_in}
use Rattle.sharing.specs.Sharing.{SharedTable, SharedBounds}
use Rattle.boards.specs.declared.BoardAnswers.{BoardAnswers}
use Rattle.boards.specs.Boards.{in_turn, check_at, boards_found, boards_answer, searches_run, BoardsShared, BoardCertified}
use Rattle.c_boundary.specs.Boundary.{Call, answered, check_call, code_of, if_accepted}
use Rattle.c_search.specs.Calls.{outcome_of, search_numbers}

-- room for a code and a budget, 8 coordinates and 6 numbers of each of 8 jobs
abbrev pub boards_lengths : ℕ → ℕ → ℕ → ℕ → Bool
boards_lengths codes budgets vectors numbers = eqb codes 8 && eqb budgets 8 && eqb vectors 64 && eqb numbers 48

-- the code that a search with this answer returns, and the number of its kind with its numbers; all are 0 of a refused one
abbrev pub answer_code : Answer → ℕ
answer_code a = code_of (answered (outcome_of a.kind))

abbrev pub board_numbers : Answer → List ℕ
board_numbers a = kind_number a.kind ∷ search_numbers a

-- the parts of slots 0, 1 and so on, n of them, one behind the other
unfoldable pub one_behind_other : {A : Type 0} → (ℕ → List A) → ℕ → List A
one_behind_other f zero = []
one_behind_other f (suc n) = one_behind_other f n ++ f n

-- Eight answers, of which the first `count` are jobs': a slot without a job has the code 0.
module _ (count : ℕ) (answers : List Answer) where
  abbrev pub slot : ℕ → Answer
  slot i = get_or answers i (refused Refusal.Jobs)

  abbrev pub slot_code : ℕ → ℕ
  slot_code i = cond (ltb i count) (answer_code (slot i)) 0

  abbrev pub codes_of : List ℕ
  codes_of = in_turn slot_code 8

  abbrev pub vectors_of : List ℤ
  vectors_of = one_behind_other (λ i. (slot i).vector) 8

  abbrev pub numbers_of : List ℕ
  numbers_of = one_behind_other (λ i. board_numbers (slot i)) 8

module _
    (count total : ℕ) (jobs stores lengths : List ℕ) (table : List ℤ) (bounds codes budgets : List ℕ) (vectors : List ℤ) (numbers : List ℕ)
  where
    abbrev pub right : Bool
    right = boards_lengths (length codes) (length budgets) (length vectors) (length numbers)

    -- what is found, unless the call is refused
    abbrev pub found : BoardAnswers
    found = boards_found count total jobs stores lengths table bounds

    -- what the call comes to: whether it is refused; and what it leaves in what it is lent for its results
    abbrev pub boards_call : Call
    boards_call = check_call right (check_in (boards_answer count total jobs stores lengths table bounds))

    abbrev pub codes_after : List ℕ
    codes_after = if_accepted boards_call (codes_of count found.answers) codes

    abbrev pub budgets_after : List ℕ
    budgets_after = if_accepted boards_call found.budgets budgets

    abbrev pub vectors_after : List ℤ
    vectors_after = if_accepted boards_call (vectors_of count found.answers) vectors

    abbrev pub numbers_after : List ℕ
    numbers_after = if_accepted boards_call (numbers_of count found.answers) numbers

    -- the table afterwards: as the searches leave it, or as it was where a length is wrong
    pub record TableAfterCall (after : List ℤ) : Type 0 where
      pub searched : right ≡ true → SharedTable (searches_run count total jobs stores lengths table bounds) table after
      pub kept : right ≡ false → after ≡ table

    -- and the list of bounds
    pub record BoundsAfterCall (after : List ℕ) : Type 0 where
      pub searched : right ≡ true → SharedBounds (searches_run count total jobs stores lengths table bounds) bounds after
      pub kept : right ≡ false → after ≡ bounds

    -- What is handed over with the code 0: the answers found, which share T out, and each of which is certified where its own code is 0:
    -- its job was accepted, the answer is that of its search under the budget found, and of that demand 3 holds.
    pub record CertifiedCall (new_codes new_budgets : List ℕ) (new_vectors : List ℤ) (new_numbers : List ℕ) : Type 0 where
      pub passed : boards_answer count total jobs stores lengths table bounds ≡ Ok found
      pub given : new_budgets ≡ found.budgets
      pub best : new_vectors ≡ vectors_of count found.answers
      pub told : new_numbers ≡ numbers_of count found.answers
      pub shares : BoardsShared count total jobs stores lengths table bounds found
      pub each :
          (i : ℕ) →
          i < count →
          get_or new_codes i 0 ≡ 0 →
          (check_at count total jobs stores lengths table bounds i ≡ pass)
          × BoardCertified count total jobs stores lengths table bounds found i
