-- What is handed over by the outcome of check 18; a job whose code is 0 was accepted. Assumes nothing.
use mathlib.Core.Path.{◌≡◌, refl, sym, ap, subst, ◌∙◌}
use mathlib.Core.Bool.{true, false, true≢false}
use mathlib.Core.List.{List, [], append-nil}
use Prim.Native.Nat.{ℕ, ◌<◌}
use native.Mathlib.Omega.{arith}
use borrow.Author.Tests.{lt-ltb}
use lib.IntN.{ℤ}
use lib.ListN.{length, get_or}
use Rattle.std.specs.Prelude.{Ok, Err}
use Rattle.codes.specs.declared.Refusal.{Refusal}
use Rattle.codes.specs.Codes.{Check, pass}
use Rattle.codes.proofs.Checks as checks
use Rattle.certificate.specs.Search as Search
use Rattle.search.specs.declared.Kind.{Kind}
use Rattle.search.specs.declared.Kind.TheVariants.{Solved, Spent, Full, Refused}
use Rattle.search.specs.Search.{check_of, answer_unless_refused}
use Rattle.boards.specs.declared.BoardAnswers.{BoardAnswers}
use Rattle.boards.specs.Boards.{check_jobs, boards_found, boards_answer, searches_run, check_at, answer_at, search_at, budget_at, BoardsShared, BoardsCertified}
use Rattle.sharing.specs.Sharing.{SharedTable, SharedBounds}
use Rattle.boards.proofs.Boarding.{counted, in_turn_at, slot_answer}
use Rattle.c_boundary.specs.Boundary.{answered, check_call, code_of}
use Rattle.c_boundary.proofs.Codes.{refusal_not_0}
use Rattle.c_search.specs.Calls.{outcome_of}
use Rattle.c_boards.specs.Calls.{answer_code, slot, slot_code, codes_of, vectors_of, numbers_of, right, boards_call}
use Rattle.c_boards.specs.Calls.{codes_after, budgets_after, vectors_after, numbers_after, TableAfterCall, BoundsAfterCall, CertifiedCall}

-- the code of a kind is that of its check
pub kind_code : (k : Kind) → code_of (check_call true (check_of k)) ≡ code_of (answered (outcome_of k))
kind_code Solved = refl
kind_code Spent = refl
kind_code Full = refl
kind_code (Refused why) = refl

-- the code 0
accepted_at_0 : (check : Check) (r : Search.Answer) → answer_code (answer_unless_refused check r) ≡ 0 → check ≡ pass
accepted_at_0 (Ok _) r e = refl
accepted_at_0 (Err why) r e = absurd (refusal_not_0 why e)

module _
    (count total : ℕ) (jobs stores lengths : List ℕ) (table : List ℤ) (bounds codes budgets : List ℕ) (vectors : List ℤ) (numbers : List ℕ)
  where
    abbrev b : BoardAnswers
    b = boards_found count total jobs stores lengths table bounds

    slot_accepted : check_jobs count (length jobs) (length lengths) ≡ pass → (i : ℕ) → i < count
        → get_or (codes_of count b.answers) i 0 ≡ 0 → check_at count total jobs stores lengths table bounds i ≡ pass
    slot_accepted ok i below e =
        let few = (counted count (length jobs) (length lengths) ok).few in
        let read : get_or (codes_of count b.answers) i 0 ≡ slot_code count b.answers i =
        ap (λ (l : List ℕ). get_or l i 0) (sym (append-nil (codes_of count b.answers)))
        ∙ in_turn_at (slot_code count b.answers) 8 i [] 0 (omega (arith, few, below)) in
        let used : slot_code count b.answers i ≡ answer_code (slot count b.answers i) = rw (lt-ltb i count below) refl in
        let told : answer_code (slot count b.answers i) ≡ answer_code (answer_at count total jobs stores lengths table bounds i) =
        ap answer_code (slot_answer count total jobs stores lengths table bounds i below) in
        accepted_at_0 (check_at count total jobs stores lengths table bounds i)
        (search_at count total jobs stores lengths table bounds i (budget_at count total jobs stores lengths table bounds i))
        (sym told ∙ sym used ∙ sym read ∙ e)

    -- what is handed over where the call is accepted
    pub certified_call :
        (r : BoardAnswers) (c' b' : List ℕ) (v' : List ℤ) (n' : List ℕ) →
        Ok r ≡ boards_answer count total jobs stores lengths table bounds →
        BoardsShared count total jobs stores lengths table bounds r →
        BoardsCertified count total jobs stores lengths table bounds r →
        c' ≡ codes_of count r.answers →
        b' ≡ r.budgets →
        v' ≡ vectors_of count r.answers →
        n' ≡ numbers_of count r.answers →
        CertifiedCall count total jobs stores lengths table bounds codes budgets vectors numbers c' b' v' n'
    certified_call r c' b' v' n' found shares certified its_codes its_budgets its_vectors its_numbers =
        let passed = checks.answered (check_jobs count (length jobs) (length lengths)) b r (sym found) in
        let is_b : r ≡ b = sym passed.1 in
        record {
          passed = sym found ∙ ap Ok is_b;
          given = its_budgets ∙ ap (λ (x : BoardAnswers). x.budgets) is_b;
          best = its_vectors ∙ ap (λ (x : BoardAnswers). vectors_of count x.answers) is_b;
          told = its_numbers ∙ ap (λ (x : BoardAnswers). numbers_of count x.answers) is_b;
          shares = subst (BoardsShared count total jobs stores lengths table bounds) is_b shares;
          each = λ i below at_0.
              let code : get_or (codes_of count b.answers) i 0 ≡ 0 =
              ap (λ (l : List ℕ). get_or l i 0) (sym (its_codes ∙ ap (λ (x : BoardAnswers). codes_of count x.answers) is_b)) ∙ at_0 in
              let accepted = slot_accepted passed.0 i below code in
              (accepted, (subst (BoardsCertified count total jobs stores lengths table bounds) is_b certified) passed.0 i below accepted);
        }
