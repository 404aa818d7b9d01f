-- A search with the code 0 was accepted, and what it hands over is its answer. Assumes nothing.
use mathlib.Core.Path.{◌≡◌, refl, sym, ap, subst, ◌∙◌}
use mathlib.Core.List.{List}
use Prim.Native.Nat.{ℕ}
use lib.IntN.{ℤ}
use Rattle.codes.specs.Codes.{Check, pass}
use Rattle.std.specs.Prelude.{Ok, Err}
use Rattle.jobs.specs.declared.Job.{Job}
use Rattle.jobs.specs.declared.Model.{Model}
use Rattle.search.specs.declared.Kind.{Kind}
use Rattle.search.specs.declared.Kind.TheVariants.{Solved, Spent, Full, Refused}
use Rattle.search.specs.declared.Answer.{Answer}
use Rattle.search.specs.Search.{kind_number, answer_unless_refused, check_lent, searched_lent, search_answer, Certified}
use Rattle.c_boundary.specs.Boundary.{answered, code_of, value_after, if_accepted, job_from}
use Rattle.c_search.specs.Calls.{outcome_of, search_numbers, CertifiedCall}
use Rattle.c_boundary.proofs.Codes.{refusal_not_0, given_at_0}

-- the value at 0
kind_at_0 : (k : Kind) (held : ℕ) → code_of (answered (outcome_of k)) ≡ 0 → value_after (answered (outcome_of k)) held ≡ kind_number k
kind_at_0 Solved held e = refl
kind_at_0 Spent held e = refl
kind_at_0 Full held e = refl
kind_at_0 (Refused why) held e = absurd (refusal_not_0 why e)

-- the check of a search at 0
module _ (store : List ℕ) (job : Job) (table : List ℤ) (bounds : List ℕ) where
  passed_at_0 : (check : Check) →
      code_of (answered (outcome_of (answer_unless_refused check (searched_lent store job table bounds)).kind)) ≡ 0 → check ≡ pass
  passed_at_0 (Ok _) e = refl
  passed_at_0 (Err why) e = absurd (refusal_not_0 why e)

  accepted_at_0 : code_of (answered (outcome_of (search_answer store job table bounds).kind)) ≡ 0 → check_lent store job table bounds ≡ pass
  unfolding search_answer
  accepted_at_0 e = passed_at_0 (check_lent store job table bounds) e

module _
    (store : List ℕ) (m : Model) (t budget : ℕ) (corners start table : List ℤ) (bounds : List ℕ) (vector : List ℤ) (numbers : List ℕ)
  where
    abbrev job : Job
    job = job_from m t budget 0 corners start

    -- r is what the search answered; the rest is what is left where it was handed over
    pub certified_call :
        (r : Answer) (held new_value : ℕ) (new_vector : List ℤ) (new_numbers : List ℕ) →
        r ≡ search_answer store job table bounds →
        Certified store job table bounds r →
        code_of (answered (outcome_of r.kind)) ≡ 0 →
        new_value ≡ value_after (answered (outcome_of r.kind)) held →
        new_vector ≡ if_accepted (answered (outcome_of r.kind)) r.vector vector →
        new_numbers ≡ if_accepted (answered (outcome_of r.kind)) (search_numbers r) numbers →
        CertifiedCall store m t budget corners start table bounds vector numbers new_value new_vector new_numbers
    certified_call r held new_value new_vector new_numbers found certificate at-0 value laid told =
        record {
          accepted = accepted_at_0 store job table bounds (ap (λ (a : Answer). code_of (answered (outcome_of a.kind))) (sym found) ∙ at-0);
          kind = value ∙ kind_at_0 r.kind held at-0 ∙ ap (λ (a : Answer). kind_number a.kind) found;
          best = laid ∙ given_at_0 (outcome_of r.kind) r.vector vector at-0 ∙ ap (λ (a : Answer). a.vector) found;
          told = told ∙ given_at_0 (outcome_of r.kind) (search_numbers r) numbers at-0 ∙ ap search_numbers found;
          certified = subst (Certified store job table bounds) found certificate;
        }
