-- A call for ranges with the code 0 was accepted, and what it hands over is its answer. Assumes nothing.
use mathlib.Core.Path.{◌≡◌, refl, sym, ap, subst, ◌∙◌}
use mathlib.Core.List.{List}
use Prim.Native.Nat.{ℕ}
use lib.IntN.{ℤ}
use Rattle.codes.specs.Codes.{Check, pass}
use Rattle.std.specs.Prelude.{Ok, Err}
use Rattle.jobs.specs.declared.Job.{Job}
use Rattle.jobs.specs.declared.Model.{Model}
use Rattle.ranges.specs.declared.Kind.{Kind}
use Rattle.ranges.specs.declared.Kind.TheVariants.{Finished, Spent, Full, Refused}
use Rattle.ranges.specs.declared.Answer.{Answer}
use Rattle.ranges.specs.Ranges.{kind_number, answer_unless_refused, check_lent, ranges_lent, ranges_answer, RangesCertified}
use Rattle.c_boundary.specs.Boundary.{answered, code_of, value_after, if_accepted, job_from}
use Rattle.c_boundary.proofs.Codes.{refusal_not_0, given_at_0}
use Rattle.c_ranges.specs.Calls.{outcome_of, patterns_of, cases_of, ranges_numbers, CertifiedCall}

-- the value at 0
kind_at_0 : (k : Kind) (held : ℕ) → code_of (answered (outcome_of k)) ≡ 0 → value_after (answered (outcome_of k)) held ≡ kind_number k
kind_at_0 Finished held e = refl
kind_at_0 Spent held e = refl
kind_at_0 Full held e = refl
kind_at_0 (Refused why) held e = absurd (refusal_not_0 why e)

-- the check at 0
module _ (store : List ℕ) (job : Job) (K : ℕ) (table : List ℤ) where
  passed_at_0 : (check : Check) →
      code_of (answered (outcome_of (answer_unless_refused check job.model (ranges_lent store job K table)).kind)) ≡ 0 → check ≡ pass
  passed_at_0 (Ok _) e = refl
  passed_at_0 (Err why) e = absurd (refusal_not_0 why e)

  accepted_at_0 : code_of (answered (outcome_of (ranges_answer store job K table).kind)) ≡ 0 → check_lent store job K table ≡ pass
  unfolding ranges_answer
  accepted_at_0 e = passed_at_0 (check_lent store job K table) e

module _
    (store : List ℕ) (m : Model) (budget K : ℕ) (corners start table : List ℤ) (patterns cases numbers : List ℕ)
  where
    abbrev job : Job
    job = job_from m 0 budget 0 corners start

    -- r is what the call answered; the rest is what is left where it was handed over
    pub certified_call :
        (r : Answer) (held new_value : ℕ) (new_patterns new_cases new_numbers : List ℕ) →
        r ≡ ranges_answer store job K table →
        RangesCertified store job K table r →
        code_of (answered (outcome_of r.kind)) ≡ 0 →
        new_value ≡ value_after (answered (outcome_of r.kind)) held →
        new_patterns ≡ if_accepted (answered (outcome_of r.kind)) (patterns_of r.slots) patterns →
        new_cases ≡ if_accepted (answered (outcome_of r.kind)) (cases_of r.slots) cases →
        new_numbers ≡ if_accepted (answered (outcome_of r.kind)) (ranges_numbers r) numbers →
        CertifiedCall store m budget K corners start table patterns cases numbers new_value new_patterns new_cases new_numbers
    certified_call r held new_value new_patterns new_cases new_numbers found certificate at-0 value bits case told =
        record {
          accepted = accepted_at_0 store job K table (ap (λ (a : Answer). code_of (answered (outcome_of a.kind))) (sym found) ∙ at-0);
          kind = value ∙ kind_at_0 r.kind held at-0 ∙ ap (λ (a : Answer). kind_number a.kind) found;
          bits =
              bits ∙ given_at_0 (outcome_of r.kind) (patterns_of r.slots) patterns at-0
              ∙ ap (λ (a : Answer). patterns_of a.slots) found;
          case = case ∙ given_at_0 (outcome_of r.kind) (cases_of r.slots) cases at-0 ∙ ap (λ (a : Answer). cases_of a.slots) found;
          told = told ∙ given_at_0 (outcome_of r.kind) (ranges_numbers r) numbers at-0 ∙ ap ranges_numbers found;
          certified = subst (RangesCertified store job K table) found certificate;
        }
