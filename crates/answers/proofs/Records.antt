-- The record of an accepted search's answer passes check 9, clause by clause, by the certificate of the search and the law of costs;
-- and its numbers fit their bytes. Assumes nothing.
use mathlib.Core.Bool.{true}
use mathlib.Core.List.{List}
use mathlib.Core.Path.{◌≡◌, refl, ◌∙◌}
use Prim.Native.Nat.{ℕ, zero, suc, ◌≤◌}
use native.Mathlib.Omega.{arith}
use borrow.Author.Tests.{le-leb}
use lib.Dec.{T}
use lib.IntN.{ℤ}
use lib.ListN.{length}
use mir.Syntax.{w16}
use mir.Val.{SFits}
use Rattle.std.specs.Prelude.{Err}
use Rattle.integers.specs.Lists.{All, none, also}
use Rattle.integers.proofs.Parts.{abs_fits}
use Rattle.integers.proofs.Signed.{fits_between}
use Rattle.integers.proofs.Tests.{is_true}
use Rattle.codes.specs.declared.Refusal.{Refusal}
use Rattle.codes.specs.Codes.{pass, within}
use Rattle.codes.proofs.Checks.{first_passed, others_passed}
use Rattle.boxes.specs.declared.Box.{Box}
use Rattle.boxes.specs.Boxes.{Between, empty, side, InBox}
use Rattle.boxes.specs.Shape.{check_shape, unused_zero}
use Rattle.boxes.proofs.Checks.{in_unused}
use Rattle.boxes.proofs.Volume.{between_length}
use Rattle.scale.specs.Scale.{check_scale}
use Rattle.fields.specs.Fields.{IsVector}
use Rattle.jobs.specs.declared.Job.{Job}
use Rattle.residuals.specs.Laws.{Small}
use Rattle.model_checks.specs.Checks.{check_model}
use Rattle.costs.proofs.Passed.{cost_limit}
use Rattle.list_rows.specs.Rows.{row_count}
use Rattle.certificate.specs.Search as Search
use Rattle.certificate.specs.Search.{solved, spent, full}
use Rattle.certificate.proofs.Certified.{finished}
use Rattle.search_checks.proofs.Passed.{Runs, runs_accepted}
use Rattle.search.specs.Search.{kind_of, kind_number, told, searched, CertifiedIn, check_lent, searched_lent, search_answer}
use Rattle.search.proofs.Accepted.{certificate}
use Rattle.job_records.specs.Laws.{IsJob}
use Rattle.answer_records.specs.Answers.{check_answer}
use Rattle.answer_records.specs.Laws.{IsAnswer}
use Rattle.answer_records.specs.declared.AnswerRecord.{AnswerRecord}
use Rattle.answer_records.proofs.Answers.{answer_round_trip}
use Rattle.answers.specs.Records.{record_of}
use Rattle.answers.specs.Laws.{search_record, RecordFits}

-- solved, spent and full have numbers from 1 to 3
kind_in_range : (k : Search.Kind) → within 1 (kind_number (kind_of k)) 3 ≡ true
kind_in_range solved = refl
kind_in_range spent = refl
kind_in_range full = refl

-- a vector of a box of vectors
signed_between : {v ls hs : List ℤ} → Between v ls hs → All (λ w. SFits w16 w) ls → All (λ w. SFits w16 w) hs → All (λ w. SFits w16 w) v
signed_between empty none none = none
signed_between (side {x} {l} {h} p q b) (also f fs) (also g gs) = also (fits_between w16 l x h p q f g) (signed_between b fs gs)

vector_between : {v : List ℤ} {b : Box} → InBox v b → IsVector b.low → IsVector b.high → IsVector v
vector_between i low high = record {
  eight = (between_length i.between).0 ∙ low.eight;
  signed = signed_between i.between low.signed high.signed;
}

-- its coordinates have 16 bits
each_small : {v : List ℤ} → All (λ w. SFits w16 w) v → Small v
each_small none k = omega arith
each_small (also f fs) zero = abs_fits w16 f
each_small (also f fs) (suc k) = each_small fs k

vector_small : {v : List ℤ} → IsVector v → Small v
vector_small is = each_small is.signed

module _ (store : List ℕ) (job : Job) (table : List ℤ) (bounds : List ℕ) where
  -- a refused answer's kind has the number 0
  refused_by_9 :
      (why : Refusal) →
      check_lent store job table bounds ≡ Err why →
      check_answer (search_record store job table bounds) ≡ Err Refusal.Answer
  unfolding search_answer record_of check_answer
  refused_by_9 why e = rw e

  module _ (ok : check_lent store job table bounds ≡ pass) where
    abbrev found : Search.Answer
    found = searched_lent store job table bounds

    tells : search_record store job table bounds ≡ record_of job.model (told found)
    unfolding search_answer
    tells = rw ok

    runs : Runs store job
    runs = runs_accepted store job (length table) (length bounds) ok

    shape_checked : check_shape job.model.n job.model.d ≡ pass
    unfolding check_model
    shape_checked = first_passed _ _ (others_passed _ _ runs.checked)

    scale_checked : check_scale job.model.scale ≡ pass
    unfolding check_model
    scale_checked = first_passed _ _ (others_passed _ _ (others_passed _ _ runs.checked))

    demand : CertifiedIn store job (row_count table)
    demand = certificate store job table bounds ok

    within_budget : found.count ≤ job.budget
    unfolding searched
    within_budget = (finished _ _ _ _ _ _ _).within

    -- the record, and what check 9 asks of it
    abbrev written : AnswerRecord
    written = record_of job.model (told found)

    ordered : written.bound ≤ written.cost
    unfolding record_of
    ordered = demand.ordered

    unused_zero_lem : T (unused_zero written.n written.d written.vector)
    unfolding record_of
    unused_zero_lem = in_unused job.model.n job.model.d job.domain found.vector runs.boxed demand.inside

    module _ (is : IsJob job) where
      vector_is : IsVector found.vector
      vector_is = vector_between demand.inside is.low is.high

      cost_in_range : written.cost ≤ 1152921367167897600
      unfolding record_of
      cost_in_range =
          omega (arith, demand.exact, (cost_limit store job.model).most runs.checked found.vector (vector_small vector_is))

      passes_9 : check_answer written ≡ pass
      unfolding record_of check_answer
      passes_9 =
          rw (
            kind_in_range found.kind,
            shape_checked,
            scale_checked,
            is_true (unused_zero written.n written.d written.vector) unused_zero_lem,
            le-leb written.bound written.cost ordered,
            le-leb written.cost 1152921367167897600 cost_in_range,
          )

      fits : IsAnswer written
      unfolding record_of
      fits = record {
        vector = vector_is;
        cost = record { fits = omega (arith, cost_in_range) };
        bound = record { fits = omega (arith, cost_in_range, ordered) };
        count = record { fits = omega (arith, within_budget, is.budget.fits) };
      }

  pub record_fits : RecordFits store job table bounds
  record_fits = record {
    accepted = λ ok is. rw (tells ok) (passes_9 ok is);
    refused = refused_by_9;
    numbers = λ ok is. rw (tells ok) (fits ok is);
    reads = λ ok is. rw (tells ok) (answer_round_trip.written_reads (written ok) (fits ok is) (passes_9 ok is));
  }
