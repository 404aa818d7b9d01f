-- What an accepted or a refused job comes to. Assumes nothing.
use mathlib.Core.Path.{◌≡◌, refl, sym, ap, ◌∙◌}
use mathlib.Core.List.{List, [], ◌++◌, map}
use Prim.Native.Nat.{ℕ, ◌≤◌}
use native.Mathlib.Omega.{arith}
use lib.IntN.{ℤ}
use lib.ListN.{length, take, drop, take-append-drop}
use lib.Seq.{take-take}
use Rattle.codes.specs.Codes.{pass}
use Rattle.std.specs.Prelude.{Err}
use Rattle.codes.specs.declared.Refusal.{Refusal}
use Rattle.codes.proofs.Checks.{refused_not_passed}
use Rattle.boxes.specs.declared.Box.{Box}
use Rattle.jobs.specs.declared.Job.{Job}
use Rattle.points.specs.Points.{points_of}
use Rattle.residuals.specs.Cost.{cost, bound}
use Rattle.residuals.proofs.Bounds.{bound_laws}
use Rattle.list_rows.specs.Rows.{row_count, rows_of}
use Rattle.list_rows.proofs.Rows.{rows_take}
use Rattle.certificate.specs.Search as Search
use Rattle.certificate.specs.Certificate.{state_of}
use Rattle.certificate.proofs.Reached.{reached_sound}
use Rattle.certified_costs.proofs.Made.{fit_certified}
use Rattle.search_checks.proofs.Passed.{runs_accepted, rows_accepted}
use Rattle.search.specs.declared.Answer.{Answer}
use Rattle.search.specs.Search.{searched, refused, CertifiedIn, check_lent, search_answer, TableSearched, BoundsSearched, Certified}
use Rattle.search.specs.Inside.{Ran}

-- a list whose first n are known, in two parts
two_parts : {A : Type 0} (xs front : List A) (n : ℕ) → take n xs ≡ front → xs ≡ front ++ drop n xs
two_parts xs front n e = sym (take-append-drop n xs) ∙ ap (λ (l : List _). l ++ drop n xs) e

module _ (store : List ℕ) (job : Job) (t : List ℤ) (d : List ℕ) where
  abbrev B : Box → ℕ
  B = bound job.model (points_of store)

  abbrev found : Search.Answer
  found = searched store job (row_count t)

  abbrev open_count : ℕ
  open_count = length found.list

  abbrev Promised : Answer → List ℤ → List ℕ → Type 0
  Promised r u e =
      (r ≡ search_answer store job t d) × (TableSearched store job t d u × (BoundsSearched store job t d e × Certified store job t d r))

  module _ (ok : check_lent store job t d ≡ pass) where
    pub certificate : CertifiedIn store job (row_count t)
    unfolding searched
    certificate =
        fit_certified job.model (points_of store) job.budget (row_count t) job.t job.start job.domain
        (runs_accepted store job (length t) (length d) ok).inside

    -- peak is at most r
    pub peak_accepted : found.peak ≤ row_count t
    peak_accepted =
        let sound =
        reached_sound (cost job.model (points_of store)) B (bound_laws job.model (points_of store)) job.budget (row_count t) job.t
        job.start job.domain
        (runs_accepted store job (length t) (length d) ok).inside found.count (state_of found) certificate.counted
        in
        omega (arith, sound.room, rows_accepted store job (length t) (length d) ok)

    pub promised_pass : (v : List ℤ) (f : List ℕ) (r : Answer) → Ran B found t d r v f → Promised r v f
    unfolding search_answer
    promised_pass v f r q = (
      rw ok q.answer,
      (
        record {
          long = q.long;
          untouched = λ why h. refused_not_passed why (sym h ∙ ok);
          leftovers = drop open_count (rows_of v found.peak);
          rows =
              λ h. two_parts (rows_of v found.peak) found.list open_count
              (rows_take v found.peak open_count q.few ∙ q.open_rows);
          rest = λ h. q.rest;
        },
        (
          record {
            long = q.long_entries;
            untouched = λ why h. refused_not_passed why (sym h ∙ ok);
            leftovers = drop open_count (take found.peak f);
            entries =
                λ h. two_parts (take found.peak f) (map B found.list) open_count
                (take-take open_count found.peak f q.few ∙ q.open_entries);
            rest = λ h. q.rest_entries;
          },
          λ h. (q.answer, certificate),
        ),
      ),
    )

  pub promised_refused : (why : Refusal) (r : Answer) → check_lent store job t d ≡ Err why → r ≡ refused why → Promised r t d
  unfolding search_answer
  promised_refused why r refuses e =
      let never : check_lent store job t d ≡ pass → ⊥ = λ h. refused_not_passed why (sym refuses ∙ h) in (
        rw refuses e,
        (
          record { long = refl; untouched = λ w h. refl; leftovers = []; rows = λ h. absurd (never h); rest = λ h. absurd (never h) },
          (
            record { long = refl; untouched = λ w h. refl; leftovers = []; entries = λ h. absurd (never h); rest = λ h. absurd (never h) },
            λ h. absurd (never h),
          ),
        ),
      )
