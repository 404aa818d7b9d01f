-- What a job that passes the checks of a search has. Assumes nothing.
use mathlib.Core.Path.{◌≡◌}
use mathlib.Core.List.{List, [], ◌∷◌}
use Prim.Native.Nat.{ℕ, ◌/◌, ◌≤◌}
use lib.Dec.{leb, leb→le}
use Rattle.codes.specs.declared.Refusal.{Refusal}
use Rattle.codes.specs.Codes.{Check, pass, pass_if, in_order}
use Rattle.codes.proofs.Checks.{passed, first_passed, others_passed}
use Rattle.boxes.specs.Boxes.{InBox, check_box, check_start}
use Rattle.boxes.proofs.Checks.{start_passed}
use Rattle.jobs.specs.declared.Job.{Job}
use Rattle.points.specs.Points.{points_of, check_stray}
use Rattle.model_checks.specs.Checks.{check_model}
use Rattle.search_checks.specs.Checks.{check_job, check_search}

module _ (store : List ℕ) (job : Job) where
  abbrev model : Check
  model = check_model store job.model

  abbrev box : Check
  box = check_box job.model.n job.model.d job.domain

  abbrev start : Check
  start = check_start job.domain job.start

  abbrev stray : Check
  stray = check_stray job.model.d (points_of store)

  -- what a job that passes has
  pub record Runs : Type 0 where
    pub checked : check_model store job.model ≡ pass
    pub boxed : check_box job.model.n job.model.d job.domain ≡ pass
    pub inside : InBox job.start job.domain

  pub runs : check_job store job ≡ pass → Runs
  unfolding check_job
  runs e =
      let e₂ = others_passed model (box ∷ start ∷ stray ∷ []) e in
      let e₃ = others_passed box (start ∷ stray ∷ []) e₂ in
      record {
        checked = first_passed model (box ∷ start ∷ stray ∷ []) e;
        boxed = first_passed box (start ∷ stray ∷ []) e₂;
        inside = start_passed job.domain job.start (first_passed start (stray ∷ []) e₃);
      }

  module _ (numbers entries : ℕ) (e : check_search store job numbers entries ≡ pass) where
    abbrev table : Check
    table = pass_if (leb 16 numbers) Refusal.Table

    abbrev bounds : Check
    bounds = pass_if (leb (numbers / 16) entries) Refusal.Bounds

    lent : in_order (table ∷ bounds ∷ []) ≡ pass
    unfolding check_search
    lent = others_passed (check_job store job) (table ∷ bounds ∷ []) e

    pub runs_accepted : Runs
    unfolding check_search
    runs_accepted = runs (first_passed (check_job store job) (table ∷ bounds ∷ []) e)

    pub rows_accepted : 16 ≤ numbers
    rows_accepted = leb→le 16 numbers (passed (leb 16 numbers) Refusal.Table (first_passed table (bounds ∷ []) lent))

    pub entries_accepted : numbers / 16 ≤ entries
    entries_accepted =
        leb→le (numbers / 16) entries (passed (leb (numbers / 16) entries) Refusal.Bounds
        (first_passed bounds [] (others_passed table (bounds ∷ []) lent)))
