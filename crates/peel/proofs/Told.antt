-- What the call tells, by its check. Assumes nothing.
use mathlib.Core.Path.{◌≡◌, refl}
use mathlib.Core.List.{List}
use Prim.Native.Nat.{ℕ}
use lib.IntN.{ℤ}
use lib.ListN.{length}
use Rattle.codes.specs.Codes.{pass}
use Rattle.std.specs.Prelude.{Result, Ok, Err}
use Rattle.codes.specs.declared.Refusal.{Refusal}
use Rattle.codes.proofs.Checks.{refused_not_passed}
use Rattle.jobs.specs.declared.Job.{Job}
use Rattle.points.specs.Points.{points_of}
use Rattle.list_rows.specs.Rows.{row_count}
use Rattle.search_checks.proofs.Passed.{runs_accepted}
use Rattle.sharing.proofs.Sharing.{table_shared, bounds_shared}
use Rattle.rounds.proofs.Peeling.{all_peeling}
use Rattle.peel_checks.proofs.Passed.{accepted}
use Rattle.peel_rounds.specs.Going.{RoundsDone}
use Rattle.peel.specs.declared.Peeled.{Peeled}
use Rattle.peel.specs.Peel.{check_lent, peel_answer, labels_after, TablePeeled, BoundsPeeled, PeelingLent}

module _ (store : List ℕ) (job : Job) (limit : ℕ) (table : List ℤ) (bounds labels : List ℕ) where
  -- all clauses of the contract
  abbrev Kept : Result Peeled Refusal → List ℕ → List ℤ → List ℕ → Type 0
  Kept r ls u e =
      (r ≡ peel_answer store job limit table bounds labels)
      × ((ls ≡ labels_after store job limit table bounds labels)
      × (TablePeeled store job limit table bounds labels u
      × (BoundsPeeled store job limit table bounds labels e × PeelingLent store job limit table bounds labels)))

  all_shown : PeelingLent store job limit table bounds labels
  all_shown e =
      let ok = accepted store job limit (length table) (length bounds) (length labels) e in
      all_peeling job (row_count table) limit (points_of store) ok.given_holds.line ok.given_holds.counts
      (runs_accepted store job (length table) (length bounds) ok.searching).inside

  pub where_accepted : (r : Peeled) (ls : List ℕ) (u : List ℤ) (e : List ℕ) → check_lent store job limit table bounds labels ≡ pass →
      RoundsDone store job limit table bounds labels r.rounds r.answers ls u e →
      Kept (Ok r) ls u e
  unfolding labels_after
  where_accepted r ls u e passed d =
      rw passed (
        (λ i. Ok (record { rounds = d.count_told i; answers = d.slots i })),
        (d.labelled, (d.rows, (d.entries, λ _. all_shown passed))),
      )

  pub where_refused : (why : Refusal) → check_lent store job limit table bounds labels ≡ Err why → Kept (Err why) labels table bounds
  unfolding labels_after
  where_refused why refuse =
      rw refuse (refl, (refl, (table_shared.none table, (bounds_shared.none bounds, λ e. refused_not_passed why e))))
