-- The search that is lent the whole table where its rows are the job's, and none of it elsewhere, is the search of a run. Assumes nothing.
use mathlib.Core.Bool.{Bool, true, false, and-true, and-false}
use mathlib.Core.List.{List, [], ◌++◌, append-nil}
use mathlib.Core.Path.{◌≡◌, refl, sym, ◌∙◌}
use borrow.Author.Tests.{eqb-true}
use Prim.Native.Nat.{ℕ, ◌/◌, ◌≤◌}
use native.Mathlib.Omega.{arith}
use lib.Dec.{leb, eqb}
use lib.IntN.{ℤ}
use lib.ListN.{length, take, drop}
use lib.Seq.{take-length, drop-length}
use Rattle.std.specs.Prelude.{Ok, Err}
use Rattle.codes.specs.Codes.{Check, pass, in_order}
use Rattle.codes.proofs.Checks.{refused_not_passed}
use Rattle.codes.specs.declared.Refusal.{Refusal}
use Rattle.jobs.specs.declared.Job.{Job}
use Rattle.search_checks.specs.Checks.{check_job, check_search}
use Rattle.search.specs.Search.{check_lent, searched_lent, search_answer, TableSearched, BoundsSearched, Certified}
use Rattle.search.specs.declared.Answer.{Answer}
use Rattle.registers.specs.Runs.{check_run, run_search}
use Rattle.bus_runs.specs.Lent.{check_of}
use Rattle.bus_runs.specs.Inside.{numbers_for, RunSearched}

pub numbers_few : (r n : ℕ) → numbers_for r n ≤ n
unfolding numbers_for
numbers_few r n = go (eqb (n / 16) r) refl
  where
    go : (b : Bool) → eqb (n / 16) r ≡ b → numbers_for r n ≤ n
    go true is = rw is (omega arith)
    go false is = rw is (omega arith)

module _ (store : List ℕ) (job : Job) (table part : List ℤ) (bounds entries : List ℕ) (a : Answer) where
  -- what a search that was lent the numbers t of the table says
  abbrev Said : List ℤ → Type 0
  Said t =
      (a ≡ search_answer store job t bounds)
      × (TableSearched store job t bounds part × (BoundsSearched store job t bounds entries × Certified store job t bounds a))

  abbrev Ran : List ℤ → Type 0
  Ran u = RunSearched store job table bounds a u entries

  -- the whole table
  module _ (same : eqb (length table / 16) job.rows ≡ true) where
    same_check : check_lent store job table bounds ≡ check_of store job table bounds
    unfolding check_search check_run
    same_check = rw (same, and-true (leb 16 (length table)))

    same_search : searched_lent store job table bounds ≡ run_search store job
    same_search = rw (eqb-true (length table / 16) job.rows same)

    whole_lent : Said table → Ran part
    unfolding search_answer
    whole_lent q = record {
      told = q.0 ∙ rw (same_check, same_search);
      rows = rw (same_check, same_search) at q.1.0;
      entries = rw (same_check, same_search) at q.1.1.0;
    }

  -- none of it
  none_lent :
      (why : Refusal) → check_search store job 0 (length bounds) ≡ Err why → check_of store job table bounds ≡ Err why → Said [] →
      Ran (part ++ table)
  unfolding search_answer
  none_lent why is refuses q =
      let never : check_of store job table bounds ≡ pass → ⊥ = λ h. refused_not_passed why (sym refuses ∙ h) in
      let empty : part ≡ [] = q.1.0.untouched why is in
      record {
        told = q.0 ∙ rw (is, refuses);
        rows =
            rw empty
            (record { long = refl; untouched = λ w h. refl; leftovers = []; rows = λ h. absurd (never h); rest = λ h. absurd (never h) });
        entries = record {
          long = q.1.1.0.long;
          untouched = λ w h. q.1.1.0.untouched why is;
          leftovers = [];
          entries = λ h. absurd (never h);
          rest = λ h. absurd (never h);
        };
      }

  other_rows : eqb (length table / 16) job.rows ≡ false → Said [] → Ran (part ++ table)
  unfolding check_search check_run in_order
  other_rows other q = go (check_job store job) refl
    where
      go : (first : Check) → check_job store job ≡ first → Ran (part ++ table)
      go (Ok _) is = none_lent Refusal.Table (rw is) (rw (is, other, and-false (leb 16 (length table)))) q
      go (Err why) is = none_lent why (rw is) (rw is) q

  by_rows : (b : Bool) → eqb (length table / 16) job.rows ≡ b → Said (take (numbers_for job.rows (length table)) table)
      → Ran (part ++ drop (numbers_for job.rows (length table)) table)
  unfolding numbers_for
  by_rows true is q =
      rw (is, drop-length table, append-nil part) (whole_lent is (rw (is, take-length table) at q))
  by_rows false is q = rw is (other_rows is (rw is at q))

  pub lent_rows : (n : ℕ) → n ≡ numbers_for job.rows (length table) → Said (take n table) → Ran (part ++ drop n table)
  lent_rows n e q = rw e (by_rows (eqb (length table / 16) job.rows) refl (rw e at q))
