-- One job alone: its own check decides where its store lies in the buffer, whatever its budget, and it spends no more than that. Assumes
-- nothing.
use mathlib.Core.Path.{◌≡◌, refl, sym, ◌∙◌}
use mathlib.Core.List.{List, []}
use Prim.Native.Nat.{ℕ, ◌+◌, ◌-◌, ◌≤◌, ◌<◌}
use native.Mathlib.Omega.{arith}
use borrow.Author.Tests.{le-leb, lt-leb}
use lib.IntN.{ℤ}
use lib.ListN.{length, take, drop}
use Rattle.std.specs.Prelude.{Err}
use Rattle.codes.specs.declared.Refusal.{Refusal}
use Rattle.codes.specs.Codes.{Check, pass, in_order}
use Rattle.codes.proofs.Checks.{refused_not_passed, first_passed, others_passed}
use Rattle.codes.proofs.Laws.{in_order_one}
use Rattle.boxes.specs.declared.Box.{Box}
use Rattle.jobs.specs.declared.Job.{Job}
use Rattle.points.specs.Points.{points_of}
use Rattle.residuals.specs.Cost.{bound}
use Rattle.list_rows.specs.Rows.{row_count}
use Rattle.certificate.specs.Search as Search
use Rattle.certificate.proofs.Certified.{finished}
use Rattle.search_checks.specs.Checks.{check_job, check_search}
use Rattle.search.specs.declared.Answer.{Answer}
use Rattle.search.specs.Search.{searched, refused, TableAfter, BoundsAfter, CertifiedIn}
use Rattle.search.specs.Search.{check_lent, search_answer, TableSearched, BoundsSearched, Certified}
use Rattle.search.proofs.Accepted.{certificate}
use Rattle.one_board.specs.Board.{under, store_from, check_board, check_in, found_in, board_answer, BoardTable, BoardBounds}

-- no search makes more splits than its budget
pub within_budget : (store : List ℕ) (job : Job) (rows : ℕ) → (searched store job rows).count ≤ job.budget
unfolding searched
within_budget store job rows = (finished _ _ _ _ _ _ _).within

-- no check looks at the budget
pub any_budget : (stores : List ℕ) (from size : ℕ) (job : Job) (numbers entries b : ℕ)
    → check_board stores from size (under job b) numbers entries ≡ check_board stores from size job numbers entries
unfolding check_board check_search check_job
any_budget stores from size job numbers entries b = refl

-- a part as it is lent
pub part_lent : (stores : List ℕ) (from size : ℕ) → take ((from + size) - from) (drop from stores) ≡ store_from stores from size
unfolding store_from
part_lent stores from size =
    let e : (from + size) - from ≡ size = omega arith in
    rw e refl

-- at a refusal the table and the list are as they were
table_kept : (check : Check) (why : Refusal) (found : Search.Answer) (table : List ℤ) → check ≡ Err why
    → TableAfter check found table table
table_kept check why found table e = record {
  long = refl;
  untouched = λ _ _. refl;
  leftovers = [];
  rows = λ p. refused_not_passed why (sym e ∙ p);
  rest = λ p. refused_not_passed why (sym e ∙ p);
}

bounds_kept : (B : Box → ℕ) (check : Check) (why : Refusal) (found : Search.Answer) (bounds : List ℕ) → check ≡ Err why
    → BoundsAfter B check found bounds bounds
bounds_kept B check why found bounds e = record {
  long = refl;
  untouched = λ _ _. refl;
  leftovers = [];
  entries = λ p. refused_not_passed why (sym e ∙ p);
  rest = λ p. refused_not_passed why (sym e ∙ p);
}

-- by whether the store lies in the buffer
module _ (stores : List ℕ) (from size : ℕ) (job : Job) (table : List ℤ) (bounds : List ℕ) where
  abbrev Promised : Answer → List ℤ → List ℕ → Type 0
  Promised r u e =
      (r ≡ board_answer stores from size job table bounds)
      × (BoardTable stores from size job table bounds u × BoardBounds stores from size job table bounds e)

  past_check : length stores < from + size → check_in stores from size job table bounds ≡ Err Refusal.Length
  unfolding check_board in_order
  past_check past = rw (lt-leb (from + size) (length stores) past) refl

  pub past_buffer : (r : Answer) → length stores < from + size → r ≡ refused Refusal.Length → Promised r table bounds
  unfolding board_answer
  past_buffer r past e =
      let check = past_check past in
      let found = found_in stores from size job table bounds in (
        e ∙ rw check refl,
        (
          table_kept (check_in stores from size job table bounds) Refusal.Length found table check,
          bounds_kept (bound job.model (points_of (store_from stores from size))) (check_in stores from size job table bounds)
              Refusal.Length found bounds check,
        ),
      )

  inside_check : from + size ≤ length stores
      → check_in stores from size job table bounds ≡ check_lent (store_from stores from size) job table bounds
  unfolding check_board in_order
  inside_check here =
      rw (le-leb (from + size) (length stores) here) (in_order_one (check_lent (store_from stores from size) job table bounds))

  pub in_buffer :
      (r : Answer) (u : List ℤ) (e lent : List ℕ) →
      from + size ≤ length stores →
      lent ≡ store_from stores from size →
      (r ≡ search_answer lent job table bounds)
      × (TableSearched lent job table bounds u × (BoundsSearched lent job table bounds e × Certified lent job table bounds r)) →
      Promised r u e
  unfolding search_answer board_answer
  in_buffer r u e lent here part promised =
      let q = rw part at promised in
      let check = inside_check here in
      (q.0 ∙ rw check refl, (rw check q.1.0, rw check q.1.1.0))

  -- of an accepted job's search demand 3 holds
  pub board_certified : check_in stores from size job table bounds ≡ pass → CertifiedIn (store_from stores from size) job (row_count table)
  unfolding check_board
  board_certified ok =
      certificate (store_from stores from size) job table bounds
      (first_passed (check_lent (store_from stores from size) job table bounds) [] (others_passed _ _ ok))
