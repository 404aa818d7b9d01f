-- A solved answer is that of an accepted job: it tells what a solved search comes to, which is certified. Assumes nothing.
use mathlib.Core.Path.{◌≡◌, refl, ap}
use mathlib.Core.List.{List}
use Prim.Native.Nat.{ℕ}
use native.Mathlib.Omega.{arith}
use lib.IntN.{ℤ}
use Rattle.codes.specs.Codes.{Check, pass}
use Rattle.std.specs.Prelude.{Ok, Err}
use Rattle.jobs.specs.declared.Job.{Job}
use Rattle.list_rows.specs.Rows.{row_count}
use Rattle.certificate.specs.Search as Search
use Rattle.certificate.specs.Search.{solved, spent, full}
use Rattle.search.specs.declared.Kind.TheVariants.{Solved}
use Rattle.search.specs.Search.{kind_of, kind_number, told, CertifiedIn, check_lent, searched_lent, answer_unless_refused, search_answer}
use Rattle.search.proofs.Accepted.{certificate}

-- a kind is solved where its number is 1
solved_is : (k : Search.Kind) → kind_of k ≡ Solved → k ≡ solved
solved_is solved e = refl
solved_is spent e = let n = ap kind_number e in absurd (omega arith)
solved_is full e = let n = ap kind_number e in absurd (omega arith)

accepted_is : (check : Check) (r : Search.Answer) → (answer_unless_refused check r).kind ≡ Solved → check ≡ pass
accepted_is (Ok _) r e = refl
accepted_is (Err why) r e = let n = ap kind_number e in absurd (omega arith)

module _ (store : List ℕ) (job : Job) (table : List ℤ) (bounds : List ℕ) (is : (search_answer store job table bounds).kind ≡ Solved) where
  passes : check_lent store job table bounds ≡ pass
  unfolding search_answer
  passes = accepted_is (check_lent store job table bounds) (searched_lent store job table bounds) is

  pub solved_kind : (searched_lent store job table bounds).kind ≡ solved
  unfolding search_answer
  solved_kind = solved_is (searched_lent store job table bounds).kind (rw passes at is)

  pub solved_told : search_answer store job table bounds ≡ told (searched_lent store job table bounds)
  unfolding search_answer
  solved_told = rw passes

  pub solved_certified : CertifiedIn store job (row_count table)
  solved_certified = certificate store job table bounds passes
