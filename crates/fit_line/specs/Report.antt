-- What the program named fit makes of its input: "a job record and then a store", "with a table of at most 2,048 rows".
use Rattle.std.specs.Prelude.{Bool, true, false, cond, ◌&&◌, List, [], ◌∷◌, ◌≡◌, ℕ, leb, ℤ, length, drop}
use Rattle.certificate.specs.Search as Search
use Rattle.codes.specs.Codes.{Check, pass, pass_if, in_order, within}
use Rattle.codes.specs.declared.Refusal.{Refusal}
use Rattle.residuals.specs.Cost.{bound}
use Rattle.points.specs.Points.{points_of}
use Rattle.job_records.specs.Jobs.{job_of}
use Rattle.search_checks.specs.Checks.{check_job}
use Rattle.search.specs.Search.{searched, answer_unless_refused, told, TableAfter, BoundsAfter, CertifiedIn}
use Rattle.search.specs.declared.Answer.{Answer}
use Rattle.answer_line.specs.Line.{line, takes_lines}

-- what follows the job record
abbrev pub store_of : List ℕ → List ℕ
store_of input = drop 72 input

-- "A search and fit make 1 to 8"; 1: also "input of fit under 72 bytes"; 8: "in fit, r not 1 to 2,048"
unfoldable pub check_fit : List ℕ → Check
check_fit input =
    in_order
    (pass_if (leb 72 (length input)) Refusal.Length
    ∷ check_job (store_of input) (job_of input)
    ∷ pass_if (within 1 (job_of input).rows 2048) Refusal.Table
    ∷ [])

-- The search that the job asks for, in the job record's "rows r (32)".
abbrev pub fit_search : List ℕ → Search.Answer
fit_search input = searched (store_of input) (job_of input) (job_of input).rows

-- what fit answers: the refusal of the first check that refuses, else what the search comes to
unfoldable pub fit_answer : List ℕ → Answer
fit_answer input = answer_unless_refused (check_fit input) (fit_search input)

-- "Its one line", of that answer
unfoldable pub fit_line : List ℕ → List ℕ
fit_line input = line (job_of input).model (fit_answer input)

-- What the search leaves of the table and of the list of bounds, of which it takes no more than the job's r rows and entries.
abbrev pub FitTable : List ℕ → List ℤ → List ℤ → Type 0
FitTable input table after = TableAfter (check_fit input) (fit_search input) table after

abbrev pub FitBounds : List ℕ → List ℕ → List ℕ → Type 0
FitBounds input bounds after =
    BoundsAfter (bound (job_of input).model (points_of (store_of input))) (check_fit input) (fit_search input) bounds after

-- whether the table has 2,048 rows, the list of bounds 2,048 entries, and the buffer takes every line
abbrev pub enough : List ℤ → List ℕ → List ℕ → Bool
enough table bounds out = leb 32768 (length table) && leb 2048 (length bounds) && takes_lines out

-- the line that a report writes: none where it is lent too little
unfoldable pub report_line : List ℕ → List ℤ → List ℕ → List ℕ → List ℕ
report_line input table bounds out = cond (enough table bounds out) (fit_line input) []

-- the table afterwards: as a search leaves it, and as it was where too little is lent
pub record TableLent (input : List ℕ) (table : List ℤ) (bounds out : List ℕ) (after : List ℤ) : Type 0 where
  pub idle : enough table bounds out ≡ false → after ≡ table
  pub searched : enough table bounds out ≡ true → FitTable input table after

-- the list of bounds afterwards, likewise
pub record BoundsLent (input : List ℕ) (table : List ℤ) (bounds out after : List ℕ) : Type 0 where
  pub idle : enough table bounds out ≡ false → after ≡ bounds
  pub searched : enough table bounds out ≡ true → FitBounds input bounds after

-- A text handed over for an accepted job is certified: it tells what the search comes to, and of that demand 3 holds, with the job's r
-- rows.
abbrev pub FitCertified : List ℕ → List ℕ → Type 0
FitCertified input text =
    check_fit input ≡ pass →
    (text ≡ line (job_of input).model (told (fit_search input))) × CertifiedIn (store_of input) (job_of input) (job_of input).rows
