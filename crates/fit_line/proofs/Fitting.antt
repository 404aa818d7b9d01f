-- The search that is lent the job's rows is the one of the definition: its checks, its answer and its table. Assumes nothing.
use mathlib.Core.List.{List, [], ◌∷◌, ◌++◌}
use mathlib.Core.Logic.{⊎_elim}
use mathlib.Core.Bool.{true, false}
use mathlib.Core.Path.{◌≡◌, refl, sym, ap, ◌∙◌, subst}
use borrow.Author.Tests.{le-leb, lt-leb}
use Prim.Native.Nat.{ℕ, ◌-◌, ◌*◌, ◌/◌, ◌≤◌, ◌<◌, min}
use native.Mathlib.Nat.{le_of_lt, min-eq_left}
use native.Mathlib.Omega.{arith}
use lib.Dec.{T, leb}
use lib.IntN.{ℤ}
use lib.ListN.{length, take, drop, take-append-drop, length-append, length-drop, drop_of_length-le}
use lib.Seq.{length-take-le, take_all, take_at, drop_at, drop-append-le}
use Rattle.std.specs.Prelude.{Ok, Err}
use Rattle.integers.specs.Lists.{over}
use Rattle.integers.proofs.Tests.{le_or_lt}
use Rattle.codes.proofs.Checks.{refused_not_passed}
use Rattle.codes.specs.Codes.{Check, pass, in_order, pass_if, within}
use Rattle.codes.specs.declared.Refusal.{Refusal}
use Rattle.jobs.specs.declared.Job.{Job}
use Rattle.model_checks.specs.Checks.{check_model}
use Rattle.points.specs.Points.{check_store}
use Rattle.job_records.specs.Jobs.{job_of, job_or_zeros}
use Rattle.job_records.proofs.Jobs.{record_there}
use Rattle.list_rows.specs.Rows.{row_count, rows_of}
use Rattle.list_rows.proofs.Rows.{rows_front}
use Rattle.certificate.specs.Search as Search
use Rattle.search_checks.specs.Checks.{check_job, check_search}
use Rattle.search_checks.proofs.Passed.{rows_accepted}
use Rattle.search.proofs.Accepted.{peak_accepted}
use Rattle.search.specs.Search.{TableAfter, check_lent, searched_lent, search_answer, TableSearched, BoundsSearched, Certified}
use Rattle.search.specs.declared.Answer.{Answer}
use Rattle.answer_line.specs.Line.{line, line_in}
use Rattle.fit_line.specs.Inside.{Searched, numbers_lent}
use Rattle.fit_line.specs.Report.{FitTable, FitBounds, FitCertified, TableLent, BoundsLent, check_fit, enough, fit_answer, fit_line}
use Rattle.fit_line.specs.Report.{fit_search, report_line, store_of}

-- no more numbers are lent than a table of 2,048 rows has
pub lent_few : (r : ℕ) → numbers_lent r ≤ 32768
unfolding numbers_lent
lent_few r =
    ⊎_elim
    (λ few. rw (le-leb r 2048 few) (omega arith))
    (λ many. rw (lt-leb r 2048 many) (omega arith))
    (le_or_lt r 2048)

-- where a row is lent, all are
lent_all : (r : ℕ) → 16 ≤ numbers_lent r → numbers_lent r ≡ 16 * r
unfolding numbers_lent
lent_all r some =
    ⊎_elim
    (λ few. rw (le-leb r 2048 few) refl)
    (λ many. absurd (omega (arith, rw (lt-leb r 2048 many) at some)))
    (le_or_lt r 2048)

-- a row is lent exactly if r is 1 to 2,048
lent_row : (r : ℕ) → leb 16 (numbers_lent r) ≡ within 1 r 2048
unfolding numbers_lent
lent_row r =
    ⊎_elim
    (λ few.
    ⊎_elim
    (λ some. rw (le-leb r 2048 few, le-leb 1 r some, le-leb 16 (16 * r) (omega arith)) refl)
    (λ none. rw (le-leb r 2048 few, lt-leb 1 r none, lt-leb 16 (16 * r) (omega arith)) refl)
    (le_or_lt 1 r))
    (λ many. rw (lt-leb r 2048 many, le-leb 1 r (omega arith)) refl)
    (le_or_lt r 2048)

-- r rows of a table that has 2,048 are r rows
row_count_lem : (table : List ℤ) (r : ℕ) → 32768 ≤ length table → r ≤ 2048 → row_count (take (16 * r) table) ≡ r
row_count_lem table r long few = omega (arith, length-take-le (16 * r) table (omega arith))

-- a search that was lent the front of the table, said of the whole
pub lent_back :
    (store : List ℕ) (job : Job) (table part : List ℤ) (bounds entries : List ℕ) (a : Answer) (n : ℕ) →
    n ≡ numbers_lent job.rows →
    n ≤ length table →
    (a ≡ search_answer store job (take n table) bounds)
    × (TableSearched store job (take n table) bounds part
    × (BoundsSearched store job (take n table) bounds entries × Certified store job (take n table) bounds a)) →
    Searched store job table bounds a (part ++ drop n table) entries
lent_back store job table part bounds entries a n e few q =
    let long : length part ≡ n = q.1.0.long ∙ length-take-le n table few in
    record {
      told = rw (← e) q.0;
      rows = rw (← e, take_at part (drop n table) n long) q.1.0;
      rest = rw (← e) (drop_at part (drop n table) n long);
      entries = rw (← e) q.1.1.0;
      certificate = rw (← e) q.1.1.1;
    }

-- what a search leaves of the front of a table, where the rest is kept, it leaves of the whole
module _
    (check : Check) (found : Search.Answer) (table u : List ℤ) (n : ℕ) (there : n ≤ length table) (kept : drop n u ≡ drop n table)
    (s : TableAfter check found (take n table) (take n u)) (within : check ≡ pass → 16 * found.peak ≤ n)
  where
    abbrev with_rest : List ℤ → List ℤ
    with_rest front = front ++ drop n table

    joined : u ≡ with_rest (take n u)
    joined = sym (take-append-drop n u) ∙ ap (λ (l : List ℤ). take n u ++ l) kept

    front_long : length (take n u) ≡ n
    front_long = s.long ∙ length-take-le n table there

    from_peak : (front : List ℤ) → length front ≡ n → 16 * found.peak ≤ n
        → drop (16 * found.peak) (with_rest front) ≡ with_rest (drop (16 * found.peak) front)
    from_peak front long few = drop-append-le (16 * found.peak) front (drop n table) (omega arith)

    whole_table : TableAfter check found table u
    whole_table =
        record {
          long = omega (arith, ap length joined, length-append (take n u) (drop n table), front_long, length-drop n table);
          untouched = λ why e. joined ∙ ap with_rest (s.untouched why e) ∙ take-append-drop n table;
          leftovers = s.leftovers;
          rows = λ e.
              ap (λ (t : List ℤ). rows_of t found.peak) joined
              ∙ rows_front (take n u) (drop n table) found.peak (omega (arith, front_long, within e))
              ∙ s.rows e;
          rest = λ e.
              ap (drop (16 * found.peak)) joined
              ∙ from_peak (take n u) front_long (within e)
              ∙ ap with_rest (s.rest e)
              ∙ sym (from_peak (take n table) (length-take-le n table there) (within e))
              ∙ ap (drop (16 * found.peak)) (take-append-drop n table);
        }

-- checks of which the first passes, or the last
first_passes : (cs : List Check) → in_order (pass ∷ cs) ≡ in_order cs
unfolding in_order
first_passes cs = refl

last_passes : (a b : Check) → in_order (a ∷ b ∷ pass ∷ []) ≡ in_order (a ∷ b ∷ [])
unfolding in_order
last_passes (Ok _) (Ok _) = refl
last_passes (Ok _) (Err r) = refl
last_passes (Err r) b = refl

-- a text that was written over a buffer is the front of it
written_front : (text out : List ℕ) → take (length text) (over text out) ≡ text
unfolding over
written_front text out = take_at text (drop (length text) out) (length text) refl

-- what a report says of the length of the line, the buffer, the table, the list of bounds and the text handed over
abbrev Reported : List ℕ → List ℤ → List ℕ → List ℕ → ℕ → List ℕ → List ℤ → List ℕ → Type 0
Reported input table bounds out n text u e =
    (n ≡ length (fit_line input))
    × ((text ≡ over (fit_line input) out) × (FitTable input table u × (FitBounds input bounds e × FitCertified input (take n text))))

module _ (input : List ℕ) (table : List ℤ) (bounds : List ℕ) (long : 32768 ≤ length table) (many : 2048 ≤ length bounds) where
  abbrev Promised : Answer → List ℤ → List ℕ → Type 0
  Promised a u e = (a ≡ fit_answer input) × (FitTable input table u × (FitBounds input bounds e × FitCertified input (fit_line input)))

  by_length : {A : Type 0} → (72 ≤ length input → A) → (length input < 72 → A) → A
  by_length f g = ⊎_elim f g (le_or_lt 72 (length input))

  -- an input that is too short has no store
  short_refused : length input < 72 → check_fit input ≡ Err Refusal.Length
  unfolding check_fit in_order
  short_refused short = rw (lt-leb 72 (length input) short) refl

  empty_refused : (job : Job) (numbers entries : ℕ) → length input < 72
      → check_search (store_of input) job numbers entries ≡ Err Refusal.Length
  unfolding check_search check_job check_model check_store in_order
  empty_refused job numbers entries short = rw (drop_of_length-le input {i = 72} (le_of_lt short)) refl

  module _ (job : Job) (a : Answer) (u : List ℤ) (e : List ℕ) (s : Searched (store_of input) job table bounds a u e) where
    abbrev lent : ℕ
    lent = numbers_lent job.rows

    abbrev front : List ℤ
    front = take lent table

    lent_long : length front ≡ lent
    lent_long = length-take-le lent table (omega (arith, lent_few job.rows))

    -- there is an entry for each row, so that 14 passes
    same_checks : 72 ≤ length input → job ≡ job_of input → check_fit input ≡ check_lent (store_of input) job front bounds
    unfolding check_fit check_search
    same_checks whole read =
        let entries : length front / 16 ≤ length bounds = omega (arith, lent_long, lent_few job.rows) in
        rw (le-leb 72 (length input) whole, le-leb (length front / 16) (length bounds) entries, lent_long, lent_row job.rows, ← read)
        (first_passes (check_job (store_of input) job ∷ pass_if (within 1 job.rows 2048) Refusal.Table ∷ [])
        ∙ sym (last_passes (check_job (store_of input) job) (pass_if (within 1 job.rows 2048) Refusal.Table)))

    -- where rows are lent they are the job's r
    lent_rows : lent ≡ 16 * job.rows → row_count front ≡ job.rows
    lent_rows all = rw all (row_count_lem table job.rows long (omega (arith, lent_few job.rows, all)))

    -- and their search is the one of the definition
    same_search : job ≡ job_of input → lent ≡ 16 * job.rows → searched_lent (store_of input) job front bounds ≡ fit_search input
    same_search read all = rw (lent_rows all, read) refl

    refused_fit : (why : Refusal) → check_fit input ≡ Err why → check_lent (store_of input) job front bounds ≡ Err why → Promised a u e
    unfolding fit_answer search_answer
    refused_fit why is refuses =
        let never : check_fit input ≡ pass → ⊥ = λ h. refused_not_passed why (sym is ∙ h) in
        let found = searched_lent (store_of input) job front bounds in
        let w =
        whole_table (Err why) found table u lent (omega (arith, lent_few job.rows)) s.rest (rw refuses at s.rows)
        (λ h. refused_not_passed why h) in (
          s.told ∙ rw (refuses, is) refl,
          (
            record {
              long = w.long;
              untouched = λ v h. w.untouched why refl;
              leftovers = [];
              rows = λ h. absurd (never h);
              rest = λ h.
                  absurd (never h);
            },
            (
              record {
                long = s.entries.long;
                untouched = λ v h. s.entries.untouched why refuses;
                leftovers = [];
                entries = λ h. absurd (never h);
                rest = λ h. absurd (never h);
              },
              λ h. absurd (never h),
            ),
          ),
        )

    accepted_fit : job ≡ job_of input → check_fit input ≡ pass → check_lent (store_of input) job front bounds ≡ pass → Promised a u e
    unfolding fit_answer fit_line search_answer
    accepted_fit read is good =
        let some = rows_accepted (store_of input) job (length front) (length bounds) good in
        let all : lent ≡ 16 * job.rows = lent_all job.rows (omega (arith, lent_long, some)) in
        let same = same_search read all in
        let few = peak_accepted (store_of input) job front bounds good in
        let found = searched_lent (store_of input) job front bounds in
        let table-after =
        whole_table pass found table u lent (omega (arith, lent_few job.rows)) s.rest (rw good at s.rows)
        (λ h. omega (arith, few, lent_long)) in (
          s.told ∙ rw (good, is, same) refl,
          (
            rw is (rw same at table-after),
            (
              rw is (rw (good, same, read) at s.entries),
              λ h. (rw is refl, rw (lent_rows all, read) at (s.certificate good).1),
            ),
          ),
        )

    by_check : (c : Check) → check_fit input ≡ c → 72 ≤ length input → job ≡ job_of input → Promised a u e
    by_check (Ok _) is whole read = accepted_fit read is (sym (same_checks whole read) ∙ is)
    by_check (Err why) is whole read = refused_fit why is (sym (same_checks whole read) ∙ is)

    promised : (72 ≤ length input → job ≡ job_of input) → Promised a u e
    promised read =
        by_length
        (λ whole. by_check (check_fit input) refl whole (read whole))
        (λ short. refused_fit Refusal.Length (short_refused short) (empty_refused job (length front) (length bounds) short))

    same_line : (72 ≤ length input → job ≡ job_of input) → a ≡ fit_answer input → line job.model a ≡ fit_line input
    unfolding fit_line fit_answer line
    same_line read is =
        by_length
        (λ whole. rw (is, read whole) refl)
        (λ short. rw (is, short_refused short) refl)

    -- what a report says
    pub reported :
        (out text : List ℕ) (n : ℕ) →
        (72 ≤ length input → job ≡ job_of input) →
        200 ≤ length out →
        (n ≡ length (line_in job.model a out)) × (text ≡ over (line_in job.model a out) out) →
        Reported input table bounds out n text u e
    unfolding line_in
    reported out text n read room q =
        let p = promised read in
        let is = same_line read p.0 in
        let fits = le-leb 200 (length out) room in
        let long_as : n ≡ length (fit_line input) = rw fits at q.0 ∙ ap length is in
        let written : text ≡ over (fit_line input) out = rw fits at q.1 ∙ ap (λ (l : List ℕ). over l out) is in
        (long_as, (written, (p.1.0, (p.1.1.0, rw (long_as, written, written_front (fit_line input) out) p.1.1.1))))

-- the job record is there, and what follows it is the store
pub record_read : (input : List ℕ) (job : Job) → job ≡ job_or_zeros input → 72 ≤ length input → job ≡ job_of input
record_read input job e whole = e ∙ record_there input whole

pub store_part : (input : List ℕ) (start : ℕ) → start ≡ min 72 (length input)
    → take (length input - start) (drop start input) ≡ store_of input
store_part input start e =
    take_all (length input - start) (drop start input) (omega (arith, length-drop start input))
    ∙ ⊎_elim
    (λ whole. ap (λ (k : ℕ). drop k input) (e ∙ min-eq_left whole))
    (λ short. drop_of_length-le input {i = start} (omega (arith, e)) ∙ sym (drop_of_length-le input (le_of_lt short)))
    (le_or_lt 72 (length input))

true_not_false : {A : Type 0} → true ≡ false → A
true_not_false e = absurd (subst T e tt)

-- a report by what it is lent: too little, or enough
module _ (input : List ℕ) (table : List ℤ) (bounds out : List ℕ) where
  abbrev Lent : ℕ → List ℕ → List ℤ → List ℕ → Type 0
  Lent n text u e =
      (n ≡ length (report_line input table bounds out))
      × ((text ≡ over (report_line input table bounds out) out)
      × (TableLent input table bounds out u
      × (BoundsLent input table bounds out e × (enough table bounds out ≡ true → FitCertified input (take n text)))))

  pub nothing_lent : enough table bounds out ≡ false → Lent 0 out table bounds
  unfolding report_line over
  nothing_lent is =
      let never : enough table bounds out ≡ true → ⊥ = λ h. true_not_false (sym h ∙ is) in (
        rw is refl,
        (
          rw is refl,
          (
            record { idle = λ h. refl; searched = λ h. absurd (never h) },
            (record { idle = λ h. refl; searched = λ h. absurd (never h) }, λ h. absurd (never h)),
          ),
        ),
      )

  pub all_lent : (n : ℕ) (text : List ℕ) (u : List ℤ) (e : List ℕ) → enough table bounds out ≡ true
      → Reported input table bounds out n text u e → Lent n text u e
  unfolding report_line over
  all_lent n text u e is r =
      let never : enough table bounds out ≡ false → ⊥ = λ h. true_not_false (sym is ∙ h) in (
        rw is r.0,
        (
          rw is r.1.0,
          (
            record { idle = λ h. absurd (never h); searched = λ h. r.1.1.0 },
            (record { idle = λ h. absurd (never h); searched = λ h. r.1.1.1.0 }, λ h. r.1.1.1.1),
          ),
        ),
      )
