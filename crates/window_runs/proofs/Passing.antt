-- Window after window: each is accepted from the vector before it, its record fits, and one more adds to the output, the table and the
-- list of bounds. Assumes nothing.
use mathlib.Core.Path.{◌≡◌, refl, sym, ap, ◌∙◌}
use mathlib.Core.List.{List, [], ◌∷◌, ◌++◌, append_assoc, append-nil}
use mathlib.Core.Logic.{⊎_elim}
use Prim.Native.Nat.{ℕ, zero, suc, ◌+◌, ◌*◌, ◌/◌, ◌≤◌, ◌<◌}
use native.Mathlib.Numerals.{add-one}
use native.Mathlib.Omega.{arith}
use lib.IntN.{ℤ}
use lib.ListN.{length, take, drop, length-append, length-drop, drop_of_length-le}
use lib.Seq.{take_at, drop_at, drop-drop}
use Rattle.codes.specs.Codes.{Check, Outcome, pass}
use Rattle.std.specs.Prelude.{Ok, Err}
use Rattle.integers.specs.Lists.{over}
use Rattle.integers.proofs.Tests.{le_or_lt}
use Rattle.codes.specs.declared.Refusal.{Refusal}
use Rattle.codes.proofs.Checks.{refused_not_passed}
use Rattle.boxes.specs.Boxes.{InBox}
use Rattle.boxes.proofs.Checks.{start_passed}
use Rattle.jobs.specs.declared.Job.{Job}
use Rattle.jobs.specs.declared.Model.{Model}
use Rattle.fields.specs.Buffers.{written}
use Rattle.fields.specs.Fields.{IsVector}
use Rattle.points.specs.Points.{points_of}
use Rattle.residuals.specs.Cost.{bound}
use Rattle.list_rows.specs.Rows.{row_count}
use Rattle.search.specs.declared.Answer.{Answer}
use Rattle.search.specs.Search.{told, check_lent, searched_lent, search_answer, TableSearched, BoundsSearched, Certified}
use Rattle.search.proofs.Accepted.{certificate}
use Rattle.job_records.specs.Laws.{IsJob}
use Rattle.answer_records.specs.declared.AnswerRecord.{AnswerRecord}
use Rattle.answer_records.specs.Answers.{answer_bytes, check_answer_write}
use Rattle.answer_records.proofs.Answers.{answer_round_trip, write_accepted}
use Rattle.answers.specs.Records.{record_of}
use Rattle.answers.specs.Laws.{search_record}
use Rattle.answers.proofs.Records.{record_fits}
use Rattle.sharing.specs.Sharing.{Run, SharedTable, SharedBounds}
use Rattle.sharing.proofs.Sharing.{table_shared, bounds_shared}
use Rattle.window_checks.specs.Checks.{window_at, window_count}
use Rattle.window_checks.proofs.Passed.{given, start_given, room_given}
use Rattle.window_runs.specs.Windows.{starting_at, start_of, job_at, found_in, runs_of, records_of, check_pass}
use Rattle.window_runs.specs.Windows.{windows_answer, windows_out, searches_made, WindowCertified, WindowsCertified}
use Rattle.window_runs.specs.Inside.{Searched, Passed, Turn}
use Rattle.window_runs.proofs.Windowing.{window_accepted}

-- a part written behind what was written before
out_more : (xs part out : List ℕ) (n s : ℕ) → length xs ≡ n → length part ≡ s
    → take n (over xs out) ++ (part ++ drop s (drop n (over xs out))) ≡ over (xs ++ part) out
unfolding over
out_more xs part out n s e f =
    let long : length (xs ++ part) ≡ length xs + s = omega (arith, length-append xs part) in
    rw (take_at xs (drop (length xs) out) n e, drop_at xs (drop (length xs) out) n e, drop-drop s (length xs) out, long)
    (sym (append_assoc xs part (drop (length xs + s) out)))

-- the record of one more search
records_more : (m : Model) (runs : List Run) (r : Run) →
    records_of m (runs ++ (r ∷ [])) ≡ records_of m runs ++ answer_bytes (record_of m (told r.found))
unfolding records_of
records_more m [] r = append-nil (answer_bytes (record_of m (told r.found)))
records_more m (s ∷ runs) r =
    let first = answer_bytes (record_of m (told s.found)) in
    ap (λ (l : List ℕ). first ++ l) (records_more m runs r)
    ∙ sym (append_assoc first (records_of m runs) (answer_bytes (record_of m (told r.found))))

module _
    (store : List ℕ) (job : Job) (k h : ℕ) (table : List ℤ) (bounds out : List ℕ) (ok : check_pass store job k h table bounds out ≡ pass)
  where
    abbrev r : ℕ
    r = row_count table

    abbrev count : ℕ
    count = window_count (length store / 12) k h

    abbrev part : ℕ → List ℕ
    part i = window_at store k h i

    abbrev its : ℕ → Job
    its i = job_at store job k h r i

    -- the record of window i, and those of the first n
    abbrev bytes : ℕ → List ℕ
    bytes i = answer_bytes (record_of job.model (told (found_in store job k h r i)))

    abbrev records : ℕ → List ℕ
    records n = records_of job.model (runs_of store job k h r n)

    one_record_more : (n : ℕ) → records (suc n) ≡ records n ++ bytes n
    unfolding runs_of
    one_record_more n = records_more job.model (runs_of store job k h r n) _

    accepted_from : (i : ℕ) → i < count → InBox (start_of store job k h r i) job.domain → check_lent (part i) (its i) table bounds ≡ pass
    accepted_from i below =
        window_accepted store job k h (length table) (length bounds) (length out) ok i below (start_of store job k h r i)

    start_inside : (i : ℕ) → i ≤ count → InBox (start_of store job k h r i) job.domain
    unfolding start_of
    start_inside zero below =
        start_passed job.domain job.start (start_given store job k (given store job k h (length table) (length bounds) (length out) ok))
    start_inside (suc i) below =
        (certificate (part i) (its i) table bounds (accepted_from i (omega arith) (start_inside i (omega arith)))).inside

    -- "the answer for that window alone"
    pub accepted : (i : ℕ) → i < count → check_lent (part i) (its i) table bounds ≡ pass
    accepted i below = accepted_from i below (start_inside i (omega arith))

    tells : (i : ℕ) → i < count → search_record (part i) (its i) table bounds ≡ record_of job.model (told (found_in store job k h r i))
    unfolding search_answer
    tells i below = rw (accepted i below)

    -- the table and the list that window i is lent are as long as those at the beginning
    module _ (i : ℕ) (below : i < count) (u : List ℤ) (e : List ℕ) (p : SharedTable (runs_of store job k h r i) table u)
        (q : SharedBounds (runs_of store job k h r i) bounds e) where
      accepted_now : check_lent (part i) (its i) u e ≡ pass
      accepted_now = rw (p.long, q.long) (accepted i below)

      same_search : searched_lent (part i) (its i) u e ≡ found_in store job k h r i
      same_search = rw p.long refl

    module _ (is : IsJob job) where
      from_vector : (v : List ℤ) → IsVector v → IsJob (starting_at job v)
      from_vector v vector =
          record {
            eps = is.eps;
            t = is.t;
            budget = is.budget;
            rows = is.rows;
            low = is.low;
            high = is.high;
            start = vector;
          }

      found_vector : (i : ℕ) → i < count → IsJob (its i) → IsVector (found_in store job k h r i).vector
      unfolding record_of
      found_vector i below its_is =
          (rw (tells i below) at ((record_fits (part i) (its i) table bounds).numbers (accepted i below) its_is)).vector

      start_is : (i : ℕ) → i ≤ count → IsVector (start_of store job k h r i)
      unfolding start_of
      start_is zero below = is.start
      start_is (suc i) below =
          found_vector i (omega arith) (from_vector (start_of store job k h r i) (start_is i (omega arith)))

      its_is : (i : ℕ) → i ≤ count → IsJob (its i)
      its_is i below = from_vector (start_of store job k h r i) (start_is i below)

      bytes_long : (i : ℕ) → i < count → length (bytes i) ≡ 40
      bytes_long i below =
          answer_round_trip.size (record_of job.model (told (found_in store job k h r i)))
          (rw (tells i below) at ((record_fits (part i) (its i) table bounds).numbers (accepted i below) (its_is i (omega arith))))

      records_long : (n : ℕ) → n ≤ count → length (records n) ≡ 40 * n
      unfolding records_of runs_of
      records_long zero below = refl
      records_long (suc n) below =
          omega (
            arith,
            ap length (one_record_more n),
            length-append (records n) (bytes n),
            records_long n (omega arith),
            bytes_long n (omega arith),
          )

      -- the record of window i stands at its place
      record_at_lem : (n i : ℕ) (rest : List ℕ) → i < n → n ≤ count
          → take 40 (drop (40 * i) (records n ++ rest)) ≡ bytes i
      record_at_lem zero i rest less below = absurd (omega arith)
      record_at_lem (suc n) i rest less below =
          ap (λ (l : List ℕ). take 40 (drop (40 * i) l))
          (ap (λ (l : List ℕ). l ++ rest) (one_record_more n) ∙ append_assoc (records n) (bytes n) rest)
          ∙ ⊎_elim
          (λ last.
          let same : i ≡ n = omega arith in
          rw (same, drop_at (records n) (bytes n ++ rest) (40 * n) (records_long n (omega arith)))
          (take_at (bytes n) rest 40 (bytes_long n (omega arith))))
          (λ earlier. record_at_lem n i (bytes n ++ rest) earlier (omega arith))
          (le_or_lt n i)

      -- "certificate included"
      certified : (i : ℕ) (after : List ℕ) → i < count → after ≡ over (records count) out
          → WindowCertified store job k h table bounds out after i
      unfolding over
      certified i after below e =
          record {
            accepted = accepted i below;
            fits = (record_fits (part i) (its i) table bounds).accepted (accepted i below) (its_is i (omega arith));
            bytes =
                rw e (record_at_lem count i (drop (length (records count)) out) below (omega arith))
                ∙ ap answer_bytes (sym (tells i below));
            certificate = certificate (part i) (its i) table bounds (accepted i below);
          }

      -- the output is as long as it was
      pub out_long : (i : ℕ) → i ≤ count → (u : List ℤ) (e o : List ℕ) → Passed store job k h table bounds out i u e o
          → length o ≡ length out
      unfolding over
      out_long i below u e o p =
          let xs = records i in
          omega (
            arith,
            ap length p.records,
            length-append xs (drop (length xs) out),
            length-drop (length xs) out,
            records_long i below,
            room_given store job k h (length table) (length bounds) (length out) ok,
          )

      -- one more window
      module _ (i : ℕ) (below : i < count) (u : List ℤ) (e o : List ℕ) (p : Passed store job k h table bounds out i u e o) (next : Job)
          (u' : List ℤ) (e' place : List ℕ) (s : Searched (part i) (its i) u e next u' e' place) where
        next_job : next ≡ its (i + 1)
        unfolding start_of
        next_job =
            s.next_job ∙ rw (same_search i below u e p.rows p.entries, add-one i) refl

        one_more : (n : ℕ) → n ≡ 40
            → Passed store job k h table bounds out (i + 1) u' e' (take (40 * i) o ++ (place ++ drop n (drop (40 * i) o)))
        unfolding runs_of
        one_more n forty =
            let same = same_search i below u e p.rows p.entries in
            let run : Run = record { bound = bound job.model (points_of (part i)); found = found_in store job k h r i } in
            let placed : place ≡ bytes i = s.record_there ∙ rw same refl in
            rw (add-one i)
            (record {
              records =
                  rw (p.records, placed)
                  (out_more (records i) (bytes i) out (40 * i) n (records_long i (omega arith)) (bytes_long i below ∙ sym forty)
                  ∙ ap (λ (l : List ℕ). over l out) (sym (one_record_more i)));
              rows =
                  table_shared.one_more (runs_of store job k h r i) run (check_lent (part i) (its i) u e) table u u'
                  (accepted_now i below u e p.rows p.entries) p.rows (rw same at s.rows);
              entries =
                  bounds_shared.one_more (runs_of store job k h r i) run (check_lent (part i) (its i) u e) bounds e e'
                  (accepted_now i below u e p.rows p.entries) p.entries (rw same at s.entries);
            })

      -- a turn, with the window, its job and the number of windows as the code has them
      pub next_turn : (m : ℕ) → m ≡ count → (i : ℕ) (below : i < count) (current : Job) (u : List ℤ) (e o lent : List ℕ)
          → Turn store job k h m table bounds out i current u e o → lent ≡ part i
          → (next : Job) (u' : List ℤ) (e' place : List ℕ) → Searched lent current u e next u' e' place → (n : ℕ) → n ≡ 40
          → Turn store job k h m table bounds out (i + 1) next u' e' (take (40 * i) o ++ (place ++ drop n (drop (40 * i) o)))
      next_turn m all i below current u e o lent t is-part next u' e' place s n forty =
          let found = rw (is-part, t.its) at s in
          record {
            few = omega (arith, all, below);
            its = next_job i below u e o t.passed next u' e' place found;
            passed = one_more i below u e o t.passed next u' e' place found n forty;
          }

    pub turn_accepted : (m i : ℕ) → i < count → (current : Job) (u : List ℤ) (e o lent : List ℕ)
        → Turn store job k h m table bounds out i current u e o → lent ≡ part i → check_lent lent current u e ≡ pass
    turn_accepted m i below current u e o lent t is-part =
        rw (is-part, t.its) (accepted_now i below u e t.passed.rows t.passed.entries)

    -- before the first
    pub first_turn : (m : ℕ) → Turn store job k h m table bounds out 0 job table bounds out
    unfolding records_of runs_of over start_of
    first_turn m = record {
      few = omega arith;
      its = refl;
      passed = record { records = refl; rows = table_shared.none table; entries = bounds_shared.none bounds };
    }

-- One window alone: its record passes check 9, so that it is written over the whole place.
pub alone :
    (store : List ℕ) (job : Job) (table u : List ℤ) (bounds e place place' : List ℕ) (answer : Answer) (told-record : AnswerRecord)
    (check : Check) →
    check_lent store job table bounds ≡ pass →
    IsJob job →
    length place ≡ 40 →
    (answer ≡ search_answer store job table bounds)
    × (TableSearched store job table bounds u × (BoundsSearched store job table bounds e × Certified store job table bounds answer)) →
    told-record ≡ record_of job.model answer →
    (check ≡ check_answer_write told-record place) × (place' ≡ written check (answer_bytes told-record) place) →
    Searched store job table bounds (starting_at job answer.vector) u e place'
unfolding over
alone store job table u bounds e place place' answer told-record check ok is forty q as-record w =
    let fits = record_fits store job table bounds in
    let tells : answer ≡ told (searched_lent store job table bounds) = (q.1.1.1 ok).0 in
    let same : told-record ≡ search_record store job table bounds = as-record ∙ ap (record_of job.model) q.0 in
    let long : length (answer_bytes told-record) ≡ 40 = answer_round_trip.size told-record (rw same (fits.numbers ok is)) in
    let passes : check ≡ pass = w.0 ∙ write_accepted told-record place (rw same (fits.accepted ok is)) (omega arith) in
    let none_left : drop (length (answer_bytes told-record)) place ≡ [] = drop_of_length-le place {i = length (answer_bytes told-record)} (omega arith) in
    record {
      next_job = ap (λ (a : Answer). starting_at job a.vector) tells;
      record_there =
          w.1 ∙ rw (passes, none_left) (append-nil (answer_bytes told-record))
          ∙ ap answer_bytes (as-record ∙ ap (record_of job.model) tells);
      rows = q.1.0;
      entries = q.1.1.0;
    }

-- what a pass says
module _ (store : List ℕ) (job : Job) (k h : ℕ) (table : List ℤ) (bounds out : List ℕ) where
  abbrev pub Promised : Outcome → List ℤ → List ℕ → List ℕ → Type 0
  Promised a u e o =
      (a ≡ windows_answer store job k h table bounds out)
      × ((o ≡ windows_out store job k h table bounds out)
      × (SharedTable (searches_made store job k h table bounds out) table u
      × (SharedBounds (searches_made store job k h table bounds out) bounds e × WindowsCertified store job k h table bounds out o)))

  pub promised_pass : check_pass store job k h table bounds out ≡ pass → IsJob job → (n : ℕ) → n ≡ window_count (length store / 12) k h
      → (u : List ℤ) (e o : List ℕ) → Passed store job k h table bounds out n u e o → Promised (Ok n) u e o
  promised_pass ok is n all u e o p =
      let q = rw all at p in (
        rw (ok, all) refl,
        (
          rw ok q.records,
          (
            rw ok q.rows,
            (rw ok q.entries, λ passes i below. certified store job k h table bounds out ok is i o below q.records),
          ),
        ),
      )

  pub promised_refused : (why : Refusal) → check_pass store job k h table bounds out ≡ Err why → Promised (Err why) table bounds out
  unfolding over records_of
  promised_refused why refuses = (
    rw refuses refl,
    (
      rw refuses refl,
      (
        rw refuses (table_shared.none table),
        (rw refuses (bounds_shared.none bounds), λ passes i below. refused_not_passed why (sym refuses ∙ passes)),
      ),
    ),
  )
