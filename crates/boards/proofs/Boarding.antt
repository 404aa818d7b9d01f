-- Job after job: none makes more splits than it gets, and one more adds its answer, its budget and its search. Assumes nothing.
use mathlib.Core.Path.{◌≡◌, refl, sym, ap, ◌∙◌}
use mathlib.Core.Bool.{◌&&◌}
use mathlib.Core.List.{List, [], ◌∷◌, ◌++◌, append_assoc}
use mathlib.Core.Logic.{⊎_elim}
use Prim.Native.Nat.{ℕ, zero, suc, ◌+◌, ◌-◌, ◌*◌, ◌/◌, ◌≤◌, ◌<◌, min}
use native.Mathlib.Numerals.{add-one}
use native.Mathlib.Omega.{arith}
use lib.Dec.{T, leb, leb→le}
use lib.IntN.{ℤ}
use lib.ListN.{length, take, drop, get_or, set, replicate, length-append, length-replicate}
use lib.Seq.{set_at, drop-cons, get_or_at}
use Rattle.std.specs.Prelude.{Result, Ok, Err, IfOk}
use Rattle.integers.specs.Lists.{over}
use Rattle.integers.proofs.Tests.{and_parts, le_or_lt}
use Rattle.codes.specs.declared.Refusal.{Refusal}
use Rattle.codes.specs.Codes.{Check, pass, if_passed, within}
use Rattle.codes.proofs.Checks.{passed}
use Rattle.jobs.specs.declared.Job.{Job}
use Rattle.list_rows.specs.Rows.{row_count}
use Rattle.certificate.specs.Search as Search
use Rattle.search.specs.declared.Answer.{Answer}
use Rattle.search.specs.Search.{searched, refused, answer_unless_refused}
use Rattle.job_records.specs.Jobs.{job_or_zeros}
use Rattle.sharing.specs.Sharing.{Run, SharedTable, SharedBounds}
use Rattle.sharing.proofs.Sharing.{table_shared, bounds_shared}
use Rattle.shares.specs.Shares.{left_before, splits_of}
use Rattle.shares.specs.Laws.{Shared}
use Rattle.shares.proofs.Shares.{all_shared}
use Rattle.boards.specs.declared.BoardAnswers.{BoardAnswers}
use Rattle.one_board.specs.Board.{under, check_board, board_answer, BoardTable, BoardBounds}
use Rattle.one_board.proofs.Alone.{within_budget, any_budget, board_certified}
use Rattle.boards.specs.Boards.{check_jobs, job_at, begin_of, in_turn, splits_in}
use Rattle.boards.specs.Boards.{check_call, store_at, check_at, search_at, own_at, spent_at, budget_at, answer_at, run_at, runs_of}
use Rattle.boards.specs.Boards.{boards_found, boards_answer, searches_run, BoardsShared, BoardCertified, BoardsCertified}
use Rattle.boards.specs.Inside.{Answered, Turn}

-- what check 18 lets through
pub record Counted (count bytes entries : ℕ) : Type 0 where
  pub some : 1 ≤ count
  pub few : count ≤ 8
  pub records : 72 * count ≤ bytes
  pub lengths : count ≤ entries

pub counted : (count bytes entries : ℕ) → check_jobs count bytes entries ≡ pass → Counted count bytes entries
unfolding check_jobs
counted count bytes entries e =
    let whole : T (within 1 count 8 && (leb (72 * count) bytes && leb count entries)) =
    passed (within 1 count 8 && (leb (72 * count) bytes && leb count entries)) Refusal.Jobs e in
    let all = and_parts (within 1 count 8) (leb (72 * count) bytes && leb count entries) whole in
    let near = and_parts (leb 1 count) (leb count 8) all.0 in
    let there = and_parts (leb (72 * count) bytes) (leb count entries) all.1 in
    record {
      some = leb→le 1 count near.0;
      few = leb→le count 8 near.1;
      records = leb→le (72 * count) bytes there.0;
      lengths = leb→le count entries there.1;
    }

-- lists that grow at their end
module _ {A : Type 0} (f : ℕ → A) where
  pub in_turn_long : (n : ℕ) → length (in_turn f n) ≡ n
  unfolding in_turn
  in_turn_long zero = refl
  in_turn_long (suc n) = omega (arith, length-append (in_turn f n) (f n ∷ []), in_turn_long n)

  -- the element in place i
  pub in_turn_at : (n i : ℕ) (rest : List A) (z : A) → i < n → get_or (in_turn f n ++ rest) i z ≡ f i
  unfolding in_turn
  in_turn_at zero i rest z less = absurd (omega arith)
  in_turn_at (suc n) i rest z less =
      ap (λ (l : List A). get_or l i z) (append_assoc (in_turn f n) (f n ∷ []) rest)
      ∙ ⊎_elim
      (λ last.
      let same : i ≡ n = omega arith in
      rw same (get_or_at (in_turn f n) (f n) rest z n (in_turn_long n)))
      (λ earlier. in_turn_at n i (f n ∷ rest) z earlier)
      (le_or_lt n i)

  -- one more, set into a buffer
  pub set_next : (i : ℕ) (buffer : List A) (z a : A) → i < length buffer → a ≡ f i
      → set (over (in_turn f i) buffer) i a ≡ over (in_turn f (suc i)) buffer
  unfolding over in_turn
  set_next i buffer z a room e =
      let long = in_turn_long i in
      let longer : length (in_turn f i ++ (f i ∷ [])) ≡ suc i = in_turn_long (suc i) in
      rw (longer, long, drop-cons buffer i z room, set_at (in_turn f i) (get_or buffer i z) (drop (suc i) buffer) a i long, e)
      (sym (append_assoc (in_turn f i) (f i ∷ []) (drop (suc i) buffer)))

-- the splits of answers one behind the other, and of slots without a job
splits_append : (xs ys : List Answer) → splits_in (xs ++ ys) ≡ splits_in xs + splits_in ys
unfolding splits_in
splits_append [] ys = omega arith
splits_append (x ∷ xs) ys = omega (arith, splits_append xs ys)

no_splits : (n k : ℕ) (why : Refusal) → splits_in (drop k (replicate n (refused why))) ≡ 0
unfolding splits_in
no_splits zero zero why = refl
no_splits zero (suc k) why = refl
no_splits (suc n) zero why = omega (arith, no_splits n zero why)
no_splits (suc n) (suc k) why = no_splits n k why

-- the splits of one answer
counts : (check : Check) (r : Search.Answer) → (answer_unless_refused check r).count ≡ if_passed check r.count 0
counts (Ok _) r = refl
counts (Err why) r = refl

few_counted : (check : Check) (n b : ℕ) → n ≤ b → if_passed check n 0 ≤ b
few_counted (Ok _) n b h = h
few_counted (Err why) n b h = omega arith

-- where a store begins, of lengths that fit 32 bits
pub begin_few : (lengths : List ℕ) → ((i : ℕ) → get_or lengths i 0 < 4294967296) → (i : ℕ) → begin_of lengths i ≤ 4294967296 * i
unfolding begin_of
begin_few lengths small zero = omega arith
begin_few lengths small (suc i) = omega (arith, begin_few lengths small i, small i)

-- a record as it is lent
pub record_lent : (jobs : List ℕ) (i : ℕ) → take ((72 * i + 72) - 72 * i) (drop (72 * i) jobs) ≡ take 72 (drop (72 * i) jobs)
record_lent jobs i =
    let e : (72 * i + 72) - 72 * i ≡ 72 = omega arith in
    rw e refl

-- and as it is read
pub record_read : (jobs : List ℕ) (i : ℕ)
    → job_or_zeros (take ((72 * i + 72) - 72 * i) (drop (72 * i) jobs)) ≡ job_or_zeros (take 72 (drop (72 * i) jobs))
record_read jobs i = rw (record_lent jobs i) refl

module _ (count total : ℕ) (jobs stores lengths : List ℕ) (table : List ℤ) (bounds : List ℕ) where
  abbrev own : ℕ → ℕ
  own i = own_at count total jobs stores lengths table bounds i

  abbrev spent : ℕ → ℕ → ℕ
  spent i b = spent_at count total jobs stores lengths table bounds i b

  abbrev answer : ℕ → Answer
  answer i = answer_at count total jobs stores lengths table bounds i

  abbrev budget : ℕ → ℕ
  budget i = budget_at count total jobs stores lengths table bounds i

  abbrev check : ℕ → Check
  check i = check_at count total jobs stores lengths table bounds i

  abbrev left : ℕ → ℕ
  left i = left_before own spent total count i

  abbrev runs : ℕ → List Run
  runs i = runs_of count total jobs stores lengths table bounds i

  spent_few : (i b : ℕ) → spent i b ≤ b
  spent_few i b =
      few_counted (check i) (search_at count total jobs stores lengths table bounds i b).count b
      (within_budget (store_at count total jobs stores lengths table bounds i) (under (job_at jobs i) b) (row_count table))

  shared : Shared own spent total count
  shared = all_shared own spent total count spent_few

  answer_splits : (i : ℕ) → (answer i).count ≡ spent i (budget i)
  answer_splits i = counts (check i) (search_at count total jobs stores lengths table bounds i (budget i))

  all_splits : (n : ℕ) → splits_in (in_turn answer n) ≡ splits_of own spent total count n
  unfolding in_turn splits_in splits_of
  all_splits zero = refl
  all_splits (suc n) = omega (arith, splits_append (in_turn answer n) (answer n ∷ []), all_splits n, answer_splits n)

  -- what job i is given, as the code has it
  pub given : (i l waiting : ℕ) (own job : Job) → own ≡ job_or_zeros (take 72 (drop (72 * i) jobs)) → waiting ≡ count - i → l ≡ left i
      → job ≡ under own (min own.budget (l / waiting)) → job ≡ under (job_at jobs i) (budget i)
  unfolding job_at
  given i l waiting own job read more same e = e ∙ rw (read, more, same) refl

  -- one job, as its search promises
  abbrev Searched : ℕ → ℕ → Job → List ℤ → List ℕ → Answer → List ℤ → List ℕ → Type 0
  Searched from size job u e a u' e' =
      (a ≡ board_answer stores from size job u e) × (BoardTable stores from size job u e u' × BoardBounds stores from size job u e e')

  -- in a turn
  module _
      (i : ℕ) (below : i < count) (eight : count ≤ 8) (l from : ℕ) (answers : List Answer) (budgets : List ℕ) (u : List ℤ) (e : List ℕ)
      (t : Turn count total jobs stores lengths table bounds i l from answers budgets u e) (job : Job)
      (its : job ≡ under (job_at jobs i) (budget i)) (size : ℕ) (long : size ≡ get_or lengths i 0) (a : Answer) (u' : List ℤ) (e' : List ℕ)
      (s : Searched from size job u e a u' e')
    where
      found : Searched (begin_of lengths i) (get_or lengths i 0) (under (job_at jobs i) (budget i)) u e a u' e'
      found = rw (its, long, t.next) at s

      same_check : check_board stores (begin_of lengths i) (get_or lengths i 0) (under (job_at jobs i) (budget i)) (length u) (length e)
          ≡ check i
      same_check =
          rw (t.answered.rows.long, t.answered.entries.long)
          (any_budget stores (begin_of lengths i) (get_or lengths i 0) (job_at jobs i) (length table) (length bounds) (budget i))

      same_search : searched (store_at count total jobs stores lengths table bounds i) (under (job_at jobs i) (budget i)) (row_count u)
          ≡ search_at count total jobs stores lengths table bounds i (budget i)
      same_search = rw t.answered.rows.long refl

      told_answer : a ≡ answer i
      unfolding board_answer
      told_answer = found.0 ∙ rw (same_check, same_search) refl

      -- what it spends is left
      pub affordable : a.count ≤ l
      affordable =
          let most = (shared.most i).1 in
          omega (arith, ap (λ (x : Answer). x.count) told_answer, answer_splits i, spent_few i (budget i), most, t.splits)

      pub next_turn : Turn count total jobs stores lengths table bounds (i + 1) (l - a.count) (from + size) (set answers i a)
          (set budgets i job.budget) u' e'
      unfolding left_before begin_of runs_of
      next_turn =
          let spends : a.count ≡ spent i (budget i) = ap (λ (x : Answer). x.count) told_answer ∙ answer_splits i in
          rw (add-one i)
          (record {
            few = omega (arith, below);
            splits = rw (spends, t.splits) refl;
            next = rw (t.next, long) refl;
            answered = record {
              told =
                  rw t.answered.told
                  (set_next answer i (replicate 8 (refused Refusal.Jobs)) (refused Refusal.Jobs) a
                  (omega (arith, below, eight, length-replicate 8 (refused Refusal.Jobs))) told_answer);
              given =
                  rw t.answered.given
                  (set_next budget i (replicate 8 0) 0 job.budget (omega (arith, below, eight, length-replicate {A = ℕ} 8 0))
                  (ap (λ (j : Job). j.budget) its));
              rows =
                  table_shared.next (runs i) (run_at count total jobs stores lengths table bounds i) (check i) table u u'
                  t.answered.rows
                  (rw (same_check, same_search) at found.1.0);
              entries =
                  bounds_shared.next (runs i) (run_at count total jobs stores lengths table bounds i) (check i) bounds e e'
                  t.answered.entries
                  (rw (same_check, same_search) at found.1.1);
            };
          })

  -- before the first
  pub first_turn : (a : Answer) → a ≡ refused Refusal.Jobs
      → Turn count total jobs stores lengths table bounds 0 total 0 (replicate 8 a) (replicate 8 0) table bounds
  unfolding left_before begin_of runs_of in_turn over
  first_turn a e = record {
    few = omega arith;
    splits = refl;
    next = refl;
    answered = record {
      told = ap (replicate 8) e;
      given = refl;
      rows = table_shared.none table;
      entries = bounds_shared.none bounds;
    };
  }

  -- what the answers hold, unless the call is refused
  module _ (i : ℕ) (below : i < count) where
    pub slot_answer : get_or (boards_found count total jobs stores lengths table bounds).answers i (refused Refusal.Jobs) ≡ answer i
    unfolding boards_found over
    slot_answer = in_turn_at answer count i _ (refused Refusal.Jobs) below

    slot_budget : get_or (boards_found count total jobs stores lengths table bounds).budgets i 0 ≡ budget i
    unfolding boards_found over
    slot_budget = in_turn_at budget count i _ 0 below

    -- "Each answer is certified for its own job under the budget it got."
    certified : check i ≡ pass
        → BoardCertified count total jobs stores lengths table bounds (boards_found count total jobs stores lengths table bounds) i
    certified accepted =
        let job = under (job_at jobs i) (budget i) in
        let own_check : check_board stores (begin_of lengths i) (get_or lengths i 0) job (length table) (length bounds) ≡ pass =
        any_budget stores (begin_of lengths i) (get_or lengths i 0) (job_at jobs i) (length table) (length bounds) (budget i) ∙ accepted in
        record {
          answer = rw slot_budget (slot_answer ∙ rw accepted refl);
          certificate =
              rw slot_budget
              (board_certified stores (begin_of lengths i) (get_or lengths i 0) job table bounds own_check);
        }

  splits_few : splits_in (over (in_turn answer count) (replicate 8 (refused Refusal.Jobs))) ≤ total
  unfolding over
  splits_few =
      let xs = in_turn answer count in
      omega (
        arith,
        splits_append xs (drop (length xs) (replicate 8 (refused Refusal.Jobs))),
        no_splits 8 (length xs) Refusal.Jobs,
        all_splits count,
        shared.together,
      )

  shares_out : BoardsShared count total jobs stores lengths table bounds (boards_found count total jobs stores lengths table bounds)
  unfolding boards_found
  shares_out = record {
    together = splits_few;
    fair = λ ok i below. rw (slot_budget i below) (shared.fair i below);
  }

  abbrev Promised : Result BoardAnswers Refusal → List ℤ → List ℕ → Type 0
  Promised r u e =
      (r ≡ boards_answer count total jobs stores lengths table bounds)
      × (SharedTable (searches_run count total jobs stores lengths table bounds) table u
      × (SharedBounds (searches_run count total jobs stores lengths table bounds) bounds e
      × (IfOk r (BoardsShared count total jobs stores lengths table bounds)
      × IfOk r (BoardsCertified count total jobs stores lengths table bounds))))

  same_found : (r : BoardAnswers) (u : List ℤ) (e : List ℕ)
      → Answered count total jobs stores lengths table bounds count r.answers r.budgets u e
      → r ≡ boards_found count total jobs stores lengths table bounds
  unfolding boards_found
  same_found r u e done = λ i. record { answers = done.told i; budgets = done.given i }

  pub promised_pass : (r : BoardAnswers) (u : List ℤ) (e : List ℕ) → check_call count total jobs stores lengths table bounds ≡ pass
      → Answered count total jobs stores lengths table bounds count r.answers r.budgets u e → Promised (Ok r) u e
  promised_pass r u e ok done =
      let same = same_found r u e done in (
        rw (ok, same) refl,
        (rw ok done.rows, (rw ok done.entries, (rw same shares_out, rw same (λ ok i below accepted. certified i below accepted)))),
      )

  pub promised_refused : (why : Refusal) → check_call count total jobs stores lengths table bounds ≡ Err why
      → Promised (Err why) table bounds
  promised_refused why no_call =
      (rw no_call refl, (rw no_call (table_shared.none table), (rw no_call (bounds_shared.none bounds), (tt, tt))))
