-- From round to round: what was run and what may still be run are all rounds of the definition. Assumes nothing.
use mathlib.Core.Path.{◌≡◌, refl, sym, ap, ap₂, subst, subst₂, ◌∙◌}
use mathlib.Core.Bool.{Bool, true, false, cond, ◌||◌}
use mathlib.Core.List.{List, [], ◌∷◌, ◌++◌, map, map-append, append-nil}
use Prim.Native.Nat.{ℕ, zero, suc, ◌+◌, ◌-◌, ◌/◌, ◌≤◌, ◌<◌}
use native.Mathlib.Omega.{arith}
use borrow.Author.Tests.{eqb-true, eqb-false}
use lib.Dec.{eqb}
use lib.IntN.{ℤ}
use lib.ListN.{length, drop, set, replicate, get_or, length-append, length-drop, length-map, length-replicate}
use lib.Seq.{append_snoc, set_at, drop-cons, drop-append_seam}
use Rattle.codes.specs.Codes.{pass}
use Rattle.integers.specs.Lists.{over}
use Rattle.jobs.specs.declared.Job.{Job}
use Rattle.jobs.specs.declared.Model.{Model}
use Rattle.points.specs.declared.Point.{Point}
use Rattle.points.specs.Points.{points_of}
use Rattle.residuals.specs.Cost.{bound}
use Rattle.list_rows.specs.Rows.{row_count}
use Rattle.certificate.specs.Search as Search
use Rattle.certificate.specs.Search.{keep_if}
use Rattle.search_checks.specs.Checks.{check_search}
use Rattle.search.specs.declared.Answer.{Answer}
use Rattle.search.specs.Search.{told, kind_of, TableAfter, BoundsAfter}
use Rattle.sharing.specs.Sharing.{SharedTable, SharedBounds}
use Rattle.sharing.proofs.Sharing.{table_shared, bounds_shared}
use Rattle.rounds.specs.Rounds.{samples, solve, is_solved, fitted, removes_any, Round, rounds, peeled, removed_by, round_label}
use Rattle.rounds.proofs.Keeping.{keep_all}
use Rattle.rounds.proofs.Labels.{untouched}
use Rattle.rounds.proofs.Peeling.{left_labels, no_points}
use Rattle.rounds.proofs.Steps.{left_next, left_count, any_count, rounds_next, rounds_behind, some_behind}
use Rattle.points_left.specs.Left.{first_label, left_of, relabelled, relabels}
use Rattle.peel_rounds.specs.Told.{no_round, slots_of, run_of}
use Rattle.peel_rounds.specs.Going.{if_solved, marks_of, rounds_after, Ready, RoundDone, Going, RoundsDone, on_those, found_on}
use Rattle.peel_rounds.proofs.Searching.{points_number}
use Rattle.peel_rounds.proofs.Labels.{over_same, those_left, removed_count, labelled_next}

-- one more answer in its slot
slots_next : (before : List Round) (r : Round) (i : ℕ) → length before ≡ i → i < 4 →
    set (slots_of before) i (told r.found) ≡ slots_of (before ++ (r ∷ []))
unfolding over
slots_next before r i number few =
    let tell : Round → Answer = λ r. told r.found in
    let blanks : List Answer = replicate 4 no_round in
    let long : length (map tell before) ≡ i = length-map before tell ∙ number in
    let longer : length (map tell (before ++ (r ∷ []))) ≡ suc i =
    length-map (before ++ (r ∷ [])) tell ∙ length-append before (r ∷ []) ∙ omega (arith, number) in
    let here : drop i blanks ≡ get_or blanks i no_round ∷ drop (suc i) blanks =
    drop-cons blanks i no_round (omega (arith, length-replicate 4 no_round)) in
    ap (λ (n : ℕ). set (map tell before ++ drop n blanks) i (tell r)) long
    ∙ ap (λ (l : List Answer). set (map tell before ++ l) i (tell r)) here
    ∙ set_at (map tell before) (get_or blanks i no_round) (drop (suc i) blanks) (tell r) i long
    ∙ sym
    (ap₂ (λ (l : List Answer) (n : ℕ). l ++ drop n blanks) (map-append tell before (r ∷ [])) longer
    ∙ append_snoc (map tell before) (tell r) (drop (suc i) blanks))

-- the labels before the first round
first_label_lem : (m : Model) (q : Point) → first_label q ≡ round_label m [] q
unfolding first_label round_label removed_by
first_label_lem m q = refl

-- the points left then
first_left : (m : Model) (qs : List Point) → keep_if (λ q. eqb (round_label m [] q) 0) qs ≡ samples qs
unfolding untouched
first_left m qs = sym (left_labels m [] qs) ∙ keep_all (untouched m []) (λ q. refl) (samples qs)

nothing : {A : Type 0} (l : List A) → length l ≡ 0 → l ≡ []
nothing [] e = refl
nothing (x ∷ l) e = absurd (omega arith)

module _ (store : List ℕ) (job : Job) (limit : ℕ) (table : List ℤ) (bounds labels : List ℕ) where
  abbrev qs : List Point
  qs = points_of store

  abbrev m : Model
  m = job.model

  abbrev rows : ℕ
  rows = row_count table

  abbrev left_behind : List Round → List Point
  left_behind before = keep_if (λ q. eqb (round_label m before q) 0) qs

  first_rounds : (left : ℕ) → left ≡ length (samples qs) →
      rounds job rows (cond (eqb left 0) 0 limit) (samples qs) ≡ peeled job rows limit qs
  unfolding rounds
  first_rounds left e = one (eqb left 0) refl
    where
      one : (z : Bool) → eqb left 0 ≡ z → rounds job rows (cond z 0 limit) (samples qs) ≡ peeled job rows limit qs
      one true w = sym (no_points job rows limit (samples qs) (nothing (samples qs) (sym e ∙ eqb-true left 0 w)))
      one false w = refl

  first_some : (left : ℕ) → left ≡ length (samples qs) → 1 ≤ cond (eqb left 0) 0 limit → 1 ≤ length (samples qs)
  first_some left e h = one (eqb left 0) refl h
    where
      one : (z : Bool) → eqb left 0 ≡ z → 1 ≤ cond z 0 limit → 1 ≤ length (samples qs)
      one true w h = absurd (omega arith)
      one false w h = positive left (eqb-false left 0 w) e
        where
          positive : (n : ℕ) → (n ≡ 0 → ⊥) → n ≡ length (samples qs) → 1 ≤ length (samples qs)
          positive zero none e = absurd (none refl)
          positive (suc n) none e = omega arith

  at_most : (b : Bool) (n : ℕ) → cond b 0 n ≤ n
  at_most true n = omega arith
  at_most false n = omega arith

  -- before the first round
  pub none_done : (left more : ℕ) (blank : Answer) (ls : List ℕ) → left ≡ length (samples qs) → more ≡ cond (eqb left 0) 0 limit →
      blank ≡ no_round →
      ls ≡ over (map first_label qs) labels →
      Going store job limit table bounds labels 0 more (replicate 4 blank) ls table bounds
  unfolding over
  none_done left more blank ls e w b written =
      let start : left_behind [] ≡ samples qs = first_left m qs in
      record {
        before = [];
        number = refl;
        few = omega (arith, w, at_most (eqb left 0) limit);
        slots = ap (replicate 4) b;
        all = ap₂ (rounds job rows) w start ∙ first_rounds left e;
        some = λ h. rw start (first_some left e (rw w at h));
        labelled = written ∙ over_same first_label (round_label m []) (first_label_lem m) qs labels;
        rows = table_shared.none table;
        entries = bounds_shared.none bounds;
      }

  module _
      (i n : ℕ) (answers : List Answer) (ls : List ℕ) (u : List ℤ) (e : List ℕ)
      (g : Going store job limit table bounds labels i (suc n) answers ls u e) (line : m.n ≡ 1)
      (result : Answer) (following : ℕ) (ls' : List ℕ) (u' : List ℤ) (e' : List ℕ)
      (d : RoundDone store job i (suc n) ls u e result following ls' u' e')
    where
      abbrev L : List Point
      L = left_behind g.before

      abbrev F : Search.Answer
      F = solve job rows L

      abbrev r : Round
      r = record { left = L; found = F }

      abbrev R : ℕ
      R = cond (is_solved F.kind) (fitted m F.vector L) 0

      those : on_those store job i (suc n) ls u e ≡ L
      those = ap (λ (l : List ℕ). left_of l qs) g.labelled ∙ those_left m line store labels g.before r

      same : found_on store job i (suc n) ls u e ≡ F
      same = ap₂ (solve job) (ap (λ (k : ℕ). k / 16) g.rows.long) those

      answered : result ≡ told F
      answered = d.answer ∙ ap told same

      relabelled_so : ls' ≡ over (map (round_label m (g.before ++ (r ∷ []))) qs) labels
      relabelled_so =
          d.labels
          ∙ ap₂
          (λ (f : Search.Answer) (l : List ℕ). if_solved (kind_of f.kind) (relabelled (suc i) l (marks_of store m f.vector)) l)
          same g.labelled
          ∙ ap
          (λ (k : ℕ).
          if_solved (kind_of F.kind) (relabelled (suc k) (over (map (round_label m g.before) qs) labels) (marks_of store m F.vector))
          (over (map (round_label m g.before) qs) labels))
          (sym g.number)
          ∙ labelled_next m line store labels g.before r

      follows : following ≡ rounds_after R (length L) (suc n)
      follows =
          d.more_left
          ∙ ap₂
          (λ (f : Search.Answer) (l : List ℕ).
          rounds_after (if_solved (kind_of f.kind) (relabels l (marks_of store m f.vector)) 0) (length (left_of l qs)) (suc n))
          same g.labelled
          ∙ ap₂ (λ (a b : ℕ). rounds_after a b (suc n)) (removed_count m line store labels g.before r F.kind)
          (ap length (those_left m line store labels g.before r))

      counted : length (left_behind (g.before ++ (r ∷ []))) + R ≡ length L
      counted = rw (left_next m g.before r qs) (left_count m F L)

      one_less : suc n - 1 ≡ n
      one_less = omega arith

      rounds_so : (g.before ++ (r ∷ [])) ++ rounds job rows following (left_behind (g.before ++ (r ∷ []))) ≡ peeled job rows limit qs
      rounds_so =
          append_snoc g.before r (rounds job rows following (left_behind (g.before ++ (r ∷ []))))
          ∙ ap (λ (l : List Round). g.before ++ (r ∷ l))
          (ap (λ (k : ℕ). rounds job rows k (left_behind (g.before ++ (r ∷ []))))
          (follows ∙ ap (λ (k : ℕ). cond (eqb R 0 || eqb R (length L)) 0 k) one_less)
          ∙ rounds_behind job rows n R L (left_behind (g.before ++ (r ∷ []))) (removes_any m F L) (any_count m F L) counted
          ∙ ap (λ (l : List Point). cond (removes_any m F L) (rounds job rows n l) []) (left_next m g.before r qs))
          ∙ ap (λ (l : List Round). g.before ++ l) (sym (rounds_next job rows n L (g.some (omega arith))))
          ∙ g.all

      fewer : following ≤ n
      fewer = omega (arith, follows, one_less, at_most (eqb R 0 || eqb R (length L)) (suc n - 1))

      -- one more round
      pub one_more : limit ≤ 4 → Going store job limit table bounds labels (i + 1) following (set answers i result) ls' u' e'
      one_more four =
          record {
            before = g.before ++ (r ∷ []);
            number = length-append g.before (r ∷ []) ∙ omega (arith, g.number);
            few = omega (arith, fewer, g.few);
            slots =
                ap₂ (λ (l : List Answer) (a : Answer). set l i a) g.slots answered
                ∙ slots_next g.before r i g.number (omega (arith, g.few));
            all = rounds_so;
            some = λ h.
                some_behind job rows n R L (left_behind (g.before ++ (r ∷ []))) counted
                (omega (arith, h, follows, ap (λ (k : ℕ). cond (eqb R 0 || eqb R (length L)) 0 k) one_less));
            labelled = relabelled_so;
            rows =
                rw (map-append (run_of job) g.before (r ∷ []))
                (table_shared.one_more (map (run_of job) g.before) (run_of job r) pass table u u' refl g.rows
                (subst (λ (f : Search.Answer). TableAfter pass f u u') same d.rows));
            entries =
                rw (map-append (run_of job) g.before (r ∷ []))
                (bounds_shared.one_more (map (run_of job) g.before) (run_of job r) pass bounds e e' refl g.entries
                (subst₂ (λ (l : List Point) (f : Search.Answer). BoundsAfter (bound m l) pass f e e') those same d.entries));
          }

      -- fewer rounds may follow than before it
      pub fewer_follow : following < suc n
      fewer_follow = omega (arith, fewer)

  -- after the last
  pub all_done : (i more : ℕ) (answers : List Answer) (ls : List ℕ) (u : List ℤ) (e : List ℕ) → more ≡ 0 →
      Going store job limit table bounds labels i more answers ls u e → RoundsDone store job limit table bounds labels i answers ls u e
  unfolding rounds
  all_done i more answers ls u e over-all g =
      let same : g.before ≡ peeled job rows limit qs =
      sym (append-nil g.before) ∙ ap (λ (k : ℕ). g.before ++ rounds job rows k (left_behind g.before)) (sym over-all) ∙ g.all in
      record {
        count_told = sym g.number ∙ ap length same;
        slots = g.slots ∙ ap slots_of same;
        labelled = g.labelled ∙ ap (λ (rs : List Round). over (map (round_label m rs) qs) labels) same;
        rows = subst (λ (rs : List Round). SharedTable (map (run_of job) rs) table u) same g.rows;
        entries = subst (λ (rs : List Round). SharedBounds (map (run_of job) rs) bounds e) same g.entries;
      }

  -- what a round is handed
  pub ready_next : (i more : ℕ) (answers : List Answer) (ls : List ℕ) (u : List ℤ) (e : List ℕ) →
      check_search store job (length table) (length bounds) ≡ pass → m.n ≡ 1 → m.p ≡ 0 → limit ≤ 4 → 0 < more →
      Going store job limit table bounds labels i more answers ls u e →
      Ready store job i more ls u e
  ready_next i more answers ls u e searching line counts four h g =
      record {
        searching = ap₂ (λ (a b : ℕ). check_search store job a b) g.rows.long g.entries.long ∙ searching;
        line = line;
        counts = counts;
        some = rw (g.labelled, those_left m line store labels g.before unasked) (g.some h);
        number = omega (arith, g.few);
        again = h;
      }
    where
      -- a round whose answer is not looked at
      unasked : Round
      unasked = record { left = []; found = solve job rows [] }

  pub going_next : (i more : ℕ) (answers : List Answer) (ls : List ℕ) (u : List ℤ) (e : List ℕ) →
      m.n ≡ 1 → limit ≤ 4 → 0 < more →
      Going store job limit table bounds labels i more answers ls u e →
      (result : Answer) (following : ℕ) (ls' : List ℕ) (u' : List ℤ) (e' : List ℕ) →
      RoundDone store job i more ls u e result following ls' u' e' →
      Going store job limit table bounds labels (i + 1) following (set answers i result) ls' u' e' × (following < more)
  going_next i zero answers ls u e line four h g result following ls' u' e' d = absurd (omega arith)
  going_next i (suc n) answers ls u e line four h g result following ls' u' e' d = (
    one_more i n answers ls u e g line result following ls' u' e' d four,
    fewer_follow i n answers ls u e g line result following ls' u'
        e' d,
  )

-- written over twice, the last counts
over_twice : {A : Type 0} (xs ys buffer : List A) → length xs ≡ length ys → over xs (over ys buffer) ≡ over xs buffer
unfolding over
over_twice {A = A} xs ys buffer e =
    ap (λ (l : List A). xs ++ l)
    (ap (λ (n : ℕ). drop n (ys ++ drop (length ys) buffer)) e ∙ drop-append_seam ys (drop (length ys) buffer)
    ∙ ap (λ (n : ℕ). drop n buffer) (sym e))

pub over_length : {A : Type 0} (xs buffer : List A) → length xs ≤ length buffer → length (over xs buffer) ≡ length buffer
unfolding over
over_length xs buffer h = omega (arith, length-append xs (drop (length xs) buffer), length-drop (length xs) buffer)

module _
    (store : List ℕ) (job : Job) (limit : ℕ) (table : List ℤ) (bounds labels first : List ℕ)
    (written : first ≡ over (map first_label (points_of store)) labels)
  where
    -- from the labels that the loop begins with
    pub first_going : (left more : ℕ) (blank : Answer) → left ≡ length (samples (points_of store)) → more ≡ cond (eqb left 0) 0 limit →
        blank ≡ no_round →
        Going store job limit table bounds first 0 more (replicate 4 blank) first table bounds
    first_going left more blank e w b =
        let xs = map first_label (points_of store) in
        none_done store job limit table bounds first left more blank first e w b
        (written ∙ sym (ap (over xs) written ∙ over_twice xs xs labels refl))

    pub last_done : (i more : ℕ) (answers : List Answer) (ls : List ℕ) (u : List ℤ) (e : List ℕ) → more ≡ 0 →
        Going store job limit table bounds first i more answers ls u e → RoundsDone store job limit table bounds labels i answers ls u e
    last_done i more answers ls u e w g =
        let d = all_done store job limit table bounds first i more answers ls u e w g in
        let f = round_label job.model (peeled job (row_count table) limit (points_of store)) in
        let xs = map first_label (points_of store) in
        record {
          count_told = d.count_told;
          slots = d.slots;
          labelled =
              d.labelled
              ∙ ap (over (map f (points_of store))) written
              ∙ over_twice (map f (points_of store)) xs labels
              (length-map (points_of store) f ∙ sym (length-map (points_of store) first_label));
          rows = d.rows;
          entries = d.entries;
        }

    -- the labels stay as many
    pub still_long : (i more : ℕ) (answers : List Answer) (ls : List ℕ) (u : List ℤ) (e : List ℕ) → length store / 12 ≤ length labels →
        Going store job limit table bounds first i more answers ls u e → length ls ≡ length labels
    still_long i more answers ls u e room g =
        let f = round_label job.model g.before in
        let xs = map first_label (points_of store) in
        let n = points_number store in
        let long : length first ≡ length labels =
        ap length written ∙ over_length xs labels (omega (arith, length-map (points_of store) first_label)) in
        ap length g.labelled
        ∙ over_length (map f (points_of store)) first (omega (arith, length-map (points_of store) f))
        ∙ long
