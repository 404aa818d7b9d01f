-- The rounds, one by one: each is the job's own search on those that the rounds before it left. Assumes nothing.
use mathlib.Core.Path.{◌≡◌, refl, sym, ap, subst, ◌∙◌}
use mathlib.Core.Bool.{Bool, true, false, cond, not, ◌&&◌, ◌||◌}
use mathlib.Core.List.{List, [], ◌∷◌, ◌++◌}
use mathlib.Core.Logic.{◌≢◌}
use Prim.Native.Nat.{ℕ, zero, suc, ◌+◌, ◌≤◌, ◌<◌}
use native.Mathlib.Omega.{arith}
use borrow.Author.Tests.{le-leb, leb-true}
use lib.Dec.{eqb, leb}
use lib.IntN.{ℤ}
use lib.ListN.{length, length-append}
use Rattle.integers.specs.Lists.{All}
use Rattle.integers.proofs.Lists.{all_map}
use Rattle.boxes.specs.Boxes.{InBox}
use Rattle.jobs.specs.declared.Job.{Job}
use Rattle.jobs.specs.declared.Model.{Model}
use Rattle.points.specs.declared.Point.{Point}
use Rattle.points.specs.Points.{is_gap}
use Rattle.residuals.specs.Cost.{cost, bound}
use Rattle.certificate.specs.Search as Search
use Rattle.certificate.specs.Search.{keep_if, solved, spent, full}
use Rattle.certificate.specs.Certificate.{Certificate}
use Rattle.certified_costs.proofs.Made.{fit_certified}
use Rattle.rounds.specs.Rounds.{samples, solve, fits, is_solved, removes, left_by, removes_any}
use Rattle.rounds.specs.Rounds.{Round, rounds, peeled, round_label}
use Rattle.rounds.specs.Rounds.{fitted}
use Rattle.rounds.specs.Laws.{RoundHolds, Peeling, AllPeeling}
use Rattle.rounds.proofs.Keeping.{keep_same, keep_all, keep_twice, keep_passed}
use Rattle.rounds.proofs.Labels.{untouched, label_zero, label_sample, labelled, not_five}
use Rattle.rounds.proofs.Counting.{cost_fitted}

-- no list is empty and has an element
never : {A : Type 0} {P : Type 0} (before after : List A) (r : A) → [] ≡ before ++ (r ∷ after) → P
never before after r e = absurd (omega (arith, ap length e, length-append before (r ∷ after)))

module _ (m : Model) where
  -- those that some rounds leave of these points
  abbrev pub left_after : List Round → List Point → List Point
  left_after rs qs = keep_if (untouched m rs) qs

  left_more : (r : Round) (rs : List Round) (qs : List Point) → left_after rs (left_by m r.found qs) ≡ left_after (r ∷ rs) qs
  unfolding untouched
  left_more r rs qs = keep_twice (λ q. not (removes m r.found q)) (untouched m rs) qs

  -- of a store, they are those with label 0
  pub left_labels : (rs : List Round) (qs : List Point) → left_after rs (samples qs) ≡ keep_if (λ q. eqb (round_label m rs q) 0) qs
  left_labels rs qs =
      keep_twice (λ q. not (is_gap q)) (untouched m rs) qs
      ∙ keep_same (λ q. not (is_gap q) && untouched m rs q) (λ q. eqb (round_label m rs q) 0) (λ q. sym (label_zero m rs q)) qs

  -- a round removes some of its points exactly if it is solved and fits some
  pub removes_some : (r : Search.Answer) (qs : List Point) → removes_any m r qs ≡ (is_solved r.kind && leb 1 (fitted m r.vector qs))
  unfolding removes_any fitted removes
  removes_some r [] = one r.kind
    where
      one : (k : Search.Kind) → false ≡ (is_solved k && leb 1 0)
      one solved = refl
      one spent = refl
      one full = refl
  removes_some r (q ∷ qs) = one (is_solved r.kind) (fits m r.vector q) (removes_any m r qs) (fitted m r.vector qs)
      (removes_some r qs)
    where
      one : (k f b : Bool) (n : ℕ) → b ≡ (k && leb 1 n) → ((k && f) || b) ≡ (k && leb 1 (cond f 1 0 + n))
      one false f b n e = e
      one true true b n e = sym (le-leb 1 (1 + n) (omega arith))
      one true false b n e = let z : 0 + n ≡ n = omega arith in rw z e

-- Of one round behind others, of any points.
record Behind (job : Job) (rows : ℕ) (s : List Point) (before : List Round) (r : Round) : Type 0 where
  left : r.left ≡ left_after job.model before s
  some : r.left ≢ []
  alone : r.found ≡ solve job rows r.left

module _ (job : Job) (rows : ℕ) where
  abbrev m : Model
  m = job.model

  abbrev round_on : List Point → Round
  round_on s = record { left = s; found = solve job rows s }

  first_behind : (q : Point) (qs : List Point) (r : Round) → round_on (q ∷ qs) ≡ r → Behind job rows (q ∷ qs) [] r
  unfolding untouched
  first_behind q qs r e =
      subst (Behind job rows (q ∷ qs) []) e
      (record {
        left = sym (keep_all (untouched m []) (λ x. refl) (q ∷ qs));
        some = λ z. absurd (omega (arith, ap length z));
        alone =
            refl;
      })

  -- where a round follows, the one before it removed some
  followed : {A : Type 0} (b : Bool) (xs : List A) (ys zs : List A) (z : A) → cond b xs [] ≡ ys ++ (z ∷ zs) →
      (b ≡ true) × (xs ≡ ys ++ (z ∷ zs))
  followed true xs ys zs z e = (refl, e)
  followed false xs ys zs z e = never ys zs z e

  behind : (limit : ℕ) (s : List Point) (before after : List Round) (r : Round) → rounds job rows limit s ≡ before ++ (r ∷ after) →
      Behind job rows s before r
  unfolding rounds
  behind zero s before after r e = never before after r e
  behind (suc n) [] before after r e = never before after r e
  behind (suc n) (q ∷ qs) [] after r e = first_behind q qs r cc
  behind (suc n) (q ∷ qs) (b ∷ before) after r e =
      let s = q ∷ qs in
      let found = solve job rows s in
      let is : round_on s ≡ b = cc in
      let rest : cond (removes_any m found s) (rounds job rows n (left_by m found s)) [] ≡ before ++ (r ∷ after) = cc in
      let h = behind n (left_by m found s) before after r (followed (removes_any m found s) _ before after r rest).1 in
      record {
        left = h.left ∙ left_more m (round_on s) before s ∙ ap (λ (b : Round). left_after m (b ∷ before) s) is;
        some = h.some;
        alone = h.alone;
      }

  few : (limit : ℕ) (s : List Point) → length (rounds job rows limit s) ≤ limit
  unfolding rounds
  few zero s = omega arith
  few (suc n) [] = omega arith
  few (suc n) (q ∷ qs) =
      let s = q ∷ qs in
      let found = solve job rows s in
      one (removes_any m found s) (rounds job rows n (left_by m found s)) (few n (left_by m found s))
    where
      one : (b : Bool) (rs : List Round) → length rs ≤ n → suc (length (cond b rs [])) ≤ suc n
      one true rs h = omega arith
      one false rs h = omega arith

  -- a round with another behind it removed some
  goes_on : (limit : ℕ) (s : List Point) (before after : List Round) (r next : Round) →
      rounds job rows limit s ≡ before ++ (r ∷ next ∷ after) → removes_any m r.found r.left ≡ true
  unfolding rounds
  goes_on zero s before after r next e = never before (next ∷ after) r e
  goes_on (suc n) [] before after r next e = never before (next ∷ after) r e
  goes_on (suc n) (q ∷ qs) [] after r next e =
      let s = q ∷ qs in
      let found = solve job rows s in
      let is : round_on s ≡ r = cc in
      let rest : cond (removes_any m found s) (rounds job rows n (left_by m found s)) [] ≡ next ∷ after = cc in
      subst (λ (r : Round). removes_any m r.found r.left ≡ true) is (followed (removes_any m found s) _ [] after next rest).0
  goes_on (suc n) (q ∷ qs) (b ∷ before) after r next e =
      let s = q ∷ qs in
      let found = solve job rows s in
      let rest : cond (removes_any m found s) (rounds job rows n (left_by m found s)) [] ≡ before ++ (r ∷ next ∷ after) = cc in
      goes_on n (left_by m found s) before after r next (followed (removes_any m found s) _ before (next ∷ after) r rest).1

  -- no round on these, though one may be run: there is no point
  none_run : (n : ℕ) (s : List Point) → 1 ≤ n → rounds job rows n s ≡ [] → s ≡ []
  unfolding rounds
  none_run zero s h e = absurd (omega arith)
  none_run (suc n) [] h e = refl
  none_run (suc n) (q ∷ qs) h e = let z : ◌≡◌ {A = ℕ} 0 1 = cc in absurd (omega arith)

  pub no_points : (n : ℕ) (s : List Point) → s ≡ [] → rounds job rows n s ≡ []
  unfolding rounds
  no_points zero s e = refl
  no_points (suc n) [] e = refl
  no_points (suc n) (q ∷ qs) e = let z : ◌≡◌ {A = ℕ} 0 1 = cc in absurd (omega arith)

  -- the last round, if it removed some and the limit isn't reached, left nothing
  stops : (limit : ℕ) (s : List Point) (before : List Round) (r : Round) → rounds job rows limit s ≡ before ++ (r ∷ []) →
      length (before ++ (r ∷ [])) < limit → removes_any m r.found r.left ≡ true → left_by m r.found r.left ≡ []
  unfolding rounds
  stops zero s before r e h any = never before [] r e
  stops (suc n) [] before r e h any = never before [] r e
  stops (suc n) (q ∷ qs) [] r e h any =
      let s = q ∷ qs in
      let is : round_on s ≡ r = cc in
      let rest : cond (removes_any m (solve job rows s) s) (rounds job rows n (left_by m (solve job rows s) s)) [] ≡ [] = cc in
      let own : removes_any m (solve job rows s) s ≡ true = rw (← is) at any in
      subst (λ (r : Round). left_by m r.found r.left ≡ []) is
      (none_run n (left_by m (solve job rows s) s) (omega arith) (rw own at rest))
  stops (suc n) (q ∷ qs) (b ∷ before) r e h any =
      let s = q ∷ qs in
      let found = solve job rows s in
      let rest : cond (removes_any m found s) (rounds job rows n (left_by m found s)) [] ≡ before ++ (r ∷ []) = cc in
      stops n (left_by m found s) before r (followed (removes_any m found s) _ before [] r rest).1 (omega arith) any

-- solved and fitting some, as a round's parts
both : (k : Search.Kind) (n : ℕ) → (is_solved k && leb 1 n) ≡ true → (k ≡ solved) × (1 ≤ n)
both solved n e = (refl, leb-true 1 n e)
both spent n e = let z : ◌≡◌ {A = ℕ} 0 1 = cc in absurd (omega arith)
both full n e = let z : ◌≡◌ {A = ℕ} 0 1 = cc in absurd (omega arith)

module _
    (job : Job) (rows : ℕ) (line : job.model.n ≡ 1) (counts : job.model.p ≡ 0) (inside : InBox job.start job.domain)
  where
    -- the certificate of a round, over the points then left
    pub round_certified : (s : List Point) (found : Search.Answer) → found ≡ solve job rows s →
        Certificate (cost job.model s) (bound job.model s) job.budget rows job.t job.start job.domain found
    unfolding solve
    round_certified s found e =
        subst (Certificate (cost job.model s) (bound job.model s) job.budget rows job.t job.start job.domain) (sym e)
        (fit_certified job.model s job.budget rows job.t job.start job.domain inside)

    -- "must fit as many points as any other grid line, up to t": a cost is the number of points less those fitted
    fits_most : (s : List Point) → All (λ q. is_gap q ≡ false) s → (found : Search.Answer) →
        Certificate (cost job.model s) (bound job.model s) job.budget rows job.t job.start job.domain found →
        found.kind ≡ solved →
        (v : List ℤ) → InBox v job.domain → fitted job.model v s ≤ fitted job.model found.vector s + job.t
    fits_most s samples found c e v h =
        omega (
          arith,
          c.near e,
          c.least v h,
          c.exact,
          c.ordered,
          cost_fitted job.model line counts v s samples,
          cost_fitted job.model line counts found.vector s samples,
        )

    holds : (limit : ℕ) (qs : List Point) (before after : List Round) (r : Round) → peeled job rows limit qs ≡ before ++ (r ∷ after) →
        RoundHolds job rows qs before r
    holds limit qs before after r e =
        let b = behind job rows limit (samples qs) before after r e in
        let those = b.left ∙ left_labels job.model before qs in
        let certificate = round_certified r.left r.found b.alone in
        let untaken : All (λ q. is_gap q ≡ false) r.left =
        subst (All (λ q. is_gap q ≡ false)) (sym those)
        (all_map (λ q h. label_sample job.model before q h) (keep_passed (λ q. eqb (round_label job.model before q) 0) qs)) in
        record {
          those_left = those;
          some_left = b.some;
          alone = b.alone;
          certificate = certificate;
          most = fits_most r.left untaken r.found certificate;
        }

    removing_some : (found : Search.Answer) (s : List Point) → removes_any job.model found s ≡ true →
        (found.kind ≡ solved) × (1 ≤ fitted job.model found.vector s)
    removing_some found s e = both found.kind _ (sym (removes_some job.model found s) ∙ e)

    removing_back : (found : Search.Answer) (s : List Point) → found.kind ≡ solved → 1 ≤ fitted job.model found.vector s →
        removes_any job.model found s ≡ true
    removing_back found s e h = removes_some job.model found s ∙ rw (e, le-leb 1 (fitted job.model found.vector s) h) refl

    the_peeling : (limit : ℕ) (qs : List Point) → Peeling job rows limit qs
    the_peeling limit qs =
        record {
          each_round = holds limit qs;
          within_limit = few job rows limit (samples qs);
          goes_on = λ before after r next e.
              removing_some r.found r.left (goes_on job rows limit (samples qs) before after r next e);
          stops = λ before r e h k some.
              stops job rows limit (samples qs) before r e h (removing_back r.found r.left k some);
          gaps_alone = λ e. no_points job rows limit (samples qs) e;
          begins = λ some h e. some (none_run job rows limit (samples qs) h e);
          label = labelled job.model (peeled job rows limit qs);
          decided = λ four q.
              not_five job.model (peeled job rows limit qs) q (omega (arith, few job rows limit (samples qs)));
        }

pub all_peeling : AllPeeling
all_peeling job rows limit qs line counts inside = the_peeling job rows line counts inside limit qs
