-- What is shown of peeling, clause by clause: of each round, of where the rounds stop, of each label. The proofs stand in
-- proofs/Peeling.antt.
use Rattle.std.specs.Prelude.{true, false, List, [], ◌∷◌, ◌++◌, ◌≢◌, ◌≡◌, ℕ, suc, ◌+◌, ◌≤◌, ◌<◌, eqb, ℤ, length}
use Rattle.integers.specs.Lists.{All}
use Rattle.boxes.specs.Boxes.{InBox}
use Rattle.jobs.specs.declared.Job.{Job}
use Rattle.jobs.specs.declared.Model.{Model}
use Rattle.points.specs.declared.Point.{Point}
use Rattle.points.specs.Points.{is_gap}
use Rattle.residuals.specs.Cost.{size_at, cost, bound}
use Rattle.certificate.specs.Search.{keep_if, solved}
use Rattle.certificate.specs.Certificate.{Certificate}
use Rattle.rounds.specs.Rounds.{samples, solve, left_by, Round, peeled, round_label, fitted}

-- Of a round that was run behind others, on the points of a store.
pub record RoundHolds (job : Job) (rows : ℕ) (qs : List Point) (before : List Round) (r : Round) : Type 0 where
  -- "the points then left": those whose label is still 0, in order, and there are some
  pub those_left : r.left ≡ keep_if (λ q. eqb (round_label job.model before q) 0) qs
  pub some_left : r.left ≢ []
  -- "solve again on those left, each time from the job's start vector"; "Each round has the whole split budget and the table"
  pub alone : r.found ≡ solve job rows r.left
  -- its answer is certified over these points: demand 3
  pub certificate :
      Certificate (cost job.model r.left) (bound job.model r.left) job.budget rows job.t job.start job.domain
      r.found
  -- "Each line solved must fit as many points as any other grid line, up to t, among the points then left."
  pub most :
      r.found.kind ≡ solved → (v : List ℤ) → InBox v job.domain →
      fitted job.model v r.left ≤ fitted job.model r.found.vector r.left + job.t

-- Of a label that a point has after these rounds: which one, and why.
pub data Labelled (m : Model) (rs : List Round) (q : Point) : ℕ → Type 0 where
  gap : is_gap q ≡ true → Labelled m rs q 6
  -- "the round that removed it": it was solved and its line fits the point, which was left until then
  removed :
      (before after : List Round) (r : Round) → rs ≡ before ++ (r ∷ after) → round_label m before q ≡ 0 → is_gap q ≡ false →
      r.found.kind ≡ solved →
      size_at m r.found.vector q 0 ≤ m.eps →
      Labelled m rs q (suc (length before))
  -- "else 0": no line of a solved round fits it
  unremoved :
      is_gap q ≡ false → All (λ r. r.found.kind ≡ solved → m.eps < size_at m r.found.vector q 0) rs → Labelled m rs q 0

-- All of a peeling with a limit.
pub record Peeling (job : Job) (rows limit : ℕ) (qs : List Point) : Type 0 where
  pub each_round :
      (before after : List Round) (r : Round) → peeled job rows limit qs ≡ before ++ (r ∷ after) → RoundHolds job rows qs before r
  -- "Stop .. after a given limit"
  pub within_limit : length (peeled job rows limit qs) ≤ limit
  -- "when the line fits none of the points left, or when a round isn't solved": a round with another behind it is solved and fits some
  pub goes_on :
      (before after : List Round) (r next : Round) → peeled job rows limit qs ≡ before ++ (r ∷ next ∷ after) →
      (r.found.kind ≡ solved) × (1 ≤ fitted job.model r.found.vector r.left)
  -- and for no other reason: where the last one is solved, fits some, and the limit isn't reached, "no point is left"
  pub stops :
      (before : List Round) (r : Round) → peeled job rows limit qs ≡ before ++ (r ∷ []) → length (before ++ (r ∷ [])) < limit →
      r.found.kind ≡ solved →
      1 ≤ fitted job.model r.found.vector r.left →
      left_by job.model r.found r.left ≡ []
  -- "gaps are set aside before the first round, and if nothing else is there, no round is run", else one is
  pub gaps_alone : samples qs ≡ [] → peeled job rows limit qs ≡ []
  pub begins : samples qs ≢ [] → 1 ≤ limit → peeled job rows limit qs ≢ []
  -- "A point's label is the round that removed it, else 0."; a gap's is 6; none is 5
  pub label : (q : Point) → Labelled job.model (peeled job rows limit qs) q (round_label job.model (peeled job rows limit qs) q)
  pub decided : limit ≤ 4 → (q : Point) → round_label job.model (peeled job rows limit qs) q ≢ 5

-- So it is with every job of one line and p = 0 whose start vector lies in its box.
abbrev pub AllPeeling : Type 0
AllPeeling =
    (job : Job) (rows limit : ℕ) (qs : List Point) → job.model.n ≡ 1 → job.model.p ≡ 0 → InBox job.start job.domain →
    Peeling job rows limit qs
