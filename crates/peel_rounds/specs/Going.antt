-- What the functions behind peeling say to each other: of one round, and between two rounds.
use Rattle.codes.specs.Codes.{pass}
use Rattle.std.specs.Prelude.{◌≡◌, cond, ◌||◌, List, ◌++◌, map, ℕ, suc, ◌+◌, ◌-◌, ◌≤◌, ◌<◌, eqb, ℤ, length}
use Rattle.integers.specs.Lists.{over}
use Rattle.jobs.specs.declared.Job.{Job}
use Rattle.jobs.specs.declared.Model.{Model}
use Rattle.points.specs.declared.Point.{Point}
use Rattle.points.specs.Points.{points_of}
use Rattle.residuals.specs.Cost.{bound}
use Rattle.list_rows.specs.Rows.{row_count}
use Rattle.certificate.specs.Search as Search
use Rattle.certificate.specs.Search.{keep_if}
use Rattle.labels.specs.Labels.{label}
use Rattle.search.specs.declared.Kind.{Kind}
use Rattle.search.specs.declared.Kind.TheVariants.{Solved, Spent, Full, Refused}
use Rattle.search.specs.declared.Answer.{Answer}
use Rattle.search.specs.Search.{told, kind_of, TableAfter, BoundsAfter}
use Rattle.search_checks.specs.Checks.{check_search}
use Rattle.sharing.specs.Sharing.{SharedTable, SharedBounds}
use Rattle.rounds.specs.Rounds.{solve, Round, rounds, peeled, round_label}
use Rattle.points_left.specs.Left.{left_of, relabelled, relabels}
use Rattle.peel_rounds.specs.Told.{slots_of, run_of}

-- one thing if a search is solved, another if it is not
abbrev pub if_solved : {A : Type 0} → Kind → A → A → A
if_solved Solved x y = x
if_solved Spent x y = y
if_solved Full x y = y
if_solved (Refused why) x y = y

-- the label of each point under the line of a vector: 1 where the line fits
abbrev pub marks_of : List ℕ → Model → List ℤ → List ℕ
marks_of store m v = map (label m v) (points_of store)

-- How many rounds may follow one that removed so many of the points left: none where it removed nothing, or all.
abbrev pub rounds_after : ℕ → ℕ → ℕ → ℕ
rounds_after removed left more = cond (eqb removed 0 || eqb removed left) 0 (more - 1)

-- What a round is handed, the labels, the table and the list being ls, u and e: checks that passed, and some points left.
pub record Ready (store : List ℕ) (job : Job) (i more : ℕ) (ls : List ℕ) (u : List ℤ) (e : List ℕ) : Type 0 where
  pub searching : check_search store job (length u) (length e) ≡ pass
  pub line : job.model.n ≡ 1
  pub counts : job.model.p ≡ 0
  pub some : 1 ≤ length (left_of ls (points_of store))
  pub number : i < 4
  pub again : 1 ≤ more

-- Round i, counted from 0, on the points left, where `more` rounds may be run: the labels, the table and the list are ls', u' and e'.
module _ (store : List ℕ) (job : Job) (i more : ℕ) (ls : List ℕ) (u : List ℤ) (e : List ℕ) where
  abbrev pub on_those : List Point
  on_those = left_of ls (points_of store)

  abbrev pub found_on : Search.Answer
  found_on = solve job (row_count u) on_those

  abbrev pub marks_by : List ℕ
  marks_by = marks_of store job.model found_on.vector

  pub record RoundDone (result : Answer) (following : ℕ) (ls' : List ℕ) (u' : List ℤ) (e' : List ℕ) : Type 0 where
    pub answer : result ≡ told found_on
    pub labels : ls' ≡ if_solved (kind_of found_on.kind) (relabelled (suc i) ls marks_by) ls
    pub more_left : following ≡ rounds_after (if_solved (kind_of found_on.kind) (relabels ls marks_by) 0) (length on_those) more
    pub rows : TableAfter pass found_on u u'
    pub entries : BoundsAfter (bound job.model on_those) pass found_on e e'

-- Between two rounds: `before` were run, `more` may still be run on the points whose label is 0, and these are all.
pub record Going
    (store : List ℕ) (job : Job) (limit : ℕ) (table : List ℤ) (bounds labels : List ℕ) (i more : ℕ) (answers : List Answer)
    (ls : List ℕ) (u : List ℤ) (e : List ℕ) : Type 0
  where
    pub before : List Round
    pub number : length before ≡ i
    pub few : i + more ≤ limit
    pub slots : answers ≡ slots_of before
    pub all :
        before ++ rounds job (row_count table) more (keep_if (λ q. eqb (round_label job.model before q) 0) (points_of store))
        ≡ peeled job (row_count table) limit (points_of store)
    pub some : 1 ≤ more → 1 ≤ length (keep_if (λ q. eqb (round_label job.model before q) 0) (points_of store))
    pub labelled : ls ≡ over (map (round_label job.model before) (points_of store)) labels
    pub rows : SharedTable (map (run_of job) before) table u
    pub entries : SharedBounds (map (run_of job) before) bounds e

-- All rounds.
pub record RoundsDone
    (store : List ℕ) (job : Job) (limit : ℕ) (table : List ℤ) (bounds labels : List ℕ) (count : ℕ) (answers : List Answer)
    (ls : List ℕ) (u : List ℤ) (e : List ℕ) : Type 0
  where
    pub count_told : count ≡ length (peeled job (row_count table) limit (points_of store))
    pub slots : answers ≡ slots_of (peeled job (row_count table) limit (points_of store))
    pub labelled : ls ≡ over (map (round_label job.model (peeled job (row_count table) limit (points_of store))) (points_of store)) labels
    pub rows : SharedTable (map (run_of job) (peeled job (row_count table) limit (points_of store))) table u
    pub entries : SharedBounds (map (run_of job) (peeled job (row_count table) limit (points_of store))) bounds e
