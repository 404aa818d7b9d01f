-- What peeling answers and leaves in lent memory, request 1 of document 02: the rounds over a store's points (rounds/specs/Rounds.antt),
-- with the checks before them.
use Rattle.std.specs.Prelude.{◌≡◌, List, [], map, ℕ, ℤ, length, Result}
use Rattle.integers.specs.Lists.{over}
use Rattle.codes.specs.declared.Refusal.{Refusal}
use Rattle.codes.specs.Codes.{Check, pass, unless_refused, if_passed}
use Rattle.jobs.specs.declared.Job.{Job}
use Rattle.points.specs.Points.{points_of}
use Rattle.list_rows.specs.Rows.{row_count}
use Rattle.sharing.specs.Sharing.{Run, SharedTable, SharedBounds}
use Rattle.rounds.specs.Rounds.{Round, peeled, round_label}
use Rattle.rounds.specs.Laws.{Peeling}
use Rattle.peel_rounds.specs.Told.{slots_of, run_of}
use Rattle.peel_checks.specs.Checks.{check_peel}
use Rattle.peel.specs.declared.Peeled.{Peeled}

-- A call that is lent a table, a list of bounds and room for labels. "r is its length divided by 16, rounded down."
module _ (store : List ℕ) (job : Job) (limit : ℕ) (table : List ℤ) (bounds labels : List ℕ) where
  abbrev pub check_lent : Check
  check_lent = check_peel store job limit (length table) (length bounds) (length labels)

  -- the rounds run
  abbrev pub rounds_lent : List Round
  rounds_lent = peeled job (row_count table) limit (points_of store)

  -- what the call answers: the refusal, or the rounds
  abbrev pub answer_to : List Round → Peeled
  answer_to rs = record { rounds = length rs; answers = slots_of rs }

  abbrev pub peel_answer : Result Peeled Refusal
  peel_answer = unless_refused check_lent (answer_to rounds_lent)

  -- "A point's label is the round that removed it, else 0", a byte for each record, and the buffer's rest is kept
  unfoldable pub labels_after : List ℕ
  labels_after = if_passed check_lent (over (map (round_label job.model rounds_lent) (points_of store)) labels) labels

  -- The searches run: none at a refusal.
  abbrev pub runs_lent : List Run
  runs_lent = if_passed check_lent (map (run_of job) rounds_lent) []

  -- "Where one table serves several searches, its first rows hold the last one's open boxes, and rows up to the largest peak may hold
  -- leftovers." So it is with the list of bounds. Where no search was run nothing changed.
  abbrev pub TablePeeled : List ℤ → Type 0
  TablePeeled after = SharedTable runs_lent table after

  abbrev pub BoundsPeeled : List ℕ → Type 0
  BoundsPeeled after = SharedBounds runs_lent bounds after

  -- What is shown of every accepted call.
  abbrev pub PeelingLent : Type 0
  PeelingLent = check_lent ≡ pass → Peeling job (row_count table) limit (points_of store)
