-- What the registers read, by the history of accesses since reset: a line for each sentence of request 14 of document 02. Every register
-- is told by the last access that touched it; no state is carried along.
use Rattle.std.specs.Prelude.{Bool, true, false, cond, not, ◌&&◌, ◌||◌, List, [], ◌∷◌, ℕ, zero, suc, ◌+◌, ◌-◌, ◌*◌, ◌%◌, eqb, get_or, replicate}
use Rattle.codes.specs.Codes.{Check, pass, within}
use Rattle.jobs.specs.declared.Job.{Job}
use Rattle.job_records.specs.Jobs.{job_of}
use Rattle.answer_records.specs.Answers.{passing}
use Rattle.registers.specs.Runs.{check_run, found_bytes, refusal_number, record_shown}

-- An access of the bus: a read of an offset, or a write of a value to an offset, with the numbers of the table and the entries of the list
-- of bounds that are lent to it.
pub data Access : Type 0 where
  reads : ℕ → Access
  writes : (offset value numbers entries : ℕ) → Access

-- A history has the latest access first. A moment is an access with the history before it behind it.
abbrev pub History : Type 0
History = List Access

-- the last moment of a history that a test names; none if it names none
abbrev pub last : (History → Bool) → History → History
last this [] = []
last this (a ∷ h) = cond (this (a ∷ h)) (a ∷ h) (last this h)

-- whether a moment writes to a place, and what it writes
abbrev pub writes_to : ℕ → History → Bool
writes_to place [] = false
writes_to place (reads o ∷ h) = false
writes_to place (writes o v n e ∷ h) = eqb o place

abbrev pub value : History → ℕ
value [] = 0
value (reads o ∷ h) = 0
value (writes o v n e ∷ h) = v

-- the value that was last written to a place; "All bytes are 0 after reset."
abbrev pub last_value : ℕ → History → ℕ
last_value place h = value (last (writes_to place) h)

-- "Byte 0 is the command"
abbrev pub commands : ℕ → History → Bool
commands k [] = false
commands k (reads o ∷ h) = false
commands k (writes o v n e ∷ h) = eqb o 0 && eqb v k

-- "2 runs a search, 3 clears flags and interrupt, and other values do nothing"
abbrev pub runs : History → Bool
runs m = commands 2 m

abbrev pub clears : History → Bool
clears m = commands 3 m

-- f of each of n places, from one on
unfoldable pub consecutive : (ℕ → ℕ) → ℕ → ℕ → List ℕ
consecutive f o zero = []
consecutive f o (suc n) = f o ∷ consecutive f (suc o) n

-- "64 to 135 are the job record", "as it stood" at the end of a history: each byte as it was last written
unfoldable pub job_record : History → List ℕ
job_record h = consecutive (λ place. last_value place h) 64 72

abbrev pub job_standing : History → Job
job_standing h = job_of (job_record h)

-- "Byte 2 enables the interrupt by bit 0"
abbrev pub enabled : History → Bool
enabled h = eqb (last_value 2 h % 2) 1

-- byte 2: "other bits read 0"
unfoldable pub enable : History → ℕ
enable h = last_value 2 h % 2

-- a run while the interrupt is enabled
abbrev pub interrupts : History → Bool
interrupts [] = false
interrupts (a ∷ h) = runs (a ∷ h) && enabled h

-- "bit 2 interrupt pending": "the interrupt becomes pending if enabled, and stays until command 3"
abbrev pub pending : History → Bool
pending h = interrupts (last (λ m. interrupts m || clears m) h)

-- "A run sets done or refused and clears the other"; command 3 "clears flags": the last of both tells.
abbrev pub last_flagged : History → History
last_flagged h = last (λ m. runs m || clears m) h

-- a bit by whether it is set
abbrev pub bit : Bool → ℕ
bit true = 1
bit false = 0

-- "over one unchanged store"
module _ (store : List ℕ) where
  -- the check of a run, by the job record as it stood; and the record of its answer
  abbrev pub check_at : History → Check
  check_at [] = pass
  check_at (reads o ∷ h) = pass
  check_at (writes o v n e ∷ h) = check_run store (job_standing h) n e

  abbrev pub record_at : History → List ℕ
  record_at [] = replicate 40 0
  record_at (reads o ∷ h) = replicate 40 0
  record_at (writes o v n e ∷ h) = record_shown (check_run store (job_standing h) n e) (found_bytes store (job_standing h))

  -- "bit 0 done, bit 1 refused"
  abbrev pub done : History → Bool
  done h = runs (last_flagged h) && passing (check_at (last_flagged h))

  abbrev pub refused : History → Bool
  refused h = runs (last_flagged h) && not (passing (check_at (last_flagged h)))

  -- "Byte 1 holds flags"
  unfoldable pub flags : History → ℕ
  flags h = bit (done h) + 2 * bit (refused h) + 4 * bit (pending h)

  -- "Byte 3 is the last run's refusal number, 0 if it was done."
  unfoldable pub refusal : History → ℕ
  refusal h = refusal_number (check_at (last runs h))

  -- "Bytes 8 to 47 are the answer record", of the last run
  unfoldable pub answer : History → List ℕ
  answer h = record_at (last runs h)

  -- What a read of an offset gives. Byte 0 "reads 0"; "Gaps and offsets over 135 read 0."
  unfoldable pub described : History → ℕ → ℕ
  described h o =
      cond (eqb o 1) (flags h)
      (cond (eqb o 2) (enable h)
      (cond (eqb o 3) (refusal h)
      (cond (within 8 o 47) (get_or (answer h) (o - 8) 0)
      (cond (within 64 o 135) (last_value o h)
      0))))

  -- what each read of a list gives, after a history
  abbrev pub described_replies : History → List Access → List ℕ
  described_replies h [] = []
  described_replies h (reads o ∷ more) = described h o ∷ described_replies (reads o ∷ h) more
  described_replies h (writes o v n e ∷ more) = described_replies (writes o v n e ∷ h) more
