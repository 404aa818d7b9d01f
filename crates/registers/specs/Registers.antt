-- The 136 register bytes: what an access does to them, and what a read of them gives, whatever they hold.
use Rattle.std.specs.Prelude.{cond, ◌||◌, List, [], ◌∷◌, ◌++◌, ℕ, ◌+◌, ◌*◌, ◌/◌, ◌%◌, eqb, get_or, set, take, drop, replicate}
use Rattle.codes.specs.Codes.{Check, if_passed, within}
use Rattle.jobs.specs.declared.Job.{Job}
use Rattle.job_records.specs.Jobs.{job_of}
use Rattle.registers.specs.History.{Access, reads, writes, bit}
use Rattle.registers.specs.Runs.{check_run, found_bytes, refusal_number, record_shown}

-- "All bytes are 0 after reset."
abbrev pub cleared : List ℕ
cleared = replicate 136 0

-- what a read gives
unfoldable pub read_at : List ℕ → ℕ → ℕ
read_at s o =
    cond (eqb o 1) (get_or s 1 0 % 8)
    (cond (eqb o 2) (get_or s 2 0 % 2)
    (cond (eqb o 3) (get_or s 3 0)
    (cond (within 8 o 47) (get_or s o 0)
    (cond (within 64 o 135) (get_or s o 0)
    0))))

-- the job record in the registers
abbrev pub job_in : List ℕ → Job
job_in s = job_of (drop 64 s)

-- byte 1 after a run: done or refused, and pending if it was or if the interrupt is enabled
unfoldable pub flags_after : Check → ℕ → ℕ → ℕ
flags_after check before enable = if_passed check 1 2 + 4 * bit (eqb (before / 4 % 2) 1 || eqb (enable % 2) 1)

-- the registers with a run's flags, refusal number and record
unfoldable pub with_run : List ℕ → Check → List ℕ → List ℕ
with_run s check shown =
    set (set (take 8 s ++ (shown ++ drop 48 s)) 3 (refusal_number check)) 1 (flags_after check (get_or s 1 0) (get_or s 2 0))

module _ (store : List ℕ) where
  -- command 2: a run with the job record in the registers
  unfoldable pub ran : List ℕ → ℕ → ℕ → List ℕ
  ran s numbers entries =
      let check = check_run store (job_in s) numbers entries in
      with_run s check (record_shown check (found_bytes store (job_in s)))

  -- "2 runs a search, 3 clears flags and interrupt, and other values do nothing"
  unfoldable pub commanded : List ℕ → ℕ → ℕ → ℕ → List ℕ
  commanded s value numbers entries = cond (eqb value 2) (ran s numbers entries) (cond (eqb value 3) (set s 1 0) s)

  -- "Only bytes 0, 2 and 64 to 135 take writes; all other writes are ignored."
  unfoldable pub written : List ℕ → ℕ → ℕ → ℕ → ℕ → List ℕ
  written s offset value numbers entries =
      cond (eqb offset 0) (commanded s value numbers entries)
      (cond (eqb offset 2) (set s 2 (value % 2)) (cond (within 64 offset 135) (set s offset value) s))

  -- the registers after an access
  abbrev pub step : List ℕ → Access → List ℕ
  step s (reads o) = s
  step s (writes o v n e) = written s o v n e

  -- and after each of a list of them, the earliest first
  abbrev pub after : List ℕ → List Access → List ℕ
  after s [] = s
  after s (a ∷ more) = after (step s a) more

  -- what each read of a list gives
  abbrev pub replies : List ℕ → List Access → List ℕ
  replies s [] = []
  replies s (reads o ∷ more) = read_at s o ∷ replies s more
  replies s (writes o v n e ∷ more) = replies (written s o v n e) more
