-- What is shown of the registers: statements, each proved in proofs/ under the name of its record.
use Rattle.std.specs.Prelude.{List, [], ◌∷◌, reverse, ◌≡◌, ℕ, ◌+◌, ◌/◌, ◌<◌, get_or, true, false}
use Rattle.codes.specs.Codes.{pass, within}
use Rattle.search.specs.Search.{CertifiedIn}
use Rattle.registers.specs.Runs.{check_run, found_bytes}
use Rattle.registers.specs.History.{Access, reads, writes, History, last, runs, clears, interrupts, enabled, pending}
use Rattle.registers.specs.History.{job_standing, described, described_replies}
use Rattle.registers.specs.Registers.{cleared, read_at, after, replies}

-- "For every list of reads and writes after reset, over one unchanged store, every read must give what this description gives".
abbrev pub AsDescribed : Type 0
AsDescribed =
    (store : List ℕ) (accesses : List Access) (o : ℕ) → read_at (after store cleared accesses) o ≡ described store (reverse accesses) o

abbrev pub EveryRead : Type 0
EveryRead = (store : List ℕ) (accesses : List Access) → replies store cleared accesses ≡ described_replies store [] accesses

-- "and a done answer carries the full certificate for the job record as it stood at that run": where the last run was done, what bytes 8
-- to 47 read is the record of the search of that job in its r rows, which are the lent table's, and of that search demand 3 holds.
pub record DoneCertified (store : List ℕ) (accesses : List Access) (earlier : History) (o v numbers entries : ℕ) : Type 0 where
  pub rows : numbers / 16 ≡ (job_standing earlier).rows
  pub bytes : (k : ℕ) → k < 40 → read_at (after store cleared accesses) (8 + k) ≡ get_or (found_bytes store (job_standing earlier)) k 0
  pub certificate : CertifiedIn store (job_standing earlier) (job_standing earlier).rows

abbrev pub AsCertified : Type 0
AsCertified =
    (store : List ℕ) (accesses : List Access) (earlier : History) (o v numbers entries : ℕ) →
    last runs (reverse accesses) ≡ writes o v numbers entries ∷ earlier →
    check_run store (job_standing earlier) numbers entries ≡ pass →
    DoneCertified store accesses earlier o v numbers entries

-- The sentences of the request that say what an access leaves alone, of the description itself.
pub record Sentences (store : List ℕ) (h : History) : Type 0 where
  -- "Command 3 changes byte 1 and no other byte."
  pub cleared_flags : (n e : ℕ) → described store (writes 0 3 n e ∷ h) 1 ≡ 0
  pub cleared_only : (n e o : ℕ) → (o ≡ 1 → ⊥) → described store (writes 0 3 n e ∷ h) o ≡ described store h o
  -- "other values do nothing"
  pub other_commands : (v n e o : ℕ) → (v ≡ 2 → ⊥) → (v ≡ 3 → ⊥) → described store (writes 0 v n e ∷ h) o ≡ described store h o
  -- "Only bytes 0, 2 and 64 to 135 take writes; all other writes are ignored."
  pub ignored :
      (place v n e o : ℕ) →
      (place ≡ 0 → ⊥) →
      (place ≡ 2 → ⊥) →
      within 64 place 135 ≡ false →
      described store (writes place v n e ∷ h) o ≡ described store h o
  -- a read changes nothing
  pub read_only : (place o : ℕ) → described store (reads place ∷ h) o ≡ described store h o
  -- "the interrupt becomes pending if enabled, and stays until command 3": of any access but command 3
  pub stays : (a : Access) → clears (a ∷ h) ≡ false → pending h ≡ true → pending (a ∷ h) ≡ true
  pub becomes : (n e : ℕ) → enabled h ≡ true → pending (writes 0 2 n e ∷ h) ≡ true
  pub stays_away : (a : Access) → interrupts (a ∷ h) ≡ false → pending h ≡ false → pending (a ∷ h) ≡ false
