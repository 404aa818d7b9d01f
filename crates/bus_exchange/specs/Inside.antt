-- What the functions behind an exchange say to each other.
use Rattle.std.specs.Prelude.{List, ◌≡◌, ℕ, ◌+◌, set}
use Rattle.registers.specs.Registers.{read_at, written, job_in}
use Rattle.bus_exchange.specs.declared.Progress.{Progress}
use Rattle.bus_exchange.specs.Exchange.{numbers_lent}

-- what one access leaves of the registers, the count and the buffer, by its kind
pub record Accessed
    (store : List ℕ) (entries : ℕ) (t : Progress) (kind offset value : ℕ) (out : List ℕ) (r : Progress) (after : List ℕ) : Type 0
  where
    pub kept : (kind ≡ 1 → ⊥) → r.registers ≡ t.registers
    pub wrote : kind ≡ 1 → r.registers.bytes
        ≡ written store t.registers.bytes offset value (numbers_lent (job_in t.registers.bytes).rows) entries
    pub replied : kind ≡ 0 → (r.count ≡ t.count + 1) × (after ≡ set out t.count (read_at t.registers.bytes offset))
    pub silent : (kind ≡ 0 → ⊥) → (r.count ≡ t.count) × (after ≡ out)
