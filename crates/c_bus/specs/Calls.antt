-- The registers through the C interface, in a buffer of 136 bytes. A refused run is told by the registers, not by the code.
use Rattle.std.specs.Prelude.{Bool, true, false, List, ◌≡◌, ℕ, eqb, ℤ, length, Ok}
use Rattle.c_boundary.specs.Boundary.{Call, if_lengths, if_accepted}
use Rattle.registers.specs.Registers.{read_at, written}
use Rattle.bus_registers.specs.Written.{TableWritten, BoundsWritten, WriteCertified}

abbrev pub registers_right : List ℕ → Bool
registers_right registers = eqb (length registers) 136

-- a call that answers no number
abbrev pub registers_call : List ℕ → Call
registers_call registers = if_lengths (registers_right registers) (Ok 0)

-- a read answers the byte at the offset
abbrev pub read_call : List ℕ → ℕ → Call
read_call registers offset = if_lengths (registers_right registers) (Ok (read_at registers offset))

-- a write, and what is lent afterwards: as it was where the length is wrong
module _ (registers : List ℕ) (offset value : ℕ) (store : List ℕ) (table : List ℤ) (bounds : List ℕ) where
  abbrev pub registers_after_write : List ℕ
  registers_after_write =
      if_accepted (registers_call registers) (written store registers offset value (length table) (length bounds)) registers

  pub record TableAfterWrite (after : List ℤ) : Type 0 where
    pub taken : registers_right registers ≡ true → TableWritten registers offset value store table bounds after
    pub kept : registers_right registers ≡ false → after ≡ table

  pub record BoundsAfterWrite (after : List ℕ) : Type 0 where
    pub taken : registers_right registers ≡ true → BoundsWritten registers offset value store table bounds after
    pub kept : registers_right registers ≡ false → after ≡ bounds

  abbrev pub CertifiedWrite : List ℕ → Type 0
  CertifiedWrite after = WriteCertified registers offset value store table bounds after
