-- A record written into a lent buffer.
use Rattle.std.specs.Prelude.{List, ℕ, leb, length}
use Rattle.integers.specs.Lists.{over}
use Rattle.codes.specs.Codes.{Check, pass_if, if_passed}
use Rattle.codes.specs.declared.Refusal.TheVariants.{Short}

-- Check 10: "output too small" for a record of so many bytes.
unfoldable pub check_room : ℕ → List ℕ → Check
check_room size out = pass_if (leb size (length out)) Short

-- The buffer after a write: the record and then "the buffer's rest", which "is kept"; at a refusal nothing is written.
abbrev pub written : Check → List ℕ → List ℕ → List ℕ
written check bytes out = if_passed check (over bytes out) out
