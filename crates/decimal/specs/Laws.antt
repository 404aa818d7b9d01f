-- What holds of numbers in decimal: statements, proved in proofs/Laws.
use Rattle.std.specs.Prelude.{List, ◌≡◌, ℕ, ◌+◌, ◌-◌, ◌*◌, ◌≤◌, get_or}
use Rattle.integers.specs.Integers.{minus}
use Rattle.integers.specs.Lists.{All}
use Rattle.decimal.specs.Text.{ascii, decimal, signed}

-- the number that digits stand for, behind those of m
unfoldable pub value_behind : ℕ → List ℕ → ℕ
value_behind m List.[] = m
value_behind m (List.◌∷◌ b bs) = value_behind (10 * m + (b - 48)) bs

-- The first four leave one text only for each n; the last shows a sign.
pub record DecimalLaws : Type 0 where
  -- the digits of n stand for n
  pub reads : (n : ℕ) → value_behind 0 (decimal n) ≡ n
  -- they are digits
  pub digits : (n : ℕ) → All (λ b. (48 ≤ b) × (b ≤ 57)) (decimal n)
  -- "without leading zeros": the first one is 0 for 0 alone
  pub leading : (n : ℕ) → 1 ≤ n → 49 ≤ get_or (decimal n) 0 0
  pub nought : decimal 0 ≡ ascii "0"
  -- "a negative one with - before it"
  pub lowest : signed (minus 32768) ≡ ascii "-32768"
