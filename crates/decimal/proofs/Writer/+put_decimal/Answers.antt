-- The digits of n / 10 are put first, then the last digit behind them.
use Rattle.std.proofs.Common.{◌≡◌, ◌+◌, ◌/◌, ◌%◌, ◌≤◌, ◌∙◌, ℕ, ap, arith, length, length-append}
use Rattle.decimal.specs.Text.{byte, decimal}
use Rattle.decimal.proofs.Decimal.{decimal_more}
use Rattle.decimal.proofs.Putting.{put_more}
use Rattle.decimal.proofs.Writer.+put_decimal.Goals as goal

-- one digit less in front
front_length : (n : ℕ) → 10 ≤ n → length (decimal n) ≡ length (decimal (n / 10)) + 1
front_length n wide = ap length (decimal_more n wide) ∙ length-append (decimal (n / 10)) (byte (48 + n % 10))

pub put_decimal-requires : goal.put_decimal-requires
put_decimal-requires t c = (omega arith, omega (arith, front_length c.args.n (omega arith), c.requires))

pub put_byte-requires-else-n-lt10 : goal.put_byte-requires-else-n-lt10
put_byte-requires-else-n-lt10 t c =
    let put = c.put_decimal.ensures.put in
    omega (arith, front_length c.args.n (omega arith), c.requires, put.place, put.long)

pub returns-else-n-lt10-clause-put : goal.returns-else-n-lt10-clause-put
returns-else-n-lt10-clause-put t c =
    rw (decimal_more c.args.n (omega arith)) (put_more c.put_decimal.ensures.put c.put_byte-else-n-lt10.ensures.put)
