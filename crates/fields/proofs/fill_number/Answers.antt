-- The zeros above eight bytes, and the last of the eight.
use Rattle.std.proofs.Common.{◌≡◌, ◌-◌, length, arith}
use Rattle.fields.proofs.Eight.{number_written}
use Rattle.fields.proofs.fill_number.Goals as goal

pub returns : goal.returns
returns c =
    let a = c.args in
    let n = length a.part.now in
    let front : n - c.min-low.result ≡ length c.split_at_mut-zeros.result.0.now = omega arith in
    rw (c.fill.ensures.after (λ y e. e), c.copy_from_slice.ensures.after, c.to_be_bytes.ensures, ← front)
    (number_written n c.min-low.result a.x c.min-low.ensures (omega arith))
