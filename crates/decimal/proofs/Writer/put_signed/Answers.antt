-- The sign, if there is one, and the size behind it.
use Rattle.std.proofs.Common.{◌≡◌, ◌∙◌, ap, arith}
use lib.IntN.{nat_abs}
use mir.Facts.{to_z-of_z}
use Rattle.integers.proofs.Parts.{not_negative}
use Rattle.decimal.proofs.Decimal.{size_short, signed_negative, signed_other}
use Rattle.decimal.proofs.Putting.{put_more}
use Rattle.decimal.proofs.Writer.put_signed.Goals as goal
use Rattle.decimal.proofs.Writer.put_signed.Goals.{then-w-lt0, else-w-lt0}

pub put_decimal-requires : goal.put_decimal-requires
put_decimal-requires c =
    let size : c.from.result ≡ nat_abs c.args.w = c.from.ensures ∙ c.unsigned_abs.ensures.value ∙ ap nat_abs (to_z-of_z c.ranges.w) in
    let few = size_short c.args.w c.ranges.w in
    rw size (elim c.if-w-lt0.branch [
      | then-w-lt0 w ↦ rw w.self-is (omega (arith, few, c.requires, w.put_byte.ensures.put.place, w.put_byte.ensures.put.long))
      | else-w-lt0 w ↦ rw w.self-is (omega (arith, few, c.requires))
    ])

pub returns-clause-put : goal.returns-clause-put
returns-clause-put c =
    let size : c.from.result ≡ nat_abs c.args.w = c.from.ensures ∙ c.unsigned_abs.ensures.value ∙ ap nat_abs (to_z-of_z c.ranges.w) in
    let put = rw size at c.put_decimal.ensures.put in
    let read = to_z-of_z c.ranges.w in
    elim c.if-w-lt0.branch [
      | then-w-lt0 w ↦ rw (signed_negative c.args.w (rw read at w.if-w-lt0.true)) (put_more w.put_byte.ensures.put (rw w.self-is at put))
      | else-w-lt0 w ↦ rw (signed_other c.args.w (not_negative c.args.w (rw read at w.if-w-lt0.false))) (rw w.self-is at put)
    ]

pub returns-clause-short : goal.returns-clause-short
returns-clause-short c =
    let size : c.from.result ≡ nat_abs c.args.w = c.from.ensures ∙ c.unsigned_abs.ensures.value ∙ ap nat_abs (to_z-of_z c.ranges.w) in
    let few = size_short c.args.w c.ranges.w in
    let put = rw size at c.put_decimal.ensures.put in
    elim c.if-w-lt0.branch [
      | then-w-lt0 w ↦ omega (arith, few, w.put_byte.ensures.put.place, (rw w.self-is at put).place)
      | else-w-lt0 w ↦ omega (arith, few, (rw w.self-is at put).place)
    ]
