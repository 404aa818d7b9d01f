-- A number that does not equal itself is the NaN, whose pattern the definition names.
use Rattle.std.proofs.Common.{sym, ap}
use lib.Ieee.{binary32, ne, to_bits}
use lib.Ieee.Compare.{differs_from_itself}
use Rattle.coefficients.proofs.pattern.Goals as goal

pub returns-else-f : goal.returns-else-f
unfolding ne to_bits
returns-else-f c = ap (to_bits binary32) (sym (differs_from_itself c.args.f (rw c.if-f.false tt)))
