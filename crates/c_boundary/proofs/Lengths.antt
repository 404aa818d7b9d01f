-- What a test of two lengths tells. Assumes nothing.
use mathlib.Core.Path.{◌≡◌, sym, subst}
use mathlib.Core.Bool.{Bool, true, ◌&&◌}
use lib.Dec.{T}
use Rattle.integers.proofs.Tests.{and_parts}

pub both : (a b : Bool) → (a && b) ≡ true → T a × T b
both a b e = and_parts a b (subst T (sym e) tt)
