-- What the test of lengths of a call for ranges tells. Assumes nothing.
use mathlib.Core.Path.{◌≡◌}
use mathlib.Core.Bool.{true, ◌&&◌}
use Prim.Native.Nat.{ℕ}
use lib.Dec.{eqb, eqb→eq}
use Rattle.integers.proofs.Tests.{and_parts}
use Rattle.c_boundary.proofs.Lengths.{both}
use Rattle.c_ranges.specs.Calls.{ranges_lengths}

pub ranges_lengths_lem : (corners start patterns cases numbers : ℕ) → ranges_lengths corners start patterns cases numbers ≡ true
    → (patterns ≡ 16) × (cases ≡ 8) × (numbers ≡ 3)
ranges_lengths_lem corners start patterns cases numbers right =
    let given = eqb corners 16 && eqb start 8 in
    let p = eqb patterns 16 in
    let c = eqb cases 8 in
    let all = both (given && p && c) (eqb numbers 3) right in
    let most = and_parts (given && p) c all.0 in
    (eqb→eq patterns 16 (and_parts given p most.0).1, eqb→eq cases 8 most.1, eqb→eq numbers 3 all.1)
