-- What a code tells: 0 is a value's alone, and a refusal's number and record can be taken apart. Assumes nothing.
use mathlib.Core.Path.{◌≡◌, refl}
use mathlib.Core.Bool.{Bool, true, false, cond, ◌&&◌}
use mathlib.Core.List.{List, [], ◌∷◌}
use Prim.Native.Nat.{ℕ, suc, ◌+◌, ◌/◌, ◌%◌, ◌≤◌, ◌<◌}
use native.Mathlib.Omega.{arith}
use lib.Dec.{leb, eqb, leb→le}
use lib.ListN.{length, drop}
use Rattle.std.specs.Prelude.{Ok, Err}
use Rattle.integers.specs.Integers.{all_zero}
use Rattle.integers.proofs.Tests.{and_parts}
use Rattle.codes.specs.declared.Refusal.{Refusal}
use Rattle.codes.specs.declared.Refusal.TheVariants.{Length, Shape, Scale, Loss, Box, Start, Stray, Table, Answer, Short, Beacon, OffGrid}
use Rattle.codes.specs.declared.Refusal.TheVariants.{Rounds, Bounds, Order, Clash, Window, Jobs}
use Rattle.codes.specs.Codes.{Check, Outcome, pass, number_of, within}
use Rattle.codes.proofs.Checks.{passed}
use Rattle.points.specs.declared.Point.{Point}
use Rattle.points.specs.Points.{xs, points_of, check_store, stray_from, check_stray}
use Rattle.points.proofs.Laws.{points_length}
use Rattle.c_boundary.specs.Boundary.{answered, code_of, if_accepted}
use Rattle.c_boundary.specs.Laws.{Told}

-- the papers' numbers are 1 to 18
numbered : (r : Refusal) → (1 ≤ number_of r) × (number_of r ≤ 18)
numbered Length = (omega arith, omega arith)
numbered Shape = (omega arith, omega arith)
numbered Scale = (omega arith, omega arith)
numbered Loss = (omega arith, omega arith)
numbered Box = (omega arith, omega arith)
numbered Start = (omega arith, omega arith)
numbered (Stray record-number) = (omega arith, omega arith)
numbered Table = (omega arith, omega arith)
numbered Answer = (omega arith, omega arith)
numbered Short = (omega arith, omega arith)
numbered Beacon = (omega arith, omega arith)
numbered OffGrid = (omega arith, omega arith)
numbered Rounds = (omega arith, omega arith)
numbered Bounds = (omega arith, omega arith)
numbered Order = (omega arith, omega arith)
numbered Clash = (omega arith, omega arith)
numbered Window = (omega arith, omega arith)
numbered Jobs = (omega arith, omega arith)

-- no refusal has the code 0
pub refusal_not_0 : (r : Refusal) → code_of (answered (Err r)) ≡ 0 → ⊥
refusal_not_0 r e = let n = numbered r in omega arith

outcome_apart : (o : Outcome) → code_of (answered o) ≡ 255 → ⊥
outcome_apart (Ok v) e = omega arith
outcome_apart (Err r) e = let n = numbered r in omega arith

-- at 0 lent memory holds what the call gives
pub given_at_0 : {A : Type 0} (o : Outcome) (given held : A) → code_of (answered o) ≡ 0 → if_accepted (answered o) given held ≡ given
given_at_0 (Ok v) given held e = refl
given_at_0 (Err r) given held e = absurd (refusal_not_0 r e)

-- a stray record is one of those looked at
module _ (d k : ℕ) where
  first_or_later : (i n : ℕ) (clear : Bool) (later : Check) → (later ≡ Err (Stray k) → k < suc i + n)
      → cond clear later (Err (Stray i)) ≡ Err (Stray k) → k < i + suc n
  first_or_later i n true later inside e = let h = inside e in omega arith
  first_or_later i n false later inside e = let same : i ≡ k = cc in omega arith

  stray_inside : (i : ℕ) (qs : List Point) → stray_from d i qs ≡ Err (Stray k) → k < i + length qs
  unfolding stray_from
  stray_inside i [] e = let z : ◌≡◌ {A = ℕ} 0 1 = cc in absurd (omega arith)
  stray_inside i (q ∷ qs) e = first_or_later i (length qs) (all_zero (drop d (xs q))) (stray_from d (suc i) qs) (stray_inside (suc i) qs) e

-- "A store is 1 to 4,096 records"
few_records : (bytes : ℕ) → check_store bytes ≡ pass → bytes / 12 ≤ 4096
unfolding check_store
few_records bytes e =
    let long = within 1 bytes 49152 in
    let whole = eqb (bytes % 12) 0 in
    let tests = and_parts long whole (passed (long && whole) Length e) in
    let most = leb→le bytes 49152 (and_parts (leb 1 bytes) (leb bytes 49152) tests.0).1 in
    omega arith

stray_few : (store : List ℕ) (d k : ℕ) → check_store (length store) ≡ pass → check_stray d (points_of store) ≡ Err (Stray k) → k < 4096
unfolding check_stray points_of
stray_few store d k accepted stray =
    let inside = stray_inside d k 0 _ stray in
    omega (arith, points_length store (length store / 12), few_records (length store) accepted)

pub told : Told
told =
    record {
      number = λ r. let n = numbered r in omega arith;
      stray = λ store d k accepted stray. let few = stray_few store d k accepted stray in omega arith;
      apart = outcome_apart;
    }
