-- Windows that lie in a store, by their count; what check 17 tells. Assumes nothing.
use mathlib.Core.Path.{◌≡◌}
use mathlib.Core.Bool.{◌&&◌}
use Prim.Native.Nat.{ℕ, ◌-◌, ◌/◌, ◌≤◌}
use native.Mathlib.Nat.{le-div_iff_mul-le, div-le_self}
use native.Mathlib.Omega.{arith}
use lib.Dec.{leb, leb→le}
use Rattle.codes.specs.Codes.{pass}
use Rattle.integers.proofs.Tests.{and_parts}
use Rattle.codes.specs.declared.Refusal.{Refusal}
use Rattle.codes.proofs.Checks.{passed}
use Rattle.window_checks.specs.Checks.{window_count, check_window}
use Rattle.window_checks.specs.Laws.{Inside}

-- "while they lie wholly in the store"
pub inside : Inside
unfolding window_count
inside records k h i some few = (
  λ below. omega (arith, (le-div_iff_mul-le {k = h} {x = i} {y = records - k} some).0 (omega arith)),
  λ lies. omega (arith, (le-div_iff_mul-le {k = h} {x = i} {y = records - k} some).1 (omega arith)),
)

-- there are few of them
pub quotient_few : (n h : ℕ) → n / h ≤ n
quotient_few n h = div-le_self n h

pub count_few : (records k h : ℕ) → records ≤ 4096 → window_count records k h ≤ 4097
unfolding window_count
count_few records k h few = omega (arith, div-le_self (records - k) h)

-- check 17
pub record Windowed (records k h : ℕ) : Type 0 where
  pub some : 1 ≤ k
  pub hops : 1 ≤ h
  pub few : k ≤ records

pub windowed : (records k h : ℕ) → check_window records k h ≡ pass → Windowed records k h
unfolding check_window
windowed records k h e =
    let tests = and_parts (leb 1 k) (leb 1 h && leb k records) (passed (leb 1 k && (leb 1 h && leb k records)) Refusal.Window e) in
    let others = and_parts (leb 1 h) (leb k records) tests.1 in
    record { some = leb→le 1 k tests.0; hops = leb→le 1 h others.0; few = leb→le k records others.1 }
