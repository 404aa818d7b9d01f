-- A buffer of the right length is what is read from it, and holds what it is filled with. Assumes nothing.
use mathlib.Core.Path.{◌≡◌, refl}
use mathlib.Core.List.{List}
use Prim.Native.Nat.{ℕ}
use borrow.Author.Tests.{eq-eqb}
use lib.IntN.{ℤ, pos}
use lib.ListN.{length}
use Rattle.c_buffers.specs.Buffers.{exactly, vector_from, filled}

pub exactly_all : {A : Type 0} (k : ℕ) (z : A) (v : List A) → length v ≡ k → exactly k z v ≡ v
exactly_all k z v long = rw (eq-eqb (length v) k long) refl

pub vector_from_lem : (v : List ℤ) → length v ≡ 8 → vector_from v ≡ v
vector_from_lem = exactly_all 8 (pos 0)

pub filled_whole : {A : Type 0} (out from : List A) → length out ≡ length from → filled out from ≡ from
filled_whole out from same = rw (eq-eqb (length out) (length from) same) refl
