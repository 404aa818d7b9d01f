-- Lent buffers of the calls for C: the values that they hold, and what they hold once they are filled.
use Rattle.std.specs.Prelude.{cond, List, ℕ, eqb, ℤ, pos, length, replicate}

-- A buffer of so many elements. Any other length is read as zeros, as a row that is not there is; no call goes on with one.
abbrev pub exactly : {A : Type 0} → ℕ → A → List A → List A
exactly k zero v = cond (eqb (length v) k) v (replicate k zero)

-- a vector is a buffer of 8 numbers
abbrev pub vector_from : List ℤ → List ℤ
vector_from v = exactly 8 (pos 0) v

-- A buffer of just as many elements takes all of them; any other is kept.
abbrev pub filled : {A : Type 0} → List A → List A → List A
filled out from = cond (eqb (length out) (length from)) from out
