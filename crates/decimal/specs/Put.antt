-- A text that is put into a buffer.
use Rattle.std.specs.Prelude.{cond, List, [], ◌++◌, ◌≡◌, ℕ, ◌+◌, ◌-◌, leb, length, take, drop}

-- It stands at a place: what stands before it is kept, and so is what stands behind it, from the place `next` on.
pub record Put (before : List ℕ) (at : ℕ) (text : List ℕ) (next : ℕ) (after : List ℕ) : Type 0 where
  pub place : next ≡ at + length text
  pub front : take next after ≡ take at before ++ text
  pub rest : drop next after ≡ drop next before
  pub long : length after ≡ length before

-- It is put only if the buffer has `most` bytes from the place on, which is as long as such a text can be; else nothing is put.
pub record PutIfRoom (most : ℕ) (before : List ℕ) (at : ℕ) (text : List ℕ) (next : ℕ) (after : List ℕ) : Type 0 where
  pub put : Put before at (cond (leb most (length before - at)) text []) next after
