-- Records whose frame numbers rise strictly: each is below all behind it. Assumes nothing.
use borrow.Author.Tests.{lt-ltb, le-ltb, ltb-true}
use mathlib.Core.Path.{◌≡◌, refl}
use mathlib.Core.Bool.{Bool, true, false, ◌&&◌}
use mathlib.Core.List.{List, [], ◌∷◌, map}
use mathlib.Core.Logic.{⊎_elim}
use Prim.Native.Nat.{ℕ, ◌+◌, ◌%◌, ◌≤◌, ◌<◌}
use native.Mathlib.Omega.{arith}
use lib.Dec.{ltb}
use lib.ListN.{length, take, drop}
use Rattle.integers.specs.Lists.{All, none, also}
use Rattle.integers.proofs.Lists.{all_map}
use Rattle.integers.proofs.Tests.{le_or_lt}
use Rattle.frames.specs.Walk.{from}
use Rattle.frames.specs.Frames.{frame_of, rising}
use Rattle.frames.proofs.Records.{records_next, records_end}

-- all frame numbers are over n
abbrev pub Above : ℕ → List (List ℕ) → Type 0
Above n rs = All (λ (r : List ℕ). n < frame_of r) rs

pub above_lower : {m n : ℕ} {rs : List (List ℕ)} → m < n → Above n rs → Above m rs
above_lower h = all_map (λ r k. omega arith)

pub data Rises : List (List ℕ) → Type 0 where
  nothing : Rises []
  lowest : {r : List ℕ} {rs : List (List ℕ)} → Above (frame_of r) rs → Rises rs → Rises (r ∷ rs)

pub both_true : (a b : Bool) → (a && b) ≡ true → (a ≡ true) × (b ≡ true)
both_true true b e = (refl, e)
both_true false b e = let z : ◌≡◌ {A = ℕ} 0 1 = cc in absurd (omega arith)

in_front : {r s : List ℕ} {rs : List (List ℕ)} → frame_of r < frame_of s → Rises (s ∷ rs) → Rises (r ∷ s ∷ rs)
in_front h (lowest a p) = lowest (also h (above_lower h a)) (lowest a p)

pub rises : (rs : List (List ℕ)) → rising (map frame_of rs) ≡ true → Rises rs
unfolding rising
rises [] e = nothing
rises (r ∷ []) e = lowest none nothing
rises (r ∷ s ∷ rs) e =
    let p = both_true (ltb (frame_of r) (frame_of s)) (rising (map frame_of (s ∷ rs))) e in
    in_front (ltb-true _ _ p.0) (rises (s ∷ rs) p.1)

pub rises_true : {rs : List (List ℕ)} → Rises rs → rising (map frame_of rs) ≡ true
unfolding rising
rises_true nothing = refl
rises_true (lowest none p) = refl
rises_true (lowest (also h hs) p) = rw (lt-ltb _ _ h) (rises_true p)

-- the walk through a store: behind a record with a lower frame number the next ones decide
module _ (s : List ℕ) (i : ℕ) (two : i + 24 ≤ length s) where
  here : List ℕ
  here = take 12 (drop i s)

  behind : List ℕ
  behind = take 12 (drop (i + 12) s)

  second : from s (i + 12) ≡ behind ∷ from s (i + 12 + 12)
  unfolding behind
  second = records_next s (i + 12) (omega arith)

  neighbours : from s i ≡ here ∷ behind ∷ from s (i + 12 + 12)
  unfolding here
  neighbours = rw (records_next s i (omega arith), second)

  pub rising_on :
      frame_of (take 12 (drop i s)) < frame_of (take 12 (drop (i + 12) s)) →
      rising (map frame_of (from s i)) ≡ rising (map frame_of (from s (i + 12)))
  unfolding rising here behind
  rising_on l = rw (neighbours, lt-ltb _ _ l, second)

  pub rising_not : frame_of (take 12 (drop (i + 12) s)) ≤ frame_of (take 12 (drop i s)) → rising (map frame_of (from s i)) ≡ false
  unfolding rising here behind
  rising_not l = rw (neighbours, le-ltb _ _ l)

-- at most one is left
module _ (s : List ℕ) (i : ℕ) (whole : i % 12 ≡ 0) (all : length s % 12 ≡ 0) (few : length s ≤ i + 12) where
  pub rising_end : rising (map frame_of (from s i)) ≡ true
  unfolding rising
  rising_end =
      ⊎_elim (λ h. rw (records_end s i (omega arith)))
      (λ h. rw (records_next s i (omega arith), records_end s (i + 12) (omega arith)))
      (le_or_lt (length s) i)
