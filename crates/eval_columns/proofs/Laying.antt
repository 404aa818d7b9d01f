-- The columns of a chunk, one after the other. Assumes nothing.
use mathlib.Core.Path.{◌≡◌, refl, ap, ◌∙◌}
use mathlib.Core.List.{List, [], ◌++◌}
use mathlib.Core.Logic.{⊎_elim}
use Prim.Native.Nat.{ℕ, ◌+◌, ◌-◌, ◌≤◌, ◌<◌, min}
use native.Mathlib.Nat.{eq-or-lt_of_le}
use native.Mathlib.Omega.{arith}
use lib.ListN.{length, get_or, set, take, drop, length-set, length-append, length-take, length-drop, get_or-append}
use lib.Seq.{get_or-set_same, get_or-set_other, get_or-append_right, get_or-drop}
use lib.Ieee.{Float}
use Rattle.eval_lanes.specs.Lanes.{lane, cell}
use Rattle.points.specs.declared.Point.{Point}
use Rattle.eval_columns.specs.Columns.{field, Cast}

-- the columns of a chunk have these points, and their y as Target says
pub record ColumnsOf (point : ℕ → Point) (d : ℕ) (Target : ℕ → Float → Type 0) (s : List (List Float)) : Type 0 where
  pub column : (c k : ℕ) → c < d → c < 4 → k < 80 → Cast (cell s c k) (field c (point k))
  pub target : (k : ℕ) → k < 80 → Target k (cell s 4 k)

-- columns given new numbers, one after the other, of which P says each number's column, place and value
module _ (P : ℕ → ℕ → Float → Type 0) (old : List (List Float)) where
  -- the first n are, and the rest is as it was
  pub record Laid (n : ℕ) (s : List (List Float)) : Type 0 where
    pub long : length s ≡ length old
    pub done : (c k : ℕ) → c < n → k < 80 → P c k (cell s c k)
    pub rest : (c : ℕ) → n ≤ c → get_or s c [] ≡ get_or old c []

  pub none_laid : Laid 0 old
  none_laid = record { long = refl; done = λ c k l. absurd (omega arith); rest = λ c l. refl }

  pub one_laid : {n : ℕ} {s : List (List Float)} (xs : List Float) → n < length old → ((k : ℕ) → k < 80 → P n k (lane xs k)) → Laid n s
      → Laid (n + 1) (set s n xs)
  one_laid {n} {s} xs h new g =
      record {
        long = length-set s n xs ∙ g.long;
        done = λ c k l i. by_column c (omega arith) k i;
        rest = λ c l. get_or-set_other s n c xs [] (λ q. omega arith) ∙ g.rest c (omega arith);
      }
    where
      by_column : (c : ℕ) → c ≤ n → (k : ℕ) → k < 80 → P c k (cell (set s n xs) c k)
      by_column c l k i =
          let long = g.long in
          ⊎_elim
          (λ (q : c ≡ n). rw q (rw (get_or-set_same s n xs [] (omega arith)) (new k i)))
          (λ (q : c < n). rw (get_or-set_other s n c xs [] (λ p. omega arith)) (g.done c k q i))
          (eq-or-lt_of_le l)

-- the first n columns, and the others as they were
module _ (n : ℕ) (old s : List (List Float)) (long : length s ≡ n) where
  before : (c : ℕ) → c < n → get_or (s ++ drop n old) c [] ≡ get_or s c []
  before c l = get_or-append s (drop n old) [] c (omega arith)

  pub behind : (c : ℕ) → n ≤ c → get_or (s ++ drop n old) c [] ≡ get_or old c []
  behind c l =
      let e : n + (c - n) ≡ c = omega arith in
      get_or-append_right s (drop n old) c [] (omega arith) ∙ ap (λ (z : ℕ). get_or (drop n old) (c - z) []) long
      ∙ get_or-drop n old (c - n) [] ∙ ap (λ (z : ℕ). get_or old z []) e

-- the first columns laid, the others as they were, and y: they are the chunk
module _ {P : ℕ → ℕ → Float → Type 0} {d n i : ℕ} (old : List (List Float)) {s : List (List Float)} (ys : List Float) (few : n ≡ min d 4)
    (five : length old ≡ 5) (full : n ≤ i) (g : Laid P (take n old) i s) where
  pub all_laid : (point : ℕ → Point) (Target : ℕ → Float → Type 0)
      → ((c k : ℕ) (x : Float) → c < n → k < 80 → P c k x → Cast x (field c (point k)))
      → ((k : ℕ) → k < 80 → Target k (lane ys k)) → ColumnsOf point d Target (set (s ++ drop n old) 4 ys)
  all_laid point Target told new =
      let l = g.long in
      let long : length s ≡ n = omega (arith, length-take n old) in
      let wide : length (s ++ drop n old) ≡ 5 = omega (arith, length-append s (drop n old), length-drop n old) in
      record {
        column = λ c k a b h.
            rw (get_or-set_other (s ++ drop n old) 4 c ys [] (λ p. omega arith))
            (rw (before n old s long c (omega arith)) (told c k (cell s c k) (omega arith) h (g.done c k (omega arith) h)));
        target = λ k h. rw (get_or-set_same (s ++ drop n old) 4 ys [] (omega arith)) (new k h);
      }

  pub others_laid : (c : ℕ) → d ≤ c → c < 4 → get_or (set (s ++ drop n old) 4 ys) c [] ≡ get_or old c []
  others_laid c l m =
      let h = g.long in
      get_or-set_other (s ++ drop n old) 4 c ys [] (λ p. omega arith) ∙ behind n old s (omega (arith, length-take n old)) c (omega arith)
