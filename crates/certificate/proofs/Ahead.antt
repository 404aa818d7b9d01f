-- A cost and its vector, or a bound and its low vector, beside the best one: what the test says, along three, never of the best itself, and
-- of two whichever becomes best. A vector is settled where it is not ahead of the best. Assumes nothing.
use mathlib.Core.Path.{◌≡◌, refl}
use mathlib.Core.Bool.{Bool, true, false, ◌&&◌, ◌||◌, or-false}
use mathlib.Core.List.{List}
use mathlib.Core.Logic.{⊎_elim}
use Prim.Native.Nat.{ℕ, ◌≤◌, ◌<◌, min}
use native.Mathlib.Omega.{arith}
use native.Mathlib.Nat.{eq-or-lt_of_le}
use borrow.Author.Tests.{lt-ltb, le-ltb, eq-eqb, ne_eqb}
use lib.Dec.{T, T_not, ltb, eqb, ltb→lt, eqb→eq}
use lib.IntN.{ℤ}
use Rattle.integers.proofs.Tests.{by_cond, and_parts, le_or_lt}
use Rattle.boxes.specs.declared.Box.{Box}
use Rattle.boxes.specs.Boxes.{InBox, before}
use Rattle.boxes.proofs.Earlier.{before_strict, before_along}
use Rattle.certificate.specs.Search.{ahead, better}

-- what the test says
pub data Ahead (t c : ℕ) (best : List ℤ) (a : ℕ) (v : List ℤ) : Type 0 where
  less : a < c → Ahead t c best a v
  tied : t ≡ 0 → a ≡ c → T (before v best) → Ahead t c best a v

module _ (t c : ℕ) (best : List ℤ) (a : ℕ) (v : List ℤ) where
  pub is_ahead : T (ahead t c best a v) → Ahead t c best a v
  unfolding ahead
  is_ahead = by (ltb a c) (λ h. less (ltb→lt a c h))
    where
      by : (b : Bool) → (T b → Ahead t c best a v) → T (b || (eqb t 0 && eqb a c && before v best)) → Ahead t c best a v
      by true f h = f tt
      by false f h =
          let p = and_parts (eqb t 0 && eqb a c) (before v best) h in
          let q = and_parts (eqb t 0) (eqb a c) p.0 in
          tied (eqb→eq t 0 q.0) (eqb→eq a c q.1) p.1

  pub ahead_is : Ahead t c best a v → T (ahead t c best a v)
  unfolding ahead
  ahead_is (less h) = rw (lt-ltb a c h) tt
  ahead_is (tied z e h) =
      let le : c ≤ a = omega arith in
      rw (le-ltb a c le, eq-eqb t 0 z, eq-eqb a c e) h

  -- for t above 0 the numbers alone decide
  pub ahead_later : 1 ≤ t → ahead t c best a v ≡ ltb a c
  unfolding ahead
  ahead_later later = let no : t ≡ 0 → ⊥ = λ z. omega arith in rw (ne_eqb t 0 no, or-false (ltb a c))

  pub ahead_le : T (ahead t c best a v) → a ≤ c
  ahead_le h = le (is_ahead h)
    where
      le : Ahead t c best a v → a ≤ c
      le (less k) = omega arith
      le (tied z e k) = omega arith

pub ahead_never : (t c : ℕ) (best : List ℤ) → T (ahead t c best c best) → ⊥
ahead_never t c best h = never (is_ahead t c best c best h)
  where
    never : Ahead t c best c best → ⊥
    never (less k) = omega arith
    never (tied z e k) = before_strict best k

-- what is ahead of something ahead
pub ahead_along :
    (t c : ℕ) (best : List ℤ) (a : ℕ) (v : List ℤ) (b : ℕ) (u : List ℤ) →
    T (ahead t c best a v) →
    T (ahead t a v b u) →
    T (ahead t c best b u)
ahead_along t c best a v b u h k = ahead_is t c best b u (along (is_ahead t c best a v h) (is_ahead t a v b u k))
  where
    along : Ahead t c best a v → Ahead t a v b u → Ahead t c best b u
    along (less p) (less q) = less (omega arith)
    along (less p) (tied z e q) = less (omega arith)
    along (tied z e p) (less q) = less (omega arith)
    along (tied z e p) (tied w f q) = tied z (omega arith) (before_along u v best q p)

-- a smaller number, and a vector that comes before whatever v comes before
pub ahead_lower :
    (t c : ℕ) (best : List ℤ) (a : ℕ) (v : List ℤ) (b : ℕ) (u : List ℤ) →
    b ≤ a →
    (T (before v best) → T (before u best)) →
    T (ahead t c best a v) →
    T (ahead t c best b u)
ahead_lower t c best a v b u le first h = ahead_is t c best b u (lower (is_ahead t c best a v h))
  where
    lower : Ahead t c best a v → Ahead t c best b u
    lower (less p) = less (omega arith)
    lower (tied z e p) =
        ⊎_elim (λ q. tied z (omega arith) (first p)) (λ q. less (omega arith)) (eq-or-lt_of_le le)

-- a number found up to a cap that is above c tells as much
pub ahead_capped :
    (t c : ℕ) (best : List ℤ) (a : ℕ) (v : List ℤ) (cap : ℕ) →
    c < cap →
    ahead t c best (min a cap) v ≡ ahead t c best a v
ahead_capped t c best a v cap above =
    same_tests (ahead t c best (min a cap) v) (ahead t c best a v)
    (λ h. ahead_is t c best a v (uncap (is_ahead t c best (min a cap) v h)))
    (λ h. ahead_lower t c best a v (min a cap) v (omega arith) (λ k. k) h)
  where
    uncap : Ahead t c best (min a cap) v → Ahead t c best a v
    uncap (less h) = less (omega arith)
    uncap (tied z e h) = tied z (omega arith) h

    same_tests : (x y : Bool) → (T x → T y) → (T y → T x) → x ≡ y
    same_tests true true f g = refl
    same_tests true false f g = absurd (f tt)
    same_tests false true f g = absurd (g tt)
    same_tests false false f g = refl

-- v need not be looked at: it is not ahead of the best vector
abbrev pub Settled : (List ℤ → ℕ) → ℕ → List ℤ → List ℤ → Type 0
Settled cost t best v = T (ahead t (cost best) best (cost v) v) → ⊥

module _ (cost : List ℤ → ℕ) (t : ℕ) (best v : List ℤ) where
  pub settled_le : Settled cost t best v → cost best ≤ cost v
  settled_le s =
      ⊎_elim (λ h. h) (λ h. absurd (s (ahead_is t (cost best) best (cost v) v (less h)))) (le_or_lt (cost best) (cost v))

  -- what is ahead of the best one after v was tried was so before
  pub better_along :
      (a : ℕ) (u : List ℤ) → T (ahead t (cost (better cost t best v)) (better cost t best v) a u) →
      T (ahead t (cost best) best a u)
  unfolding better
  better_along a u =
      by_cond (λ w. T (ahead t (cost w) w a u) → T (ahead t (cost best) best a u)) (ahead t (cost best) best (cost v) v)
      (λ h k. ahead_along t (cost best) best (cost v) v a u h k) (λ h k. k)

  -- so what was settled stays so
  pub better_stays : (u : List ℤ) → Settled cost t best u → Settled cost t (better cost t best v) u
  better_stays u s k = s (better_along (cost u) u k)

  -- and so is the one that was looked at
  pub better_new : Settled cost t (better cost t best v) v
  unfolding better
  better_new =
      by_cond (λ w. Settled cost t w v) (ahead t (cost best) best (cost v) v) (λ h. ahead_never t (cost v) v)
      (λ h. T_not (ahead t (cost best) best (cost v) v) h)

  -- which does not become best
  pub better_old : Settled cost t best v → better cost t best v ≡ best
  unfolding better
  better_old s = by_cond (λ w. w ≡ best) (ahead t (cost best) best (cost v) v) (λ h. absurd (s h)) (λ h. refl)

  -- what is best after it was tried costs no more
  pub better_le : cost (better cost t best v) ≤ cost best
  unfolding better
  better_le =
      by_cond (λ w. cost w ≤ cost best) (ahead t (cost best) best (cost v) v) (ahead_le t (cost best) best (cost v) v) (λ h. omega arith)

  pub better_in : (box : Box) → InBox best box → InBox v box → InBox (better cost t best v) box
  unfolding better
  better_in box p q = by_cond (λ w. InBox w box) (ahead t (cost best) best (cost v) v) (λ h. q) (λ h. p)

-- Of two vectors that are tried neither becomes best, where what is best then is not ahead of what was.
module _ (cost : List ℤ → ℕ) (t : ℕ) (best : List ℤ) where
  none_more :
      (one u : List ℤ) → (Settled cost t best one → one ≡ best) → (Settled cost t best u → Settled cost t one u) →
      Settled cost t best (better cost t one u) → better cost t one u ≡ best
  unfolding better
  none_more one u same stays =
      by_cond (λ w. Settled cost t best w → w ≡ best) (ahead t (cost one) one (cost u) u) (λ h s. absurd (stays s h)) (λ h. same)

  pub none_better : (v u : List ℤ) → Settled cost t best (better cost t (better cost t best v) u)
      → better cost t (better cost t best v) u ≡ best
  none_better v u =
      none_more (better cost t best v) u (none_more best v (λ s. refl) (λ s. s)) (better_stays cost t best v u)
