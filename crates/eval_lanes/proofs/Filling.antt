-- A loop that gives numbers new values in place, one after the other, from place p on. Assumes nothing.
use mathlib.Core.Path.{◌≡◌, refl, sym, ◌∙◌, subst, subst₂}
use mathlib.Core.List.{List}
use mathlib.Core.Logic.{⊎_elim}
use Prim.Native.Nat.{ℕ, ◌+◌, ◌≤◌, ◌<◌}
use native.Mathlib.Nat.{eq-or-lt_of_le, le_refl}
use native.Mathlib.Omega.{arith}
use lib.ListN.{length, set, length-set}
use lib.Seq.{get_or-set_same, get_or-set_other}
use lib.Ieee.{Float, nan}
use Rattle.integers.proofs.Tests.{le_or_lt}
use Rattle.eval_lanes.specs.Lanes.{lane}
use Rattle.eval_lanes.specs.Inside.{Filled}

pub none_filled : (p : ℕ) (R : ℕ → Float → Float → Type 0) (old : List Float) → Filled p R old p old
none_filled p R old =
    record { begun = omega arith; long = refl; done = λ k l m. absurd (omega arith); front = λ k l. refl; rest = λ k l. refl }

pub one_filled : {p : ℕ} {R : ℕ → Float → Float → Type 0} {old xs : List Float} {i : ℕ} (x : Float) → Filled p R old i xs → i < length old
    → R i (lane xs i) x → Filled p R old (i + 1) (set xs i x)
one_filled {p} {R} {old} {xs} {i} x g h r =
    let n = g.long in
    let b = g.begun in
    record {
      begun = omega arith;
      long = length-set xs i x ∙ n;
      done = λ k l m. by_place k l (omega arith);
      front = λ k l. get_or-set_other xs i k x nan (λ q. omega arith) ∙ g.front k l;
      rest = λ k l. get_or-set_other xs i k x nan (λ q. omega arith) ∙ g.rest k (omega arith);
    }
  where
    here : R i (lane old i) (lane (set xs i x) i)
    here = let n = g.long in subst₂ (R i) (g.rest i (le_refl i)) (sym (get_or-set_same xs i x nan (omega arith))) r

    by_place : (k : ℕ) → p ≤ k → k ≤ i → R k (lane old k) (lane (set xs i x) k)
    by_place k b l =
        ⊎_elim
        (λ (q : k ≡ i). subst (λ (j : ℕ). R j (lane old j) (lane (set xs i x) j)) (sym q) here)
        (λ (q : k < i). subst (R k (lane old k)) (sym (get_or-set_other xs i k x nan (λ p. omega arith))) (g.done k b q))
        (eq-or-lt_of_le l)

-- a loop from the first to the n-th is done
pub all_filled : {R : ℕ → Float → Float → Type 0} {old xs : List Float} {i n : ℕ} → Filled 0 R old i xs → n ≤ i → (k : ℕ) → k < n
    → R k (lane old k) (lane xs k)
all_filled g h k l = g.done k (omega arith) (omega arith)

-- one loop after the other, where R does not ask what a number was
pub also_filled : {p q r : ℕ} {R : ℕ → Float → Type 0} {old mid xs : List Float} → Filled p (λ k a b. R k b) old q mid
    → Filled q (λ k a b. R k b) mid r xs → Filled p (λ k a b. R k b) old r xs
also_filled {p} {q} {R = R} {old} {mid} {xs} g h =
    let b = g.begun in
    let d = h.begun in
    record {
      begun = omega arith;
      long = h.long ∙ g.long;
      done =
          λ k l m. ⊎_elim (λ (i : q ≤ k). h.done k i m) (λ (i : k < q). subst (R k) (sym (h.front k i)) (g.done k l i)) (le_or_lt q k);
      front = λ k l. h.front k (omega arith) ∙ g.front k l;
      rest = λ k l. h.rest k l ∙ g.rest k (omega arith);
    }

-- what R says, in other words
pub told_filled : {p i : ℕ} {R S : ℕ → Float → Float → Type 0} {old xs : List Float}
    → ((k : ℕ) → p ≤ k → k < i → (a b : Float) → R k a b → S k a b) → Filled p R old i xs → Filled p S old i xs
told_filled {old = old} {xs = xs} f g =
    record {
      begun = g.begun;
      long = g.long;
      done = λ k l m. f k l m (lane old k) (lane xs k) (g.done k l m);
      front = g.front;
      rest = g.rest;
    }

-- the place that a loop has come to, by another name
pub until_filled : {p i j : ℕ} {R : ℕ → Float → Float → Type 0} {old xs : List Float} → i ≡ j → Filled p R old i xs → Filled p R old j xs
until_filled {p} {R = R} {old} {xs} e g = subst (λ (k : ℕ). Filled p R old k xs) e g
