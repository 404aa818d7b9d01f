-- A part of a column, filled by itself and laid back. Assumes nothing.
use mathlib.Core.Path.{◌≡◌, sym, ap, ◌∙◌, subst}
use mathlib.Core.List.{List, ◌++◌}
use mathlib.Core.Logic.{⊎_elim}
use Prim.Native.Nat.{ℕ, ◌+◌, ◌-◌, ◌≤◌, ◌<◌}
use native.Mathlib.Omega.{arith}
use lib.ListN.{length, take, drop, length-append, length-take, length-drop, get_or-append}
use lib.Seq.{get_or-append_right, get_or-take, get_or-drop}
use lib.Ieee.{Float, nan}
use Rattle.integers.proofs.Tests.{le_or_lt}
use Rattle.eval_lanes.specs.Lanes.{lane}
use Rattle.eval_lanes.specs.Inside.{Filled}

-- a part of its own, whose numbers R speaks of by their places in the whole, put behind those that are done
pub part_filled : {p n m : ℕ} {R : ℕ → Float → Type 0} {old xs : List Float} (ys : List Float) → Filled 0 (λ k a b. R k b) old p xs
    → p + n ≤ length old → length ys ≡ n → m ≡ n → ((k : ℕ) → k < n → R (p + k) (lane ys k))
    → Filled 0 (λ k a b. R k b) old (p + n) (take p xs ++ (ys ++ drop m (drop p xs)))
part_filled {p} {n} {m} {R} {old} {xs} ys g room e f w =
    let long = g.long in
    record {
      begun = omega arith;
      long = omega (arith, first, length-append (take p xs) tail, length-append ys rest, length-drop m (drop p xs), length-drop p xs);
      done =
          λ k l m. ⊎_elim
          (λ (i : p ≤ k). subst (R k) (sym (behind k i ∙ get_or-append ys rest nan (k - p) (omega arith)))
          (let i : p + (k - p) ≡ k = omega arith in subst (λ (j : ℕ). R j (lane ys (k - p))) i (w (k - p) (omega arith))))
          (λ (i : k < p). subst (R k) (sym (get_or-append (take p xs) tail nan k (omega (arith, first)) ∙ get_or-take p xs k nan i)) (g.done k l i))
          (le_or_lt p k);
      front = λ k l. absurd (omega arith);
      rest = λ k l.
          let i : m + (k - p - m) ≡ k - p = omega arith in
          let j : p + (k - p) ≡ k = omega arith in
          behind k (omega arith) ∙ get_or-append_right ys rest (k - p) nan (omega arith)
          ∙ ap (λ (z : ℕ). lane rest (k - p - z)) (e ∙ sym f)
          ∙ get_or-drop m (drop p xs) (k - p - m) nan ∙ ap (lane (drop p xs)) i ∙ get_or-drop p xs (k - p) nan ∙ ap (lane xs) j
          ∙ g.rest k (omega arith);
    }
  where
    rest : List Float
    rest = drop m (drop p xs)

    tail : List Float
    tail = ys ++ rest

    first : length (take p xs) ≡ p
    first = let long = g.long in omega (arith, length-take p xs)

    behind : (k : ℕ) → p ≤ k → lane (take p xs ++ tail) k ≡ lane tail (k - p)
    behind k i = get_or-append_right (take p xs) tail k nan (omega (arith, first)) ∙ ap (λ (z : ℕ). lane tail (k - z)) first
