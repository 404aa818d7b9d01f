-- Labels after a round, one after the other: those before place i are done. Assumes nothing.
use mathlib.Core.Path.{◌≡◌, refl, sym, ap, ap₂, ◌∙◌}
use mathlib.Core.Bool.{Bool, true, false, cond, ◌&&◌}
use mathlib.Core.List.{List, [], ◌∷◌, ◌++◌}
use mathlib.Core.Logic.{⊎_elim}
use Prim.Native.Nat.{ℕ, ◌+◌, ◌≤◌, ◌<◌, min}
use native.Mathlib.Numerals.{add-one}
use native.Mathlib.Omega.{arith}
use lib.Dec.{eqb}
use lib.ListN.{length, take, drop, set, get_or, length-set, take-append-drop, drop_of_length-le}
use lib.Seq.{drop-cons, take-suc-set, drop-set-lt, append_snoc}
use Rattle.integers.proofs.Tests.{le_or_lt}
use Rattle.points_left.specs.Left.{relabel, relabelled, relabels}

-- without marks nothing changes
pub no_marks : (k : ℕ) (ls : List ℕ) → (relabelled k ls [] ≡ ls) × (relabels ls [] ≡ 0)
unfolding relabelled relabels
no_marks k [] = (refl, refl)
no_marks k (l ∷ ls) = (refl, refl)

pub at_most_one : (b : Bool) → cond b 1 0 ≤ 1
at_most_one true = omega arith
at_most_one false = omega arith

module _ (k : ℕ) (old marks : List ℕ) where
  pub record Marked (removed i : ℕ) (labels : List ℕ) : Type 0 where
    pub few : i ≤ min (length old) (length marks)
    pub long : length labels ≡ length old
    pub within : removed ≤ i
    pub all : take i labels ++ relabelled k (drop i labels) (drop i marks) ≡ relabelled k old marks
    pub count : removed + relabels (drop i labels) (drop i marks) ≡ relabels old marks

  pub none_marked : Marked 0 0 old
  none_marked = record { few = omega arith; long = refl; within = omega arith; all = refl; count = omega arith }

  pub one_marked : (removed i : ℕ) (labels : List ℕ) (label one : ℕ) → i < min (length old) (length marks) →
      label ≡ relabel k (get_or labels i 0) (get_or marks i 0) →
      one ≡ cond (eqb (get_or labels i 0) 0 && eqb (get_or marks i 0) 1) 1 0 →
      Marked removed i labels →
      Marked (removed + one) (i + 1) (set labels i label)
  unfolding relabelled relabels
  one_marked removed i labels label one h e w g =
      let room : i < length labels = omega (arith, g.long) in
      let here : drop i labels ≡ get_or labels i 0 ∷ drop (i + 1) labels = drop-cons labels i 0 room ∙ rw (add-one i) refl in
      let mark : drop i marks ≡ get_or marks i 0 ∷ drop (i + 1) marks = drop-cons marks i 0 (omega arith) ∙ rw (add-one i) refl in
      let later : drop (i + 1) (set labels i label) ≡ drop (i + 1) labels = drop-set-lt (i + 1) labels i label (omega arith) in
      let done : take (i + 1) (set labels i label) ≡ take i labels ++ (label ∷ []) = rw (add-one i) (take-suc-set labels i label room) in
      record {
        few = omega arith;
        long = length-set labels i label ∙ g.long;
        within = omega (arith, g.within, w, at_most_one (eqb (get_or labels i 0) 0 && eqb (get_or marks i 0) 1));
        all =
            rw (later, done, append_snoc (take i labels) label (relabelled k (drop (i + 1) labels) (drop (i + 1) marks)), e)
            (ap (λ (l : List ℕ). take i labels ++ l) (sym (ap₂ (relabelled k) here mark)) ∙ g.all);
        count = rw later (omega (arith, w, ap₂ relabels here mark, g.count));
      }

  ended : (i : ℕ) (labels : List ℕ) → length labels ≡ length old → min (length old) (length marks) ≤ i →
      (relabelled k (drop i labels) (drop i marks) ≡ drop i labels) × (relabels (drop i labels) (drop i marks) ≡ 0)
  unfolding relabelled relabels
  ended i labels long h =
      ⊎_elim
      (λ g.
      let end : drop i labels ≡ [] = drop_of_length-le labels {i = i} (omega (arith, long)) in
      (rw end refl, rw end refl))
      (λ g.
      let end : drop i marks ≡ [] = drop_of_length-le marks {i = i} (omega arith) in
      (rw end (no_marks k (drop i labels)).0, rw end (no_marks k (drop i labels)).1))
      (le_or_lt (length old) i)

  pub all_marked : (removed i : ℕ) (labels : List ℕ) → min (length old) (length marks) ≤ i → Marked removed i labels →
      (removed ≡ relabels old marks) × (labels ≡ relabelled k old marks)
  all_marked removed i labels h g =
      let end = ended i labels g.long h in
      (omega (arith, g.count, end.1), sym (take-append-drop i labels) ∙ ap (λ (l : List ℕ). take i labels ++ l) (sym end.0) ∙ g.all)
