-- Whatever is made of sizes and never falls when one of them grows rises where all of them do; and a sum of losses is such. Assumes
-- nothing.
use mathlib.Core.List.{List, [], ◌∷◌, ◌++◌, map, append_assoc}
use Prim.Native.Nat.{ℕ, ◌≤◌}
use native.Mathlib.Omega.{arith}
use native.Mathlib.Nat.{le_refl, le_trans}
use Rattle.loss.proofs.Laws.{loss_mono}
use Rattle.ranks.specs.Laws.{Rises}
use Rattle.residuals.specs.Laws.{loss_sum}

module _ (make : List ℕ → ℕ) (rises : Rises make) {Q : Type 0} (f g : Q → ℕ) (below : (q : Q) → f q ≤ g q) where
  -- one after the other, behind those that have grown
  grown : (front : List ℕ) (qs : List Q) → make (front ++ map f qs) ≤ make (front ++ map g qs)
  grown front [] = le_refl _
  grown front (q ∷ qs) =
      le_trans (rises.grows front (map f qs) (f q) (g q) (below q))
      (rw (← append_assoc front (g q ∷ []) (map f qs), ← append_assoc front (g q ∷ []) (map g qs)) (grown (front ++ (g q ∷ [])) qs))

  pub made_mono : (qs : List Q) → make (map f qs) ≤ make (map g qs)
  made_mono qs = grown [] qs

losses_grow : (p ε : ℕ) (xs ys : List ℕ) (a b : ℕ) → a ≤ b → loss_sum p ε (xs ++ a ∷ ys) ≤ loss_sum p ε (xs ++ b ∷ ys)
unfolding loss_sum
losses_grow p ε [] ys a b h = omega (arith, loss_mono p ε h)
losses_grow p ε (x ∷ xs) ys a b h = omega (arith, losses_grow p ε xs ys a b h)

pub losses_rise : (p ε : ℕ) → Rises (loss_sum p ε)
losses_rise p ε = record { grows = losses_grow p ε }
