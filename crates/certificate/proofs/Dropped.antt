-- What is dropped has no vector that is ahead of the best, and stays dropped. Assumes nothing.
use mathlib.Core.Path.{◌≡◌, refl, subst}
use mathlib.Core.Bool.{Bool, true, false}
use mathlib.Core.List.{List}
use Prim.Native.Nat.{ℕ}
use lib.Dec.{T}
use lib.IntN.{ℤ}
use Rattle.boxes.specs.declared.Box.{Box}
use Rattle.boxes.specs.Boxes.{InBox}
use Rattle.boxes.specs.Laws.{Bounds}
use Rattle.boxes.proofs.Earlier.{low_before}
use Rattle.certificate.specs.Search.{ahead, keeps}
use Rattle.certificate.specs.Laws.{AllDropped}
use Rattle.certificate.proofs.Ahead.{ahead_lower, better_along, better_old}

-- a vector of a box that is ahead of the best keeps the box
pub kept_by_lem :
    (cost : List ℤ → ℕ) (bound : Box → ℕ) → Bounds cost bound →
    (t : ℕ) (best : List ℤ) (b : Box) (v : List ℤ) → InBox v b →
    T (ahead t (cost best) best (cost v) v) →
    T (keeps bound t (cost best) best b)
kept_by_lem cost bound laws t best b v i =
    ahead_lower t (cost best) best (cost v) v (bound b) b.low (laws.sound b v i) (low_before b v i best)

pub dropped : AllDropped
dropped cost bound laws t best b e =
    record {
      none_better = λ v i. better_old cost t best v (λ k. subst T e (kept_by_lem cost bound laws t best b v i k));
      later = λ v. fails _ (λ k. subst T e (better_along cost t best v (bound b) b.low k));
    }
  where
    fails : (x : Bool) → (T x → ⊥) → x ≡ false
    fails true h = absurd (h tt)
    fails false h = refl
