-- The sizes of chunks, found one after the other in lanes that are set to a number that no size reaches. Assumes nothing.
use mathlib.Core.Path.{◌≡◌, refl, sym, ap, ◌∙◌, subst}
use mathlib.Core.Bool.{Bool}
use mathlib.Core.List.{List, [], ◌∷◌, ◌++◌}
use mathlib.Core.Logic.{⊎_elim}
use Prim.Native.Nat.{ℕ, ◌+◌, ◌^◌, ◌≤◌, ◌<◌}
use native.Mathlib.Omega.{arith}
use lib.ListN.{length, get_or, set, replicate, length-set, length-append, get_or-append}
use lib.Seq.{get_or-set_same, get_or-set_other, get_or-append_seam}
use lib.Ieee.{Float}
use Rattle.integers.proofs.Tests.{le_or_lt}
use Rattle.eval_lanes.specs.Lanes.{lane}
use Rattle.jobs.specs.declared.Model.{Model}
use Rattle.eval_columns.specs.Columns.{ChunkOf}
use Rattle.eval_kernel.specs.Kernel.{chunk_size}

-- of n chunks the first t have the sizes that f gives
pub record Sized (n : ℕ) (f : ℕ → ℕ → Float) (kept : List (List Float)) (t : ℕ) : Type 0 where
  pub long : length kept ≡ n
  pub sizes : (i : ℕ) → i < t → (k : ℕ) → k < 80 → lane (get_or kept i []) k ≡ f i k

pub none_sized : (f : ℕ → ℕ → Float) (kept : List (List Float)) → Sized (length kept) f kept 0
none_sized f kept = record { long = refl; sizes = λ i h. absurd (omega arith) }

module _ {n : ℕ} (f : ℕ → ℕ → Float) (kept : List (List Float)) (t : ℕ) (before : Sized n f kept t) where
  -- for sizes that are the same so far
  pub same_sized : (g : ℕ → ℕ → Float) → ((i : ℕ) → i < t → (k : ℕ) → f i k ≡ g i k) → Sized n g kept t
  same_sized g same = record { long = before.long; sizes = λ i h k l. before.sizes i h k l ∙ same i h k }

  module _ (r : List Float) where
    -- what is written at t changes none before
    pub still_sized : Sized n f (set kept t r) t
    still_sized =
        record {
          long = length-set kept t r ∙ before.long;
          sizes = λ i h k l.
              ap (λ (xs : List Float). lane xs k) (get_or-set_other kept t i r [] (λ (e : i ≡ t). omega arith)) ∙ before.sizes i h k l;
        }

    pub one_sized : t < n → ((k : ℕ) → k < 80 → lane r k ≡ f t k) → Sized n f (set kept t r) (t + 1)
    one_sized inside here =
        record {
          long = still_sized.long;
          sizes = λ i h k l.
              ⊎_elim
              (λ (g : t ≤ i).
              let e : i ≡ t = omega arith in
              rw e (ap (λ (xs : List Float). lane xs k) (get_or-set_same kept t r [] (omega (arith, before.long))) ∙ here k l))
              (λ (g : i < t). still_sized.sizes i g k l)
              (le_or_lt t i);
        }

-- the sizes of the first t chunks of a store, each decoded by itself
pub record KeptSizes (store : List ℕ) (m : Model) (over : Bool) (from to : List Float) (kept : List (List Float)) (t : ℕ) : Type 0 where
  pub lanes : List (List (List Float))
  pub many : length lanes ≡ t
  pub chunk : (i : ℕ) → i < t → ChunkOf store i m.d (2 ^ m.scale) (get_or lanes i [])
  pub sized : Sized 54 (λ i k. chunk_size over (get_or lanes i []) from to m k) kept t

module _ (store : List ℕ) (m : Model) (over : Bool) (from to : List Float) where
  pub none_kept : (x : List Float) → KeptSizes store m over from to (replicate 54 x) 0
  none_kept x = record { lanes = []; many = refl; chunk = λ i h. absurd (omega arith); sized = none_sized _ (replicate 54 x) }

  module _ (kept : List (List Float)) (t : ℕ) (before : KeptSizes store m over from to kept t) (s : List (List Float)) where
    abbrev all : List (List (List Float))
    all = before.lanes ++ (s ∷ [])

    old : (i : ℕ) → i < t → get_or all i [] ≡ get_or before.lanes i []
    old i h = get_or-append before.lanes (s ∷ []) [] i (omega (arith, before.many))

    new : get_or all t [] ≡ s
    new = subst (λ (n : ℕ). get_or all n [] ≡ s) before.many (get_or-append_seam before.lanes s [] [])

    abbrev sizes_of : List (List Float) → ℕ → Float
    sizes_of x = chunk_size over x from to m

    pub one_kept : (r : List Float) → t < 54 → ChunkOf store t m.d (2 ^ m.scale) s → ((k : ℕ) → k < 80 → lane r k ≡ sizes_of s k)
        → KeptSizes store m over from to (set kept t r) (t + 1)
    one_kept r inside is found =
        let so_far =
        same_sized _ kept t before.sized (λ i. sizes_of (get_or all i []))
        (λ i h k. ap (λ (x : List (List Float)). sizes_of x k) (sym (old i h))) in
        record {
          lanes = all;
          many = omega (arith, length-append before.lanes (s ∷ []), before.many);
          chunk = λ i h.
              ⊎_elim
              (λ (g : t ≤ i).
              let e : i ≡ t = omega arith in
              rw (e, new) is)
              (λ (g : i < t). rw (old i g) (before.chunk i g))
              (le_or_lt t i);
          sized =
              one_sized _ kept t so_far r inside (λ k l. found k l ∙ ap (λ (x : List (List Float)). sizes_of x k) (sym new));
        }
