-- Chunks of a store, one after the other. Assumes nothing.
use mathlib.Core.Path.{◌≡◌, refl, sym, ap, ◌∙◌, subst}
use mathlib.Core.List.{List, [], ◌++◌}
use mathlib.Core.Logic.{◌⊎◌, inl, inr, ⊎_elim}
use Prim.Native.Nat.{ℕ, ◌+◌, ◌-◌, ◌≤◌, ◌<◌}
use native.Mathlib.Nat.{eq-or-lt_of_le}
use native.Mathlib.Omega.{arith}
use lib.ListN.{length, get_or, set, take, drop, length-set, length-take, get_or-append}
use lib.Seq.{get_or-set_same, get_or-set_other, get_or-append_right, get_or-take, get_or-drop}
use lib.Ieee.{Float}
use Rattle.integers.proofs.Tests.{le_or_lt}
use Rattle.eval_columns.specs.Columns.{ChunkOf, decoded_chunks, DecodedInto}

same_or_not : (a b : ℕ) → (a ≡ b) ⊎ (a ≡ b → ⊥)
same_or_not a b =
    ⊎_elim
    (λ (h : a ≤ b). ⊎_elim (λ (e : a ≡ b). inl e) (λ (l : a < b). inr (λ e. omega arith)) (eq-or-lt_of_le h))
    (λ (l : b < a). inr (λ e. omega arith))
    (le_or_lt a b)

module _ (store : List ℕ) (d power : ℕ) (old : List (List (List Float))) where
  -- the first n chunks are decoded, and the rest is as it was
  pub record Through (n : ℕ) (lanes : List (List (List Float))) : Type 0 where
    pub long : length lanes ≡ length old
    pub here : (t : ℕ) → t < n → ChunkOf store t d power (get_or lanes t [])
    pub columns : (t c : ℕ) → d ≤ c → c < 4 → get_or (get_or lanes t []) c [] ≡ get_or (get_or old t []) c []
    pub rest : (t : ℕ) → n ≤ t → get_or lanes t [] ≡ get_or old t []

  pub none_through : Through 0 old
  none_through = record { long = refl; here = λ t l. absurd (omega arith); columns = λ t c l h. refl; rest = λ t l. refl }

  pub one_through : {n : ℕ} {lanes : List (List (List Float))} (s : List (List Float)) → n < length lanes → ChunkOf store n d power s
      → ((c : ℕ) → d ≤ c → c < 4 → get_or s c [] ≡ get_or (get_or lanes n []) c []) → Through n lanes → Through (n + 1) (set lanes n s)
  one_through {n} {lanes} s h new same g =
      record {
        long = length-set lanes n s ∙ g.long;
        here =
            λ t l. by_chunk (λ (k : ℕ) (u : List (List Float)). k ≤ n → ChunkOf store k d power u) t (λ i. new)
            (λ q i. g.here t (omega arith)) (omega arith);
        columns = λ t c l i.
            by_chunk (λ (k : ℕ) (u : List (List Float)). get_or u c [] ≡ get_or (get_or old k []) c []) t (same c l i ∙ g.columns n c l i)
            (λ q. g.columns t c l i);
        rest = λ t l. get_or-set_other lanes n t s [] (λ q. omega arith) ∙ g.rest t (omega arith);
      }
    where
      -- what holds of the new chunk at its place, and of the others elsewhere
      by_chunk : (P : ℕ → List (List Float) → Type 0) (t : ℕ) → P n s → ((t ≡ n → ⊥) → P t (get_or lanes t []))
          → P t (get_or (set lanes n s) t [])
      by_chunk P t here other =
          let long = g.long in
          ⊎_elim
          (λ (q : t ≡ n). subst (λ (k : ℕ). P k (get_or (set lanes n s) k [])) (sym q)
          (subst (P n) (sym (get_or-set_same lanes n s [] (omega arith))) here))
          (λ (q : t ≡ n → ⊥). subst (P t) (sym (get_or-set_other lanes n t s [] q)) (other q))
          (same_or_not t n)

-- the first chunks decoded, and the others as they were
pub all_through : {store : List ℕ} {d power n i : ℕ} (old : List (List (List Float))) (s : List (List (List Float)))
    → n ≡ decoded_chunks store old → n ≤ i → Through store d power (take n old) i s → DecodedInto store d power old (s ++ drop n old)
all_through {store} {d} {power} {n} {i} old s e full g =
    record {
      here = λ t l. subst (ChunkOf store t d power) (sym (front t (omega arith))) (g.here t (omega arith));
      columns = λ t c l m.
          ⊎_elim
          (λ (h : n ≤ t). ap (λ (u : List (List Float)). get_or u c []) (back t h))
          (λ (h : t < n). ap (λ (u : List (List Float)). get_or u c []) (front t h) ∙ g.columns t c l m
          ∙ ap (λ (u : List (List Float)). get_or u c []) (get_or-take n old t [] h))
          (le_or_lt n t);
      rest = λ t l. back t (omega arith);
    }
  where
    long : length s ≡ n
    long = let h = g.long in omega (arith, length-take n old)

    front : (t : ℕ) → t < n → get_or (s ++ drop n old) t [] ≡ get_or s t []
    front t h = get_or-append s (drop n old) [] t (omega (arith, long))

    back : (t : ℕ) → n ≤ t → get_or (s ++ drop n old) t [] ≡ get_or old t []
    back t h =
        let f : n + (t - n) ≡ t = omega arith in
        get_or-append_right s (drop n old) t [] (omega (arith, long)) ∙ ap (λ (z : ℕ). get_or (drop n old) (t - z) []) long
        ∙ get_or-drop n old (t - n) [] ∙ ap (λ (z : ℕ). get_or old z []) f
