-- Laws of the union of two lists of records: that it rises, and what it holds. Assumes nothing.
use borrow.Author.Tests.{eq-eqb, not-false}
use mathlib.Core.Path.{◌≡◌, refl}
use mathlib.Core.Bool.{Bool, true, false, ◌||◌}
use mathlib.Core.List.Memᴰ
use mathlib.Core.List.{List, [], ◌∷◌, Memᴰ}
use mathlib.Core.Logic.{◌⊎◌, inl, inr, ⊎_elim}
use Prim.Native.Nat.{ℕ, ◌<◌}
use native.Mathlib.Omega.{arith}
use lib.Dec.{ltb, ltb→lt, nltb→le}
use Rattle.integers.specs.Lists.{All, none, also}
use Rattle.integers.proofs.Lists.{all_head, all_tail, all_map}
use Rattle.integers.proofs.Tests.{by_cond}
use Rattle.frames.specs.Frames.{frame_of, same, clash, clashes_with, clashes, union}
use Rattle.frames.proofs.Clashes.{same_equal}
use Rattle.frames.proofs.Rising.{above_lower, Rises, nothing, lowest}
use Rattle.frames.proofs.Union.{union_all}

-- "The outcome rises strictly"
pub union_rises : {rs ss : List (List ℕ)} → Rises rs → Rises ss → Rises (union rs ss)
unfolding union
union_rises nothing q = q
union_rises (lowest a p) nothing = lowest a p
union_rises (lowest {r} {rs} a p) (lowest {r = s} {rs = ss} b q) =
    by_cond Rises (ltb (frame_of r) (frame_of s))
    (λ t.
    let h : frame_of r < frame_of s = ltb→lt _ _ t in
    lowest (union_all a (also h (above_lower h b))) (union_rises p (lowest b q)))
    (λ t.
    by_cond Rises (ltb (frame_of s) (frame_of r))
    (λ u.
    let h : frame_of s < frame_of r = ltb→lt _ _ u in
    lowest (union_all (also h (above_lower h a)) b) (union_rises (lowest a p) q))
    (λ u.
    let h : frame_of r ≡ frame_of s = omega (arith, nltb→le (frame_of r) (frame_of s) t, nltb→le (frame_of s) (frame_of r) u) in
    lowest (union_all a (rw h b)) (union_rises p q)))

-- "holds exactly the records found in either"
pub union_found : {q : List ℕ} (rs ss : List (List ℕ)) → Memᴰ q (union rs ss) → Memᴰ q rs ⊎ Memᴰ q ss
unfolding union
union_found [] ss m = inr m
union_found (r ∷ rs) [] m = inl m
union_found {q} (r ∷ rs) (s ∷ ss) m =
    by_cond From (ltb (frame_of r) (frame_of s)) (λ t. first (λ k. union_found rs (s ∷ ss) k))
    (λ t.
    by_cond From (ltb (frame_of s) (frame_of r)) (λ u. second (λ k. union_found (r ∷ rs) ss k))
    (λ u. first (λ k. ⊎_elim inl (λ j. inr (Memᴰ.tail j)) (union_found rs ss k))))
    m
  where
    From : List (List ℕ) → Type 0
    From us = Memᴰ q us → Memᴰ q (r ∷ rs) ⊎ Memᴰ q (s ∷ ss)

    first : {us : List (List ℕ)} → (Memᴰ q us → Memᴰ q rs ⊎ Memᴰ q (s ∷ ss)) → From (r ∷ us)
    first f k = ⊎_elim (λ e. inl (Memᴰ.head e)) (λ j. ⊎_elim (λ i. inl (Memᴰ.tail i)) inr (f j)) (Memᴰ.cases_cons k)

    second : {us : List (List ℕ)} → (Memᴰ q us → Memᴰ q (r ∷ rs) ⊎ Memᴰ q ss) → From (s ∷ us)
    second f k = ⊎_elim (λ e. inr (Memᴰ.head e)) (λ j. ⊎_elim inl (λ i. inr (Memᴰ.tail i)) (f j)) (Memᴰ.cases_cons k)

-- a member of a list with its head passed on, or its tail's
behind : {q r : List ℕ} {rs us : List (List ℕ)} → (Memᴰ q rs → Memᴰ q us) → Memᴰ q (r ∷ rs) → Memᴰ q (r ∷ us)
behind f m = ⊎_elim (λ e. Memᴰ.head e) (λ k. Memᴰ.tail (f k)) (Memᴰ.cases_cons m)

pub union_first : {q : List ℕ} (rs ss : List (List ℕ)) → Memᴰ q rs → Memᴰ q (union rs ss)
unfolding union
union_first [] ss m = absurd (Memᴰ.not-nil m)
union_first (r ∷ rs) [] m = m
union_first {q} (r ∷ rs) (s ∷ ss) m =
    by_cond (Memᴰ q) (ltb (frame_of r) (frame_of s)) (λ t. behind (union_first rs (s ∷ ss)) m)
    (λ t.
    by_cond (Memᴰ q) (ltb (frame_of s) (frame_of r)) (λ u. Memᴰ.tail (union_first (r ∷ rs) ss m))
    (λ u. behind (union_first rs ss) m))

-- no record of the one clashes with one of the other
abbrev pub Agree : List (List ℕ) → List (List ℕ) → Type 0
Agree rs ss = All (λ (r : List ℕ). All (λ (s : List ℕ). frame_of r ≡ frame_of s → r ≡ s) ss) rs

neither : (a b : Bool) → (a || b) ≡ false → (a ≡ false) × (b ≡ false)
neither true b e = let z : ◌≡◌ {A = ℕ} 0 1 = cc in absurd (omega arith)
neither false b e = (refl, e)

-- equal frames without a clash: equal records
no_clash : (r s : List ℕ) → clash r s ≡ false → frame_of r ≡ frame_of s → r ≡ s
unfolding clash
no_clash r s e h = same_equal r s (not-false (same r s) (rw (eq-eqb _ _ h) at e))

agree_with : (r : List ℕ) (ss : List (List ℕ)) → clashes_with r ss ≡ false → All (λ (s : List ℕ). frame_of r ≡ frame_of s → r ≡ s) ss
unfolding clashes_with
agree_with r [] e = none
agree_with r (s ∷ ss) e =
    let p = neither (clash r s) (clashes_with r ss) e in
    also (no_clash r s p.0) (agree_with r ss p.1)

pub agree : (rs ss : List (List ℕ)) → clashes rs ss ≡ false → Agree rs ss
unfolding clashes
agree [] ss e = none
agree (r ∷ rs) ss e =
    let p = neither (clashes_with r ss) (clashes rs ss) e in
    also (agree_with r ss p.0) (agree rs ss p.1)

pub union_second : {q : List ℕ} (rs ss : List (List ℕ)) → Agree rs ss → Memᴰ q ss → Memᴰ q (union rs ss)
unfolding union
union_second [] ss a m = m
union_second (r ∷ rs) [] a m = absurd (Memᴰ.not-nil m)
union_second {q} (r ∷ rs) (s ∷ ss) a m =
    by_cond (Memᴰ q) (ltb (frame_of r) (frame_of s)) (λ t. Memᴰ.tail (union_second rs (s ∷ ss) (all_tail a) m))
    (λ t.
    by_cond (Memᴰ q) (ltb (frame_of s) (frame_of r)) (λ u. behind (union_second (r ∷ rs) ss (all_map (λ r h. all_tail h) a)) m)
    (λ u.
    let h : frame_of r ≡ frame_of s = omega (arith, nltb→le (frame_of r) (frame_of s) t, nltb→le (frame_of s) (frame_of r) u) in
    let e : r ≡ s = all_head (all_head a) h in
    rw e (behind (union_second rs ss (all_map (λ r h. all_tail h) (all_tail a))) m)))
