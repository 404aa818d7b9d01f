-- One step of the walk through two lists of records: the union's first record, which stands in the one or the other, and what is left
-- behind it. Assumes nothing.
use borrow.Author.Tests.{lt-ltb, le-ltb, le-leb, lt-leb}
use mathlib.Core.Path.{◌≡◌, refl, sym, ◌∙◌}
use mathlib.Core.Bool.{true, cond}
use mathlib.Core.List.{List, [], ◌∷◌}
use mathlib.Core.Logic.{◌⊎◌, inl, inr, ⊎_elim}
use Prim.Native.Nat.{ℕ, ◌+◌, ◌<◌}
use native.Mathlib.Omega.{arith}
use lib.Dec.{leb}
use lib.ListN.{length}
use Rattle.integers.proofs.Tests.{by_cond, is_true, is_false, le_or_lt}
use Rattle.frames.specs.Walk.{stride}
use Rattle.frames.specs.Frames.{frame_of, clashes, clashes_with, union}
use Rattle.frames.proofs.Clashes.{none_above, none_below, common, clash_found}
use Rattle.frames.proofs.Rising.{above_lower, Rises, nothing, lowest}
use Rattle.integers.specs.Lists.{also}

abbrev pub first : List (List ℕ) → List ℕ
first [] = []
first (r ∷ rs) = r

-- the union's first record
unfoldable pub next : List (List ℕ) → List (List ℕ) → List ℕ
next [] ss = first ss
next (r ∷ rs) [] = r
next (r ∷ rs) (s ∷ ss) = cond (leb (frame_of r) (frame_of s)) r s

-- what is left of the first list behind it
unfoldable pub after : List (List ℕ) → List (List ℕ) → List (List ℕ)
after [] ss = []
after (r ∷ rs) [] = rs
after (r ∷ rs) (s ∷ ss) = cond (leb (frame_of r) (frame_of s)) rs (r ∷ rs)

-- by the order of two numbers
by_order : {A : Type 0} (m n : ℕ) → (m < n → A) → (m ≡ n → A) → (n < m → A) → A
by_order m n less equal more = ⊎_elim (λ h. ⊎_elim (λ k. equal (omega arith)) less (le_or_lt n m)) more (le_or_lt m n)

pub union_next : (rs ss : List (List ℕ)) → 0 < length rs + length ss → union rs ss ≡ next rs ss ∷ union (after rs ss) (after ss rs)
unfolding union next after
union_next [] [] h = absurd (omega arith)
union_next [] (s ∷ ss) h = refl
union_next (r ∷ []) [] h = refl
union_next (r ∷ q ∷ rs) [] h = refl
union_next (r ∷ rs) (s ∷ ss) h =
    let f = frame_of r in
    let g = frame_of s in
    by_order f g (λ l. rw (lt-ltb f g l, le-leb f g (omega arith), lt-leb g f l))
    (λ e. rw (le-ltb f g (omega arith), le-ltb g f (omega arith), le-leb f g (omega arith), le-leb g f (omega arith)))
    (λ l. rw (le-ltb f g (omega arith), lt-ltb g f l, lt-leb f g l, le-leb g f (omega arith)))

module _ (r s : List ℕ) (rs ss : List (List ℕ)) where
  earlier : frame_of r < frame_of s → stride (r ∷ rs) (s ∷ ss) ≡ 12
  unfolding stride
  earlier l = rw (le-leb (frame_of r) (frame_of s) (omega arith))

  later : frame_of s < frame_of r → stride (r ∷ rs) (s ∷ ss) ≡ 0
  unfolding stride
  later l = rw (lt-leb (frame_of r) (frame_of s) l)

  equal : frame_of r ≡ frame_of s → stride (r ∷ rs) (s ∷ ss) ≡ 12
  unfolding stride
  equal e = rw (le-leb (frame_of r) (frame_of s) (omega arith))

pub strides : (rs ss : List (List ℕ)) → (stride rs ss ≡ 0) ⊎ (stride rs ss ≡ 12)
unfolding stride
strides [] ss = inl refl
strides (r ∷ rs) [] = inr refl
strides (r ∷ rs) (s ∷ ss) =
    by_order (frame_of r) (frame_of s) (λ l. inr (earlier r s rs ss l)) (λ e. inr (equal r s rs ss e)) (λ l. inl (later r s rs ss l))

-- what is left by how far the walk goes on
pub stays : (rs ss : List (List ℕ)) → stride rs ss ≡ 0 → after rs ss ≡ rs
unfolding after stride
stays [] ss e = refl
stays (r ∷ rs) [] e = absurd (omega arith)
stays (r ∷ rs) (s ∷ ss) e =
    let t = leb (frame_of r) (frame_of s) in
    by_cond (λ us. us ≡ r ∷ rs) t (λ h. absurd (omega (arith, rw (is_true t h) at e))) (λ h. refl)

pub goes : (r : List ℕ) (rs ss : List (List ℕ)) → stride (r ∷ rs) ss ≡ 12 → after (r ∷ rs) ss ≡ rs
unfolding after stride
goes r rs [] e = refl
goes r rs (s ∷ ss) e =
    let t = leb (frame_of r) (frame_of s) in
    by_cond (λ us. us ≡ rs) t (λ h. refl) (λ h. absurd (omega (arith, rw (is_false t h) at e)))

-- the record is taken from the first list, or from the second
pub next_first : (rs ss : List (List ℕ)) → stride rs ss ≡ 12 → next rs ss ≡ first rs
unfolding next stride
next_first [] ss e = absurd (omega arith)
next_first (r ∷ rs) [] e = refl
next_first (r ∷ rs) (s ∷ ss) e =
    ⊎_elim (λ h. rw (le-leb (frame_of r) (frame_of s) h)) (λ l. absurd (omega (arith, later r s rs ss l))) (le_or_lt (frame_of r) (frame_of s))

pub next_second :
    (rs ss : List (List ℕ)) → 0 < length rs + length ss → (stride rs ss ≡ 12 → ⊥) →
    (next rs ss ≡ first ss) × (stride ss rs ≡ 12)
unfolding next stride
next_second [] [] h n = absurd (omega arith)
next_second [] (s ∷ ss) h n = (refl, refl)
next_second (r ∷ rs) [] h n = absurd (n refl)
next_second (r ∷ rs) (s ∷ ss) h n =
    by_order (frame_of r) (frame_of s) (λ l. absurd (n (earlier r s rs ss l))) (λ e. absurd (n (equal r s rs ss e)))
    (λ l. (rw (lt-leb (frame_of r) (frame_of s) l), earlier s r ss rs l))

-- both lists go on only by records of one frame
pub both_strides : (rs ss : List (List ℕ)) → 0 < length rs + length ss → stride rs ss ≡ stride ss rs → stride rs ss ≡ 12
both_strides rs ss h e = ⊎_elim (λ z. let k = next_second rs ss h (λ t. omega arith) in omega (arith, k.1)) (λ t. t) (strides rs ss)

-- and clash where these differ
pub clash_next : (rs ss : List (List ℕ)) → stride rs ss ≡ 12 → stride ss rs ≡ 12 → (first rs ≡ first ss → ⊥) → clashes rs ss ≡ true
unfolding stride
clash_next [] ss e k n = absurd (omega arith)
clash_next (r ∷ rs) [] e k n = absurd (omega arith)
clash_next (r ∷ rs) (s ∷ ss) e k n =
    by_order (frame_of r) (frame_of s) (λ l. absurd (omega (arith, later s r ss rs l))) (λ h. clash_found r s rs ss h n)
    (λ l. absurd (omega (arith, later r s rs ss l)))

-- else the clashes are those that are left
pub clashes_after :
    {rs ss : List (List ℕ)} → Rises rs → Rises ss → (stride rs ss ≡ stride ss rs → first rs ≡ first ss) →
    clashes rs ss ≡ clashes (after rs ss) (after ss rs)
unfolding after clashes clashes_with
clashes_after nothing q c = refl
clashes_after (lowest a p) nothing c = refl
clashes_after (lowest {r} {rs} a p) (lowest {r = s} {rs = ss} b q) c =
    let f = frame_of r in
    let g = frame_of s in
    by_order f g
    (λ l. rw (le-leb f g (omega arith), lt-leb g f l, none_above r (also l (above_lower l b))))
    (λ e.
    let k : r ≡ s = c (equal r s rs ss e ∙ sym (equal s r ss rs (sym e))) in
    rw (le-leb f g (omega arith), le-leb g f (omega arith)) (common k a b))
    (λ l. rw (lt-leb f g l, le-leb g f (omega arith)) (none_below s ss (also l (above_lower l a))))

pub rises_after : {rs : List (List ℕ)} (ss : List (List ℕ)) → Rises rs → Rises (after rs ss)
unfolding after
rises_after ss nothing = nothing
rises_after [] (lowest a p) = p
rises_after (s ∷ ss) (lowest {r} a p) = by_cond Rises (leb (frame_of r) (frame_of s)) (λ t. p) (λ t. lowest a p)
