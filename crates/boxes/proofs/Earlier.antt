-- The order of vectors, "comparing coordinate 1 first": strict, along, total, and the low vector of a box comes first. Assumes nothing.
use mathlib.Core.Path.{◌≡◌, refl, ap₂}
use mathlib.Core.Bool.{Bool, true, false, cond}
use mathlib.Core.List.{List, [], ◌∷◌}
use mathlib.Core.Logic.{⊎_elim}
use Prim.Native.Nat.{◌+◌, ◌≤◌, ◌<◌}
use native.Mathlib.Omega.{arith}
use lib.Dec.{T}
use lib.IntN.{ℤ}
use lib.ListN.{length}
use lib.Signed.{lt_z}
use Rattle.integers.proofs.Parts.{up, dn, from_parts, le_parts, lt_z_true, lt_z_false}
use Rattle.integers.proofs.Tests.{le_or_lt}
use Rattle.boxes.specs.declared.Box.{Box}
use Rattle.boxes.specs.Boxes.{Between, side, InBox, before}
use Rattle.boxes.specs.Laws.{Ordered}

-- what the test says, by the parts of `Parts`
data Comes : List ℤ → List ℤ → Type 0 where
  here : (v w : ℤ) {vs ws : List ℤ} → up v + dn w < up w + dn v → Comes (v ∷ vs) (w ∷ ws)
  there : (v w : ℤ) {vs ws : List ℤ} → up v + dn w ≡ up w + dn v → Comes vs ws → Comes (v ∷ vs) (w ∷ ws)

-- by the order of the first coordinates
heads :
    (v w : ℤ) (vs ws : List ℤ) (P : Bool → Type 0) →
    (up v + dn w < up w + dn v → P true) →
    (up w + dn v < up v + dn w → P false) →
    (up v + dn w ≡ up w + dn v → P (before vs ws)) →
    P (before (v ∷ vs) (w ∷ ws))
unfolding before
heads v w vs ws P less more same = left (lt_z v w) refl
  where
    right : (c : Bool) → lt_z w v ≡ c → up w + dn v ≤ up v + dn w → P (cond c false (before vs ws))
    right true e k = more (lt_z_true w v e)
    right false e k = same (let h = lt_z_false w v e in omega arith)

    left : (c : Bool) → lt_z v w ≡ c → P (cond c true (cond (lt_z w v) false (before vs ws)))
    left true e = less (lt_z_true v w e)
    left false e = right (lt_z w v) refl (lt_z_false v w e)

earlier : (v w : List ℤ) → T (before v w) → Comes v w
unfolding before
earlier [] w t = absurd t
earlier (v ∷ vs) [] t = absurd t
earlier (v ∷ vs) (w ∷ ws) t =
    heads v w vs ws (λ c. T c → Comes (v ∷ vs) (w ∷ ws)) (λ h u. here v w h) (λ h u. absurd u)
    (λ h u. there v w h (earlier vs ws u)) t

comes_before : {v w : List ℤ} → Comes v w → T (before v w)
comes_before (here v w {vs} {ws} h) = heads v w vs ws T (λ k. tt) (λ k. absurd (omega arith)) (λ k. absurd (omega arith))
comes_before (there v w {vs} {ws} e h) =
    heads v w vs ws T (λ k. tt) (λ k. absurd (omega arith)) (λ k. comes_before h)

never_itself : (v : List ℤ) → Comes v v → ⊥
never_itself [] h = elim h [ ]
never_itself (v ∷ vs) (here x y h) = omega arith
never_itself (v ∷ vs) (there x y e h) = never_itself vs h

earlier_along : {u v w : List ℤ} → Comes u v → Comes v w → Comes u w
earlier_along (here u v p) (here y w q) = here u w (omega arith)
earlier_along (here u v p) (there y w q k) = here u w (omega arith)
earlier_along (there u v p h) (here y w q) = here u w (omega arith)
earlier_along (there u v p h) (there y w q k) = there u w (omega arith) (earlier_along h k)

-- what comes after a vector of a box comes after its low vector
low_earlier : {v ls hs w : List ℤ} → Between v ls hs → Comes v w → Comes ls w
low_earlier {w = w} Rattle.boxes.specs.Boxes.empty h = elim h [ ]
low_earlier (side {l = l} p q b) (here x w h) = here l w (omega (arith, le_parts p))
low_earlier (side {l = l} p q b) (there x w e h) =
    ⊎_elim (λ k. there l w (omega (arith, le_parts p)) (low_earlier b h)) (λ k. here l w (omega arith))
    (le_or_lt (up x + dn l) (up l + dn x))

pub before_strict : (v : List ℤ) → T (before v v) → ⊥
before_strict v t = never_itself v (earlier v v t)

pub before_along : (u v w : List ℤ) → T (before u v) → T (before v w) → T (before u w)
before_along u v w s t = comes_before (earlier_along (earlier u v s) (earlier v w t))

pub before_total : (u v : List ℤ) → length u ≡ length v → (T (before u v) → ⊥) → (T (before v u) → ⊥) → u ≡ v
before_total [] [] e s t = refl
before_total [] (y ∷ v) e s t = absurd (omega arith)
before_total (x ∷ u) [] e s t = absurd (omega arith)
before_total (x ∷ u) (y ∷ v) e s t =
    let l : up x + dn y < up y + dn x → ⊥ = λ k. s (comes_before (here x y k)) in
    let r : up y + dn x < up x + dn y → ⊥ = λ k. t (comes_before (here y x k)) in
    let same : up x + dn y ≡ up y + dn x = omega arith in
    ap₂ ◌∷◌ (from_parts x y same)
    (before_total u v (omega arith) (λ k. s (comes_before (there x y same (earlier u v k))))
    (λ k. t (comes_before (there y x (omega arith) (earlier v u k)))))

module _ (b : Box) (v : List ℤ) (i : InBox v b) where
  pub low_before : (w : List ℤ) → T (before v w) → T (before b.low w)
  low_before w t = comes_before (low_earlier i.between (earlier v w t))

  -- nothing in a box comes before its low vector
  pub low_first : T (before v b.low) → ⊥
  low_first t = before_strict b.low (low_before b.low t)

pub ordered : Ordered
ordered = record { strict = before_strict; along = before_along; total = before_total; low_first = low_first }
