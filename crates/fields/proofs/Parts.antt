-- Parts of a list. Assumes nothing.
use mathlib.Core.List.{List, [], ◌∷◌, ◌++◌, append_assoc}
use mathlib.Core.Path.{◌≡◌, refl}
use Prim.Native.Nat.{ℕ, zero, suc, ◌+◌, ◌-◌, ◌≤◌, ◌<◌}
use native.Mathlib.Nat.{add-zero}
use native.Mathlib.Omega.{arith}
use lib.Dec.{T, ltb, lt→ltb}
use lib.ListN.{length, take, drop, get_or, length-drop}
use lib.Pow.{are_bytes}
use lib.Seq.{get_or-drop, take_at, drop_at, length-take-le}
use mir.Facts.{and_yes, yes_and}
use mir.Syntax.{w8}
use mir.Val.{Fits}

-- a part of k elements; and as it is lent, from a to its end
pub part_size : (t : List ℕ) (a k : ℕ) → a + k ≤ length t → length (take k (drop a t)) ≡ k
part_size t a k h = length-take-le k (drop a t) (omega (arith, length-drop a t))

pub lent_size : (t : List ℕ) (a k : ℕ) → a + k ≤ length t → length (take ((a + k) - a) (drop a t)) ≡ k
lent_size t a k h =
    let e : (a + k) - a ≡ k = omega arith in
    rw e (part_size t a k h)

-- the k elements behind the first n
pub part_at : (p q t : List ℕ) (n k : ℕ) → length p ≡ n → length q ≡ k → take k (drop n ((p ++ q) ++ t)) ≡ q
part_at p q t n k h g = rw (append_assoc p q t, drop_at p (q ++ t) n h) (take_at q t k g)

-- bytes are bytes wherever they are taken from
pub bytes_drop : (o : ℕ) (l : List ℕ) → T (are_bytes l) → T (are_bytes (drop o l))
bytes_drop zero l h = h
bytes_drop (suc o) [] h = h
bytes_drop (suc o) (b ∷ l) h = bytes_drop o l (and_yes (ltb b 256) (are_bytes l) h).1

pub bytes_take : (k : ℕ) (l : List ℕ) → T (are_bytes l) → T (are_bytes (take k l))
bytes_take zero l h = tt
bytes_take (suc k) [] h = h
bytes_take (suc k) (b ∷ l) h =
    let both = and_yes (ltb b 256) (are_bytes l) h in
    yes_and (ltb b 256) (are_bytes (take k l)) both.0 (bytes_take k l both.1)

-- they are where each of them is
pub bytes_each : (l : List ℕ) → ((i : ℕ) → Fits w8 (get_or l i 0)) → T (are_bytes l)
bytes_each [] h = tt
bytes_each (b ∷ l) h = yes_and (ltb b 256) (are_bytes l) (lt→ltb b 256 (h 0).fits) (bytes_each l (λ i. h (suc i)))

-- the two bytes from o on, one by one; and four
two : (l : List ℕ) → 2 ≤ length l → get_or l 0 0 ∷ get_or l 1 0 ∷ [] ≡ take 2 l
two [] h = absurd (omega arith)
two (a ∷ []) h = absurd (omega arith)
two (a ∷ b ∷ l) h = refl

pub two_at : (l : List ℕ) (o : ℕ) → o + 1 < length l → get_or l o 0 ∷ get_or l (o + 1) 0 ∷ [] ≡ take 2 (drop o l)
two_at l o h = simp (get_or-drop, add-zero) at (two (drop o l) (omega (arith, length-drop o l)))

four : (l : List ℕ) → 4 ≤ length l → get_or l 0 0 ∷ get_or l 1 0 ∷ get_or l 2 0 ∷ get_or l 3 0 ∷ [] ≡ take 4 l
four [] h = absurd (omega arith)
four (a ∷ []) h = absurd (omega arith)
four (a ∷ b ∷ []) h = absurd (omega arith)
four (a ∷ b ∷ c ∷ []) h = absurd (omega arith)
four (a ∷ b ∷ c ∷ d ∷ l) h = refl

pub four_at : (l : List ℕ) (o : ℕ) → o + 4 ≤ length l
    → get_or l (o + 0) 0 ∷ get_or l (o + 1) 0 ∷ get_or l (o + 2) 0 ∷ get_or l (o + 3) 0 ∷ [] ≡ take 4 (drop o l)
four_at l o h = simp get_or-drop at (four (drop o l) (omega (arith, length-drop o l)))
