-- Coordinates joined by commas: the first, and each other one behind a comma. Assumes nothing.
use mathlib.Core.List.{List, [], ◌∷◌, ◌++◌, append_assoc, append-nil}
use mathlib.Core.Path.{◌≡◌, refl, sym, ap, ◌∙◌}
use Prim.Native.Nat.{ℕ, zero, suc, ◌+◌, ◌-◌, ◌≤◌, ◌<◌}
use native.Mathlib.Omega.{arith}
use lib.IntN.{ℤ, pos}
use lib.ListN.{length, take, get_or}
use lib.Seq.{take-suc}
use Rattle.decimal.specs.Text.{ascii, signed, behind_commas, joined}

-- the coordinates behind the first, up to the k-th
unfoldable pub others : List ℤ → ℕ → List ℕ
others [] k = []
others (w ∷ ws) k = behind_commas (take (k - 1) ws)

pub others_none : (v : List ℤ) → others v 1 ≡ []
unfolding others behind_commas
others_none [] = refl
others_none (w ∷ ws) = refl

commas_more : (ws : List ℤ) (w : ℤ) → behind_commas (ws ++ w ∷ []) ≡ behind_commas ws ++ (ascii "," ++ signed w)
unfolding behind_commas
commas_more [] w = append-nil (ascii "," ++ signed w)
commas_more (u ∷ ws) w =
    ap (λ l. (ascii "," ++ signed u) ++ l) (commas_more ws w)
    ∙ sym (append_assoc (ascii "," ++ signed u) (behind_commas ws) (ascii "," ++ signed w))

-- one more
pub others_more : (v : List ℤ) (k : ℕ) → 1 ≤ k → k < length v → others v (k + 1) ≡ others v k ++ (ascii "," ++ signed (get_or v k (pos 0)))
unfolding others
others_more [] k some inside = absurd (omega arith)
others_more (w ∷ ws) zero some inside = absurd (omega arith)
others_more (w ∷ ws) (suc j) some inside =
    let more : (suc j + 1) - 1 ≡ suc j = omega arith in
    let before : suc j - 1 ≡ j = omega arith in
    rw (more, before, take-suc ws j (pos 0) (omega arith)) (commas_more (take j ws) (get_or ws j (pos 0)))

pub joined_none : (v : List ℤ) → joined (take 0 v) ≡ []
unfolding joined
joined_none v = refl

pub joined_others : (v : List ℤ) (k : ℕ) → 1 ≤ k → k ≤ length v → joined (take k v) ≡ signed (get_or v 0 (pos 0)) ++ others v k
unfolding joined others
joined_others [] k some few = absurd (omega arith)
joined_others (w ∷ ws) zero some few = absurd (omega arith)
joined_others (w ∷ ws) (suc j) some few =
    let before : suc j - 1 ≡ j = omega arith in
    rw before refl

-- one coordinate more: the first one, and each other one behind a comma
pub joined_first :
    (v : List ℤ) (k : ℕ) →
    k ≤ 0 →
    k < length v →
    joined (take (k + 1) v) ≡ joined (take k v) ++ signed (get_or v k (pos 0))
joined_first v zero none inside =
    rw (joined_none v)
    (joined_others v 1 (omega arith) (omega arith) ∙ rw (others_none v) (append-nil (signed (get_or v 0 (pos 0)))))
joined_first v (suc j) none inside = absurd (omega arith)

pub joined_next :
    (v : List ℤ) (k : ℕ) →
    0 < k →
    k < length v →
    joined (take (k + 1) v) ≡ joined (take k v) ++ (ascii "," ++ signed (get_or v k (pos 0)))
joined_next v k some inside =
    let first = signed (get_or v 0 (pos 0)) in
    joined_others v (k + 1) (omega arith) (omega arith)
    ∙ ap (λ (l : List ℕ). first ++ l) (others_more v k some inside)
    ∙ rw (joined_others v k (omega arith) (omega arith)) (sym (append_assoc first (others v k) (ascii "," ++ signed (get_or v k (pos 0)))))
