-- The losses of a chunk's sizes and their sums, in double precision, step by step as the machine does. proofs/Exact.antt says which whole
-- numbers these are.
use Rattle.std.specs.Prelude.{cond, List, [], ◌∷◌, ℕ, zero, suc, ◌+◌, ◌*◌, Float}
use Rattle.std.specs.Float.{binary64}
use Rattle.std.specs.Float.Ieee.{add, mul, lt}
use Rattle.eval_whole.specs.Whole.{smaller_of, zeroth, oneth, counted}

-- "for p = 0, 1 if |e| > ε and else 0; for p = 1, min(|e|, ε); for p = 2, min(e², ε²)", of a size x
unfoldable pub loss_in : ℕ → Float → Float → Float
loss_in zero ε x = cond (lt ε x) oneth zeroth
loss_in (suc zero) ε x = smaller_of ε x
loss_in (suc (suc zero)) ε x = mul binary64 (smaller_of ε x) (smaller_of ε x)
loss_in (suc (suc (suc p))) ε x = zeroth

-- every second number from place o on, n of them, added up
unfoldable pub alternate : (ℕ → Float) → ℕ → ℕ → Float
alternate z o zero = zeroth
alternate z o (suc n) = add binary64 (alternate z o n) (z (o + n * 2))

-- A group of twenty: each half is below 2^52, so it is exact and becomes an integer by itself.
unfoldable pub group_sum : (ℕ → Float) → ℕ → ℕ
group_sum z o = counted (alternate z o 10) + counted (alternate z (o + 1) 10)

-- the four groups of a chunk, one by one and added up
unfoldable pub group_sums : (ℕ → Float) → List ℕ
group_sums z = group_sum z 0 ∷ group_sum z 20 ∷ group_sum z 40 ∷ group_sum z 60 ∷ []

unfoldable pub chunk_sum : (ℕ → Float) → ℕ
chunk_sum z = group_sum z 0 + group_sum z 20 + (group_sum z 40 + group_sum z 60)
