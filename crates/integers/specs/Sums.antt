-- Σ, of natural and of whole numbers.
use Rattle.std.specs.Prelude.{ℕ, zero, suc, ◌+◌, ℤ, pos, ◌+ℤ◌}

-- f 0 + … + f (n − 1)
unfoldable pub sum_of : (ℕ → ℕ) → ℕ → ℕ
sum_of f zero = 0
sum_of f (suc n) = sum_of f n + f n

unfoldable pub Σ : (ℕ → ℤ) → ℕ → ℤ
Σ f zero = pos 0
Σ f (suc n) = Σ f n +ℤ f n
