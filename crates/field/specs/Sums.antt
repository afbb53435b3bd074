-- Sums over a field's addition. Assumes nothing.
use Rattle.std.specs.Prelude.{ℕ, zero, suc, ◌<◌}
use Rattle.field.specs.Arithmetic.{Arithmetic}

-- t 0 + .. + t (n - 1)
unfoldable pub sum : Arithmetic → ℕ → (ℕ → ℕ) → ℕ
sum a zero t = 0
sum a (suc n) t = a.plus (sum a n t) (t n)

-- the sum of the products of two rows of n
abbrev pub dot : Arithmetic → ℕ → (ℕ → ℕ) → (ℕ → ℕ) → ℕ
dot a n f g = sum a n (λ j. a.times (f j) (g j))

-- the first n of t are below q
abbrev pub Below : ℕ → ℕ → (ℕ → ℕ) → Type 0
Below q n t = (j : ℕ) → j < n → t j < q
