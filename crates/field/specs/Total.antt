-- An operation on the numbers below q, made total: on a number past them it answers 0. Assumes nothing.
use Rattle.std.specs.Prelude.{ℕ, cond, nat_lt}

abbrev pub total₁ : ℕ → (ℕ → ℕ) → ℕ → ℕ
total₁ q f x = cond (nat_lt x q) (f x) 0

abbrev pub total₂ : ℕ → (ℕ → ℕ → ℕ) → ℕ → ℕ → ℕ
total₂ q f x y = cond (nat_lt x q) (cond (nat_lt y q) (f x y) 0) 0
