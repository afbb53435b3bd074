-- The operations of a field, on numbers. Assumes nothing.
use Rattle.std.specs.Prelude.{ℕ}

-- The elements are the numbers below the size.
pub record Arithmetic : Type 0 where
  pub size : ℕ
  pub plus : ℕ → ℕ → ℕ
  pub minus : ℕ → ℕ
  pub times : ℕ → ℕ → ℕ
