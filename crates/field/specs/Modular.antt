-- Whole numbers modulo m. Assumes nothing.
use Rattle.std.specs.Prelude.{ℕ, ◌+◌, ◌-◌, ◌*◌, ◌%◌, ◌^◌}
use Rattle.field.specs.Arithmetic.{Arithmetic}
use Rattle.field.specs.Total.{total₁, total₂}

abbrev pub modulo : ℕ → Arithmetic
modulo m = record {
  size = m;
  plus = total₂ m (λ x y. (x + y) % m);
  minus = total₁ m (λ x. (m - x) % m);
  times = total₂ m (λ x y. (x * y) % m);
}

-- the inverse at a prime m: the power m - 2
abbrev pub inverse_modulo : ℕ → ℕ → ℕ
inverse_modulo m = total₁ m (λ x. x ^ (m - 2) % m)
