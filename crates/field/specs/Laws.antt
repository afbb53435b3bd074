-- What makes operations on the numbers below a size those of a commutative ring, and what makes the ring a field. Assumes nothing.
use Rattle.std.specs.Prelude.{◌≡◌, ℕ, ◌<◌, ◌≤◌, ◌≢◌}
use Rattle.field.specs.Arithmetic.{Arithmetic}

-- The laws of adding, negating and multiplying. An operation always answers an element.
pub record Ring (a : Arithmetic) : Type 0 where
  pub least : 2 ≤ a.size
  pub most : a.size ≤ 256
  pub plus_below : (x y : ℕ) → a.plus x y < a.size
  pub minus_below : (x : ℕ) → a.minus x < a.size
  pub times_below : (x y : ℕ) → a.times x y < a.size
  pub plus_comm : (x y : ℕ) → x < a.size → y < a.size → a.plus x y ≡ a.plus y x
  pub plus_assoc : (x y z : ℕ) → x < a.size → y < a.size → z < a.size → a.plus (a.plus x y) z ≡ a.plus x (a.plus y z)
  pub plus_zero : (x : ℕ) → x < a.size → a.plus x 0 ≡ x
  pub plus_minus : (x : ℕ) → x < a.size → a.plus x (a.minus x) ≡ 0
  pub times_comm : (x y : ℕ) → x < a.size → y < a.size → a.times x y ≡ a.times y x
  pub times_assoc : (x y z : ℕ) → x < a.size → y < a.size → z < a.size → a.times (a.times x y) z ≡ a.times x (a.times y z)
  pub times_one : (x : ℕ) → x < a.size → a.times x 1 ≡ x
  pub times_plus : (x y z : ℕ) → x < a.size → y < a.size → z < a.size → a.times x (a.plus y z) ≡ a.plus (a.times x y) (a.times x z)
  -- on a number that is no element an operation answers 0
  pub plus_past : (x y : ℕ) → a.size ≤ x → (a.plus x y ≡ 0) × (a.plus y x ≡ 0)
  pub minus_past : (x : ℕ) → a.size ≤ x → a.minus x ≡ 0
  pub times_past : (x y : ℕ) → a.size ≤ x → (a.times x y ≡ 0) × (a.times y x ≡ 0)

-- The laws of inverting: each element but 0 has an inverse. That of 0, or of a number that is no element, is told as 0.
pub record Inverses (a : Arithmetic) (inverse : ℕ → ℕ) : Type 0 where
  pub inverse_below : (x : ℕ) → inverse x < a.size
  pub times_inverse : (x : ℕ) → x < a.size → (x ≢ 0) → a.times x (inverse x) ≡ 1
  pub inverse_zero : inverse 0 ≡ 0
  pub inverse_past : (x : ℕ) → a.size ≤ x → inverse x ≡ 0
