-- Bytes as polynomials over bits, modulo the one whose bits are hexadecimal 11D: x^8 + x^4 + x^3 + x^2 + 1. Assumes nothing.
use Rattle.std.specs.Prelude.{ℕ, zero, suc, ◌*◌, ◌/◌, ◌%◌, bit_xor}
use Rattle.field.specs.Arithmetic.{Arithmetic}
use Rattle.field.specs.Total.{total₁, total₂}

-- x times a polynomial: shift, and fold the term x^8 back
unfoldable pub double : ℕ → ℕ
double a = bit_xor (a * 2) (a / 128 % 2 * 0x11D)

-- x^n times a polynomial
unfoldable pub doubles : ℕ → ℕ → ℕ
doubles zero a = a
doubles (suc n) a = doubles n (double a)

-- the product, by the lowest n terms of b
unfoldable pub partial : ℕ → ℕ → ℕ → ℕ
partial zero a b = 0
partial (suc n) a b = bit_xor (b % 2 * a) (partial n (double a) (b / 2))

abbrev pub multiply : ℕ → ℕ → ℕ
multiply a b = partial 8 a b

-- the product of the first n of the squares a^2, a^4, a^8, ..: a^254 for n = 7
unfoldable pub squares : ℕ → ℕ → ℕ
squares zero a = 1
squares (suc n) a = let b = multiply a a in multiply b (squares n b)

abbrev pub gf256 : Arithmetic
gf256 = record {
  size = 256;
  plus = total₂ 256 bit_xor;
  minus = total₁ 256 (λ x. x);
  times = total₂ 256 multiply;
}

-- the inverse: the power 254
abbrev pub inverse_gf256 : ℕ → ℕ
inverse_gf256 = total₁ 256 (λ x. squares 7 x)
