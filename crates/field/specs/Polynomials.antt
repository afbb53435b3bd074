-- The polynomials over two elements modulo x^8 + x^4 + x^3 + x^2 + 1 are a field. Assumes nothing.
use Rattle.std.specs.Prelude.{◌≡◌, ℕ, zero, suc, ◌+◌, ◌-◌, ◌*◌, ◌/◌, ◌%◌, ◌<◌, Bool, true, false, ◌||◌, ltb, ◌⊎◌, ◌==◌, ◌≢◌, nat_eq, nat_lt, refl}
use Rattle.std.proofs.Common.{sym, ap, ap₂, subst, ◌∙◌, inl, inr, mod-lt, zero-mul, one-mul, mul-zero, zero-add, suc-add, add_comm, arith, lit<, lit≤, eqb-true, ltb-true, ne_eqb}
use Rattle.std.specs.Int.Bits.{bit_xor, xor_assoc, xor_self, xor_zero_r}
use Rattle.std.proofs.lemmas.Nat.{xor_comm, xor_shr, xor_mod, xor_block, xor_lt}
use Rattle.std.proofs.lemmas.Bool.{cases_eq}
use Rattle.field.specs.Binary.{double, doubles, partial, multiply, squares, gf256, inverse_gf256}
use Rattle.field.specs.Laws.{Ring, Inverses}
use Rattle.field.specs.Totals.{Elements, made_total, in₁, in₂, past₁, below₁}
use Rattle.field.specs.Computed.{passes, passed, both, both_left, both_right}

cases_bit : (u : ℕ) → u < 2 → (u ≡ 0) ⊎ (u ≡ 1)
cases_bit u h = elim (cases_eq u 0) [ inl e ↦ inl e | inr ne ↦ inr (omega arith) ]

-- what holds at both bits holds at a bit
bit_ind : (P : ℕ → Type 0) → P 0 → P 1 → (u : ℕ) → u < 2 → P u
bit_ind P p0 p1 u h = elim (cases_bit u h) [ inl e ↦ subst P (sym e) p0 | inr e ↦ subst P (sym e) p1 ]

low : (b : ℕ) → b % 2 < 2
low b = mod-lt b (lit< tt)

-- ---- sums

xor_swap : (p q r s : ℕ) → bit_xor (bit_xor p q) (bit_xor r s) ≡ bit_xor (bit_xor p r) (bit_xor q s)
xor_swap p q r s =
    xor_assoc p q (bit_xor r s) ∙ ap (bit_xor p) (sym (xor_assoc q r s) ∙ ap (λ (v : ℕ). bit_xor v s) (xor_comm q r) ∙ xor_assoc r q s)
    ∙ sym (xor_assoc p r (bit_xor q s))

-- a bit times a, of two bits
bits_times : (a u v : ℕ) → u < 2 → v < 2 → bit_xor u v * a ≡ bit_xor (u * a) (v * a)
bits_times a u v hu hv =
    bit_ind (λ u. bit_xor u v * a ≡ bit_xor (u * a) (v * a))
    (sym (ap (λ (w : ℕ). bit_xor w (v * a)) (zero-mul a)))
    (bit_ind (λ v. bit_xor 1 v * a ≡ bit_xor (1 * a) (v * a))
    (sym (ap (bit_xor (1 * a)) (zero-mul a) ∙ xor_zero_r (1 * a)))
    (zero-mul a ∙ sym (xor_self (1 * a))) v hv)
    u hu

-- ---- the double is linear

shifted : (a b : ℕ) → bit_xor a b * 2 ≡ bit_xor (a * 2) (b * 2)
shifted a b =
    let h = xor_block 1 a b 0 0 (lit< tt) (lit< tt) in
    omega (arith, h, ap₂ bit_xor (add_nought (a * 2)) (add_nought (b * 2)))
  where
    add_nought : (n : ℕ) → n + 0 ≡ n
    add_nought n = omega arith

pub double_xor : (a b : ℕ) → double (bit_xor a b) ≡ bit_xor (double a) (double b)
unfolding double
double_xor a b =
    let top : bit_xor a b / 128 % 2 ≡ bit_xor (a / 128 % 2) (b / 128 % 2) = ap (λ (v : ℕ). v % 2) (xor_shr a b 7) ∙ xor_mod (a / 128) (b / 128) 1 in
    ap₂ bit_xor (shifted a b) (ap (λ (v : ℕ). v * 285) top ∙ bits_times 285 (a / 128 % 2) (b / 128 % 2) (low (a / 128)) (low (b / 128)))
    ∙ xor_swap (a * 2) (b * 2) (a / 128 % 2 * 285) (b / 128 % 2 * 285)

double_zero : double 0 ≡ 0
unfolding double
double_zero = refl

double_bit : (a u : ℕ) → u < 2 → double (u * a) ≡ u * double a
double_bit a u h =
    bit_ind (λ u. double (u * a) ≡ u * double a)
    (ap double (zero-mul a) ∙ double_zero ∙ sym (zero-mul (double a)))
    (ap double (one-mul a) ∙ sym (one-mul (double a))) u h

doubled_below : passes (λ a. ltb (double a) 256) 256 ≡ true
unfolding double
doubled_below = refl

double_below : (a : ℕ) → a < 256 → double a < 256
double_below a h = ltb-true (double a) 256 (passed (λ a. ltb (double a) 256) 256 doubled_below a h)

-- ---- the product is linear on both sides

partial_zero : (n b : ℕ) → partial n 0 b ≡ 0
unfolding partial
partial_zero zero b = refl
partial_zero (suc n) b =
    ap₂ bit_xor (mul-zero (b % 2)) (ap (λ (v : ℕ). partial n v (b / 2)) double_zero ∙ partial_zero n (b / 2))

partial_double : (n a b : ℕ) → partial n (double a) b ≡ double (partial n a b)
unfolding partial
partial_double zero a b = sym double_zero
partial_double (suc n) a b =
    ap₂ bit_xor (sym (double_bit a (b % 2) (low b))) (partial_double n (double a) (b / 2))
    ∙ sym (double_xor (b % 2 * a) (partial n (double a) (b / 2)))

partial_xor_right : (n a b c : ℕ) → partial n a (bit_xor b c) ≡ bit_xor (partial n a b) (partial n a c)
unfolding partial
partial_xor_right zero a b c = refl
partial_xor_right (suc n) a b c =
    ap₂ bit_xor (ap (λ (v : ℕ). v * a) (xor_mod b c 1) ∙ bits_times a (b % 2) (c % 2) (low b) (low c))
    (ap (partial n (double a)) (xor_shr b c 1) ∙ partial_xor_right n (double a) (b / 2) (c / 2))
    ∙ xor_swap (b % 2 * a) (c % 2 * a) (partial n (double a) (b / 2)) (partial n (double a) (c / 2))

bit_times_xor : (u a b : ℕ) → u < 2 → u * bit_xor a b ≡ bit_xor (u * a) (u * b)
bit_times_xor u a b h =
    bit_ind (λ u. u * bit_xor a b ≡ bit_xor (u * a) (u * b))
    (zero-mul (bit_xor a b) ∙ sym (ap₂ bit_xor (zero-mul a) (zero-mul b)))
    (one-mul (bit_xor a b) ∙ sym (ap₂ bit_xor (one-mul a) (one-mul b))) u h

partial_xor_left : (n a b c : ℕ) → partial n (bit_xor a b) c ≡ bit_xor (partial n a c) (partial n b c)
unfolding partial
partial_xor_left zero a b c = refl
partial_xor_left (suc n) a b c =
    ap₂ bit_xor (bit_times_xor (c % 2) a b (low c))
    (ap (λ (v : ℕ). partial n v (c / 2)) (double_xor a b) ∙ partial_xor_left n (double a) (double b) (c / 2))
    ∙ xor_swap (c % 2 * a) (c % 2 * b) (partial n (double a) (c / 2)) (partial n (double b) (c / 2))

partial_bit : (n u a c : ℕ) → u < 2 → partial n (u * a) c ≡ u * partial n a c
partial_bit n u a c h =
    bit_ind (λ u. partial n (u * a) c ≡ u * partial n a c)
    (ap (λ (v : ℕ). partial n v c) (zero-mul a) ∙ partial_zero n c ∙ sym (zero-mul (partial n a c)))
    (ap (λ (v : ℕ). partial n v c) (one-mul a) ∙ sym (one-mul (partial n a c))) u h

-- two factors may change places
partial_swap : (n m a b c : ℕ) → partial n (partial m a b) c ≡ partial m (partial n a c) b
unfolding partial
partial_swap n zero a b c = partial_zero n c
partial_swap n (suc m) a b c =
    partial_xor_left n (b % 2 * a) (partial m (double a) (b / 2)) c
    ∙ ap₂ bit_xor (partial_bit n (b % 2) a c (low b))
    (partial_swap n m (double a) (b / 2) c ∙ ap (λ (v : ℕ). partial m v (b / 2)) (partial_double n a c))

partial_below : (n a b : ℕ) → a < 256 → partial n a b < 256
unfolding partial
partial_below zero a b h = lit< tt
partial_below (suc n) a b h =
    xor_lt 8 (b % 2 * a) (partial n (double a) (b / 2))
    (bit_ind (λ u. u * a < 256) (omega arith) (omega arith) (b % 2) (low b))
    (partial_below n (double a) (b / 2) (double_below a h))

-- ---- the unit, and what follows

one_each : passes (λ b. nat_eq (multiply 1 b) b) 256 ≡ true
unfolding double partial
one_each = refl

one_times : (b : ℕ) → b < 256 → multiply 1 b ≡ b
one_times b h = eqb-true (multiply 1 b) b (passed (λ b. nat_eq (multiply 1 b) b) 256 one_each b h)

multiply_comm : (a b : ℕ) → a < 256 → b < 256 → multiply a b ≡ multiply b a
multiply_comm a b h k =
    ap (λ (v : ℕ). multiply v b) (sym (one_times a h)) ∙ partial_swap 8 8 1 a b ∙ ap (λ (v : ℕ). multiply v a) (one_times b k)

multiply_assoc : (a b c : ℕ) → a < 256 → b < 256 → c < 256 → multiply (multiply a b) c ≡ multiply a (multiply b c)
multiply_assoc a b c ha hb hc =
    ap (λ (v : ℕ). multiply v c) (multiply_comm a b ha hb) ∙ partial_swap 8 8 b a c
    ∙ multiply_comm (multiply b c) a (partial_below 8 b c hb) ha

polynomials : Elements 256 bit_xor (λ x. x) multiply
polynomials = record {
  plus_below = λ x y h k. xor_lt 8 x y h k;
  minus_below = λ x h. h;
  times_below = λ x y h k. partial_below 8 x y h;
  plus_comm = λ x y h k. xor_comm x y;
  plus_assoc = λ x y z h k l. xor_assoc x y z;
  plus_zero = λ x h. xor_zero_r x;
  plus_minus = λ x h. xor_self x;
  times_comm = multiply_comm;
  times_assoc = multiply_assoc;
  times_one = λ x h. multiply_comm x 1 h (lit< tt) ∙ one_times x h;
  times_plus = λ x y z h k l. partial_xor_right 8 x y z;
}

pub ring : Ring gf256
ring = made_total (lit≤ tt) (lit≤ tt) polynomials

-- ---- powers of 2

partial_doubles : (m n a b : ℕ) → partial m (doubles n a) b ≡ doubles n (partial m a b)
unfolding doubles
partial_doubles m zero a b = refl
partial_doubles m (suc n) a b = partial_doubles m n (double a) b ∙ ap (doubles n) (partial_double m a b)

doubles_add : (m n a : ℕ) → doubles n (doubles m a) ≡ doubles (m + n) a
unfolding doubles
doubles_add zero n a = ap (λ (v : ℕ). doubles v a) (sym (zero-add n))
doubles_add (suc m) n a = doubles_add m n (double a) ∙ ap (λ (v : ℕ). doubles v a) (sym (suc-add m n))

-- the product of two numbers by their logarithms
pub by_logarithms : (l k x y : ℕ) → doubles l 1 ≡ x → doubles k 1 ≡ y → y < 256 → multiply x y ≡ doubles (l + k) 1
by_logarithms l k x y ex ey h =
    ap (λ (v : ℕ). multiply v y) (sym ex) ∙ partial_doubles 8 l 1 y ∙ ap (doubles l) (one_times y h ∙ sym ey) ∙ doubles_add k l 1
    ∙ ap (λ (v : ℕ). doubles v 1) (add_comm k l)

pub zero_product : (x y : ℕ) → x < 256 → y < 256 → (x ≡ 0) ⊎ (y ≡ 0) → gf256.times x y ≡ 0
zero_product x y h k e =
    in₂ 256 multiply x y h k
    ∙ elim e [
      | inl e ↦ ap (λ (v : ℕ). multiply v y) e ∙ partial_zero 8 y
      | inr e ↦ multiply_comm x y h k ∙ ap (λ (v : ℕ). multiply v x) e ∙ partial_zero 8 x
    ]

-- the logarithm of x among the n numbers that begin with p, which has the logarithm i
abbrev pub sought : ℕ → ℕ → ℕ → ℕ → ℕ
sought zero p i x = 0
sought (suc n) p i x = elim (p == x) [ true ↦ i | false ↦ sought n (double p) (suc i) x ]

abbrev pub logarithm : ℕ → ℕ
logarithm x = sought 255 1 0 x

abbrev right_logarithm : ℕ → Bool
right_logarithm x = x == 0 || both (nat_lt (logarithm x) 255) (doubles (logarithm x) 1 == x)

right_logarithms : passes right_logarithm 256 ≡ true
unfolding double doubles
right_logarithms = refl

or_second : (a b : Bool) → (a || b) ≡ true → a ≡ false → b ≡ true
or_second a b t e = ap (λ (v : Bool). v || b) (sym e) ∙ t

pub logarithm_right : (x : ℕ) → x < 256 → 0 < x → (logarithm x < 255) × (doubles (logarithm x) 1 ≡ x)
logarithm_right x h pos =
    let apart : x ≡ 0 → ⊥ = omega arith in
    let small : Bool = ltb (logarithm x) 255 in
    let exact : Bool = nat_eq (doubles (logarithm x) 1) x in
    let t : both small exact ≡ true = or_second (x == 0) (both small exact) (passed right_logarithm 256 right_logarithms x h) (ne_eqb x 0 apart) in
    (ltb-true (logarithm x) 255 (both_left small exact t), eqb-true (doubles (logarithm x) 1) x (both_right small exact t))

-- ---- inverses

abbrev inverted : ℕ → Bool
inverted x = x == 0 || multiply x (squares 7 x) == 1

all_inverted : passes inverted 256 ≡ true
unfolding double partial squares
all_inverted = refl

power_below : (x n : ℕ) → x < 256 → squares n x < 256
unfolding squares
power_below x zero h = lit< tt
power_below x (suc n) h = partial_below 8 (multiply x x) (squares n (multiply x x)) (partial_below 8 x x h)

power_inverts : (x : ℕ) → x < 256 → (x ≢ 0) → multiply x (squares 7 x) ≡ 1
power_inverts x h ne =
    eqb-true (multiply x (squares 7 x)) 1 (or_second (x == 0) (multiply x (squares 7 x) == 1) (passed inverted 256 all_inverted x h) (ne_eqb x 0 ne))

power_zero : squares 7 0 ≡ 0
unfolding double partial squares
power_zero = refl

pub inverses : Inverses gf256 inverse_gf256
inverses = record {
  inverse_below = below₁ 256 (λ x. squares 7 x) (lit< tt) (λ x h. power_below x 7 h);
  times_inverse = λ x h ne.
      ap (gf256.times x) (in₁ 256 (λ x. squares 7 x) x h) ∙ in₂ 256 multiply x (squares 7 x) h (power_below x 7 h) ∙ power_inverts x h ne;
  inverse_zero = power_zero;
  inverse_past = past₁ 256 (λ x. squares 7 x);
}

unique : (x u v : ℕ) → x < 256 → u < 256 → v < 256 → multiply x u ≡ 1 → multiply x v ≡ 1 → u ≡ v
unique x u v hx hu hv eu ev =
    sym (multiply_comm u 1 hu (lit< tt) ∙ one_times u hu) ∙ ap (multiply u) (sym ev) ∙ sym (multiply_assoc u x v hu hx hv)
    ∙ ap (λ (w : ℕ). multiply w v) (multiply_comm u x hu hx ∙ eu) ∙ one_times v hv

all_round : doubles 255 1 ≡ 1
unfolding double doubles
all_round = refl

doubles_below : (n a : ℕ) → a < 256 → doubles n a < 256
unfolding doubles
doubles_below zero a h = h
doubles_below (suc n) a h = doubles_below n (double a) (double_below a h)

pub inverse_by_logarithm : (l x : ℕ) → l < 255 → x < 256 → 0 < x → doubles l 1 ≡ x → inverse_gf256 x ≡ doubles (255 - l) 1
inverse_by_logarithm l x hl h pos e =
    let apart : x ≡ 0 → ⊥ = omega arith in
    let whole : l + (255 - l) ≡ 255 = omega arith in
    let b : doubles (255 - l) 1 < 256 = doubles_below (255 - l) 1 (lit< tt) in
    in₁ 256 (λ x. squares 7 x) x h
    ∙ unique x (squares 7 x) (doubles (255 - l) 1) h (power_below x 7 h) b (power_inverts x h apart)
    (by_logarithms l (255 - l) x (doubles (255 - l) 1) e refl b ∙ ap (λ (v : ℕ). doubles v 1) whole ∙ all_round)
