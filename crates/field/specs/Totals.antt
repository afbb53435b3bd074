-- What an operation made total answers. Assumes nothing.
use Rattle.std.specs.Prelude.{◌≡◌, ℕ, ◌<◌, ◌≤◌, Bool, true, false, cond, nat_lt, refl}
use Rattle.std.proofs.Common.{sym, ap, ◌∙◌, inl, inr, arith, lt-ltb, le-ltb}
use Rattle.std.proofs.lemmas.Bool.{cases_lt}
use Rattle.field.specs.Total.{total₁, total₂}
use Rattle.field.specs.Laws.{Ring}

module _ (q : ℕ) where
  pub in₁ : (f : ℕ → ℕ) (x : ℕ) → x < q → total₁ q f x ≡ f x
  in₁ f x h = ap (λ (b : Bool). cond b (f x) 0) (lt-ltb x q h)

  pub past₁ : (f : ℕ → ℕ) (x : ℕ) → q ≤ x → total₁ q f x ≡ 0
  past₁ f x h = ap (λ (b : Bool). cond b (f x) 0) (le-ltb x q h)

  pub in₂ : (f : ℕ → ℕ → ℕ) (x y : ℕ) → x < q → y < q → total₂ q f x y ≡ f x y
  in₂ f x y h k =
      ap (λ (b : Bool). cond b (cond (nat_lt y q) (f x y) 0) 0) (lt-ltb x q h) ∙ ap (λ (b : Bool). cond b (f x y) 0) (lt-ltb y q k)

  pub past₂_left : (f : ℕ → ℕ → ℕ) (x y : ℕ) → q ≤ x → total₂ q f x y ≡ 0
  past₂_left f x y h = ap (λ (b : Bool). cond b (cond (nat_lt y q) (f x y) 0) 0) (le-ltb x q h)

  either_zero : (b : Bool) → cond {A = ℕ} b 0 0 ≡ 0
  either_zero true = refl
  either_zero false = refl

  pub past₂_right : (f : ℕ → ℕ → ℕ) (x y : ℕ) → q ≤ y → total₂ q f x y ≡ 0
  past₂_right f x y h =
      ap (λ (b : Bool). cond (nat_lt x q) (cond b (f x y) 0) 0) (le-ltb y q h) ∙ either_zero (nat_lt x q)

  pub below₁ : (f : ℕ → ℕ) → 0 < q → ((x : ℕ) → x < q → f x < q) → (x : ℕ) → total₁ q f x < q
  below₁ f pos cl x =
      elim (cases_lt x q) [ inl h ↦ omega (arith, in₁ f x h, cl x h) | inr h ↦ omega (arith, past₁ f x h) ]

  pub below₂ : (f : ℕ → ℕ → ℕ) → 0 < q → ((x y : ℕ) → x < q → y < q → f x y < q) → (x y : ℕ) → total₂ q f x y < q
  below₂ f pos cl x y =
      elim (cases_lt x q) [
        | inl h ↦ elim (cases_lt y q) [ inl k ↦ omega (arith, in₂ f x y h k, cl x y h k) | inr k ↦ omega (arith, past₂_right f x y k) ]
        | inr h ↦ omega (arith, past₂_left f x y h)
      ]

-- The laws on elements alone.
pub record Elements (q : ℕ) (plus : ℕ → ℕ → ℕ) (minus : ℕ → ℕ) (times : ℕ → ℕ → ℕ) : Type 0 where
  pub plus_below : (x y : ℕ) → x < q → y < q → plus x y < q
  pub minus_below : (x : ℕ) → x < q → minus x < q
  pub times_below : (x y : ℕ) → x < q → y < q → times x y < q
  pub plus_comm : (x y : ℕ) → x < q → y < q → plus x y ≡ plus y x
  pub plus_assoc : (x y z : ℕ) → x < q → y < q → z < q → plus (plus x y) z ≡ plus x (plus y z)
  pub plus_zero : (x : ℕ) → x < q → plus x 0 ≡ x
  pub plus_minus : (x : ℕ) → x < q → plus x (minus x) ≡ 0
  pub times_comm : (x y : ℕ) → x < q → y < q → times x y ≡ times y x
  pub times_assoc : (x y z : ℕ) → x < q → y < q → z < q → times (times x y) z ≡ times x (times y z)
  pub times_one : (x : ℕ) → x < q → times x 1 ≡ x
  pub times_plus : (x y z : ℕ) → x < q → y < q → z < q → times x (plus y z) ≡ plus (times x y) (times x z)

module _ {q : ℕ} {plus : ℕ → ℕ → ℕ} {minus : ℕ → ℕ} {times : ℕ → ℕ → ℕ} (least : 2 ≤ q) (most : q ≤ 256) (e : Elements q plus minus times) where
  -- an operation of two operations, made total or not, on elements
  left : (f g : ℕ → ℕ → ℕ) (x y z : ℕ) → g x y < q → x < q → y < q → z < q → total₂ q f (total₂ q g x y) z ≡ f (g x y) z
  left f g x y z b hx hy hz = ap (λ (v : ℕ). total₂ q f v z) (in₂ q g x y hx hy) ∙ in₂ q f (g x y) z b hz

  right : (f g : ℕ → ℕ → ℕ) (x y z : ℕ) → g y z < q → x < q → y < q → z < q → total₂ q f x (total₂ q g y z) ≡ f x (g y z)
  right f g x y z b hx hy hz = ap (λ (v : ℕ). total₂ q f x v) (in₂ q g y z hy hz) ∙ in₂ q f x (g y z) hx b

  pub made_total : Ring (record { size = q; plus = total₂ q plus; minus = total₁ q minus; times = total₂ q times })
  made_total =
      let pos : 0 < q = omega arith in
      let one : 1 < q = omega arith in
      record {
        least = least;
        most = most;
        plus_below = below₂ q plus pos e.plus_below;
        minus_below = below₁ q minus pos e.minus_below;
        times_below = below₂ q times pos e.times_below;
        plus_comm = λ x y h k. in₂ q plus x y h k ∙ e.plus_comm x y h k ∙ sym (in₂ q plus y x k h);
        plus_assoc = λ x y z h k l.
            left plus plus x y z (e.plus_below x y h k) h k l ∙ e.plus_assoc x y z h k l ∙ sym (right plus plus x y z (e.plus_below y z k l) h k l);
        plus_zero = λ x h. in₂ q plus x 0 h pos ∙ e.plus_zero x h;
        plus_minus = λ x h.
            ap (total₂ q plus x) (in₁ q minus x h) ∙ in₂ q plus x (minus x) h (e.minus_below x h) ∙ e.plus_minus x h;
        times_comm = λ x y h k. in₂ q times x y h k ∙ e.times_comm x y h k ∙ sym (in₂ q times y x k h);
        times_assoc = λ x y z h k l.
            left times times x y z (e.times_below x y h k) h k l ∙ e.times_assoc x y z h k l ∙ sym (right times times x y z (e.times_below y z k l) h k l);
        times_one = λ x h. in₂ q times x 1 h one ∙ e.times_one x h;
        times_plus = λ x y z h k l.
            right times plus x y z (e.plus_below y z k l) h k l ∙ e.times_plus x y z h k l
            ∙ sym (ap (λ (v : ℕ). total₂ q plus v (total₂ q times x z)) (in₂ q times x y h k)
            ∙ ap (λ (v : ℕ). total₂ q plus (times x y) v) (in₂ q times x z h l)
            ∙ in₂ q plus (times x y) (times x z) (e.times_below x y h k) (e.times_below x z h l));
        plus_past = λ x y h. (past₂_left q plus x y h, past₂_right q plus y x h);
        minus_past = past₁ q minus;
        times_past = λ x y h. (past₂_left q times x y h, past₂_right q times y x h);
      }
