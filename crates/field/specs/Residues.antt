-- Whole numbers modulo m, from 2 to 256, are a ring. Assumes nothing.
use Rattle.std.specs.Prelude.{◌≡◌, ℕ, ◌+◌, ◌-◌, ◌*◌, ◌/◌, ◌%◌, ◌<◌, ◌≤◌}
use Rattle.std.proofs.Common.{sym, ap, ◌∙◌, add_comm, add_assoc, add-zero, mul_comm, mul_assoc, mul-one, mul-add, mod-lt, mod-eq_of_lt, add-mul, arith}
use Rattle.std.proofs.Math.Nat.{mod_self, add-mod-mod, mod-add-mod, add-mod, mod-add-div, add-mul-mod_self_left}
use Rattle.field.specs.Modular.{modulo}
use Rattle.field.specs.Laws.{Ring}
use Rattle.field.specs.Totals.{Elements, made_total}

module _ (m : ℕ) (least : 2 ≤ m) (most : m ≤ 256) where
  pos : 0 < m
  pos = omega arith

  mod_mul_mod : (a b : ℕ) → (a % m * b) % m ≡ (a * b) % m
  mod_mul_mod a b =
      let parts : a % m * b + m * (a / m * b) ≡ a * b =
      ap (λ (v : ℕ). a % m * b + v) (sym (mul_assoc m (a / m) b)) ∙ sym (add-mul (a % m) (m * (a / m)) b)
      ∙ ap (λ (v : ℕ). v * b) (mod-add-div a m) in
      sym (add-mul-mod_self_left (a % m * b) m (a / m * b)) ∙ ap (λ (v : ℕ). v % m) parts

  mul_mod_mod : (a b : ℕ) → (a * (b % m)) % m ≡ (a * b) % m
  mul_mod_mod a b =
      ap (λ (v : ℕ). v % m) (mul_comm a (b % m)) ∙ mod_mul_mod b a ∙ ap (λ (v : ℕ). v % m) (mul_comm b a)

  residues : Elements m (λ x y. (x + y) % m) (λ x. (m - x) % m) (λ x y. (x * y) % m)
  residues = record {
    plus_below = λ x y h k. mod-lt (x + y) pos;
    minus_below = λ x h. mod-lt (m - x) pos;
    times_below = λ x y h k. mod-lt (x * y) pos;
    plus_comm = λ x y h k. ap (λ (v : ℕ). v % m) (add_comm x y);
    plus_assoc = λ x y z h k l. mod-add-mod (x + y) m z ∙ ap (λ (v : ℕ). v % m) (add_assoc x y z) ∙ sym (add-mod-mod x (y + z) m);
    plus_zero = λ x h. ap (λ (v : ℕ). v % m) (add-zero x) ∙ mod-eq_of_lt h;
    plus_minus = λ x h.
        let whole : x + (m - x) ≡ m = omega arith in
        add-mod-mod x (m - x) m ∙ ap (λ (v : ℕ). v % m) whole ∙ mod_self m;
    times_comm = λ x y h k. ap (λ (v : ℕ). v % m) (mul_comm x y);
    times_assoc = λ x y z h k l. mod_mul_mod (x * y) z ∙ ap (λ (v : ℕ). v % m) (mul_assoc x y z) ∙ sym (mul_mod_mod x (y * z));
    times_one = λ x h. ap (λ (v : ℕ). v % m) (mul-one x) ∙ mod-eq_of_lt h;
    times_plus = λ x y z h k l. mul_mod_mod x (y + z) ∙ ap (λ (v : ℕ). v % m) (mul-add x y z) ∙ add-mod (x * y) (x * z) m;
  }

  pub ring : Ring (modulo m)
  ring = made_total least most residues
