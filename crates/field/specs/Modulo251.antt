-- Inverses modulo 251: a test at each number, that antt computes. Assumes nothing.
use Rattle.std.specs.Prelude.{◌≡◌, ℕ, ◌*◌, ◌%◌, ◌^◌, ◌<◌, Bool, true, false, ◌||◌, ◌==◌, refl}
use Rattle.std.proofs.Common.{sym, ap, ◌∙◌, mod-lt, lit<, eqb-true, ne_eqb}
use Rattle.field.specs.Modular.{modulo, inverse_modulo}
use Rattle.field.specs.Laws.{Inverses}
use Rattle.field.specs.Totals.{in₁, in₂, past₁, below₁}
use Rattle.field.specs.Computed.{passes, passed}

abbrev inverted : ℕ → Bool
inverted x = x == 0 || (x * (x ^ 249 % 251)) % 251 == 1

all_inverted : passes inverted 251 ≡ true
all_inverted = refl

or_second : (a b : Bool) → (a || b) ≡ true → a ≡ false → b ≡ true
or_second a b t e = ap (λ (v : Bool). v || b) (sym e) ∙ t

pub inverses : Inverses (modulo 251) (inverse_modulo 251)
inverses = record {
  inverse_below = below₁ 251 (λ x. x ^ 249 % 251) (lit< tt) (λ x h. mod-lt (x ^ 249) (lit< tt));
  times_inverse = λ x h ne.
      let v : ℕ = x ^ 249 % 251 in
      let b : v < 251 = mod-lt (x ^ 249) (lit< tt) in
      ap ((modulo 251).times x) (in₁ 251 (λ x. x ^ 249 % 251) x h) ∙ in₂ 251 (λ x y. (x * y) % 251) x v h b
      ∙ eqb-true ((x * v) % 251) 1 (or_second (x == 0) ((x * v) % 251 == 1) (passed inverted 251 all_inverted x h) (ne_eqb x 0 ne));
  inverse_zero = refl;
  inverse_past = past₁ 251 (λ x. x ^ 249 % 251);
}
