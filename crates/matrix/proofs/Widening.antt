-- The wide matrix at the start. Assumes nothing.
use Rattle.std.proofs.Common.{◌≡◌, ℕ, ◌+◌, ◌-◌, ◌<◌, List, sym, ap, ◌∙◌, subst, inl, inr, arith}
use Rattle.std.proofs.lemmas.Bool.{cases_eq, cases_lt}
use Rattle.field.specs.Arithmetic.{Arithmetic}
use Rattle.field.specs.Laws.{Ring}
use Rattle.field.proofs.Algebra as algebra
use Rattle.matrix.specs.Matrices.{entry}
use Rattle.matrix.specs.Elimination.{Widened, Elements}

module _ {ar : Arithmetic} (R : Ring ar) where
  -- a number counts as its product with 1 does, also one that is no element
  pub times_made : (c v : ℕ) → v < ar.size → ar.times (ar.times c 1) v ≡ ar.times c v
  times_made c v h =
      elim (cases_lt c ar.size) [
        | inl b ↦ ap (λ (u : ℕ). ar.times u v) (R.times_one c b)
        | inr past ↦ ap (λ (u : ℕ). ar.times u v) (R.times_past c 1 past).0 ∙ algebra.zero_times R v h ∙ sym (R.times_past c v past).0
      ]

  pub widened_elements : (m wide : List (List ℕ)) → Widened ar m wide → Elements ar.size wide
  widened_elements m wide w i j hi hj =
      elim (cases_lt j 6) [
        | inl h ↦ subst (λ (v : ℕ). v < ar.size) (sym ((w i hi).coefficients j h)) (R.times_below (entry m i j) 1)
        | inr past ↦
            let s : ℕ = j - 6 in
            let is : 6 + s ≡ j = omega arith in
            subst (λ (v : ℕ). entry wide i v < ar.size) is
            (elim (cases_eq s i) [
              | inl own ↦ subst (λ (v : ℕ). v < ar.size) (sym (ap (λ (v : ℕ). entry wide i (6 + v)) own ∙ (w i hi).unit)) (algebra.one_below R)
              | inr ne ↦ subst (λ (v : ℕ). v < ar.size) (sym ((w i hi).others s (omega arith) ne)) (algebra.zero_below R)
            ])
      ]
