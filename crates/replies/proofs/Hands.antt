-- Sets of servers in hand. Assumes nothing.
use Rattle.std.proofs.Common.{◌≡◌, ℕ, ◌+◌, ◌≤◌, Bool, true, false, cond, ◌&&◌, ◌||◌, eqb, ltb, sym, refl, ap, ◌∙◌, ap₂, inl, inr, arith}
use mathlib.Core.Path.{fun_ext}
use Rattle.std.proofs.lemmas.Bool.{cases_eq, cases_lt, lt-ltb, le-ltb}
use Rattle.rules.specs.Words.{upd}
use Rattle.reads.proofs.Words.{upd_same, upd_other}

or_cond : (a b : Bool) → (a || b) ≡ cond a true b
or_cond true b = refl
or_cond false b = refl

-- one more in the set
pub joined_upd : (f g : ℕ → Bool) (s : ℕ) → ((j : ℕ) → g j ≡ (eqb j s || f j)) → g ≡ upd f s true
unfolding upd
joined_upd f g s is = fun_ext (λ j. is j ∙ or_cond (eqb j s) (f j))

below_but : (j s : ℕ) → (j ≡ s → ⊥) → ltb j s ≡ ltb j (s + 1)
below_but j s ne = elim (cases_lt j s) [ inl h ↦ lt-ltb j s h ∙ sym (lt-ltb j (s + 1) (omega arith)) | inr h ↦ le-ltb j s h ∙ sym (le-ltb j (s + 1) (omega (arith, ne))) ]

module _ (f g : ℕ → Bool) (s : ℕ) (so_far : (j : ℕ) → g j ≡ (ltb j s && f j)) where
  -- s passes, and is added
  pub gathered_more : f s ≡ true → (j : ℕ) → upd g s true j ≡ (ltb j (s + 1) && f j)
  gathered_more yes_s j =
      elim (cases_eq j s) [
        | inl e ↦ ap (upd g s true) e ∙ upd_same g s true ∙ sym (ap₂ (λ a b. a && b) (ap (λ (k : ℕ). ltb k (s + 1)) e ∙ lt-ltb s (s + 1) (omega arith)) (ap f e ∙ yes_s))
        | inr ne ↦ upd_other g s j true ne ∙ so_far j ∙ ap (λ b. b && f j) (below_but j s ne)
      ]

  -- s does not pass
  pub gathered_skip : f s ≡ false → (j : ℕ) → g j ≡ (ltb j (s + 1) && f j)
  gathered_skip no_s j =
      elim (cases_eq j s) [
        | inl e ↦ so_far j ∙ ap₂ (λ a b. a && b) (ap (λ (k : ℕ). ltb k s) e ∙ le-ltb s s (omega arith)) (refl {a = f j}) ∙ sym (ap₂ (λ a b. a && b) (ap (λ (k : ℕ). ltb k (s + 1)) e ∙ lt-ltb s (s + 1) (omega arith)) (ap f e ∙ no_s))
        | inr ne ↦ so_far j ∙ ap (λ b. b && f j) (below_but j s ne)
      ]

-- all that may be are gathered
pub gathered_all : (f g : ℕ → Bool) (n : ℕ) → ((j : ℕ) → g j ≡ (ltb j n && f j)) → ((j : ℕ) → n ≤ j → f j ≡ false) → (j : ℕ) → g j ≡ f j
gathered_all f g n all past j =
    elim (cases_lt j n) [
      | inl h ↦ all j ∙ ap (λ b. b && f j) (lt-ltb j n h)
      | inr h ↦ all j ∙ ap (λ b. b && f j) (le-ltb j n h) ∙ sym (past j h)
    ]
