-- Re-encoding turns the symbol of the old values into that of the new. Assumes nothing.
use Rattle.std.proofs.Common.{◌≡◌, ℕ, ◌<◌, Bool, cond, List, get_or, sym, refl, ap, ◌∙◌, ap₂, eq-eqb, ne_eqb}
use Rattle.terms.proofs.Listed.{listed_at, listed_same}
use Rattle.field.specs.Laws.{Ring}
use Rattle.field.proofs.Algebra as algebra
use Rattle.code.specs.Codings.{Coding, Value, Values, combination, re_encoded, re_encoded_cell, replaced, Turned}

module _ (g : Coding) (R : Ring g.arithmetic) (s x : ℕ) (within : x < g.objects) (new : List ℕ) (N : Value g new) where
  replaced_here : (v : ℕ → List ℕ) → replaced v x new x ≡ new
  replaced_here v = ap (λ (b : Bool). cond b new (v x)) (eq-eqb x x refl)

  replaced_there : (v : ℕ → List ℕ) (y : ℕ) → (y ≡ x → ⊥) → replaced v x new y ≡ v y
  replaced_there v y ne = ap (λ (b : Bool). cond b new (v y)) (ne_eqb y x ne)

  -- one cell
  turned_cell : (v : ℕ → List ℕ) → Values g v → (c : ℕ) → c < g.cells
      → re_encoded_cell g s x (combination g s (λ y. get_or (v y) c 0)) (get_or (v x) c 0) (get_or new c 0) ≡ combination g s (λ y. get_or (replaced v x new y) c 0)
  turned_cell v V c h =
      let a = g.arithmetic in
      let f : ℕ = g.coefficient s x in
      let old : ℕ = get_or (v x) c 0 in
      let late : ℕ = get_or new c 0 in
      sym (algebra.sum_change R g.objects (λ y. a.times (g.coefficient s y) (get_or (v y) c 0)) (λ y. a.times (g.coefficient s y) (get_or (replaced v x new y) c 0))
      x (a.times f (a.plus late (a.minus old))) within (λ j b. R.times_below (g.coefficient s j) (get_or (v j) c 0)) (R.times_below f (a.plus late (a.minus old)))
      (λ j b ne. ap (λ (u : List ℕ). a.times (g.coefficient s j) (get_or u c 0)) (replaced_there v j ne))
      (ap (λ (u : List ℕ). a.times f (get_or u c 0)) (replaced_here v) ∙ algebra.times_difference R f old late ((V x within).elements c h) (N.elements c h)))

  pub turned : (before old : List ℕ) → Turned g s x before old new (re_encoded g s x before old new)
  turned before old v V is at =
      listed_same g.cells (λ c. re_encoded_cell g s x (get_or before c 0) (get_or old c 0) (get_or new c 0)) (λ c. combination g s (λ y. get_or (replaced v x new y) c 0))
      (λ c h.
      ap₂ (λ (u w : List ℕ). re_encoded_cell g s x (get_or u c 0) (get_or w c 0) (get_or new c 0)) is (sym at)
      ∙ ap (λ (u : ℕ). re_encoded_cell g s x u (get_or (v x) c 0) (get_or new c 0)) (listed_at g.cells (λ i. combination g s (λ y. get_or (v y) i 0)) c 0 h)
      ∙ turned_cell v V c h) 0
