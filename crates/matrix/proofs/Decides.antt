-- What the reduced matrix says of the unknown. Assumes nothing.
use Rattle.std.proofs.Common.{◌≡◌, ℕ, zero, suc, ◌+◌, ◌<◌, ◌≤◌, Bool, cond, ltb, ◌⊎◌, List, get_or, None, Some, Option, sym, refl, ap, ◌∙◌, subst, inl, inr, not-suc-le-zero, arith, le-ltb, lt-ltb}
use Rattle.std.proofs.lemmas.Bool.{cases_eq}
use Rattle.std.proofs.lemmas.Option.{none-some, same_Some}
use Rattle.field.specs.Arithmetic.{Arithmetic}
use Rattle.field.specs.Laws.{Ring, Inverses}
use Rattle.field.specs.Sums.{dot, Below}
use Rattle.matrix.specs.Matrices.{entry, row_sum, Determines, Solves}
use Rattle.matrix.specs.Elimination.{Elements, Free, NoPivot, Leads, Echelon, WidenedRow, Widened, ReducedTo}
use Rattle.matrix.proofs.Widening as widening
use Rattle.field.proofs.Algebra as algebra

-- a row leads a column, or none
leads_or_free : (o : Option ℕ) → ((l : ℕ) × (o ≡ Some l)) ⊎ (o ≡ None)
leads_or_free (Some l) = inl (l, refl)
leads_or_free None = inr refl

-- a row leads the column j, or does not
leads_or_not : (o : Option ℕ) (j : ℕ) → (o ≡ Some j) ⊎ (o ≡ Some j → ⊥)
leads_or_not None j = inr (none-some j)
leads_or_not (Some l) j = elim (cases_eq l j) [ inl e ↦ inl (ap Some e) | inr ne ↦ inr (λ e. ne (same_Some l j e)) ]

-- some place below n has f at j, or none has
leader : (f : ℕ → Option ℕ) (n j : ℕ) → ((p : ℕ) × (p < n) × (f p ≡ Some j)) ⊎ ((p : ℕ) → p < n → f p ≡ Some j → ⊥)
leader f zero j = inr (λ p h e. not-suc-le-zero h)
leader f (suc n) j =
    elim (leads_or_not (f n) j) [
      | inl e ↦ inl (n, omega arith, e)
      | inr ne ↦ elim (leader f n j) [
        | inl w ↦ inl (w.0, omega arith, w.2)
        | inr none ↦ inr (λ p h e. elim (cases_eq p n) [ inl is ↦ ne (ap f (sym is) ∙ e) | inr d ↦ none p (omega arith) e ])
      ]
    ]

module _ {ar : Arithmetic} (R : Ring ar) where
  module _ (rows s : List (List ℕ)) (L : Widened ar rows s) where
    -- at the start each row makes of the unknowns what the row of the matrix makes of them
    row_start : (x : ℕ → ℕ) → Below ar.size 6 x → (i : ℕ) → i < 6 → dot ar 6 (entry s i) x ≡ dot ar 6 (entry rows i) x
    row_start x hx i hi =
        algebra.sum_same R 6 (λ j. ar.times (entry s i j) (x j)) (λ j. ar.times (entry rows i j) (x j))
        (λ j h. ap (λ (v : ℕ). ar.times v (x j)) ((L i hi).coefficients j h) ∙ widening.times_made R (entry rows i j) (x j) (hx j h))

    start : (x b : ℕ → ℕ) → Below ar.size 6 x → Below ar.size 6 b
        → ((i : ℕ) → i < 6 → dot ar 6 (entry rows i) x ≡ b i)
        → (i : ℕ) → i < 6 → dot ar 6 (entry s i) x ≡ dot ar 6 (λ v. entry s i (6 + v)) b
    start x b hx hb e i hi =
        let o : WidenedRow ar (entry rows i) i (entry s i) = L i hi in
        let here : ar.times (entry s i (6 + i)) (b i) ≡ b i =
        ap (λ (v : ℕ). ar.times v (b i)) o.unit ∙ R.times_comm 1 (b i) (algebra.one_below R) (hb i hi) ∙ R.times_one (b i) (hb i hi) in
        row_start x hx i hi ∙ e i hi
        ∙ sym (algebra.sum_one R 6 i (λ v. ar.times (entry s i (6 + v)) (b v)) hi (R.times_below (entry s i (6 + i)) (b i))
        (λ v h ne. ap (λ (w : ℕ). ar.times w (b v)) (o.others v h ne) ∙ algebra.zero_times R (b v) (hb v h)) ∙ here)

    module _ {inverse : ℕ → ℕ} (I : Inverses ar inverse) (k : ℕ) (hk : k < 6) (m : List (List ℕ)) (leads : List (Option ℕ)) (done : ReducedTo ar k s m leads) where
      em : Elements ar.size m
      em = done.elements

      e : Echelon k m leads 6
      e = done.echelon

      -- a row that leads none is 0 but at k
      alone : (r : ℕ) (x : ℕ → ℕ) → r < 6 → Free leads r → Below ar.size 6 x → dot ar 6 (entry m r) x ≡ ar.times (entry m r k) (x k)
      alone r x hr un hx =
          algebra.sum_one R 6 k (λ j. ar.times (entry m r j) (x j)) hk (R.times_below (entry m r k) (x k))
          (λ j h ne. ap (λ (v : ℕ). ar.times v (x j)) (e.clear j h ne r hr un) ∙ algebra.zero_times R (x j) (hx j h))

      -- what such a row makes of the sums b of the matrix's rows
      combined : (r : ℕ) (x b : ℕ → ℕ) → r < 6 → Free leads r → Below ar.size 6 x → Below ar.size 6 b
          → ((i : ℕ) → i < 6 → dot ar 6 (entry rows i) x ≡ b i)
          → ar.times (entry m r k) (x k) ≡ dot ar 6 (λ v. entry m r (6 + v)) b
      combined r x b hr un hx hb is = sym (alone r x hr un hx) ∙ done.kept.forth x b hx hb (start x b hx hb is) r hr

      pub solved : (r : ℕ) (factors : List ℕ) → r < 6 → Free leads r → (entry m r k ≡ 0 → ⊥)
          → ((v : ℕ) → v < 6 → get_or factors v 0 ≡ ar.times (inverse (entry m r k)) (entry m r (6 + v)))
          → Solves ar rows k factors
      solved r factors hr un piv is = record { elements = below; adds_up = adds }
        where
          below : Below ar.size 6 (λ v. get_or factors v 0)
          below v h = subst (λ (w : ℕ). w < ar.size) (sym (is v h)) (R.times_below (inverse (entry m r k)) (entry m r (6 + v)))

          adds : (x : ℕ → ℕ) → Below ar.size 6 x → dot ar 6 (λ v. get_or factors v 0) (λ v. dot ar 6 (entry rows v) x) ≡ x k
          adds x hx =
              let b : ℕ → ℕ = λ v. dot ar 6 (entry rows v) x in
              let hb : Below ar.size 6 b = λ v h. algebra.dot_below R 6 (entry rows v) x in
              let a : ℕ = entry m r k in
              let i : ℕ = inverse a in
              let ha : a < ar.size = em r k hr (omega arith) in
              let hi : i < ar.size = I.inverse_below a in
              let each : (v : ℕ) → v < 6 → ar.times (get_or factors v 0) (b v) ≡ ar.times i (ar.times (entry m r (6 + v)) (b v)) = λ v h.
              ap (λ (w : ℕ). ar.times w (b v)) (is v h) ∙ R.times_assoc i (entry m r (6 + v)) (b v) hi (em r (6 + v) hr (omega arith)) (hb v h) in
              algebra.sum_same R 6 (λ v. ar.times (get_or factors v 0) (b v)) (λ v. ar.times i (ar.times (entry m r (6 + v)) (b v))) each
              ∙ algebra.sum_times R 6 i (λ v. ar.times (entry m r (6 + v)) (b v)) hi (λ v h. R.times_below (entry m r (6 + v)) (b v))
              ∙ ap (ar.times i) (sym (combined r x b hr un hx hb (λ v h. refl)))
              ∙ algebra.inverted R I a (x k) ha (hx k hk) piv

      -- ---- a vector that all rows send to 0, with 1 at k

      record Value (j v : ℕ) : Type 0 where
        value_below : v < ar.size
        value_own : j ≡ k → v ≡ 1
        value_led : (p : ℕ) → p < 6 → get_or leads p None ≡ Some j → j < 6 → (j ≡ k → ⊥) → ar.plus (ar.times (entry m p j) v) (entry m p k) ≡ 0
        value_free : ((p : ℕ) → p < 6 → get_or leads p None ≡ Some j → ⊥) → (j ≡ k → ⊥) → v ≡ 0

      -- at most one row leads a column
      one_leads : (p r l : ℕ) → p < 6 → r < 6 → get_or leads p None ≡ Some l → get_or leads r None ≡ Some l → p ≡ r
      one_leads p r l hp hr ep er =
          elim (cases_eq p r) [
            | inl same ↦ same
            | inr ne ↦ absurd ((e.led p l hp ep).pivot ((e.led r l hr er).others p hp ne))
          ]

      value : (j : ℕ) → (v : ℕ) × Value j v
      value j =
          elim (cases_eq j k) [
            | inl own ↦ (
              1,
              record {
                value_below = algebra.one_below R;
                value_own = λ i. refl;
                value_led = λ p hp l hj ne. absurd (ne own);
                value_free = λ none ne. absurd (ne own);
              },
            )
            | inr ne ↦ elim (leader (λ p. get_or leads p None) 6 j) [
              | inl w ↦ (
                ar.minus (ar.times (entry m w.0 k) (inverse (entry m w.0 j))),
                record {
                  value_below = R.minus_below (ar.times (entry m w.0 k) (inverse (entry m w.0 j)));
                  value_own = λ own. absurd (ne own);
                  value_led = λ p hp l hj d. led w.0 w.1 w.2 p hp l hj;
                  value_free = λ none d. absurd (none w.0 w.1 w.2);
                },
              )
              | inr none ↦ (
                0,
                record {
                  value_below = algebra.zero_below R;
                  value_own = λ own. absurd (ne own);
                  value_led = λ p hp l hj d. absurd (none p hp l);
                  value_free = λ f d. refl;
                },
              )
            ]
          ]
        where
          led : (r : ℕ) → r < 6 → get_or leads r None ≡ Some j → (p : ℕ) → p < 6 → get_or leads p None ≡ Some j → j < 6
              → ar.plus (ar.times (entry m p j) (ar.minus (ar.times (entry m r k) (inverse (entry m r j))))) (entry m p k) ≡ 0
          led r hr er p hp ep hj =
              let a : ℕ = entry m r k in
              let c : ℕ = entry m r j in
              let f : ℕ = ar.minus (ar.times a (inverse c)) in
              let hf : f < ar.size = R.minus_below (ar.times a (inverse c)) in
              let ha : a < ar.size = em r k hr (omega arith) in
              let hc : c < ar.size = em r j hr (omega arith) in
              let is : p ≡ r = one_leads p r j hp hr ep er in
              let piv : c ≡ 0 → ⊥ = (e.led r j hr er).pivot in
              ap (λ (v : ℕ). ar.plus (ar.times (entry m v j) f) (entry m v k)) is
              ∙ ap (λ (v : ℕ). ar.plus v a) (R.times_comm c f hc hf) ∙ R.plus_comm (ar.times f c) a (R.times_below f c) ha
              ∙ algebra.cleared R I a c ha hc piv

      hidden : ℕ → ℕ
      hidden j = (value j).0

      hidden_is : (j : ℕ) → Value j (hidden j)
      unfolding hidden
      hidden_is j = (value j).1

      hidden_below : Below ar.size 6 hidden
      hidden_below j h = (hidden_is j).value_below

      lost : NoPivot m leads k → (i : ℕ) → i < 6 → dot ar 6 (entry m i) hidden ≡ 0
      lost z i hi =
          elim (leads_or_free (get_or leads i None)) [
            | inl w ↦
                let l : ℕ = w.0 in
                let at : Leads k m i l = e.led i l hi w.1 in
                let one : hidden k ≡ 1 = (hidden_is k).value_own refl in
                let at_k : ar.times (entry m i k) (hidden k) ≡ entry m i k = ap (ar.times (entry m i k)) one ∙ R.times_one (entry m i k) (em i k hi (omega arith)) in
                algebra.sum_two R 6 l k (λ j. ar.times (entry m i j) (hidden j)) at.within hk at.apart (λ j b. R.times_below (entry m i j) (hidden j))
                (λ j hj nl nk. elsewhere l w.1 j hj nl nk)
                ∙ ap (ar.plus (ar.times (entry m i l) (hidden l))) at_k ∙ (hidden_is l).value_led i hi w.1 at.within at.apart
            | inr un ↦
                algebra.dot_zero_left R 6 (entry m i) hidden hidden_below
                (λ j hj. elim (cases_eq j k) [ inl own ↦ ap (entry m i) own ∙ z i hi un | inr ne ↦ e.clear j hj ne i hi un ])
          ]
        where
          elsewhere : (l : ℕ) → get_or leads i None ≡ Some l → (j : ℕ) → j < 6 → (j ≡ l → ⊥) → (j ≡ k → ⊥) → ar.times (entry m i j) (hidden j) ≡ 0
          elsewhere l is_l j hj nl nk =
              elim (leader (λ p. get_or leads p None) 6 j) [
                | inl w ↦
                    let ne : i ≡ w.0 → ⊥ = λ is. nl (same_Some j l (sym w.2 ∙ ap (λ (v : ℕ). get_or leads v None) (sym is) ∙ is_l)) in
                    ap (λ (v : ℕ). ar.times v (hidden j)) ((e.led w.0 j w.1 w.2).others i hi ne)
                    ∙ algebra.zero_times R (hidden j) (hidden_below j hj)
                | inr none ↦ ap (ar.times (entry m i j)) ((hidden_is j).value_free none nk) ∙ algebra.times_zero R (entry m i j) (em i j hi (omega arith))
              ]

      pub undetermined : NoPivot m leads k → Determines ar rows k → ⊥
      undetermined z determined =
          let none : ℕ → ℕ = λ j. 0 in
          let none_below : Below ar.size 6 none = λ j h. algebra.zero_below R in
          let zero_row : (g : ℕ → ℕ) → Below ar.size 6 g → dot ar 6 g none ≡ 0 = λ g hg.
          algebra.sum_zero R 6 (λ j. ar.times (g j) 0) (λ j h. algebra.times_zero R (g j) (hg j h)) in
          let equal : (i : ℕ) → i < 6 → dot ar 6 (entry s i) hidden ≡ dot ar 6 (entry s i) none =
          done.kept.back hidden none hidden_below none_below
          (λ i hi. lost z i hi ∙ sym (zero_row (entry m i) (λ j h. em i j hi (omega arith)))) in
          let agree : hidden k ≡ none k =
          determined hidden none hidden_below none_below
          (λ i hi. sym (row_start hidden hidden_below i hi) ∙ equal i hi ∙ row_start none none_below i hi) in
          let one : ◌≡◌ {A = ℕ} 1 0 = sym ((hidden_is k).value_own refl) ∙ agree in
          omega arith

  -- a place past all unknowns is never determined
  pub past_undetermined : (rows : List (List ℕ)) (k : ℕ) → 6 ≤ k → Determines ar rows k → ⊥
  past_undetermined rows k past determined =
      let only : ℕ → ℕ = λ j. cond (ltb j 6) 0 1 in
      let none : ℕ → ℕ = λ j. 0 in
      let none_below : Below ar.size 6 none = λ j h. algebra.zero_below R in
      let only_none : (j : ℕ) → j < 6 → only j ≡ 0 = λ j h. ap (λ (b : Bool). cond b 0 1) (lt-ltb j 6 h) in
      let only_below : Below ar.size 6 only = λ j h. subst (λ (v : ℕ). v < ar.size) (sym (only_none j h)) (algebra.zero_below R) in
      let agree : only k ≡ 0 = determined only none only_below none_below (λ i hi. algebra.dot_same_right R 6 (entry rows i) only none only_none) in
      let one : only k ≡ 1 = ap (λ (b : Bool). cond {A = ℕ} b 0 1) (le-ltb k 6 past) in
      omega arith

-- rows that add up to an unknown determine it
pub solved_determines : {ar : Arithmetic} (R : Ring ar) (rows : List (List ℕ)) (k : ℕ) (factors : List ℕ) → Solves ar rows k factors → Determines ar rows k
solved_determines R rows k factors sol x y hx hy same =
    sym (sol.adds_up x hx)
    ∙ algebra.dot_same_right R 6 (λ i. get_or factors i 0) (λ i. row_sum _ rows i x) (λ i. row_sum _ rows i y) same
    ∙ sol.adds_up y hy
