-- What a step of the elimination keeps. Assumes nothing.
use Rattle.std.proofs.Common.{◌≡◌, ℕ, ◌+◌, ◌<◌, List, length, get_or, set, None, Some, Option, sym, ap, ◌∙◌, subst, ap₂, inl, inr, arith, get_or-set_other, get_or-set_same}
use Rattle.std.proofs.lemmas.Bool.{cases_eq}
use Rattle.std.proofs.lemmas.Option.{none-some, same_Some}
use Rattle.field.specs.Arithmetic.{Arithmetic}
use Rattle.field.specs.Laws.{Ring, Inverses}
use Rattle.field.specs.Sums.{dot, Below}
use Rattle.matrix.specs.Matrices.{entry}
use Rattle.matrix.specs.Elimination.{Elements, Cleared, Free, IsPivot, NoPivot, Leads, Echelon, Kept}
use Rattle.field.proofs.Algebra as algebra

pub kept_none : (ar : Arithmetic) (m : List (List ℕ)) → Kept ar m m
kept_none ar m = record { back = λ x y hx hy e. e; forth = λ x b hx hb e. e }

module _ {ar : Arithmetic} (R : Ring ar) where
  -- the entries stay elements
  pub elements_more : (factor : ℕ → ℕ) (m n : List (List ℕ)) (p : ℕ) → Elements ar.size m → Cleared ar factor m n p → Elements ar.size n
  elements_more factor m n p em c i j hi hj =
      elim (cases_eq i p) [
        | inl e ↦ subst (λ (v : ℕ). v < ar.size) (sym (ap (λ (v : ℕ). entry n v j) e ∙ c.same j ∙ ap (λ (v : ℕ). entry m v j) (sym e))) (em i j hi hj)
        | inr ne ↦ subst (λ (v : ℕ). v < ar.size) (sym (c.others i hi ne j hj)) (R.plus_below (entry m i j) (ar.times (factor i) (entry m p j)))
      ]

  module _ (factor : ℕ → ℕ) (factors : (i : ℕ) → factor i < ar.size) (m n : List (List ℕ)) (p : ℕ) (hp : p < 6) (em : Elements ar.size m) (c : Cleared ar factor m n p) where
    -- the six places `at` of a row
    part_more : (at : ℕ → ℕ) → ((s : ℕ) → s < 6 → at s < 12) → (i : ℕ) (x : ℕ → ℕ) → i < 6 → (i ≡ p → ⊥) → Below ar.size 6 x
        → dot ar 6 (λ s. entry n i (at s)) x ≡ ar.plus (dot ar 6 (λ s. entry m i (at s)) x) (ar.times (factor i) (dot ar 6 (λ s. entry m p (at s)) x))
    part_more at fits i x hi ne hx =
        algebra.dot_added R 6 (factor i) (λ s. entry m i (at s)) (λ s. entry m p (at s)) (λ s. entry n i (at s)) x (factors i)
        (λ s h. em i (at s) hi (fits s h)) (λ s h. em p (at s) hp (fits s h)) hx (λ s h. c.others i hi ne (at s) (fits s h))

    row_more : (i : ℕ) (x : ℕ → ℕ) → i < 6 → (i ≡ p → ⊥) → Below ar.size 6 x
        → dot ar 6 (entry n i) x ≡ ar.plus (dot ar 6 (entry m i) x) (ar.times (factor i) (dot ar 6 (entry m p) x))
    row_more = part_more (λ s. s) (λ s h. omega arith)

    row_same : (x : ℕ → ℕ) → dot ar 6 (entry n p) x ≡ dot ar 6 (entry m p) x
    row_same x = algebra.dot_same R 6 (entry n p) (entry m p) x (λ j h. c.same j)

    back_more : (x y : ℕ → ℕ) → Below ar.size 6 x → Below ar.size 6 y
        → ((i : ℕ) → i < 6 → dot ar 6 (entry n i) x ≡ dot ar 6 (entry n i) y)
        → (i : ℕ) → i < 6 → dot ar 6 (entry m i) x ≡ dot ar 6 (entry m i) y
    back_more x y hx hy e i hi =
        let at_p : dot ar 6 (entry m p) x ≡ dot ar 6 (entry m p) y = sym (row_same x) ∙ e p hp ∙ row_same y in
        elim (cases_eq i p) [
          | inl is ↦ ap (λ (v : ℕ). dot ar 6 (entry m v) x) is ∙ at_p ∙ ap (λ (v : ℕ). dot ar 6 (entry m v) y) (sym is)
          | inr ne ↦
              algebra.cancel R (dot ar 6 (entry m i) x) (dot ar 6 (entry m i) y) (ar.times (factor i) (dot ar 6 (entry m p) x))
              (algebra.dot_below R 6 (entry m i) x) (algebra.dot_below R 6 (entry m i) y) (R.times_below (factor i) (dot ar 6 (entry m p) x))
              (sym (row_more i x hi ne hx) ∙ e i hi ∙ row_more i y hi ne hy
              ∙ ap (λ (v : ℕ). ar.plus (dot ar 6 (entry m i) y) (ar.times (factor i) v)) (sym at_p))
        ]

    forth_more : (x b : ℕ → ℕ) → Below ar.size 6 x → Below ar.size 6 b
        → ((i : ℕ) → i < 6 → dot ar 6 (entry m i) x ≡ dot ar 6 (λ s. entry m i (6 + s)) b)
        → (i : ℕ) → i < 6 → dot ar 6 (entry n i) x ≡ dot ar 6 (λ s. entry n i (6 + s)) b
    forth_more x b hx hb e i hi =
        elim (cases_eq i p) [
          | inl is ↦
              ap (λ (v : ℕ). dot ar 6 (entry n v) x) is ∙ row_same x ∙ e p hp
              ∙ algebra.dot_same R 6 (λ s. entry m p (6 + s)) (λ s. entry n p (6 + s)) b (λ s h. sym (c.same (6 + s)))
              ∙ ap (λ (v : ℕ). dot ar 6 (λ s. entry n v (6 + s)) b) (sym is)
          | inr ne ↦
              row_more i x hi ne hx ∙ ap₂ (λ (v w : ℕ). ar.plus v (ar.times (factor i) w)) (e i hi) (e p hp)
              ∙ sym (part_more (λ s. 6 + s) (λ s h. omega arith) i b hi ne hb)
        ]

    pub kept_more : (s : List (List ℕ)) → Kept ar s m → Kept ar s n
    kept_more s k = record {
      back = λ x y hx hy e. k.back x y hx hy (back_more x y hx hy e);
      forth = λ x b hx hb e. forth_more x b hx hb (k.forth x b hx hb e);
    }

  -- a column that the row p does not have stays as it is
  column_same : (factor : ℕ → ℕ) → ((i : ℕ) → factor i < ar.size) → (m n : List (List ℕ)) (p j : ℕ) → p < 6 → j < 12 → Elements ar.size m → Cleared ar factor m n p
      → entry m p j ≡ 0 → (i : ℕ) → i < 6 → entry n i j ≡ entry m i j
  column_same factor factors m n p j hp hj em c z i hi =
      elim (cases_eq i p) [
        | inl is ↦ ap (λ (v : ℕ). entry n v j) is ∙ c.same j ∙ ap (λ (v : ℕ). entry m v j) (sym is)
        | inr ne ↦
            c.others i hi ne j hj
            ∙ ap (λ (v : ℕ). ar.plus (entry m i j) v) (ap (ar.times (factor i)) z ∙ algebra.times_zero R (factor i) (factors i))
            ∙ R.plus_zero (entry m i j) (em i j hi hj)
      ]

  module _ {inverse : ℕ → ℕ} (I : Inverses ar inverse) where
    -- the factors that clear the column c by the row p
    abbrev pub clearing : List (List ℕ) → ℕ → ℕ → ℕ → ℕ
    clearing m p c i = ar.minus (ar.times (entry m i c) (inverse (entry m p c)))

    column_clear : (m n : List (List ℕ)) (p c : ℕ) → p < 6 → c < 12 → Elements ar.size m → Cleared ar (clearing m p c) m n p → (entry m p c ≡ 0 → ⊥)
        → (i : ℕ) → i < 6 → (i ≡ p → ⊥) → entry n i c ≡ 0
    column_clear m n p c hp hc em cl piv i hi ne =
        cl.others i hi ne c hc ∙ algebra.cleared R I (entry m i c) (entry m p c) (em i c hi hc) (em p c hp hc) piv

    pub echelon_more : (k : ℕ) (m n : List (List ℕ)) (leads : List (Option ℕ)) (p c : ℕ) → length leads ≡ 6 → c < 6 → (c ≡ k → ⊥)
        → Elements ar.size m → Cleared ar (clearing m p c) m n p → IsPivot m leads c p → Echelon k m leads c → Echelon k n (set leads p (Some c)) (c + 1)
    echelon_more k m n leads p c len hc apart em cl found e = record { led = new_led; clear = new_clear }
      where
        hp : p < 6
        hp = found.within

        factors : (i : ℕ) → clearing m p c i < ar.size
        factors i = R.minus_below (ar.times (entry m i c) (inverse (entry m p c)))

        here : get_or (set leads p (Some c)) p None ≡ Some c
        here = get_or-set_same leads p (Some c) None (omega arith)

        there : (i : ℕ) → (i ≡ p → ⊥) → get_or (set leads p (Some c)) i None ≡ get_or leads i None
        there i ne = get_or-set_other leads p i (Some c) None ne

        at_p : Leads k n p c
        at_p = record {
          within = hc;
          apart = apart;
          pivot = λ z. found.pivot (sym (cl.same c) ∙ z);
          others = column_clear m n p c hp (omega arith) em cl found.pivot;
        }

        elsewhere : (r l : ℕ) → r < 6 → (r ≡ p → ⊥) → get_or leads r None ≡ Some l → Leads k n r l
        elsewhere r l hr ne h =
            let old : Leads k m r l = e.led r l hr h in
            let zero_there : entry m p l ≡ 0 = old.others p hp (λ is. ne (sym is)) in
            let same : (i : ℕ) → i < 6 → entry n i l ≡ entry m i l = column_same (clearing m p c) factors m n p l hp (omega (arith, old.within)) em cl zero_there in
            record {
              within = old.within;
              apart = old.apart;
              pivot = λ z. old.pivot (sym (same r hr) ∙ z);
              others = λ i hi d. same i hi ∙ old.others i hi d;
            }

        new_led : (r l : ℕ) → r < 6 → get_or (set leads p (Some c)) r None ≡ Some l → Leads k n r l
        new_led r l hr h =
            elim (cases_eq r p) [
              | inl is ↦
                  let own : c ≡ l = same_Some c l (sym here ∙ ap (λ (v : ℕ). get_or (set leads p (Some c)) v None) (sym is) ∙ h) in
                  subst (λ (v : ℕ). Leads k n v l) (sym is) (subst (λ (v : ℕ). Leads k n p v) own at_p)
              | inr ne ↦ elsewhere r l hr ne (sym (there r ne) ∙ h)
            ]

        new_clear : (j : ℕ) → j < c + 1 → (j ≡ k → ⊥) → (i : ℕ) → i < 6 → Free (set leads p (Some c)) i → entry n i j ≡ 0
        new_clear j hj jk i hi free =
            elim (cases_eq i p) [
              | inl is ↦ absurd (none-some c (sym free ∙ ap (λ (v : ℕ). get_or (set leads p (Some c)) v None) is ∙ here))
              | inr ne ↦ elim (cases_eq j c) [
                | inl jc ↦ ap (entry n i) jc ∙ column_clear m n p c hp (omega arith) em cl found.pivot i hi ne
                | inr nc ↦
                    let before : j < c = omega arith in
                    column_same (clearing m p c) factors m n p j hp (omega arith) em cl (e.clear j before jk p hp found.free) i hi
                    ∙ e.clear j before jk i hi (sym (there i ne) ∙ free)
              ]
            ]

pub echelon_skip : (k : ℕ) (m : List (List ℕ)) (leads : List (Option ℕ)) (c : ℕ) → c ≡ k → Echelon k m leads c → Echelon k m leads (c + 1)
echelon_skip k m leads c is e = record {
  led = e.led;
  clear = λ j hj jk i hi free.
      let ne : j ≡ c → ⊥ = λ jc. jk (jc ∙ is) in
      e.clear j (omega arith) jk i hi free;
}

pub echelon_none : (k : ℕ) (m : List (List ℕ)) (leads : List (Option ℕ)) (c : ℕ) → NoPivot m leads c → Echelon k m leads c → Echelon k m leads (c + 1)
echelon_none k m leads c none e = record {
  led = e.led;
  clear = λ j hj jk i hi free.
      elim (cases_eq j c) [
        | inl jc ↦ ap (entry m i) jc ∙ none i hi free
        | inr nc ↦ e.clear j (omega arith) jk i hi free
      ];
}
