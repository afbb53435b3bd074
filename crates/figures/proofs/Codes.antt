-- The figures of fields and codes. Assumes nothing.
use Rattle.std.proofs.Common.{◌≡◌, ℕ, zero, suc, ◌<◌, Bool, true, false, ◌||◌, eqb, ◌⊎◌, List, [], ◌∷◌, get_or, sym, refl, ap, ◌∙◌, subst, inl, inr, arith, lit<, lit≤, eqb-true}
use Rattle.std.proofs.lemmas.Bool.{cases_Bool}
use Rattle.terms.specs.Sets.{among}
use Rattle.terms.proofs.Listed.{same_by_places}
use Rattle.field.specs.Laws.{Ring}
use Rattle.field.specs.Sums.{sum}
use Rattle.field.specs.Modular.{modulo, inverse_modulo}
use Rattle.field.specs.Binary.{gf256, double, partial}
use Rattle.field.proofs.Algebra as algebra
use Rattle.field.specs.Residues as residues
use Rattle.code.specs.Codings.{Value, Values, combination, symbol, value_at}
use Rattle.code.specs.Recovery.{Recovers}
use Rattle.figures.specs.Figures.{five_by_three, three_values}

pub inverse : inverse_modulo 251 2 ≡ 126
inverse = refl

pub product : gf256.times 2 128 ≡ 29
unfolding double partial
product = refl

pub at_3 : symbol five_by_three 3 three_values ≡ 48 ∷ []
unfolding sum
at_3 = refl

pub at_4 : symbol five_by_three 4 three_values ≡ 248 ∷ []
unfolding sum
at_4 = refl

ring : Ring (modulo 251)
ring = residues.ring 251 (lit≤ tt) (lit≤ tt)

-- twice an element is its sum with itself
twice : (b : ℕ) → b < 251 → (modulo 251).times 2 b ≡ (modulo 251).plus ((modulo 251).times 1 b) b
twice b h =
    let a = modulo 251 in
    algebra.plus_times ring 1 1 b (lit< tt) (lit< tt) h ∙ ap (a.plus (a.times 1 b)) (ring.times_comm 1 b (lit< tt) h ∙ ring.times_one b h)

-- the row of server 4 makes one middle value more of the values than that of server 3
one_more : (x : ℕ → ℕ) → x 1 < 251 → combination five_by_three 4 x ≡ (modulo 251).plus (combination five_by_three 3 x) (x 1)
one_more x h =
    let a = modulo 251 in
    algebra.sum_change ring 3 (λ j. a.times (five_by_three.coefficient 3 j) (x j)) (λ j. a.times (five_by_three.coefficient 4 j) (x j)) 1 (x 1) (lit< tt)
    (λ j b. ring.times_below (five_by_three.coefficient 3 j) (x j)) h same (twice (x 1) h)
  where
    same : (j : ℕ) → j < 3 → (j ≡ 1 → ⊥) → (modulo 251).times (five_by_three.coefficient 4 j) (x j) ≡ (modulo 251).times (five_by_three.coefficient 3 j) (x j)
    same zero b ne = refl
    same (suc zero) b ne = absurd (ne refl)
    same (suc (suc zero)) b ne = refl
    same (suc (suc (suc j))) b ne = let none : ⊥ = omega arith in absurd none

pub recovered : Recovers five_by_three (among (3 ∷ 4 ∷ [])) 1
recovered v w V W same =
    same_by_places (v 1) (w 1) 1 0 (V 1 (lit< tt)).long (W 1 (lit< tt)).long
    (λ c h. let first : c ≡ 0 = omega arith in subst (λ (i : ℕ). get_or (v 1) i 0 ≡ get_or (w 1) i 0) (sym first) cell)
  where
    x : ℕ → ℕ
    x j = get_or (v j) 0 0

    y : ℕ → ℕ
    y j = get_or (w j) 0 0

    at_server : (s : ℕ) → s < 5 → among (3 ∷ 4 ∷ []) s ≡ true → combination five_by_three s (λ j. get_or (v j) 0 0) ≡ combination five_by_three s (λ j. get_or (w j) 0 0)
    at_server s h t = ap (λ (u : List ℕ). get_or u 0 0) (same s h t)

    cell : get_or (v 1) 0 0 ≡ get_or (w 1) 0 0
    cell =
        let a = modulo 251 in
        let hv : get_or (v 1) 0 0 < 251 = (V 1 (lit< tt)).elements 0 (lit< tt) in
        let hw : get_or (w 1) 0 0 < 251 = (W 1 (lit< tt)).elements 0 (lit< tt) in
        let p : ℕ = combination five_by_three 3 (λ j. get_or (v j) 0 0) in
        let q : ℕ = combination five_by_three 3 (λ j. get_or (w j) 0 0) in
        let hp : p < 251 = algebra.dot_below ring 3 (five_by_three.coefficient 3) (λ j. get_or (v j) 0 0) in
        let pq : p ≡ q = at_server 3 (lit< tt) refl in
        let four : a.plus p (get_or (v 1) 0 0) ≡ a.plus q (get_or (w 1) 0 0) =
        sym (one_more (λ j. get_or (v j) 0 0) hv) ∙ at_server 4 (lit< tt) refl ∙ one_more (λ j. get_or (w j) 0 0) hw in
        algebra.cancel ring (get_or (v 1) 0 0) (get_or (w 1) 0 0) p hv hw hp
        (ring.plus_comm (get_or (v 1) 0 0) p hv hp ∙ four ∙ ap (λ (u : ℕ). a.plus u (get_or (w 1) 0 0)) (sym pq) ∙ ring.plus_comm p (get_or (w 1) 0 0) hp hw)

-- ---- values that servers 3 and 4 cannot tell apart

nothing : ℕ → List ℕ
nothing = value_at ((0 ∷ []) ∷ (0 ∷ []) ∷ (0 ∷ []) ∷ [])

hidden : ℕ → List ℕ
hidden = value_at ((1 ∷ []) ∷ (0 ∷ []) ∷ (250 ∷ []) ∷ [])

single : (n : ℕ) → n < 251 → Value five_by_three (n ∷ [])
single n h = record { long = refl; elements = λ c b. let first : c ≡ 0 = omega arith in subst (λ (i : ℕ). get_or {A = ℕ} (n ∷ []) i 0 < 251) (sym first) h }

nothing_values : Values five_by_three nothing
unfolding nothing
nothing_values zero h = single 0 (lit< tt)
nothing_values (suc zero) h = single 0 (lit< tt)
nothing_values (suc (suc zero)) h = single 0 (lit< tt)
nothing_values (suc (suc (suc x))) h = let none : ⊥ = omega arith in absurd none

hidden_values : Values five_by_three hidden
unfolding hidden
hidden_values zero h = single 1 (lit< tt)
hidden_values (suc zero) h = single 0 (lit< tt)
hidden_values (suc (suc zero)) h = single 250 (lit< tt)
hidden_values (suc (suc (suc x))) h = let none : ⊥ = omega arith in absurd none

or_false : (a b : Bool) → (a || b) ≡ true → a ≡ false → b ≡ true
or_false a b t e = ap (λ (v : Bool). v || b) (sym e) ∙ t

one_of : (s : ℕ) → among (3 ∷ 4 ∷ []) s ≡ true → (s ≡ 3) ⊎ (s ≡ 4)
one_of s t =
    elim (cases_Bool (eqb s 3)) [
      | inl three ↦ inl (eqb-true s 3 three)
      | inr other ↦
          let rest : (eqb s 4 || false) ≡ true = or_false (eqb s 3) (eqb s 4 || false) t other in
          elim (cases_Bool (eqb s 4)) [
            | inl four ↦ inr (eqb-true s 4 four)
            | inr none ↦ let no_way : ◌≡◌ {A = Bool} false true = sym (ap (λ (v : Bool). v || false) none) ∙ rest in absurd (clash no_way)
          ]
    ]
  where
    clash : ◌≡◌ {A = Bool} false true → ⊥
    clash e = let z : ◌≡◌ {A = ℕ} 0 1 = cc in omega arith

pub not_recovered : Recovers five_by_three (among (3 ∷ 4 ∷ [])) 0 → ⊥
unfolding nothing hidden sum
not_recovered recovers =
    let same : (s : ℕ) → s < 5 → among (3 ∷ 4 ∷ []) s ≡ true → symbol five_by_three s nothing ≡ symbol five_by_three s hidden = λ s h t.
    elim (one_of s t) [
      | inl three ↦ subst (λ (u : ℕ). symbol five_by_three u nothing ≡ symbol five_by_three u hidden) (sym three) refl
      | inr four ↦ subst (λ (u : ℕ). symbol five_by_three u nothing ≡ symbol five_by_three u hidden) (sym four) refl
    ] in
    let agree : ◌≡◌ {A = ℕ} 0 1 = ap (λ (u : List ℕ). get_or u 0 0) (recovers nothing hidden nothing_values hidden_values same) in
    omega arith
