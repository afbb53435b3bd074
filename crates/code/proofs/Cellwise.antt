-- Recovery of values by the rows of a set: cell by cell, values of all cells are unknowns of a matrix. Assumes nothing.
use Rattle.std.proofs.Common.{◌≡◌, ℕ, ◌<◌, ◌≤◌, Bool, true, cond, ltb, ◌⊎◌, List, get_or, Decides, sym, ap, ◌∙◌, subst, inl, inr, arith, le-ltb, lt-ltb}
use borrow.Author.Tests.{both_ways}
use Rattle.std.proofs.lemmas.Bool.{cases_lt, cases_Bool}
use Rattle.terms.specs.Lists.{listed}
use Rattle.terms.proofs.Listed.{length_listed, listed_at, listed_same, same_by_places}
use Rattle.field.specs.Laws.{Ring}
use Rattle.field.specs.Sums.{dot}
use Rattle.field.proofs.Algebra as algebra
use Rattle.matrix.specs.Matrices.{entry, row_sum, Unknowns, Determines, Solves}
use Rattle.code.specs.Chosen.{ChosenRow, ChosenRows, shown, weighed}
use Rattle.code.specs.Codings.{Coding, Values, combination, symbol}
use Rattle.code.specs.Recovery.{Recovers, Decoded}

module _ (g : Coding) (R : Ring g.arithmetic) (few : g.servers ≤ 6) (narrow : g.objects ≤ 6) (set : ℕ → Bool) (m : List (List ℕ)) (C : ChosenRows g set m) where
  -- what a row of the set makes of unknowns is the server's combination
  inside_sum : (x : ℕ → ℕ) → Unknowns g.arithmetic x → (s : ℕ) → s < g.servers → set s ≡ true → row_sum g.arithmetic m s x ≡ combination g s x
  inside_sum x hx s h t =
      let row : ChosenRow g s (entry m s) = C.inside s h t in
      algebra.sum_short R 6 g.objects (λ j. g.arithmetic.times (entry m s j) (x j)) narrow
      (λ j low high. ap (λ (v : ℕ). g.arithmetic.times v (x j)) (row.rest j low) ∙ algebra.zero_times R (x j) (hx j high))
      ∙ algebra.dot_same R g.objects (entry m s) (g.coefficient s) x row.coefficients

  outside_sum : (x : ℕ → ℕ) → Unknowns g.arithmetic x → (s : ℕ) → (s < g.servers → set s ≡ true → ⊥) → row_sum g.arithmetic m s x ≡ 0
  outside_sum x hx s out = algebra.dot_zero_left R 6 (entry m s) x hx (λ j h. C.outside s out j)

  -- in or out of the set
  chosen : (s : ℕ) → ((s < g.servers) × (set s ≡ true)) ⊎ (s < g.servers → set s ≡ true → ⊥)
  chosen s =
      elim (cases_lt s g.servers) [
        | inl h ↦ elim (cases_Bool (set s)) [ inl t ↦ inl (h, t) | inr f ↦ inr (λ _ t. both_ways (set s) f t) ]
        | inr past ↦ inr (λ h t. omega arith)
      ]

  -- unknowns with equal combinations at the set's servers have equal sums
  same_sums : (x y : ℕ → ℕ) → Unknowns g.arithmetic x → Unknowns g.arithmetic y
      → ((s : ℕ) → s < g.servers → set s ≡ true → combination g s x ≡ combination g s y)
      → (s : ℕ) → s < 6 → row_sum g.arithmetic m s x ≡ row_sum g.arithmetic m s y
  same_sums x y hx hy same s hs =
      elim (chosen s) [
        | inl i ↦ inside_sum x hx s i.0 i.1 ∙ same s i.0 i.1 ∙ sym (inside_sum y hy s i.0 i.1)
        | inr out ↦ outside_sum x hx s out ∙ sym (outside_sum y hy s out)
      ]

  -- ---- the cells c of some values, as unknowns

  cells_at : (ℕ → List ℕ) → ℕ → ℕ → ℕ
  cells_at v c j = cond (ltb j g.objects) (get_or (v j) c 0) 0

  cell_is : (v : ℕ → List ℕ) (c j : ℕ) → j < g.objects → cells_at v c j ≡ get_or (v j) c 0
  unfolding cells_at
  cell_is v c j h = ap (λ (b : Bool). cond b (get_or (v j) c 0) 0) (lt-ltb j g.objects h)

  cell_none : (v : ℕ → List ℕ) (c j : ℕ) → g.objects ≤ j → cells_at v c j ≡ 0
  unfolding cells_at
  cell_none v c j h = ap (λ (b : Bool). cond b (get_or (v j) c 0) 0) (le-ltb j g.objects h)

  cells_below : (v : ℕ → List ℕ) → Values g v → (c : ℕ) → c < g.cells → Unknowns g.arithmetic (cells_at v c)
  cells_below v V c h j hj =
      elim (cases_lt j g.objects) [
        | inl in' ↦ subst (λ (u : ℕ). u < g.arithmetic.size) (sym (cell_is v c j in')) ((V j in').elements c h)
        | inr past ↦ subst (λ (u : ℕ). u < g.arithmetic.size) (sym (cell_none v c j past)) (algebra.zero_below R)
      ]

  cells_combined : (v : ℕ → List ℕ) (c s : ℕ) → c < g.cells → get_or (symbol g s v) c 0 ≡ combination g s (cells_at v c)
  cells_combined v c s h =
      listed_at g.cells (λ i. combination g s (λ x. get_or (v x) i 0)) c 0 h
      ∙ algebra.dot_same_right R g.objects (g.coefficient s) (λ x. get_or (v x) c 0) (cells_at v c) (λ j b. sym (cell_is v c j b))

  -- ---- recovery, both ways

  module _ (k : ℕ) (hk : k < g.objects) where
    pub recovers_from_rows : Determines g.arithmetic m k → Recovers g set k
    recovers_from_rows determined v w V W same =
        same_by_places (v k) (w k) g.cells 0 (V k hk).long (W k hk).long
        (λ c h.
        sym (cell_is v c k hk)
        ∙ determined (cells_at v c) (cells_at w c) (cells_below v V c h) (cells_below w W c h)
        (same_sums (cells_at v c) (cells_at w c) (cells_below v V c h) (cells_below w W c h)
        (λ s hs t. sym (cells_combined v c s h) ∙ ap (λ (u : List ℕ). get_or u c 0) (same s hs t) ∙ cells_combined w c s h))
        ∙ cell_is w c k hk)

    -- values with the same unknown in every cell
    repeated : (ℕ → ℕ) → ℕ → List ℕ
    repeated x j = listed g.cells (λ _. x j)

    repeated_values : (x : ℕ → ℕ) → Unknowns g.arithmetic x → Values g (repeated x)
    unfolding repeated
    repeated_values x hx j h = record {
      long = length_listed g.cells (λ _. x j);
      elements = λ c b. subst (λ (u : ℕ). u < g.arithmetic.size) (sym (listed_at g.cells (λ _. x j) c 0 b)) (hx j (omega arith));
    }

    repeated_symbol : (x : ℕ → ℕ) (s c : ℕ) → c < g.cells → combination g s (λ j. get_or (repeated x j) c 0) ≡ combination g s x
    unfolding repeated
    repeated_symbol x s c h = algebra.dot_same_right R g.objects (g.coefficient s) (λ j. get_or (repeated x j) c 0) x (λ j b. listed_at g.cells (λ _. x j) c 0 h)

    pub rows_from_recovers : 1 ≤ g.cells → Recovers g set k → Determines g.arithmetic m k
    unfolding repeated
    rows_from_recovers one recovers x y hx hy same =
        let symbols : (s : ℕ) → s < g.servers → set s ≡ true → symbol g s (repeated x) ≡ symbol g s (repeated y) = λ s h t.
        listed_same g.cells (λ c. combination g s (λ j. get_or (repeated x j) c 0)) (λ c. combination g s (λ j. get_or (repeated y j) c 0))
        (λ c b.
        repeated_symbol x s c b ∙ sym (inside_sum x hx s h t) ∙ same s (omega arith) ∙ inside_sum y hy s h t ∙ sym (repeated_symbol y s c b)) 0 in
        sym (listed_at g.cells (λ _. x k) 0 0 one)
        ∙ ap (λ (u : List ℕ). get_or u 0 0) (recovers (repeated x) (repeated y) (repeated_values x hx) (repeated_values y hy) symbols)
        ∙ listed_at g.cells (λ _. y k) 0 0 one

    pub decided : {b : Bool} → 1 ≤ g.cells → (b ≡ true → Determines g.arithmetic m k) → (Determines g.arithmetic m k → b ≡ true) → Decides b (Recovers g set k)
    decided one there back = (λ t. recovers_from_rows (there t), λ r. back (rows_from_recovers one r))

    -- ---- decoding

    -- the shown cells are the sums of the rows, where the symbols are those of values
    shown_sums : ((s : ℕ) → set s ≡ true → s < g.servers) → (symbols v : ℕ → List ℕ) → Values g v
        → ((s : ℕ) → s < g.servers → set s ≡ true → symbols s ≡ symbol g s v)
        → (c : ℕ) → c < g.cells → (s : ℕ) → shown set symbols c s ≡ row_sum g.arithmetic m s (cells_at v c)
    shown_sums known symbols v V same c h s =
        elim (cases_Bool (set s)) [
          | inl t ↦
              ap (λ (b : Bool). cond b (get_or (symbols s) c 0) 0) t
              ∙ ap (λ (u : List ℕ). get_or u c 0) (same s (known s t) t) ∙ cells_combined v c s h
              ∙ sym (inside_sum (cells_at v c) (cells_below v V c h) s (known s t) t)
          | inr f ↦
              ap (λ (b : Bool). cond b (get_or (symbols s) c 0) 0) f
              ∙ sym (outside_sum (cells_at v c) (cells_below v V c h) s (λ _ t. both_ways (set s) f t))
        ]

    pub decoded_by_rows : ((s : ℕ) → set s ≡ true → s < g.servers) → (factors : List ℕ) → Solves g.arithmetic m k factors
        → (symbols : ℕ → List ℕ) → Decoded g set symbols k (weighed g (λ s. get_or factors s 0) set symbols)
    decoded_by_rows known factors sol symbols = record {
      value = record {
        long = length_listed g.cells cell;
        elements = λ c h. subst (λ (u : ℕ). u < g.arithmetic.size) (sym (listed_at g.cells cell c 0 h)) (algebra.dot_below R 6 f (shown set symbols c));
      };
      agrees = λ v V same.
          same_by_places (listed g.cells cell) (v k) g.cells 0 (length_listed g.cells cell) (V k hk).long
          (λ c h.
          listed_at g.cells cell c 0 h
          ∙ algebra.dot_same_right R 6 f (shown set symbols c) (λ s. row_sum g.arithmetic m s (cells_at v c)) (λ s b. shown_sums known symbols v V same c h s)
          ∙ sol.adds_up (cells_at v c) (cells_below v V c h) ∙ cell_is v c k hk);
    }
      where
        f : ℕ → ℕ
        f s = get_or factors s 0

        cell : ℕ → ℕ
        cell c = dot g.arithmetic 6 f (shown set symbols c)
