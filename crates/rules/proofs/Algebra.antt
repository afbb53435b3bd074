-- Sums over a field's elements, and symbols by one value more or less.
use Rattle.std.proofs.Common.{◌≡◌, ℕ, zero, suc, ◌<◌, eqb, ◌⊎◌, List, [], length, get_or, sym, refl, ap, ◌∙◌, ap₂, inl, inr, ⊎_elim, arith}
use Rattle.std.proofs.lemmas.Bool.{cases_Bool, cases_eq}
use Rattle.rules.proofs.RankedWords.{upd}
use Rattle.std.proofs.lemmas.List.FromFn.{get_or-map-range_with_len, length-map-range_with_len, fill_by_all}
use Rattle.rules.proofs.Ranked.{Code, field_of, coding_of, Entry, entered_value, kept, zeros, swap}
use Rattle.field.specs.Sums.{sum}
use Rattle.code.specs.Codings.{combination, symbol}
use Rattle.rules.proofs.RankedFacts.{mix, Lawful}
use Rattle.rules.proofs.Words.{upd_same, upd_other}

module _ (g : Code) (R : Lawful g) where
  zero_below : 0 < g.q
  zero_below = let l = R.least in omega arith

  zero_plus : (x : ℕ) → x < g.q → g.plus 0 x ≡ x
  zero_plus x h = R.plus_comm 0 x zero_below h ∙ R.plus_zero x h

  undone : (a b : ℕ) → a < g.q → b < g.q → g.plus (g.plus a b) (g.minus b) ≡ a
  undone a b ha hb = R.plus_assoc a b (g.minus b) ha hb (R.minus_below b) ∙ ap (g.plus a) (R.plus_minus b hb) ∙ R.plus_zero a ha

  cancel : (a c b : ℕ) → a < g.q → c < g.q → b < g.q → g.plus a b ≡ g.plus c b → a ≡ c
  cancel a c b ha hc hb e = sym (undone a b ha hb) ∙ ap (λ (v : ℕ). g.plus v (g.minus b)) e ∙ undone c b hc hb

  times_zero : (x : ℕ) → x < g.q → g.times x 0 ≡ 0
  times_zero x h =
      let t : g.times x 0 < g.q = R.times_below x 0 in
      cancel (g.times x 0) 0 (g.times x 0) t zero_below t
      (sym (R.times_plus x 0 0 h zero_below zero_below) ∙ ap (g.times x) (R.plus_zero 0 zero_below) ∙ sym (zero_plus (g.times x 0) t))

  zero_times : (x : ℕ) → x < g.q → g.times 0 x ≡ 0
  zero_times x h = R.times_comm 0 x zero_below h ∙ times_zero x h

  sum_below : (n : ℕ) (t : ℕ → ℕ) → sum (field_of g) n t < g.q
  unfolding sum
  sum_below zero t = zero_below
  sum_below (suc n) t = R.plus_below (sum (field_of g) n t) (t n)

  sum_same : (n : ℕ) (t u : ℕ → ℕ) → ((j : ℕ) → j < n → t j ≡ u j) → sum (field_of g) n t ≡ sum (field_of g) n u
  unfolding sum
  sum_same zero t u e = refl
  sum_same (suc n) t u e = ap₂ g.plus (sum_same n t u (λ j h. e j (omega arith))) (e n (omega arith))

  -- one term is d more
  sum_change : (n : ℕ) (t u : ℕ → ℕ) (x d : ℕ) → x < n → ((j : ℕ) → j < n → t j < g.q) → d < g.q → ((j : ℕ) → j < n → (j ≡ x → ⊥) → u j ≡ t j) → u x ≡ g.plus (t x) d
      → sum (field_of g) n u ≡ g.plus (sum (field_of g) n t) d
  unfolding sum
  sum_change zero t u x d lt bt bd same here = absurd (omega arith)
  sum_change (suc n) t u x d lt bt bd same here = elim (cases_eq x n) [
    | inl e ↦
        ap₂ g.plus (sum_same n u t (λ j l. same j (omega arith) (λ q. omega arith))) ((rw e at here))
        ∙ sym (R.plus_assoc (sum (field_of g) n t) (t n) d (sum_below n t) (bt n (omega arith)) bd)
    | inr ne ↦
        let tn = bt n (omega arith) in
        let s = sum (field_of g) n t in
        let sb = sum_below n t in
        ap₂ g.plus (sum_change n t u x d (omega arith) (λ j l. bt j (omega arith)) bd (λ j l w. same j (omega arith) w) here) (same n (omega arith) (λ q. ne (sym q)))
        ∙ R.plus_assoc s d (t n) sb bd tn ∙ ap (g.plus s) (R.plus_comm d (t n) bd tn) ∙ sym (R.plus_assoc s (t n) d sb tn bd)
  ]

  pub mix_below : (s : ℕ) (r : ℕ → ℕ) → mix g s r < g.q
  unfolding mix
  mix_below s r = sum_below g.k (λ y. g.times (g.coefficient s y) (r y))

  -- terms that a coefficient of 0 hides may differ
  pub mix_same : (s : ℕ) (r t : ℕ → ℕ) → ((y : ℕ) → y < g.k → g.times (g.coefficient s y) (r y) ≡ g.times (g.coefficient s y) (t y)) → mix g s r ≡ mix g s t
  unfolding mix
  mix_same s r t e = sum_same g.k (λ y. g.times (g.coefficient s y) (r y)) (λ y. g.times (g.coefficient s y) (t y)) e

  pub hidden : (s y a b : ℕ) → g.coefficient s y ≡ 0 → a < g.q → b < g.q → g.times (g.coefficient s y) a ≡ g.times (g.coefficient s y) b
  hidden s y a b e ha hb = rw e (zero_times a ha ∙ sym (zero_times b hb))

  -- b is a and the difference
  difference : (a b : ℕ) → a < g.q → b < g.q → g.plus a (g.plus b (g.minus a)) ≡ b
  difference a b ha hb =
      ap (g.plus a) (R.plus_comm b (g.minus a) hb (R.minus_below a)) ∙ sym (R.plus_assoc a (g.minus a) b ha (R.minus_below a) hb)
      ∙ ap (λ z. g.plus z b) (R.plus_minus a ha) ∙ zero_plus b hb

  pub mix_change : (s x : ℕ) (r t : ℕ → ℕ) → s < g.n → x < g.k → r x < g.q → t x < g.q → ((y : ℕ) → y < g.k → (y ≡ x → ⊥) → t y ≡ r y)
      → mix g s t ≡ g.plus (mix g s r) (g.times (g.coefficient s x) (g.plus (t x) (g.minus (r x))))
  unfolding mix
  mix_change s x r t sn xk rb tb same =
      let c = g.coefficient s x in
      sum_change g.k (λ y. g.times (g.coefficient s y) (r y)) (λ y. g.times (g.coefficient s y) (t y)) x (g.times c (g.plus (t x) (g.minus (r x)))) xk
      (λ j l. R.times_below (g.coefficient s j) (r j)) (R.times_below c (g.plus (t x) (g.minus (r x))))
      (λ j l ne. ap (g.times (g.coefficient s j)) (same j l ne))
      (ap (g.times c) (sym (difference (r x) (t x) rb tb)) ∙ R.times_plus c (r x) (g.plus (t x) (g.minus (r x))) (R.coefficients s x sn xk) rb (R.plus_below (t x) (g.minus (r x))))

  -- ---- symbols under tags, by the values of a log

  pub record Cells (L : List Entry) : Type 0 where
    pub long : (x t : ℕ) → length (kept g L x t) ≡ g.w
    pub below : (x t c : ℕ) → c < g.w → get_or (kept g L x t) c 0 < g.q
    pub zero_tag : (x : ℕ) → kept g L x 0 ≡ zeros g

  -- v is the symbol of s where each object y has the value under the tag T y
  pub record Mix (L : List Entry) (s : ℕ) (T : ℕ → ℕ) (v : List ℕ) : Type 0 where
    pub long : length v ≡ g.w
    pub cells : (c : ℕ) → c < g.w → get_or v c 0 ≡ mix g s (λ y. get_or (kept g L y (T y)) c 0)

  -- as a list
  pub mix_symbol : (L : List Entry) (s : ℕ) (T : ℕ → ℕ) (v : List ℕ) → Mix L s T v → v ≡ symbol (coding_of g) s (λ y. kept g L y (T y))
  unfolding mix
  mix_symbol L s T v h = fill_by_all (λ c. combination (coding_of g) s (λ y. get_or (kept g L y (T y)) c 0)) v g.w 0 h.long h.cells

  pub mix_tags : (L : List Entry) (s : ℕ) (T U : ℕ → ℕ) (v : List ℕ) → Cells L → ((y : ℕ) → y < g.k → (T y ≡ U y) ⊎ (g.coefficient s y ≡ 0)) → Mix L s T v → Mix L s U v
  mix_tags L s T U v cells same h = record {
    long = h.long;
    cells = λ c lt. h.cells c lt ∙ mix_same s (λ y. get_or (kept g L y (T y)) c 0) (λ y. get_or (kept g L y (U y)) c 0) (λ y yk.
        ⊎_elim (λ (e : T y ≡ U y). rw e refl) (λ (e : g.coefficient s y ≡ 0). hidden s y (get_or (kept g L y (T y)) c 0) (get_or (kept g L y (U y)) c 0) e (cells.below y (T y) c lt) (cells.below y (U y) c lt)) (same y yk));
  }

  pub swap_mix : (L : List Entry) (s x t : ℕ) (T : ℕ → ℕ) (old new v : List ℕ) → Cells L → s < g.n → x < g.k → old ≡ kept g L x (T x) → new ≡ kept g L x t → Mix L s T v
      → Mix L s (upd T x t) (swap g s x old new v)
  unfolding swap
  swap_mix L s x t T old new v cells sn xk eo en h = record {
    long = length-map-range_with_len (λ c. g.plus (get_or v c 0) (g.times (g.coefficient s x) (g.plus (get_or new c 0) (g.minus (get_or old c 0))))) 0 g.w;
    cells = λ c lt.
        let r : ℕ → ℕ = λ y. get_or (kept g L y (T y)) c 0 in
        let u : ℕ → ℕ = λ y. get_or (kept g L y (upd T x t y)) c 0 in
        let ux : u x ≡ get_or (kept g L x t) c 0 = ap (λ z. get_or (kept g L x z) c 0) (upd_same T x t) in
        get_or-map-range_with_len (λ c. g.plus (get_or v c 0) (g.times (g.coefficient s x) (g.plus (get_or new c 0) (g.minus (get_or old c 0))))) 0 g.w c c 0 lt (omega arith)
        ∙ ap₂ (λ a b. g.plus a (g.times (g.coefficient s x) b)) (h.cells c lt) (ap₂ (λ a b. g.plus a (g.minus b)) (ap (λ z. get_or z c 0) en ∙ sym ux) (ap (λ z. get_or z c 0) eo))
        ∙ sym (mix_change s x r u sn xk (cells.below x (T x) c lt) (rw ux (cells.below x t c lt)) (λ y yk ne. ap (λ z. get_or (kept g L y z) c 0) (upd_other T x y t ne)));
  }

  sum_zero : (n : ℕ) (t : ℕ → ℕ) → ((j : ℕ) → j < n → t j ≡ 0) → sum (field_of g) n t ≡ 0
  unfolding sum
  sum_zero zero t e = refl
  sum_zero (suc n) t e = ap₂ g.plus (sum_zero n t (λ j h. e j (omega arith))) (e n (omega arith)) ∙ R.plus_zero 0 zero_below

  -- the symbol of zeros is zero
  pub mix_zero : (s : ℕ) (r : ℕ → ℕ) → s < g.n → ((y : ℕ) → y < g.k → r y ≡ 0) → mix g s r ≡ 0
  unfolding mix
  mix_zero s r sn e = sum_zero g.k (λ y. g.times (g.coefficient s y) (r y)) (λ y yk. ap (g.times (g.coefficient s y)) (e y yk) ∙ times_zero (g.coefficient s y) (R.coefficients s y sn yk))

  pub zeros_cell : (c : ℕ) → c < g.w → get_or (zeros g) c 0 ≡ 0
  zeros_cell c lt = get_or-map-range_with_len (λ _. 0) 0 g.w c c 0 lt (omega arith)

  none_kept : (x t : ℕ) → kept g [] x t ≡ zeros g
  unfolding kept entered_value
  none_kept x t = elim (cases_Bool (eqb t 0)) [ inl q ↦ rw q | inr q ↦ rw q ]

  pub no_cells : Cells []
  unfolding kept
  no_cells = record { long = λ x t. rw (none_kept x t) (length-map-range_with_len (λ _. 0) 0 g.w); below = λ x t c lt. rw (none_kept x t, zeros_cell c lt) zero_below; zero_tag = λ x. refl }

  pub no_mix : (s : ℕ) → s < g.n → Mix [] s (λ _. 0) (zeros g)
  unfolding kept
  no_mix s sn = record { long = length-map-range_with_len (λ _. 0) 0 g.w; cells = λ c lt. zeros_cell c lt ∙ sym (mix_zero s (λ y. get_or (zeros g) c 0) sn (λ y yk. zeros_cell c lt)) }
