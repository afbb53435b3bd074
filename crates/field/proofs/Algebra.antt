-- Sums and rows over a ring whose elements are the numbers below (ar.size). Assumes nothing.
use Rattle.std.proofs.Common.{◌≡◌, ℕ, zero, suc, ◌<◌, ◌≤◌, Bool, true, false, cond, eqb, sym, refl, ap, ◌∙◌, subst, ap₂, inl, inr, not-suc-le-zero, arith, eq-eqb, ne_eqb}
use Rattle.std.proofs.lemmas.Bool.{cases_eq, cases_lt}
use Rattle.field.specs.Arithmetic.{Arithmetic}
use Rattle.field.specs.Laws.{Ring, Inverses}
use Rattle.field.specs.Sums.{sum, dot, Below}

sooner : {q n : ℕ} {t : ℕ → ℕ} → Below q (suc n) t → Below q n t
sooner h j k = h j (omega arith)

module _ {ar : Arithmetic} (R : Ring ar) where
  pub zero_below : 0 < ar.size
  zero_below = omega (arith, R.least)

  pub one_below : 1 < ar.size
  one_below = omega (arith, R.least)

  pub zero_plus : (x : ℕ) → x < ar.size → ar.plus 0 x ≡ x
  zero_plus x h = R.plus_comm 0 x zero_below h ∙ R.plus_zero x h

  -- what is added on the right can be taken away
  pub undone : (a b : ℕ) → a < ar.size → b < ar.size → ar.plus (ar.plus a b) (ar.minus b) ≡ a
  undone a b ha hb =
      R.plus_assoc a b (ar.minus b) ha hb (R.minus_below b) ∙ ap (ar.plus a) (R.plus_minus b hb) ∙ R.plus_zero a ha

  pub cancel : (a c b : ℕ) → a < ar.size → c < ar.size → b < ar.size → ar.plus a b ≡ ar.plus c b → a ≡ c
  cancel a c b ha hc hb e = sym (undone a b ha hb) ∙ ap (λ (v : ℕ). ar.plus v (ar.minus b)) e ∙ undone c b hc hb

  pub times_zero : (x : ℕ) → x < ar.size → ar.times x 0 ≡ 0
  times_zero x h =
      let t : ar.times x 0 < ar.size = R.times_below x 0 in
      cancel (ar.times x 0) 0 (ar.times x 0) t zero_below t
      (sym (R.times_plus x 0 0 h zero_below zero_below) ∙ ap (ar.times x) (R.plus_zero 0 zero_below) ∙ sym (zero_plus (ar.times x 0) t))

  pub zero_times : (x : ℕ) → x < ar.size → ar.times 0 x ≡ 0
  zero_times x h = R.times_comm 0 x zero_below h ∙ times_zero x h

  pub plus_swap : (a b c d : ℕ) → a < ar.size → b < ar.size → c < ar.size → d < ar.size → ar.plus (ar.plus a b) (ar.plus c d) ≡ ar.plus (ar.plus a c) (ar.plus b d)
  plus_swap a b c d ha hb hc hd =
      R.plus_assoc a b (ar.plus c d) ha hb (R.plus_below c d)
      ∙ ap (ar.plus a) (sym (R.plus_assoc b c d hb hc hd) ∙ ap (λ (v : ℕ). ar.plus v d) (R.plus_comm b c hb hc) ∙ R.plus_assoc c b d hc hb hd)
      ∙ sym (R.plus_assoc a c (ar.plus b d) ha hc (R.plus_below b d))

  -- ---- sums

  pub sum_below : (n : ℕ) (t : ℕ → ℕ) → sum ar n t < ar.size
  unfolding sum
  sum_below zero t = zero_below
  sum_below (suc n) t = R.plus_below (sum ar n t) (t n)

  pub sum_same : (n : ℕ) (t u : ℕ → ℕ) → ((j : ℕ) → j < n → t j ≡ u j) → sum ar n t ≡ sum ar n u
  unfolding sum
  sum_same zero t u e = refl
  sum_same (suc n) t u e = ap₂ ar.plus (sum_same n t u (λ j h. e j (omega arith))) (e n (omega arith))

  pub sum_plus : (n : ℕ) (t u : ℕ → ℕ) → Below ar.size n t → Below ar.size n u → sum ar n (λ j. ar.plus (t j) (u j)) ≡ ar.plus (sum ar n t) (sum ar n u)
  unfolding sum
  sum_plus zero t u ht hu = sym (R.plus_zero 0 zero_below)
  sum_plus (suc n) t u ht hu =
      ap (λ (v : ℕ). ar.plus v (ar.plus (t n) (u n))) (sum_plus n t u (sooner ht) (sooner hu))
      ∙ plus_swap (sum ar n t) (sum ar n u) (t n) (u n) (sum_below n t) (sum_below n u) (ht n (omega arith)) (hu n (omega arith))

  pub sum_times : (n f : ℕ) (t : ℕ → ℕ) → f < ar.size → Below ar.size n t → sum ar n (λ j. ar.times f (t j)) ≡ ar.times f (sum ar n t)
  unfolding sum
  sum_times zero f t hf ht = sym (times_zero f hf)
  sum_times (suc n) f t hf ht =
      ap (λ (v : ℕ). ar.plus v (ar.times f (t n))) (sum_times n f t hf (sooner ht))
      ∙ sym (R.times_plus f (sum ar n t) (t n) hf (sum_below n t) (ht n (omega arith)))

  pub sum_zero : (n : ℕ) (t : ℕ → ℕ) → ((j : ℕ) → j < n → t j ≡ 0) → sum ar n t ≡ 0
  unfolding sum
  sum_zero zero t e = refl
  sum_zero (suc n) t e = ap₂ ar.plus (sum_zero n t (λ j h. e j (omega arith))) (e n (omega arith)) ∙ R.plus_zero 0 zero_below

  -- a sum ends where its terms are 0 from then on
  pub sum_short : (n k : ℕ) (t : ℕ → ℕ) → k ≤ n → ((j : ℕ) → k ≤ j → j < n → t j ≡ 0) → sum ar n t ≡ sum ar k t
  unfolding sum
  sum_short zero k t h e = let none : k ≡ 0 = omega arith in ap (λ (v : ℕ). sum ar v t) (sym none)
  sum_short (suc n) k t h e =
      elim (cases_eq k (suc n)) [
        | inl all ↦ ap (λ (v : ℕ). sum ar v t) (sym all)
        | inr ne ↦
            let within : k ≤ n = omega arith in
            ap (ar.plus (sum ar n t)) (e n within (omega arith)) ∙ R.plus_zero (sum ar n t) (sum_below n t)
            ∙ sum_short n k t within (λ j low high. e j low (omega arith))
      ]

  pub sum_one : (n c : ℕ) (t : ℕ → ℕ) → c < n → t c < ar.size → ((j : ℕ) → j < n → (j ≡ c → ⊥) → t j ≡ 0) → sum ar n t ≡ t c
  unfolding sum
  sum_one zero c t h b e = absurd (not-suc-le-zero h)
  sum_one (suc n) c t h b e =
      elim (cases_eq c n) [
        | inl here ↦
            let least : (j : ℕ) → j < n → t j ≡ 0 = λ j k. e j (omega arith) (omega arith) in
            ap (λ (v : ℕ). ar.plus v (t n)) (sum_zero n t least) ∙ ap (λ (v : ℕ). ar.plus 0 (t v)) (sym here) ∙ zero_plus (t c) b
        | inr ne ↦
            let last : t n ≡ 0 = e n (omega arith) (λ i. ne (sym i)) in
            ap₂ ar.plus (sum_one n c t (omega arith) b (λ j k d. e j (omega arith) d)) last ∙ R.plus_zero (t c) b
      ]

  pub sum_two : (n c k : ℕ) (t : ℕ → ℕ) → c < n → k < n → (c ≡ k → ⊥) → Below ar.size n t → ((j : ℕ) → j < n → (j ≡ c → ⊥) → (j ≡ k → ⊥) → t j ≡ 0) → sum ar n t ≡ ar.plus (t c) (t k)
  sum_two n c k t hc hk apart b e =
      let u : ℕ → ℕ = λ j. cond (eqb j k) 0 (t j) in
      let v : ℕ → ℕ = λ j. cond (eqb j k) (t j) 0 in
      let parts : (j : ℕ) → j < n → t j ≡ ar.plus (u j) (v j) = λ j h. part (t j) (eqb j k) (b j h) in
      let bu : Below ar.size n u = λ j h. low (t j) (eqb j k) (b j h) in
      let bv : Below ar.size n v = λ j h. high (t j) (eqb j k) (b j h) in
      let uc : u c ≡ t c = ap (λ (w : Bool). cond w 0 (t c)) (ne_eqb c k apart) in
      let vk : v k ≡ t k = ap (λ (w : Bool). cond w (t k) 0) (eq-eqb k k refl) in
      let others_u : (j : ℕ) → j < n → (j ≡ c → ⊥) → u j ≡ 0 = λ j h d.
      elim (cases_eq j k) [
        | inl same ↦ ap (λ (w : Bool). cond w 0 (t j)) (eq-eqb j k same)
        | inr ne ↦ ap (λ (w : Bool). cond w 0 (t j)) (ne_eqb j k ne) ∙ e j h d ne
      ] in
      let others_v : (j : ℕ) → j < n → (j ≡ k → ⊥) → v j ≡ 0 = λ j h d. ap (λ (w : Bool). cond w (t j) 0) (ne_eqb j k d) in
      sum_same n t (λ j. ar.plus (u j) (v j)) parts ∙ sum_plus n u v bu bv
      ∙ ap₂ ar.plus (sum_one n c u hc (bu c hc) others_u ∙ uc) (sum_one n k v hk (bv k hk) others_v ∙ vk)
    where
      part : (x : ℕ) (w : Bool) → x < ar.size → x ≡ ar.plus (cond w 0 x) (cond w x 0)
      part x true h = sym (zero_plus x h)
      part x false h = sym (R.plus_zero x h)

      low : (x : ℕ) (w : Bool) → x < ar.size → cond w 0 x < ar.size
      low x true h = zero_below
      low x false h = h

      high : (x : ℕ) (w : Bool) → x < ar.size → cond w x 0 < ar.size
      high x true h = h
      high x false h = zero_below

  -- one term is d more
  pub sum_change : (n : ℕ) (t u : ℕ → ℕ) (x d : ℕ) → x < n → Below ar.size n t → d < ar.size → ((j : ℕ) → j < n → (j ≡ x → ⊥) → u j ≡ t j) → u x ≡ ar.plus (t x) d
      → sum ar n u ≡ ar.plus (sum ar n t) d
  unfolding sum
  sum_change zero t u x d lt bt bd same here = absurd (not-suc-le-zero lt)
  sum_change (suc n) t u x d lt bt bd same here =
      let s : ℕ = sum ar n t in
      let hs : s < ar.size = sum_below n t in
      let ht : t n < ar.size = bt n (omega arith) in
      elim (cases_eq x n) [
        | inl e ↦
            let last : u n ≡ ar.plus (t n) d = subst (λ (v : ℕ). u v ≡ ar.plus (t v) d) e here in
            ap₂ ar.plus (sum_same n u t (λ j l. same j (omega arith) (omega arith))) last ∙ sym (R.plus_assoc s (t n) d hs ht bd)
        | inr ne ↦
            ap₂ ar.plus (sum_change n t u x d (omega arith) (sooner bt) bd (λ j l w. same j (omega arith) w) here) (same n (omega arith) (λ i. ne (sym i)))
            ∙ R.plus_assoc s d (t n) hs bd ht ∙ ap (ar.plus s) (R.plus_comm d (t n) bd ht) ∙ sym (R.plus_assoc s (t n) d hs ht bd)
      ]

  -- b is a and their difference
  pub difference : (a b : ℕ) → a < ar.size → b < ar.size → ar.plus a (ar.plus b (ar.minus a)) ≡ b
  difference a b ha hb =
      ap (ar.plus a) (R.plus_comm b (ar.minus a) hb (R.minus_below a)) ∙ sym (R.plus_assoc a (ar.minus a) b ha (R.minus_below a) hb)
      ∙ ap (λ (v : ℕ). ar.plus v b) (R.plus_minus a ha) ∙ zero_plus b hb

  -- a factor times b is that factor times a and times their difference; also a factor that is no element
  pub times_difference : (f a b : ℕ) → a < ar.size → b < ar.size → ar.times f b ≡ ar.plus (ar.times f a) (ar.times f (ar.plus b (ar.minus a)))
  times_difference f a b ha hb =
      let d : ℕ = ar.plus b (ar.minus a) in
      elim (cases_lt f ar.size) [
        | inl h ↦ ap (ar.times f) (sym (difference a b ha hb)) ∙ R.times_plus f a d h ha (R.plus_below b (ar.minus a))
        | inr past ↦
            (R.times_past f b past).0
            ∙ sym (ap₂ ar.plus (R.times_past f a past).0 (R.times_past f d past).0 ∙ R.plus_zero 0 zero_below)
      ]

  -- ---- a row to which a multiple of another was added

  pub plus_times : (x y z : ℕ) → x < ar.size → y < ar.size → z < ar.size → ar.times (ar.plus x y) z ≡ ar.plus (ar.times x z) (ar.times y z)
  plus_times x y z hx hy hz =
      R.times_comm (ar.plus x y) z (R.plus_below x y) hz ∙ R.times_plus z x y hz hx hy
      ∙ ap₂ ar.plus (R.times_comm z x hz hx) (R.times_comm z y hz hy)

  pub dot_below : (n : ℕ) (g x : ℕ → ℕ) → dot ar n g x < ar.size
  dot_below n g x = sum_below n (λ j. ar.times (g j) (x j))

  pub dot_same : (n : ℕ) (g h x : ℕ → ℕ) → ((j : ℕ) → j < n → g j ≡ h j) → dot ar n g x ≡ dot ar n h x
  dot_same n g h x e = sum_same n (λ j. ar.times (g j) (x j)) (λ j. ar.times (h j) (x j)) (λ j k. ap (λ (v : ℕ). ar.times v (x j)) (e j k))

  pub dot_same_right : (n : ℕ) (g x y : ℕ → ℕ) → ((j : ℕ) → j < n → x j ≡ y j) → dot ar n g x ≡ dot ar n g y
  dot_same_right n g x y e = sum_same n (λ j. ar.times (g j) (x j)) (λ j. ar.times (g j) (y j)) (λ j k. ap (ar.times (g j)) (e j k))

  pub dot_zero_left : (n : ℕ) (g x : ℕ → ℕ) → Below ar.size n x → ((j : ℕ) → j < n → g j ≡ 0) → dot ar n g x ≡ 0
  dot_zero_left n g x b z = sum_zero n (λ j. ar.times (g j) (x j)) (λ j h. ap (λ (v : ℕ). ar.times v (x j)) (z j h) ∙ zero_times (x j) (b j h))

  pub dot_added : (n f : ℕ) (old by new x : ℕ → ℕ) → f < ar.size → Below ar.size n old → Below ar.size n by → Below ar.size n x
      → ((j : ℕ) → j < n → new j ≡ ar.plus (old j) (ar.times f (by j)))
      → dot ar n new x ≡ ar.plus (dot ar n old x) (ar.times f (dot ar n by x))
  dot_added n f old by new x hf ho hb hx e =
      let each : (j : ℕ) → j < n → ar.times (new j) (x j) ≡ ar.plus (ar.times (old j) (x j)) (ar.times f (ar.times (by j) (x j))) = λ j h.
      ap (λ (v : ℕ). ar.times v (x j)) (e j h) ∙ plus_times (old j) (ar.times f (by j)) (x j) (ho j h) (R.times_below f (by j)) (hx j h)
      ∙ ap (ar.plus (ar.times (old j) (x j))) (R.times_assoc f (by j) (x j) hf (hb j h) (hx j h)) in
      sum_same n (λ j. ar.times (new j) (x j)) (λ j. ar.plus (ar.times (old j) (x j)) (ar.times f (ar.times (by j) (x j)))) each
      ∙ sum_plus n (λ j. ar.times (old j) (x j)) (λ j. ar.times f (ar.times (by j) (x j))) (λ j h. R.times_below (old j) (x j)) (λ j h. R.times_below f (ar.times (by j) (x j)))
      ∙ ap (ar.plus (dot ar n old x)) (sum_times n f (λ j. ar.times (by j) (x j)) hf (λ j h. R.times_below (by j) (x j)))

  -- ---- with inverses

  module _ {inverse : ℕ → ℕ} (I : Inverses ar inverse) where
    pub inverted : (a z : ℕ) → a < ar.size → z < ar.size → (a ≡ 0 → ⊥) → ar.times (inverse a) (ar.times a z) ≡ z
    inverted a z ha hz ne =
        sym (R.times_assoc (inverse a) a z (I.inverse_below a) ha hz)
        ∙ ap (λ (v : ℕ). ar.times v z) (R.times_comm (inverse a) a (I.inverse_below a) ha ∙ I.times_inverse a ha ne)
        ∙ R.times_comm 1 z one_below hz ∙ R.times_one z hz

    -- a factor that is not 0 can be taken away
    pub divided : (a x y : ℕ) → a < ar.size → x < ar.size → y < ar.size → (a ≡ 0 → ⊥) → ar.times a x ≡ ar.times a y → x ≡ y
    divided a x y ha hx hy ne e = sym (inverted a x ha hx ne) ∙ ap (ar.times (inverse a)) e ∙ inverted a y ha hy ne

    -- a - (a / b) b
    pub cleared : (a b : ℕ) → a < ar.size → b < ar.size → (b ≡ 0 → ⊥) → ar.plus a (ar.times (ar.minus (ar.times a (inverse b))) b) ≡ 0
    cleared a b ha hb ne =
        let d : ar.times a (inverse b) < ar.size = R.times_below a (inverse b) in
        let whole : ar.times (ar.times a (inverse b)) b ≡ a =
        R.times_assoc a (inverse b) b ha (I.inverse_below b) hb
        ∙ ap (ar.times a) (R.times_comm (inverse b) b (I.inverse_below b) hb ∙ I.times_inverse b hb ne) ∙ R.times_one a ha in
        ap (λ (v : ℕ). ar.plus v (ar.times (ar.minus (ar.times a (inverse b))) b)) (sym whole)
        ∙ sym (plus_times (ar.times a (inverse b)) (ar.minus (ar.times a (inverse b))) b d (R.minus_below (ar.times a (inverse b))) hb)
        ∙ ap (λ (v : ℕ). ar.times v b) (R.plus_minus (ar.times a (inverse b)) d) ∙ zero_times b hb
