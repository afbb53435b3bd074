-- Posting to one server after the other. Assumes nothing.
use Rattle.std.proofs.Common.{◌≡◌, ℕ, zero, suc, ◌+◌, ◌<◌, Bool, true, false, cond, not, ◌&&◌, ◌||◌, eqb, ltb, List, [], ◌∷◌, ◌++◌, length, Some, None, Option, sym, refl, ap, ◌∙◌, ap₂, inl, inr, not-suc-le-zero, arith}
use mathlib.Core.Path.{fun_ext}
use Rattle.std.proofs.lemmas.Bool.{cases_eq, cases_order, eq-eqb, ne_eqb, lt-ltb, le-ltb}
use Rattle.terms.specs.declared.refusal.Refusal.{Refusal}
use Rattle.terms.specs.declared.refusal.Refusal.TheVariants.{NoSuchServer, EqualEnds, LaneFull, OutOfRange}
use Rattle.terms.proofs.Tests.{and_left, and_right}
use Rattle.message.specs.Meanings.{Meaning}
use Rattle.message.specs.Ranges.{in_range}
use Rattle.carrier.specs.Lanes as carrier
use Rattle.carrier.specs.Lanes.{with_lane}
use Rattle.rules.specs.Lanes.{Lanes, spread}
use Rattle.terms.specs.Lists.{every}
use Rattle.calls.specs.Posting.{posted_other}

pub every_at : (n : ℕ) (f : ℕ → Bool) → every n f ≡ true → (k : ℕ) → k < n → f k ≡ true
unfolding every
every_at zero f t k h = absurd (not-suc-le-zero h)
every_at (suc n) f t k h =
    elim (cases_eq k n) [
      | inl e ↦ ap f e ∙ and_right (every n f) (f n) t
      | inr ne ↦ every_at n f (and_left (every n f) (f n) t) k (omega arith)
    ]

-- ---- choices between a lane and the lane with a message more

module _ {A : Type 0} (more old : A) where
  off_self : (x y : Bool) → cond (x && (y && not y)) more old ≡ old
  off_self true true = refl
  off_self true false = refl
  off_self false y = refl

  off_second : (x z : Bool) → cond (x && (false && not z)) more old ≡ old
  off_second true z = refl
  off_second false z = refl

  off_pair : (x : Bool) → cond (x && false) more old ≡ old
  off_pair true = refl
  off_pair false = refl

module _ {A : Type 0} (push : A → A) (v : A) where
  abbrev so_far : Bool → Bool → Bool → A
  so_far x y z = cond (x && (y && not z)) (push v) v

  before : (x z : Bool) → so_far x true z ≡ cond (x && (false && not z)) (push (so_far x true z)) (so_far x true z)
  before true z = refl
  before false z = refl

  here : (x z : Bool) → so_far x true z ≡ cond (x && (true && not z)) (push (so_far x false z)) (so_far x false z)
  here true true = refl
  here true false = refl
  here false z = refl

  behind : (x z : Bool) → so_far x false z ≡ cond (x && (false && not z)) (push (so_far x false z)) (so_far x false z)
  behind true z = refl
  behind false z = refl

module _ (L : Lanes Meaning) (from to : ℕ) (m : Meaning) where
  abbrev pushed : List Meaning → List Meaning
  pushed l = l ++ m ∷ []

  -- one server more
  spread_at : (a b : ℕ) → spread L from (to + 1) m a b ≡ posted_other (spread L from to m) from to m a b
  unfolding spread posted_other
  spread_at a b =
      let x = eqb a from in
      let z = eqb b from in
      let v = L a b in
      let next : Bool → Bool → List Meaning = λ y w. cond (x && (w && not z)) (pushed (so_far pushed v x y z)) (so_far pushed v x y z) in
      elim (cases_order b to) [
        | inl e ↦ ap (λ y. so_far pushed v x y z) (lt-ltb b (to + 1) (omega arith)) ∙ here pushed v x z ∙ sym (ap₂ next (le-ltb b to (omega arith)) (eq-eqb b to e))
        | inr (inl lt) ↦ ap (λ y. so_far pushed v x y z) (lt-ltb b (to + 1) (omega arith)) ∙ before pushed v x z ∙ sym (ap₂ next (lt-ltb b to lt) (ne_eqb b to (λ e. omega arith)))
        | inr (inr gt) ↦ ap (λ y. so_far pushed v x y z) (le-ltb b (to + 1) (omega arith)) ∙ behind pushed v x z ∙ sym (ap₂ next (le-ltb b to (omega arith)) (ne_eqb b to (λ e. omega arith)))
      ]

  pub spread_more : (now : Lanes Meaning) → now ≡ spread L from to m → posted_other now from to m ≡ spread L from (to + 1) m
  spread_more now e = ap (λ (M : Lanes Meaning). posted_other M from to m) e ∙ fun_ext (λ a. fun_ext (λ b. sym (spread_at a b)))

  -- the lane to the server that is next is as it was
  pub spread_next : spread L from to m from to ≡ L from to
  unfolding spread
  spread_next = ap (λ y. cond (eqb from from && (y && not (eqb to from))) (pushed (L from to)) (L from to)) (le-ltb to to (omega arith)) ∙ off_second (pushed (L from to)) (L from to) (eqb from from) (eqb to from)

  -- a carrier's refusal, by what it tests
  abbrev refusal : Bool → Bool → Bool → Bool → Bool → Option Refusal
  refusal a b same room range = carrier.or_else (cond (a && b) (cond same (Some EqualEnds) None) (Some NoSuchServer)) (carrier.or_else (cond room None (Some LaneFull)) (cond range None (Some OutOfRange)))

  other_at : (to ≡ from → ⊥) → (a b : ℕ) → with_lane L from to (pushed (L from to)) a b ≡ posted_other L from to m a b
  unfolding with_lane posted_other
  other_at ne a b =
      let l = pushed (L from to) in
      elim (cases_eq a from) [
        | inr na ↦ ap (λ x. cond (x && eqb b to) l (L a b)) (ne_eqb a from na) ∙ sym (ap (λ x. cond (x && (eqb b to && not (eqb b from))) (pushed (L a b)) (L a b)) (ne_eqb a from na))
        | inl ea ↦ elim (cases_eq b to) [
          | inr nb ↦
              ap (λ y. cond (eqb a from && y) l (L a b)) (ne_eqb b to nb) ∙ off_pair l (L a b) (eqb a from)
              ∙ sym (ap (λ y. cond (eqb a from && (y && not (eqb b from))) (pushed (L a b)) (L a b)) (ne_eqb b to nb) ∙ off_second (pushed (L a b)) (L a b) (eqb a from) (eqb b from))
          | inl eb ↦
              let apart : b ≡ from → ⊥ = λ e. ne (sym eb ∙ e) in
              ap₂ (λ x y. cond (x && y) l (L a b)) (eq-eqb a from ea) (eq-eqb b to eb) ∙ ap₂ (λ (i j : ℕ). pushed (L i j)) (sym ea) (sym eb)
              ∙ sym (ap₂ (λ x y. cond (x && (y && not (eqb b from))) (pushed (L a b)) (L a b)) (eq-eqb a from ea) (eq-eqb b to eb) ∙ ap (λ z. cond (not z) (pushed (L a b)) (L a b)) (ne_eqb b from apart))
        ]
      ]

  self_at : to ≡ from → (a b : ℕ) → L a b ≡ posted_other L from to m a b
  unfolding posted_other
  self_at e a b =
      sym (ap (λ (k : ℕ). cond (eqb a from && (eqb b k && not (eqb b from))) (pushed (L a b)) (L a b)) e ∙ off_self (pushed (L a b)) (L a b) (eqb a from) (eqb b from))

  -- between different servers nothing refuses the message
  pub post_free : (n p : ℕ) → from < n → to < n → (to ≡ from → ⊥) → (eqb to from || ltb (length (L from to)) p) ≡ true → in_range m ≡ true → carrier.post_refusal n p L from to m ≡ None
  post_free n p f t ne room range =
      let r = ltb (length (L from to)) p in
      let free_place : r ≡ true = sym (ap (λ same. same || r) (ne_eqb to from ne)) ∙ room in
      ap₂ (λ a b. refusal a b (eqb from to) r (in_range m)) (lt-ltb from n f) (lt-ltb to n t) ∙ ap (refusal true true (eqb from to) r) range
      ∙ ap₂ (λ same free. refusal true true same free true) (ne_eqb from to (λ e. ne (sym e))) free_place

  -- and it is at the end of the lane then
  pub post_is : (o : Option Refusal) → o ≡ None → (to ≡ from → ⊥) → carrier.unless o L (with_lane L from to (pushed (L from to))) ≡ posted_other L from to m
  post_is o e ne = ap (λ (why : Option Refusal). carrier.unless why L (with_lane L from to (pushed (L from to)))) e ∙ fun_ext (λ a. fun_ext (λ b. other_at ne a b))

  -- from a server to itself there is no lane
  pub post_self : to ≡ from → L ≡ posted_other L from to m
  post_self e = fun_ext (λ a. fun_ext (λ b. self_at e a b))

-- before the first server nothing is posted
pub spread_none : (L : Lanes Meaning) (from : ℕ) (m : Meaning) → L ≡ spread L from 0 m
unfolding spread
spread_none L from m =
    fun_ext (λ a. fun_ext (λ b. sym (ap (λ y. cond (eqb a from && (y && not (eqb b from))) (L a b ++ m ∷ []) (L a b)) (le-ltb b 0 (omega arith)) ∙ off_second (L a b ++ m ∷ []) (L a b) (eqb a from) (eqb b from))))
