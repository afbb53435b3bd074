-- Histories by places, and a sweep as one filter.
use Rattle.std.proofs.Common.{◌≡◌, ℕ, zero, suc, ◌+◌, ◌-◌, ◌<◌, ◌≤◌, Bool, true, false, cond, not, ◌&&◌, ◌||◌, eqb, ◌⊎◌, List, [], ◌∷◌, map, length, get_or, is_some, Some, fold, filter, Option, sym, refl, ap, ◌∙◌, subst, inl, inr, ⊎_elim, arith}
use mathlib.Core.Path.{fun_ext}
use lib.ListN.{length-map}
use Rattle.std.proofs.lemmas.Bool.Decides.{nat_tests}
use Rattle.std.proofs.lemmas.Bool.{cases_Bool, cond-true, cond-false, cond_both, both_ways}
use Rattle.terms.specs.Limits.{max_entries}
use Rattle.message.specs.declared.tag.Tag.{Tag}
use Rattle.message.specs.Tags.{zero_tag, lower, same}
use Rattle.message.proofs.Order.{equal_of_same}
use Rattle.terms.specs.Lists.{every}
use Rattle.rules.specs.Histories.{Entry, is_entry, has_entry, entered_value, value_under, zero_record, later, raised, highest, highest_held}
use Rattle.rules.specs.State.{Layout, Server}
use Rattle.rules.specs.Encoding.{lowest, floor, wanted, stays, settled, swept}
use Rattle.rules.specs.Places.{first, place, value_at, PlacesRight, goes, SweptAtOnce}
use Rattle.rules.proofs.Words.{every_at}

-- ---- places

first_has : (es : List Entry) (x : ℕ) (t : Tag) (i : ℕ) → has_entry es x t ≡ is_some (first (is_entry x t) i es)
unfolding has_entry
first_has [] x t i = refl
first_has (e ∷ es) x t i = elim (cases_Bool (is_entry x t e)) [ inl q ↦ rw q | inr q ↦ rw q (first_has es x t (i + 1)) ]

-- what is found, counted from i, is i and a place of the list
pub record AtPlace (cells : ℕ) (es : List Entry) (x : ℕ) (t : Tag) (i k : ℕ) : Type 0 where
  pub below : i ≤ k
  pub value : entered_value cells es x t ≡ value_at cells es (k - i)

first_value : (cells : ℕ) (es : List Entry) (x : ℕ) (t : Tag) (i k : ℕ) → first (is_entry x t) i es ≡ Some k → AtPlace cells es x t i k
unfolding entered_value
first_value cells [] x t i k q = absurd (let z : ◌≡◌ {A = ℕ} 0 1 = cc in omega arith)
first_value cells (e ∷ es) x t i k q = elim (cases_Bool (is_entry x t e)) [
  | inl w ↦
      let z : ◌≡◌ {A = Option ℕ} (Some i) (Some k) = sym (cond-true (is_entry x t e) (Some i) (first (is_entry x t) (i + 1) es) w) ∙ q in
      let y : i ≡ k = cc in
      let none : k - i ≡ 0 = omega arith in
      record { below = omega arith; value = rw (w, none) }
  | inr w ↦
      let z = first_value cells es x t (i + 1) k (sym (cond-false (is_entry x t e) (Some i) (first (is_entry x t) (i + 1) es) w) ∙ q) in
      let b = z.below in
      let more : k - i ≡ suc (k - (i + 1)) = omega arith in
      record { below = omega arith; value = rw (w, more) z.value }
]

past_end : (xs : List (List ℕ)) (i : ℕ) (d : List ℕ) → length xs ≤ i → get_or xs i d ≡ d
past_end [] i d le = refl
past_end (x ∷ xs) zero d le = absurd (omega arith)
past_end (x ∷ xs) (suc i) d le = past_end xs i d (omega arith)

under_zero : (cells : ℕ) (es : List Entry) (x : ℕ) (t : Tag) → same t zero_tag ≡ true → value_under cells es x t ≡ zero_record cells
unfolding value_under
under_zero cells es x t q = cond-true (same t zero_tag) (zero_record cells) (entered_value cells es x t) q

under_other : (cells : ℕ) (es : List Entry) (x : ℕ) (t : Tag) → same t zero_tag ≡ false → value_under cells es x t ≡ entered_value cells es x t
unfolding value_under
under_other cells es x t q = cond-false (same t zero_tag) (zero_record cells) (entered_value cells es x t) q

pub places_right : PlacesRight
places_right cells es x t = elim (cases_Bool (same t zero_tag)) [
  | inl q ↦ record { held = rw q; value = λ le i e. zero_value q le i e }
  | inr q ↦ record { held = rw q (first_has es x t 0); value = λ le i e. other_value q i e }
]
  where
    zero_value : same t zero_tag ≡ true → length es ≤ max_entries → (i : ℕ) → place es x t ≡ Some i → value_under cells es x t ≡ value_at cells es i
    zero_value q le i e =
        let z : ◌≡◌ {A = Option ℕ} (Some max_entries) (Some i) = sym (cond-true (same t zero_tag) (Some max_entries) (first (is_entry x t) 0 es) q) ∙ e in
        let y : max_entries ≡ i = cc in
        let n = length-map es (λ (e : Entry). e.value) in
        under_zero cells es x t q ∙ sym (past_end (map (λ (e : Entry). e.value) es) i (zero_record cells) (omega arith))

    other_value : same t zero_tag ≡ false → (i : ℕ) → place es x t ≡ Some i → value_under cells es x t ≡ value_at cells es i
    other_value q i e =
        let z = first_value cells es x t 0 i (sym (cond-false (same t zero_tag) (Some max_entries) (first (is_entry x t) 0 es) q) ∙ e) in
        let n : i - 0 ≡ i = omega arith in
        let v : entered_value cells es x t ≡ value_at cells es i = rw n at z.value in
        under_other cells es x t q ∙ v

-- ---- the order of tags

past_both : (o a t : Tag) → lower o a ≡ false → lower o t ≡ true → lower a t ≡ true
past_both o a t p q = grind (arith, nat_tests)

under : (o a t : Tag) → lower a t ≡ true → lower t o ≡ true → lower o a ≡ false
under o a t p q = grind (arith, nat_tests)

not_above : (o t : Tag) → lower t o ≡ true → lower o t ≡ false
not_above o t p = grind (arith, nat_tests)

-- ---- whether x is settled can be told before anything is removed

module _ (o : Tag) (x : ℕ) (keep : Entry → Bool) (low : (e : Entry) → keep e ≡ false → (lower e.tag o ≡ true) × (eqb e.object x ≡ true)) where
  -- the same, or neither above o
  Near : Tag → Tag → Type 0
  Near a b = (a ≡ b) ⊎ ((lower o a ≡ false) × (lower o b ≡ false))

  later_low : (a t : Tag) → lower o a ≡ false → lower o t ≡ false → lower o (later a t) ≡ false
  later_low a t p q = cond_both (lower a t) t a (λ z. lower o z ≡ false) (λ _. q) (λ _. p)

  both_later : (a b t : Tag) → Near a b → Near (later a t) (later b t)
  unfolding Near
  both_later a b t (inl e) = inl (ap (λ z. later z t) e)
  both_later a b t (inr p) = elim (cases_Bool (lower o t)) [
    | inl q ↦ inl (cond-true (lower a t) t a (past_both o a t p.0 q) ∙ sym (cond-true (lower b t) t b (past_both o b t p.1 q)))
    | inr q ↦ inr (later_low a t p.0 q, later_low b t p.1 q)
  ]

  one_later : (a b t : Tag) → lower t o ≡ true → Near a b → Near a (later b t)
  unfolding Near
  one_later a b t lt (inr p) = inr (p.0, later_low b t p.1 (not_above o t lt))
  one_later a b t lt (inl e) = elim (cases_Bool (lower b t)) [
    | inl q ↦ inr (subst (λ z. lower o z ≡ false) (sym e) (under o b t q lt), ap (lower o) (cond-true (lower b t) t b q) ∙ not_above o t lt)
    | inr q ↦ inl (e ∙ sym (cond-false (lower b t) t b q))
  ]

  abbrev rise : Tag → Entry → Tag
  rise a e = raised (λ _. true) x a e

  rise_near : (a b : Tag) (e : Entry) → Near a b → Near (rise a e) (rise b e)
  unfolding Near
  rise_near a b e h = elim (cases_Bool (eqb e.object x)) [ inl q ↦ rw q (both_later a b e.tag h) | inr q ↦ rw q h ]

  drop_near : (a b : Tag) (e : Entry) → keep e ≡ false → Near a b → Near a (rise b e)
  unfolding Near
  drop_near a b e k h = let w = low e k in rw w.1 (one_later a b e.tag w.0 h)

  folded_near : (a b : Tag) (es : List Entry) → Near a b → Near (fold rise a (filter keep es)) (fold rise b es)
  folded_near a b [] h = h
  folded_near a b (e ∷ es) h = elim (cases_Bool (keep e)) [
    | inl q ↦ rw q (folded_near (rise a e) (rise b e) es (rise_near a b e h))
    | inr q ↦ rw q (folded_near a (rise b e) es (drop_near a b e q h))
  ]

  pub same_above : (es : List Entry) → lower o (highest_held (filter keep es) x) ≡ lower o (highest_held es x)
  unfolding highest Near
  same_above es = ⊎_elim (λ e. ap (lower o) e) (λ p. p.0 ∙ sym p.1) (folded_near zero_tag zero_tag es (inl refl))

-- the lowest of equal tags
lowest_same : (n : ℕ) (f : ℕ → Tag) (o : Tag) → ((j : ℕ) → j < suc n → f j ≡ o) → lowest (suc n) f ≡ o
unfolding lowest
lowest_same zero f o h = cond_both (lower (f 0) (f 0)) (f 0) (f 0) (λ z. z ≡ o) (λ _. h 0 (omega arith)) (λ _. h 0 (omega arith))
lowest_same (suc n) f o h = cond_both (lower (f (suc n)) (lowest (suc n) f)) (f (suc n)) (lowest (suc n) f) (λ z. z ≡ o) (λ _. h (suc n) (omega arith)) (λ _. lowest_same n f o (λ j lt. h j (omega arith)))

kept_twice : (f g : Entry → Bool) (es : List Entry) → filter f (filter g es) ≡ filter (λ e. g e && f e) es
kept_twice f g [] = refl
kept_twice f g (e ∷ es) = elim (cases_Bool (g e)) [
  | inr q ↦ rw q (kept_twice f g es)
  | inl q ↦ rw q (ap (λ l. cond (f e) (e ∷ l) l) (kept_twice f g es))
]

module _ (l : Layout) (some_server : 0 < l.code.servers) (p : Server) (x : ℕ) where
  abbrev all_told : Bool
  all_told = every l.code.servers (λ j. same (p.told x j) (p.own x))

  floor_own : all_told ≡ true → floor l p x ≡ p.own x
  floor_own q = by l.code.servers some_server q
    where
      by : (n : ℕ) → 0 < n → every n (λ j. same (p.told x j) (p.own x)) ≡ true → lowest n (p.told x) ≡ p.own x
      by zero lt q = absurd (omega arith)
      by (suc n) lt q = lowest_same n (p.told x) (p.own x) (λ j jn. equal_of_same (p.told x j) (p.own x) (every_at (suc n) (λ j. same (p.told x j) (p.own x)) q j jn))

  -- what goes first is of x, and below the own tag where all told tags equal it
  first_low : all_told ≡ true → (e : Entry) → stays l p x e ≡ false → (lower e.tag (p.own x) ≡ true) × (eqb e.object x ≡ true)
  first_low q e s = parts (eqb e.object x) (lower e.tag (floor l p x)) (wanted l p x e.tag) s (λ w. sym (ap (lower e.tag) (floor_own q)) ∙ w)
    where
      parts : (a b c : Bool) → not (a && (b && not c)) ≡ false → (b ≡ true → lower e.tag (p.own x) ≡ true) → (lower e.tag (p.own x) ≡ true) × (a ≡ true)
      parts true true c s h = (h refl, refl)
      parts true false c s h = absurd (both_ways true s refl)
      parts false b c s h = absurd (both_ways true s refl)

  settled_before : settled l p x (filter (stays l p x) p.history) ≡ settled l p x p.history
  settled_before = elim (cases_Bool all_told) [
    | inr q ↦ rw q
    | inl q ↦ ap (λ b. all_told && not b) (same_above (p.own x) x (stays l p x) (first_low q) p.history)
  ]

  joined : (a b c d : Bool) → (not (a && b) && not (a && c)) ≡ not (a && ((true && c) || b))
  joined true true true d = refl
  joined true true false d = refl
  joined true false true d = refl
  joined true false false d = refl
  joined false b c d = refl

  at_once : (s : Bool) → cond s (filter (λ e. not (is_entry x (p.own x) e)) (filter (stays l p x) p.history)) (filter (stays l p x) p.history)
      ≡ filter (λ e. not (eqb e.object x && ((s && same e.tag (p.own x)) || (lower e.tag (floor l p x) && not (wanted l p x e.tag))))) p.history
  at_once true = kept_twice (λ e. not (is_entry x (p.own x) e)) (stays l p x) p.history
      ∙ ap (λ (f : Entry → Bool). filter f p.history) (fun_ext (λ e. joined (eqb e.object x) (lower e.tag (floor l p x) && not (wanted l p x e.tag)) (same e.tag (p.own x)) true))
  at_once false = refl

  once : swept l p x ≡ filter (λ e. not (goes l p x e)) p.history
  unfolding swept
  once = ap (λ b. cond b (filter (λ e. not (is_entry x (p.own x) e)) (filter (stays l p x) p.history)) (filter (stays l p x) p.history)) settled_before ∙ at_once (settled l p x p.history)

pub swept_at_once : SweptAtOnce
swept_at_once l some_server p x = once l some_server p x
