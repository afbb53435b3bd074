-- What the invariant says of a new question, of a reply, and of a reply that is taken; and where it starts.
use Rattle.std.proofs.Common.{◌≡◌, ℕ, ◌<◌, ◌≤◌, Bool, true, false, cond, eqb, ◌⊎◌, List, [], ◌∷◌, ◌++◌, get_or, sym, refl, ◌∙◌, inl, inr, ⊎_elim, arith}
use Rattle.std.proofs.lemmas.Bool.{both_ways, cases_Bool, cases_order, eqb-true, eqb-false}
use Rattle.rules.proofs.RankedMessages.{Message, Question, Coded}
use Rattle.rules.proofs.Core.{Core, Chain, On, Kept, Asked, Mends, Replied, Good, Sound}
use Rattle.rules.proofs.Walks.{chain_after, chain_le, on_le}

-- the tag that a server states of an object it contains, where u is asked, o its own tag, and it holds o and u or not
abbrev pub stated : ℕ → ℕ → Bool → Bool → ℕ
stated u o own_held asked_held = cond (eqb u o) o (cond own_held (cond asked_held u 0) o)

module _ (n k : ℕ) (has : ℕ → ℕ → Bool) (c : Core) (h : Sound n k has c) where
  known : (i j y : ℕ) → i < n → j < n → (j ≡ i → ⊥) → c.told i y j ≤ c.own j y
  known i j y inn jn ne = chain_le y (c.told i y j) (c.lane j i) (c.own j y) (h.chain j i y jn inn ne)

  -- a new question
  pub opens : (a b i p x : ℕ) (T : List ℕ) → a < n → b < n → (a ≡ b → ⊥) → p ≤ c.last a
      → ((y : ℕ) → y < k → get_or T y 0 ≡ c.own a y)
      → ((i : ℕ) → c.live a i ≡ true → c.num a i ≡ p → (y : ℕ) → c.want a i y ≡ c.own a y)
      → Good n k has c a b (c.lane a b) (Question p x T)
  opens a b i p x T an bn ne le tags reads = record {
    counted = le;
    chain = λ y lt. tags y lt ∙ sym (chain_after y (c.told b y a) (c.lane a b) (c.own a y) (h.chain a b y an bn ne));
    read = λ i lv nu y lt. reads i lv nu y ∙ sym (tags y lt);
    kept = λ i lv nu y lt f. rw (reads i lv nu y) (kept y f);
  }
    where
      kept : (y : ℕ) → has b y ≡ true → Kept n k has c a b y (c.own a y)
      kept y f = elim (cases_Bool (c.held a y (c.own a y))) [
        | inl e ↦ inl e
        | inr e ↦
            let l = h.bare a b y an bn e in let m = known a b y an bn (λ q. ne (sym q)) in
            inr (omega arith, λ lt. h.lost a b y an bn e f lt)
      ]

  -- a coded reply of b to the question of a that is the oldest of their lane
  module _ (a b p x : ℕ) (T : List ℕ) (rest : List Message) (an : a < n) (bn : b < n) (ne : a ≡ b → ⊥) (e : c.lane a b ≡ Question p x T ∷ rest) where
    asked : Asked n k has c a b [] p T
    asked = h.lanes a b an bn ne [] (Question p x T) rest e

    module _ (y : ℕ) (lt : y < k) (f : has b y ≡ true) (i : ℕ) (lv : c.live a i ≡ true) (nu : c.num a i ≡ p) where
      u : ℕ
      u = get_or T y 0

      -- what is asked is what b was told
      is_told : get_or T y 0 ≡ c.told b y a
      is_told = asked.chain y lt

      is_wanted : c.want a i y ≡ get_or T y 0
      is_wanted = asked.read i lv nu y lt

      kept : Kept n k has c a b y (get_or T y 0)
      kept = rw (asked.read i lv nu y lt) at (asked.kept i lv nu y lt f)

      chain_back : Chain y (c.told a y b) (c.lane b a) (c.own b y)
      chain_back = h.chain b a y bn an (λ q. ne (sym q))

      passed : c.held b y (get_or T y 0) ≡ false → get_or T y 0 < c.own b y → Mends n k has c b a (c.lane b a) y (get_or T y 0) 0
      passed no_held low = record {
        wanted = ⊎_elim (λ q. q) (λ (q : (get_or T y 0 ≤ c.own b y) × (get_or T y 0 < c.own b y → c.held b y (get_or T y 0) ≡ true)). absurd (both_ways (c.held b y (get_or T y 0)) no_held (q.1 low))) kept;
        stated = h.zero_held a y;
        off = λ on. both_ways (c.held b y (get_or T y 0)) no_held (h.passed b a y (get_or T y 0) a bn an (λ q. ne (sym q)) f on low an (let w = is_told in omega arith));
        low = inl refl;
      }

      high_wanted : c.own b y < get_or T y 0 → c.held a y (get_or T y 0) ≡ true
      high_wanted hi = ⊎_elim (λ q. q) (λ (q : (get_or T y 0 ≤ c.own b y) × (get_or T y 0 < c.own b y → c.held b y (get_or T y 0) ≡ true)). absurd (let w = q.0 in omega arith)) kept

      high_off : c.own b y < get_or T y 0 → On y (c.told a y b) (c.lane b a) (get_or T y 0) → ⊥
      high_off hi on = let w = on_le y (c.told a y b) (c.lane b a) (c.own b y) (get_or T y 0) chain_back on in omega arith

      above : c.own b y < get_or T y 0 → c.own b y < c.own a y
      above hi = let w = (h.reads a i lv).1 y in let v = is_wanted in omega arith

      has_too : c.own b y < get_or T y 0 → has a y ≡ true
      has_too hi = elim (cases_Bool (has a y)) [
        | inl q ↦ q
        | inr q ↦ absurd (let w = h.behind a b y an bn q f in let v = known a b y an bn (λ r. ne (sym r)) in let z = above hi in omega arith)
      ]

      ahead_zero : c.own b y < get_or T y 0 → Mends n k has c b a (c.lane b a) y (get_or T y 0) 0
      ahead_zero hi = record { wanted = high_wanted hi; stated = h.zero_held a y; off = high_off hi; low = inl refl }

      ahead_own : c.own b y < get_or T y 0 → c.held b y (c.own b y) ≡ false → Mends n k has c b a (c.lane b a) y (get_or T y 0) (c.own b y)
      ahead_own hi bare = record {
        wanted = high_wanted hi;
        stated = h.lost b a y bn an bare (has_too hi) (above hi);
        off = high_off hi;
        low = inr (hi, let w = chain_after y (c.told a y b) (c.lane b a) (c.own b y) chain_back in omega arith);
      }

      Fits : ℕ → Type 0
      Fits w = (w ≡ get_or T y 0) ⊎ Mends n k has c b a (c.lane b a) y (get_or T y 0) w

      own_held : (get_or T y 0 ≡ c.own b y → ⊥) → (q : Bool) → c.held b y (get_or T y 0) ≡ q → Fits (cond q (get_or T y 0) 0)
      unfolding Fits
      own_held far true e = inl refl
      own_held far false e = ⊎_elim (λ (w : get_or T y 0 ≡ c.own b y). absurd (far w)) (λ (w : (get_or T y 0 < c.own b y) ⊎ (c.own b y < get_or T y 0)).
          ⊎_elim (λ v. inr (passed e v)) (λ v. inr (ahead_zero v)) w) (cases_order (get_or T y 0) (c.own b y))

      own_bare : (get_or T y 0 ≡ c.own b y → ⊥) → c.held b y (c.own b y) ≡ false → Fits (c.own b y)
      unfolding Fits
      own_bare far bare = let w = h.bare b a y bn an bare in let v = is_told in inr (ahead_own (omega arith) bare)

      by_own : (get_or T y 0 ≡ c.own b y → ⊥) → (q : Bool) → c.held b y (c.own b y) ≡ q → Fits (cond q (cond (c.held b y (get_or T y 0)) (get_or T y 0) 0) (c.own b y))
      by_own far true e = own_held far (c.held b y (get_or T y 0)) refl
      by_own far false e = own_bare far e

      by_same : (q : Bool) → eqb (get_or T y 0) (c.own b y) ≡ q → Fits (cond q (c.own b y) (cond (c.held b y (c.own b y)) (cond (c.held b y (get_or T y 0)) (get_or T y 0) 0) (c.own b y)))
      unfolding Fits
      by_same true e = inl (sym (eqb-true (get_or T y 0) (c.own b y) e))
      by_same false e = by_own (eqb-false (get_or T y 0) (c.own b y) e) (c.held b y (c.own b y)) refl

      fits : (stated (get_or T y 0) (c.own b y) (c.held b y (c.own b y)) (c.held b y (get_or T y 0)) ≡ c.want a i y)
          ⊎ Mends n k has c b a (c.lane b a) y (c.want a i y) (stated (get_or T y 0) (c.own b y) (c.held b y (c.own b y)) (c.held b y (get_or T y 0)))
      unfolding Fits
      fits = rw (asked.read i lv nu y lt) (by_same (eqb (get_or T y 0) (c.own b y)) refl)

    pub replies : (v st : List ℕ)
        → ((y : ℕ) → y < k → has b y ≡ true → get_or st y 0 ≡ stated (get_or T y 0) (c.own b y) (c.held b y (c.own b y)) (c.held b y (get_or T y 0)))
        → Good n k has c b a (c.lane b a) (Coded p v st)
    replies v st states = record {
      counted = asked.counted;
      usable = λ i lv nu y lt f. rw (states y lt f) (fits y lt f i lv nu);
    }

    pub counts : p ≤ c.last a
    counts = asked.counted

  -- a coded reply that is the oldest of its lane can be used
  pub usable : (a b p : ℕ) (v st : List ℕ) (rest : List Message) → a < n → b < n → (a ≡ b → ⊥) → c.lane a b ≡ Coded p v st ∷ rest
      → (i : ℕ) → c.live b i ≡ true → c.num b i ≡ p → (y : ℕ) → y < k → has a y ≡ true
      → (get_or st y 0 ≡ c.want b i y) ⊎ ((c.held b y (get_or st y 0) ≡ true) × (c.held b y (c.want b i y) ≡ true))
  usable a b p v st rest an bn ne e i lv nu y lt f =
      let q : Replied n k has c a b [] p st = h.lanes a b an bn ne [] (Coded p v st) rest e in
      ⊎_elim (λ w. inl w) (λ (w : Mends n k has c a b [] y (c.want b i y) (get_or st y 0)). inr (w.stated, w.wanted)) (q.usable i lv nu y lt f)

nil_no : {A : Type 0} (pre : List A) (m : A) (post : List A) → [] ≡ pre ++ m ∷ post → ⊥
nil_no [] m post e = let q : ◌≡◌ {A = ℕ} 0 1 = cc in omega arith
nil_no (d ∷ pre) m post e = let q : ◌≡◌ {A = ℕ} 0 1 = cc in omega arith

-- a core in which all is zero or empty
pub record Zero (c : Core) : Type 0 where
  pub own : (s x : ℕ) → c.own s x ≡ 0
  pub told : (s x j : ℕ) → c.told s x j ≡ 0
  pub held : (s x : ℕ) → c.held s x 0 ≡ true
  pub lane : (a b : ℕ) → c.lane a b ≡ []
  pub live : (s i : ℕ) → c.live s i ≡ false

pub starts : (n k : ℕ) (has : ℕ → ℕ → Bool) (c : Core) → Zero c → Sound n k has c
starts n k has c z = record {
  zero_held = z.held;
  self = λ s x. z.told s x s ∙ sym (z.own s x);
  chain = λ j s x jn sn ne. rw (z.lane j s) (z.told s x j ∙ sym (z.own j x));
  behind = λ s j x sn jn e f. let w = z.own s x in omega arith;
  bare = λ s j x sn jn e. let w = z.own s x in omega arith;
  passed = λ j s x t i jn sn ne f on lt inn le. absurd (let w = z.own j x in omega arith);
  lost = λ s j x sn jn e f lt. absurd (let w = z.own j x in omega arith);
  reads = λ s i e. absurd (both_ways (c.live s i) (z.live s i) e);
  lanes = λ a b an bn ne pre m post e. absurd (nil_no pre m post (sym (z.lane a b) ∙ e));
}
