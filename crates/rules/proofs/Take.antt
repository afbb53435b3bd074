-- The oldest message of a lane is taken; a tag notice is heard.
use Rattle.std.proofs.Common.{◌≡◌, ℕ, ◌<◌, ◌≤◌, Bool, ◌⊎◌, List, ◌∷◌, ◌++◌, sym, ap, ◌∙◌, inl, inr, arith}
use Rattle.std.proofs.lemmas.Bool.{cases_eq}
use Rattle.rules.proofs.RankedMessages.{Message}
use Rattle.rules.proofs.Core.{Core, heard, after, Chain, On, Good, Sound}
use Rattle.rules.proofs.Carry.{Carry, good_carry}

pub record Take (c d : Core) (f t : ℕ) (m : Message) : Type 0 where
  pub own : (s x : ℕ) → d.own s x ≡ c.own s x
  pub held : (s x u : ℕ) → d.held s x u ≡ c.held s x u
  pub live : (s p : ℕ) → d.live s p ≡ c.live s p
  pub num : (s p : ℕ) → d.num s p ≡ c.num s p
  pub want : (s p y : ℕ) → d.want s p y ≡ c.want s p y
  pub last : (s : ℕ) → d.last s ≡ c.last s
  pub front : c.lane f t ≡ m ∷ d.lane f t
  pub others : (a b : ℕ) → (a ≡ f → b ≡ t → ⊥) → d.lane a b ≡ c.lane a b
  pub hears : (y : ℕ) → d.told t y f ≡ heard y (c.told t y f) m
  pub else : (s y j : ℕ) → (s ≡ t → j ≡ f → ⊥) → d.told s y j ≡ c.told s y j

module _ (n k : ℕ) (has : ℕ → ℕ → Bool) (c d : Core) (f t : ℕ) (m : Message) (fn : f < n) (tn : t < n) (apart : f ≡ t → ⊥) (h : Sound n k has c) (g : Take c d f t m) where
  at_front : (x : ℕ) → Chain x (c.told t x f) (m ∷ d.lane f t) (c.own f x)
  at_front x = rw g.front at (h.chain f t x fn tn apart)

  -- either a lane and what is told along it are the same, or it is the one
  cases_lane : (a b : ℕ) → ((a ≡ f) × (b ≡ t)) ⊎ (a ≡ f → b ≡ t → ⊥)
  cases_lane a b = elim (cases_eq a f) [ inl e ↦ elim (cases_eq b t) [ inl q ↦ inl (e, q) | inr ne ↦ inr (λ _ q. ne q) ] | inr ne ↦ inr (λ e _. ne e) ]

  rises : (s y j : ℕ) → c.told s y j ≤ d.told s y j
  rises s y j = elim (cases_lane j s) [
    | inl e ↦ rw (e.0, e.1, g.hears y) (at_front y).0
    | inr ne ↦ let q = g.else s y j (λ p r. ne r p) in omega arith
  ]

  take_chain : (a b x : ℕ) → a < n → b < n → (a ≡ b → ⊥) → Chain x (d.told b x a) (d.lane a b) (d.own a x)
  take_chain a b x an bn ne = elim (cases_lane a b) [
    | inl e ↦ rw (e.0, e.1, g.hears x, g.own f x) (at_front x).1
    | inr q ↦ rw (g.others a b q, g.else b x a (λ p r. q r p), g.own a x) (h.chain a b x an bn ne)
  ]

  take_on : (a b x u : ℕ) → On x (d.told b x a) (d.lane a b) u → On x (c.told b x a) (c.lane a b) u
  take_on a b x u on = elim (cases_lane a b) [
    | inl e ↦ rw (e.0, e.1, g.front) (inr (rw (e.0, e.1, g.hears x) at on))
    | inr q ↦ rw (g.others a b q, g.else b x a (λ p r. q r p)) at on
  ]

  carry : (a b : ℕ) (old pre : List Message)
      → ((y : ℕ) → after y (d.told b y a) pre ≡ after y (c.told b y a) old) → ((y u : ℕ) → On y (d.told b y a) pre u → On y (c.told b y a) old u)
      → Carry n k has c d a b old pre
  carry a b old pre same more = record {
    last = λ s. let e = g.last s in omega arith;
    live = g.live;
    num = g.num;
    want = g.want;
    same = same;
    more = more;
    kept = λ y u i q. rw (g.held a y u, g.held b y u, g.own b y) q;
    held = λ y u e. g.held b y u ∙ e;
  }

  take_lanes : (a b : ℕ) → a < n → b < n → (a ≡ b → ⊥) → (pre : List Message) (z : Message) (post : List Message) → d.lane a b ≡ pre ++ z ∷ post → Good n k has d a b pre z
  take_lanes a b an bn ne pre z post e = elim (cases_lane a b) [
    | inl q ↦
        let told : (y : ℕ) → d.told b y a ≡ heard y (c.told b y a) m = λ y. rw (q.0, q.1) (g.hears y) in
        good_carry n k has c d a b (m ∷ pre) pre (carry a b (m ∷ pre) pre (λ y. rw (told y)) (λ y u on. inr (rw (told y) at on))) z
        (h.lanes a b an bn ne (m ∷ pre) z post (ap (λ i. c.lane i b) q.0 ∙ ap (λ j. c.lane f j) q.1 ∙ g.front ∙ ap (λ l. m ∷ l) (ap (λ i. d.lane i t) (sym q.0) ∙ ap (λ j. d.lane a j) (sym q.1) ∙ e)))
    | inr q ↦
        let told : (y : ℕ) → d.told b y a ≡ c.told b y a = λ y. g.else b y a (λ p r. q r p) in
        good_carry n k has c d a b pre pre (carry a b pre pre (λ y. rw (told y)) (λ y u on. rw (told y) at on)) z
        (h.lanes a b an bn ne pre z post (sym (g.others a b q) ∙ e))
  ]

  pub take_keeps : Sound n k has d
  take_keeps = record {
    zero_held = λ s x. g.held s x 0 ∙ h.zero_held s x;
    self = λ s x. g.else s x s (λ p r. apart (sym r ∙ p)) ∙ h.self s x ∙ sym (g.own s x);
    chain = take_chain;
    behind = λ s j x sn jn e q. let l = h.behind s j x sn jn e q in let r = rises s x j in let o = g.own s x in omega arith;
    bare = λ s j x sn jn e. let l = h.bare s j x sn jn (rw (g.own s x, g.held s x (c.own s x)) at e) in let r = rises s x j in let o = g.own s x in omega arith;
    passed = λ j s x u i jn sn ne q on lt inn le. let r = rises j x i in
        g.held j x u ∙ h.passed j s x u i jn sn ne q (take_on j s x u on) (rw (g.own j x) at lt) inn (omega arith);
    lost = λ s j x sn jn e q lt. rw (g.own s x) (g.held j x (c.own s x) ∙ h.lost s j x sn jn (rw (g.own s x, g.held s x (c.own s x)) at e) q (rw (g.own s x, g.own j x) at lt));
    reads = λ s p e. let r = h.reads s p (sym (g.live s p) ∙ e) in (rw (g.last s, g.num s p) r.0, λ y. rw (g.want s p y, g.own s y) (r.1 y));
    lanes = take_lanes;
  }
