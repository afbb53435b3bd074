-- A message other than a tag notice is posted to some lanes.
use Rattle.std.proofs.Common.{◌≡◌, ℕ, ◌<◌, Bool, ◌⊎◌, List, [], ◌∷◌, ◌++◌, sym, ◌∙◌, subst, inl, inr, ⊎_elim, arith}
use Rattle.rules.proofs.RankedMessages.{Message}
use Rattle.rules.proofs.Core.{Core, heard, Chain, On, Good, Sound}
use Rattle.rules.proofs.Walks.{chain_push, on_push, Place, place, before, here}
use Rattle.rules.proofs.Carry.{Carry, good_carry}

pub record Post (c d : Core) (m : Message) (W : ℕ → ℕ → Type 0) : Type 0 where
  pub own : (s x : ℕ) → d.own s x ≡ c.own s x
  pub told : (s x j : ℕ) → d.told s x j ≡ c.told s x j
  pub held : (s x u : ℕ) → d.held s x u ≡ c.held s x u
  pub live : (s p : ℕ) → d.live s p ≡ c.live s p
  pub num : (s p : ℕ) → d.num s p ≡ c.num s p
  pub want : (s p y : ℕ) → d.want s p y ≡ c.want s p y
  pub last : (s : ℕ) → d.last s ≡ c.last s
  pub lane : (a b : ℕ) → (d.lane a b ≡ c.lane a b) ⊎ ((d.lane a b ≡ c.lane a b ++ m ∷ []) × W a b)

module _ (n k : ℕ) (has : ℕ → ℕ → Bool) (c d : Core) (m : Message) (W : ℕ → ℕ → Type 0) (quiet : (y o : ℕ) → heard y o m ≡ o)
    (good : (a b : ℕ) → a < n → b < n → (a ≡ b → ⊥) → W a b → Good n k has c a b (c.lane a b) m) (h : Sound n k has c) (g : Post c d m W) where
  post_chain : (a b x : ℕ) → a < n → b < n → (a ≡ b → ⊥) → Chain x (d.told b x a) (d.lane a b) (d.own a x)
  post_chain a b x an bn ne = rw (g.told b x a, g.own a x) (
      let q = h.chain a b x an bn ne in
      elim (g.lane a b) [ inl e ↦ rw e q | inr e ↦ rw e.0 (chain_push x (c.told b x a) (c.lane a b) (c.own a x) m (c.own a x) q (quiet x (c.own a x)) (omega arith)) ])

  post_on : (a b x u : ℕ) → a < n → b < n → (a ≡ b → ⊥) → u < c.own a x → On x (d.told b x a) (d.lane a b) u → On x (c.told b x a) (c.lane a b) u
  post_on a b x u an bn ne lt on = elim (g.lane a b) [
    | inl e ↦ rw (g.told b x a, e) at on
    | inr e ↦ ⊎_elim (λ q. q) (λ (q : u ≡ heard x (c.own a x) m). absurd (let r = quiet x (c.own a x) in omega arith))
        (on_push x (c.told b x a) (c.lane a b) (c.own a x) m u (h.chain a b x an bn ne) (rw (g.told b x a, e.0) at on))
  ]

  carry : (a b : ℕ) (pre : List Message) → Carry n k has c d a b pre pre
  carry a b pre = record {
    last = λ s. let e = g.last s in omega arith;
    live = g.live;
    num = g.num;
    want = g.want;
    same = λ y. rw (g.told b y a);
    more = λ y u on. rw (g.told b y a) at on;
    kept = λ y u i q. rw (g.held a y u, g.held b y u, g.own b y) q;
    held = λ y u e. g.held b y u ∙ e;
  }

  at_place : (a b : ℕ) → a < n → b < n → (a ≡ b → ⊥) → W a b → (pre : List Message) (z : Message) → Place (c.lane a b) m pre z → Good n k has c a b pre z
  at_place a b an bn ne w pre z (before post e) = h.lanes a b an bn ne pre z post e
  at_place a b an bn ne w pre z (here e q) = subst (λ l. Good n k has c a b l z) e (subst (Good n k has c a b (c.lane a b)) q (good a b an bn ne w))

  post_lanes : (a b : ℕ) → a < n → b < n → (a ≡ b → ⊥) → (pre : List Message) (z : Message) (post : List Message) → d.lane a b ≡ pre ++ z ∷ post → Good n k has d a b pre z
  post_lanes a b an bn ne pre z post e = good_carry n k has c d a b pre pre (carry a b pre) z (elim (g.lane a b) [
    | inl q ↦ h.lanes a b an bn ne pre z post (sym q ∙ e)
    | inr q ↦ at_place a b an bn ne q.1 pre z (place (c.lane a b) m pre z post (sym q.0 ∙ e))
  ])

  pub post_keeps : Sound n k has d
  post_keeps = record {
    zero_held = λ s x. g.held s x 0 ∙ h.zero_held s x;
    self = λ s x. g.told s x s ∙ h.self s x ∙ sym (g.own s x);
    chain = post_chain;
    behind = λ s j x sn jn e q. rw (g.own s x, g.told s x j) (h.behind s j x sn jn e q);
    bare = λ s j x sn jn e. rw (g.own s x, g.told s x j) (h.bare s j x sn jn (rw (g.own s x, g.held s x (c.own s x)) at e));
    passed = λ j s x u i jn sn ne q on lt inn le. g.held j x u ∙ h.passed j s x u i jn sn ne q (post_on j s x u jn sn ne (rw (g.own j x) at lt) on) (rw (g.own j x) at lt) inn (rw (g.told j x i) at le);
    lost = λ s j x sn jn e q lt. rw (g.own s x) (g.held j x (c.own s x) ∙ h.lost s j x sn jn (rw (g.own s x, g.held s x (c.own s x)) at e) q (rw (g.own s x, g.own j x) at lt));
    reads = λ s p e. let r = h.reads s p (sym (g.live s p) ∙ e) in (rw (g.last s, g.num s p) r.0, λ y. rw (g.want s p y, g.own s y) (r.1 y));
    lanes = post_lanes;
  }
