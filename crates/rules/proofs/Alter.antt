-- More is held, reads are opened and closed: lanes, own and told tags stay.
use Rattle.std.proofs.Common.{◌≡◌, ℕ, ◌<◌, ◌≤◌, Bool, true, false, ◌⊎◌, List, get_or, sym, refl, ◌∙◌, inl, inr, ⊎_elim, arith}
use Rattle.std.proofs.lemmas.Bool.{both_ways}
use Rattle.rules.proofs.RankedMessages.{Message, Written, Tagged, Question, Plain, Coded}
use Rattle.rules.proofs.Core.{Core, Kept, Asked, Mends, Replied, Good, Sound}

-- what is not held now was not held
pub unheld : (p q : Bool) → (p ≡ true → q ≡ true) → q ≡ false → p ≡ false
unheld true q f e = absurd (both_ways q e (f refl))
unheld false q f e = refl

-- an open read: it was open, with the same tags, or it is new
pub data Read (c d : Core) (s p : ℕ) : Type 0 where
  was : c.live s p ≡ true → d.num s p ≡ c.num s p → ((y : ℕ) → d.want s p y ≡ c.want s p y) → Read c d s p
  new : c.last s < d.num s p → d.num s p ≤ d.last s → ((y : ℕ) → d.want s p y ≤ c.own s y) → Read c d s p

pub record Alter (c d : Core) : Type 0 where
  pub own : (s x : ℕ) → d.own s x ≡ c.own s x
  pub told : (s x j : ℕ) → d.told s x j ≡ c.told s x j
  pub held : (s x t : ℕ) → c.held s x t ≡ true → d.held s x t ≡ true
  pub lane : (a b : ℕ) → d.lane a b ≡ c.lane a b
  pub last : (s : ℕ) → c.last s ≤ d.last s
  pub live : (s p : ℕ) → d.live s p ≡ true → Read c d s p

module _ (n k : ℕ) (has : ℕ → ℕ → Bool) (c d : Core) (h : Sound n k has c) (g : Alter c d) where
  kept_still : (a b y u v : ℕ) → v ≡ u → Kept n k has c a b y u → Kept n k has d a b y v
  kept_still a b y u v e (inl q) = inl (rw e (g.held a y u q))
  kept_still a b y u v e (inr q) = inr (rw (e, g.own b y) (q.0, λ l. g.held b y u (q.1 l)))

  asked_still : (a b : ℕ) (pre : List Message) (p : ℕ) (T : List ℕ) → Asked n k has c a b pre p T → Asked n k has d a b pre p T
  asked_still a b pre p T q = record {
    counted = let l = g.last a in let o = q.counted in omega arith;
    chain = λ y lt. rw (g.told b y a) (q.chain y lt);
    read = λ i e f y lt. read_still i f (g.live a i e) y lt;
    kept = λ i e f y lt r. still i f (g.live a i e) y lt r;
  }
    where
      read_still : (i : ℕ) → d.num a i ≡ p → Read c d a i → (y : ℕ) → y < k → d.want a i y ≡ get_or T y 0
      read_still i e (was l m w) y lt = w y ∙ q.read i l (sym m ∙ e) y lt
      read_still i e (new l o w) y lt = absurd (let f = q.counted in omega arith)

      still : (i : ℕ) → d.num a i ≡ p → Read c d a i → (y : ℕ) → y < k → has b y ≡ true → Kept n k has d a b y (d.want a i y)
      still i e (was l m w) y lt r = kept_still a b y (c.want a i y) (d.want a i y) (w y) (q.kept i l (sym m ∙ e) y lt r)
      still i e (new l o w) y lt r = absurd (let f = q.counted in omega arith)

  replied_still : (a b : ℕ) (pre : List Message) (p : ℕ) (st : List ℕ) → Replied n k has c a b pre p st → Replied n k has d a b pre p st
  replied_still a b pre p st q = record {
    counted = let l = g.last b in let o = q.counted in omega arith;
    usable = λ i e f y lt r. still i f (g.live b i e) y lt r;
  }
    where
      mends : (y u v w : ℕ) → v ≡ u → Mends n k has c a b pre y u w → Mends n k has d a b pre y v w
      mends y u v w e m = rw e (record {
        wanted = g.held b y u m.wanted;
        stated = g.held b y w m.stated;
        off = rw (g.told b y a) m.off;
        low = rw (g.told b y a) m.low;
      })

      still : (i : ℕ) → d.num b i ≡ p → Read c d b i → (y : ℕ) → y < k → has a y ≡ true → (get_or st y 0 ≡ d.want b i y) ⊎ Mends n k has d a b pre y (d.want b i y) (get_or st y 0)
      still i f (was l v w) y lt r = ⊎_elim (λ e. inl (e ∙ sym (w y))) (λ m. inr (mends y (c.want b i y) (d.want b i y) (get_or st y 0) (w y) m)) (q.usable i l (sym v ∙ f) y lt r)
      still i f (new l o w) y lt r = absurd (let z = q.counted in omega arith)

  good_still : (a b : ℕ) (pre : List Message) (m : Message) → Good n k has c a b pre m → Good n k has d a b pre m
  good_still a b pre (Written y v t l) q = tt
  good_still a b pre (Tagged y t) q = tt
  good_still a b pre (Question p y T) q = asked_still a b pre p T q
  good_still a b pre (Plain p v) q = let l = g.last b in omega arith
  good_still a b pre (Coded p v st) q = replied_still a b pre p st q

  read_bound : (s p : ℕ) → Read c d s p → (d.num s p ≤ d.last s) × ((y : ℕ) → d.want s p y ≤ d.own s y)
  read_bound s p (was l v w) = (let r = (h.reads s p l).0 in let m = g.last s in omega arith, λ y. rw (w y, g.own s y) ((h.reads s p l).1 y))
  read_bound s p (new l o w) = (o, λ y. rw (g.own s y) (w y))

  pub alter_keeps : Sound n k has d
  alter_keeps = record {
    zero_held = λ s x. g.held s x 0 (h.zero_held s x);
    self = λ s x. g.told s x s ∙ h.self s x ∙ sym (g.own s x);
    chain = λ j s x jn sn ne. rw (g.told s x j, g.lane j s, g.own j x) (h.chain j s x jn sn ne);
    behind = λ s j x sn jn e f. rw (g.own s x, g.told s x j) (h.behind s j x sn jn e f);
    bare = λ s j x sn jn e. rw (g.own s x, g.told s x j) (h.bare s j x sn jn (no_more s x (c.own s x) (rw (g.own s x) at e)));
    passed = λ j s x t i jn sn ne f on lt inn le. g.held j x t (h.passed j s x t i jn sn ne f (rw (g.told s x j, g.lane j s) at on) (rw (g.own j x) at lt) inn (rw (g.told j x i) at le));
    lost = λ s j x sn jn e f lt. rw (g.own s x) (g.held j x (c.own s x) (h.lost s j x sn jn (no_more s x (c.own s x) (rw (g.own s x) at e)) f (rw (g.own s x, g.own j x) at lt)));
    reads = λ s p e. read_bound s p (g.live s p e);
    lanes = λ a b an bn ne pre m post e. good_still a b pre m (h.lanes a b an bn ne pre m post (sym (g.lane a b) ∙ e));
  }
    where
      no_more : (s x t : ℕ) → d.held s x t ≡ false → c.held s x t ≡ false
      no_more s x t e = unheld (c.held s x t) (d.held s x t) (g.held s x t) e
