-- A message's good standing goes from one core to the next.
use Rattle.std.proofs.Common.{◌≡◌, ℕ, ◌≤◌, Bool, true, List, get_or, sym, ◌∙◌, inl, inr, ⊎_elim, arith}
use Rattle.rules.proofs.RankedMessages.{Message, Written, Tagged, Question, Plain, Coded}
use Rattle.rules.proofs.Core.{Core, after, On, Kept, Asked, Mends, Replied, Good}

module _ (n k : ℕ) (has : ℕ → ℕ → Bool) where
  -- of the lane from a to b: behind old in c, behind pre in d
  pub record Carry (c d : Core) (a b : ℕ) (old pre : List Message) : Type 0 where
    pub last : (s : ℕ) → c.last s ≤ d.last s
    pub live : (s p : ℕ) → d.live s p ≡ c.live s p
    pub num : (s p : ℕ) → d.num s p ≡ c.num s p
    pub want : (s p y : ℕ) → d.want s p y ≡ c.want s p y
    pub same : (y : ℕ) → after y (d.told b y a) pre ≡ after y (c.told b y a) old
    pub more : (y u : ℕ) → On y (d.told b y a) pre u → On y (c.told b y a) old u
    pub kept : (y u : ℕ) → has b y ≡ true → Kept n k has c a b y u → Kept n k has d a b y u
    pub held : (y u : ℕ) → c.held b y u ≡ true → d.held b y u ≡ true

  module _ (c d : Core) (a b : ℕ) (old pre : List Message) (g : Carry c d a b old pre) where
    asked_carry : (p : ℕ) (T : List ℕ) → Asked n k has c a b old p T → Asked n k has d a b pre p T
    asked_carry p T q = record {
      counted = let l = g.last a in let o = q.counted in omega arith;
      chain = λ y lt. q.chain y lt ∙ sym (g.same y);
      read = λ i e f y lt. g.want a i y ∙ q.read i (sym (g.live a i) ∙ e) (sym (g.num a i) ∙ f) y lt;
      kept = λ i e f y lt r. rw (g.want a i y) (g.kept y (c.want a i y) r (q.kept i (sym (g.live a i) ∙ e) (sym (g.num a i) ∙ f) y lt r));
    }

    mends_carry : (y u w : ℕ) → Mends n k has c a b old y u w → Mends n k has d a b pre y u w
    mends_carry y u w m = record {
      wanted = g.held y u m.wanted;
      stated = g.held y w m.stated;
      off = λ on. m.off (g.more y u on);
      low = rw (g.same y) m.low;
    }

    replied_carry : (p : ℕ) (st : List ℕ) → Replied n k has c a b old p st → Replied n k has d a b pre p st
    replied_carry p st q = record {
      counted = let l = g.last b in let o = q.counted in omega arith;
      usable = λ i e f y lt r. ⊎_elim (λ z. inl (z ∙ sym (g.want b i y))) (λ m. inr (rw (g.want b i y) (mends_carry y (c.want b i y) (get_or st y 0) m))) (q.usable i (sym (g.live b i) ∙ e) (sym (g.num b i) ∙ f) y lt r);
    }

    pub good_carry : (m : Message) → Good n k has c a b old m → Good n k has d a b pre m
    good_carry (Written y v t l) q = tt
    good_carry (Tagged y t) q = tt
    good_carry (Question p y T) q = asked_carry p T q
    good_carry (Plain p v) q = let l = g.last b in omega arith
    good_carry (Coded p v st) q = replied_carry p st q
