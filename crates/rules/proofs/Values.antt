-- Values: what is entered, sent, in hand and coded is what was written under the tags.
use Rattle.std.proofs.Common.{◌≡◌, ℕ, ◌<◌, ◌≤◌, Bool, true, false, ◌&&◌, eqb, ltb, ◌⊎◌, List, [], ◌∷◌, ◌++◌, length, get_or, sym, refl, ap, ◌∙◌, ap₂, inl, inr, ⊎_elim, arith}
use Rattle.std.specs.List.{AllByRecursion}
use Rattle.std.proofs.lemmas.Bool.{both_ways, cases_Bool, cases_eq, eqb-true, and_parts, or_cases, cond-true, cond-false}
use Rattle.rules.proofs.RankedMessages.{Message, Written, Tagged, Question, Plain, Coded}
use Rattle.rules.proofs.RankedWords.{upd, Lanes}
use Rattle.rules.proofs.Core.{Good, Asked, Replied}
use Rattle.rules.proofs.Ranked.{Code, Entry, Server, State, has, holds, enters, same_entry, entered_value, kept, zeros, is_open, core, slots}
use Rattle.rules.proofs.Words.{upd_same, upd_other, upd_each}
use Rattle.rules.proofs.Frames.{Fine}
use Rattle.rules.proofs.RankedFacts.{Lawful}
use Rattle.rules.proofs.Algebra.{Cells, Mix}

-- a claim on each message of a lane, by its places
pub all_placed : (P : Message → Type 0) (l : List Message) → ((pre : List Message) (m : Message) (post : List Message) → l ≡ pre ++ m ∷ post → P m) → AllByRecursion P l
all_placed P [] h = tt
all_placed P (m ∷ ms) h = (h [] m ms refl, all_placed P ms (λ pre z post e. h (m ∷ pre) z post (ap (λ l. m ∷ l) e)))

pub all_both : (P Q R : Message → Type 0) (l : List Message) → ((m : Message) → P m → Q m → R m) → AllByRecursion P l → AllByRecursion Q l → AllByRecursion R l
all_both P Q R [] f p q = tt
all_both P Q R (m ∷ ms) f p q = (f m p.0 q.0, all_both P Q R ms f p.1 q.1)

abbrev pub live : Server → ℕ → Bool
live p i = ltb i slots && is_open (p.reads i)

-- a place whose read is open has the read that it had, or a new one
pub record SameRead (p r : Server) (i : ℕ) : Type 0 where
  pub was : live p i ≡ true
  pub number : (r.reads i).number ≡ (p.reads i).number
  pub object : (r.reads i).object ≡ (p.reads i).object
  pub tags : (r.reads i).tags ≡ (p.reads i).tags

abbrev pub StillReads : Server → Server → Type 0
StillReads p r = (i : ℕ) → live r i ≡ true → SameRead p r i ⊎ (p.opened < (r.reads i).number)

pub still_self : (p : Server) → StillReads p p
still_self p i e = inl (record { was = e; number = refl; object = refl; tags = refl })

module _ (g : Code) (R : Lawful g) (L : List Entry) where
  abbrev pub OfEntry : Entry → Type 0
  OfEntry e = (holds L e.object e.tag ≡ true) × (e.value ≡ kept g L e.object e.tag)

  abbrev pub OfTag : ℕ → ℕ → Type 0
  OfTag x t = holds L x t ≡ true

  -- of one server
  pub record Right (s : ℕ) (p : Server) : Type 0 where
    pub symbol : Mix g R L s p.own p.symbol
    pub object : (i : ℕ) → live p i ≡ true → (p.reads i).object < g.k
    pub hand : (i : ℕ) → live p i ≡ true → (j : ℕ) → j < g.n → (p.reads i).hand j ≡ true → Mix g R L j (p.reads i).tags ((p.reads i).symbols j)

  -- of a message from a, where the sender is p and the receiver r
  abbrev pub Told : ℕ → Server → Server → Message → Type 0
  Told a p r (Written x v h ck) = Unit {0}
  Told a p r (Tagged x t) = Unit {0}
  Told a p r (Question m x T) = (x < g.k) × ((i : ℕ) → live p i ≡ true → (p.reads i).number ≡ m → ((p.reads i).object ≡ x) × ((y : ℕ) → y < g.k → (p.reads i).tags y ≡ get_or T y 0))
  Told a p r (Plain m v) = (i : ℕ) → live r i ≡ true → (r.reads i).number ≡ m → v ≡ kept g L (r.reads i).object ((r.reads i).tags (r.reads i).object)
  Told a p r (Coded m v st) = ((y : ℕ) → y < g.k → OfTag y (get_or st y 0)) × Mix g R L a (λ y. get_or st y 0) v × (length st ≡ g.k)

  pub record Valued (S : State) : Type 0 where
    pub servers : (s : ℕ) → s < g.n → Right s (S.servers s)
    pub lanes : (a b : ℕ) → a < g.n → b < g.n → (a ≡ b → ⊥) → AllByRecursion (Told a (S.servers a) (S.servers b)) (S.lanes a b)

  -- ---- what a history keeps is what was written
  entered_right : (es : List Entry) (x t : ℕ) → AllByRecursion OfEntry es → enters es x t ≡ true → entered_value g es x t ≡ kept g L x t
  unfolding entered_value enters
  entered_right [] x t all e = absurd (both_ways false refl e)
  entered_right (d ∷ es) x t all e = elim (cases_Bool (same_entry x t d)) [
    | inl q ↦ let p = and_parts (eqb d.object x) (eqb d.tag t) q in
        cond-true (same_entry x t d) d.value (entered_value g es x t) q ∙ all.0.1 ∙ ap₂ (kept g L) (eqb-true d.object x p.0) (eqb-true d.tag t p.1)
    | inr q ↦ cond-false (same_entry x t d) d.value (entered_value g es x t) q ∙ entered_right es x t all.1
        (⊎_elim (λ w. absurd (both_ways (same_entry x t d) q w)) (λ w. w) (or_cases (same_entry x t d) (enters es x t) e))
  ]

  zero_kept : (es : List Entry) (x t : ℕ) → eqb t 0 ≡ true → kept g es x t ≡ zeros g
  unfolding kept
  zero_kept es x t q = cond-true (eqb t 0) (zeros g) (entered_value g es x t) q

  past_zero : (es : List Entry) (x t : ℕ) → eqb t 0 ≡ false → kept g es x t ≡ entered_value g es x t
  unfolding kept
  past_zero es x t q = cond-false (eqb t 0) (zeros g) (entered_value g es x t) q

  pub kept_right : (es : List Entry) (x t : ℕ) → Cells g R L → AllByRecursion OfEntry es → holds es x t ≡ true → kept g es x t ≡ kept g L x t
  kept_right es x t cells all e = elim (cases_Bool (eqb t 0)) [
    | inl q ↦ zero_kept es x t q ∙ sym (zero_kept L x t q)
    | inr q ↦ past_zero es x t q ∙ entered_right es x t all (⊎_elim (λ w. absurd (both_ways (eqb t 0) q w)) (λ w. w) (or_cases (eqb t 0) (enters es x t) e))
  ]

  -- the numbers in a lane are given
  abbrev Bound : Server → Server → Message → Type 0
  Bound p r (Written x v h ck) = Unit {0}
  Bound p r (Tagged x t) = Unit {0}
  Bound p r (Question m x T) = m ≤ p.opened
  Bound p r (Plain m v) = m ≤ r.opened
  Bound p r (Coded m v st) = m ≤ r.opened

  bounds : (S : State) → Fine g S → (a b : ℕ) → a < g.n → b < g.n → (a ≡ b → ⊥) → AllByRecursion (Bound (S.servers a) (S.servers b)) (S.lanes a b)
  bounds S h a b an bn ne = all_placed (Bound (S.servers a) (S.servers b)) (S.lanes a b) (λ pre m post e. bound m pre (h.lanes a b an bn ne pre m post e))
    where
      bound : (m : Message) (pre : List Message) → Good g.n g.k (has g) (core S) a b pre m → Bound (S.servers a) (S.servers b) m
      bound (Written x v t ck) pre q = tt
      bound (Tagged x t) pre q = tt
      bound (Question m x T) pre q = let w : Asked g.n g.k (has g) (core S) a b pre m T = q in w.counted
      bound (Plain m v) pre q = q
      bound (Coded m v st) pre q = let w : Replied g.n g.k (has g) (core S) a b pre m st = q in w.counted

  told_still : (a : ℕ) (p p' r r' : Server) → StillReads p p' → StillReads r r' → (m : Message) → Bound p r m → Told a p r m → Told a p' r' m
  told_still a p p' r r' hp hr (Written x v t ck) b h = tt
  told_still a p p' r r' hp hr (Tagged x t) b h = tt
  told_still a p p' r r' hp hr (Question m x T) b h = (
    h.0,
    λ i e f. ⊎_elim
        (λ (q : SameRead p p' i). let w = h.1 i q.was (sym q.number ∙ f) in (q.object ∙ w.0, λ y yk. ap (λ (z : ℕ → ℕ). z y) q.tags ∙ w.1 y yk))
        (λ (q : p.opened < (p'.reads i).number). absurd (omega arith)) (hp i e),
  )
  told_still a p p' r r' hp hr (Plain m v) b h = λ i e f. ⊎_elim
      (λ (q : SameRead r r' i). h i q.was (sym q.number ∙ f) ∙ sym (ap₂ (λ (x : ℕ) (z : ℕ → ℕ). kept g L x (z x)) q.object q.tags))
      (λ (q : r.opened < (r'.reads i).number). absurd (omega arith)) (hr i e)
  told_still a p p' r r' hp hr (Coded m v st) b h = h

  -- lanes as they were, between servers whose reads are still
  pub lanes_still : (S : State) (servers : ℕ → Server) → Fine g S → Valued S → ((s : ℕ) → StillReads (S.servers s) (servers s))
      → (a b : ℕ) → a < g.n → b < g.n → (a ≡ b → ⊥) → AllByRecursion (Told a (servers a) (servers b)) (S.lanes a b)
  lanes_still S servers f h still a b an bn ne =
      all_both (Bound (S.servers a) (S.servers b)) (Told a (S.servers a) (S.servers b)) (Told a (servers a) (servers b)) (S.lanes a b)
      (told_still a (S.servers a) (servers a) (S.servers b) (servers b) (still a) (still b)) (bounds S f a b an bn ne) (h.lanes a b an bn ne)

  pub put_still : (S : State) (s : ℕ) (r : Server) → StillReads (S.servers s) r → (k : ℕ) → StillReads (S.servers k) (upd S.servers s r k)
  put_still S s r h k = upd_each StillReads S.servers s r still_self h k

  -- one server changes, lanes stay
  pub put_valued : (S : State) (s : ℕ) (r : Server) (Ln : Lanes) → Fine g S → Valued S → (s < g.n → Right s r) → StillReads (S.servers s) r
      → ((a b : ℕ) → a < g.n → b < g.n → (a ≡ b → ⊥) → AllByRecursion (Told a (upd S.servers s r a) (upd S.servers s r b)) (S.lanes a b) → AllByRecursion (Told a (upd S.servers s r a) (upd S.servers s r b)) (Ln a b))
      → Valued (record { servers = upd S.servers s r; lanes = Ln })
  put_valued S s r Ln f h right still change = record {
    servers = λ k kn. elim (cases_eq k s) [ inl e ↦ rw (e, upd_same S.servers s r) (right (rw e at kn)) | inr ne ↦ rw (upd_other S.servers s k r ne) (h.servers k kn) ];
    lanes = λ a b an bn ne. change a b an bn ne (lanes_still S (upd S.servers s r) f h (put_still S s r still) a b an bn ne);
  }
