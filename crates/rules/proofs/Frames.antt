-- The parts of a step as changes of the core.
use Rattle.std.proofs.Common.{◌≡◌, ℕ, ◌<◌, ◌≤◌, true, not, ◌&&◌, eqb, ltb, ◌⊎◌, List, [], ◌∷◌, ◌++◌, drop, sym, refl, ap, ◌∙◌, inl, inr, arith}
use Rattle.std.proofs.lemmas.Bool.Decides.{nat_tests}
use Rattle.std.proofs.lemmas.Bool.{eq-eqb, ne_eqb, eqb-true, lt-ltb, and_parts, and_from, cond_both}
use Rattle.rules.proofs.RankedMessages.{Message}
use Rattle.rules.proofs.RankedWords.{upd, Lanes, posted, spread, taken}
use Rattle.rules.proofs.Core.{heard, Good, Sound}
use Rattle.rules.proofs.Ranked.{Code, Server, State, has, holds, is_open, core, slots}
use Rattle.rules.proofs.Words.{upd_each}
use Rattle.rules.proofs.Alter
use Rattle.rules.proofs.Alter.{Alter, was, new, alter_keeps}
use Rattle.rules.proofs.Take.{take_keeps}
use Rattle.rules.proofs.Post.{post_keeps}

-- of a server before and after: a place for reads has what it had, or nothing open, or a new read
pub data Slot (p r : Server) (i : ℕ) : Type 0 where
  same : is_open (p.reads i) ≡ true → (r.reads i).number ≡ (p.reads i).number → (r.reads i).tags ≡ (p.reads i).tags → Slot p r i
  fresh_read : p.opened < (r.reads i).number → (r.reads i).number ≤ r.opened → (r.reads i).tags ≡ p.own → Slot p r i

-- of a server before and after: own and told tags are the same, more is held
pub record Mild (p r : Server) : Type 0 where
  pub own : (x : ℕ) → r.own x ≡ p.own x
  pub told : (x j : ℕ) → r.told x j ≡ p.told x j
  pub held : (x t : ℕ) → holds p.history x t ≡ true → holds r.history x t ≡ true
  pub opened : p.opened ≤ r.opened
  pub reads : (i : ℕ) → is_open (r.reads i) ≡ true → Slot p r i

pub mild_self : (p : Server) → Mild p p
mild_self p = record { own = λ x. refl; told = λ x j. refl; held = λ x t e. e; opened = omega arith; reads = λ i e. same e refl refl }

slot_read : (S R : State) (s i : ℕ) → ltb i slots ≡ true → Slot (S.servers s) (R.servers s) i → Alter.Read (core S) (core R) s i
slot_read S R s i lt (same e f q) = was (and_from (ltb i slots) (is_open ((S.servers s).reads i)) lt e) f (λ y. ap (λ (h : ℕ → ℕ). h y) q)
slot_read S R s i lt (fresh_read l m q) = new l m (λ y. let e : ((R.servers s).reads i).tags y ≡ (S.servers s).own y = ap (λ (h : ℕ → ℕ). h y) q in omega arith)

pub mild_alter : (S R : State) → ((s : ℕ) → Mild (S.servers s) (R.servers s)) → ((a b : ℕ) → R.lanes a b ≡ S.lanes a b) → Alter (core S) (core R)
mild_alter S R h l = record {
  own = λ s x. (h s).own x;
  told = λ s x j. (h s).told x j;
  held = λ s x t e. (h s).held x t e;
  lane = l;
  last = λ s. (h s).opened;
  live = λ s i e. let p = and_parts (ltb i slots) (is_open ((R.servers s).reads i)) e in slot_read S R s i p.0 ((h s).reads i p.1);
}

-- one server changes mildly
pub mild_put : (S : State) (s : ℕ) (r : Server) → Mild (S.servers s) r → (k : ℕ) → Mild (S.servers k) (upd S.servers s r k)
mild_put S s r h k = upd_each Mild S.servers s r mild_self h k

-- ---- lanes

pub spread_from : (L : Lanes) (i n b : ℕ) (m : Message) → b < n → (b ≡ i → ⊥) → spread L i n m i b ≡ L i b ++ m ∷ []
unfolding spread
spread_from L i n b m lt ne = rw (eq-eqb i i refl, lt-ltb b n lt, ne_eqb b i ne)

pub spread_else : (L : Lanes) (i n a b : ℕ) (m : Message) → (a ≡ i → ⊥) → spread L i n m a b ≡ L a b
unfolding spread
spread_else L i n a b m ne = rw (ne_eqb a i ne)

pub spread_cases : (L : Lanes) (i n a b : ℕ) (m : Message) → (spread L i n m a b ≡ L a b) ⊎ ((spread L i n m a b ≡ L a b ++ m ∷ []) × (a ≡ i))
unfolding spread
spread_cases L i n a b m = cond_both (eqb a i && (ltb b n && not (eqb b i))) (L a b ++ m ∷ []) (L a b) (λ l. (l ≡ L a b) ⊎ ((l ≡ L a b ++ m ∷ []) × (a ≡ i)))
    (λ e. inr (refl, eqb-true a i (and_parts (eqb a i) (ltb b n && not (eqb b i)) e).0)) (λ e. inl refl)

pub posted_cases : (L : Lanes) (i j a b : ℕ) (m : Message) → (posted L i j m a b ≡ L a b) ⊎ ((posted L i j m a b ≡ L a b ++ m ∷ []) × ((a ≡ i) × (b ≡ j)))
unfolding posted
posted_cases L i j a b m = cond_both (eqb a i && eqb b j) (L a b ++ m ∷ []) (L a b) (λ l. (l ≡ L a b) ⊎ ((l ≡ L a b ++ m ∷ []) × ((a ≡ i) × (b ≡ j))))
    (λ e. let p = and_parts (eqb a i) (eqb b j) e in inr (refl, (eqb-true a i p.0, eqb-true b j p.1))) (λ e. inl refl)

pub taken_here : (L : Lanes) (i j : ℕ) (m : Message) (ms : List Message) → L i j ≡ m ∷ ms → L i j ≡ m ∷ taken L i j i j
unfolding taken
taken_here L i j m ms e = rw (eq-eqb i i refl, eq-eqb j j refl) (e ∙ ap (λ l. m ∷ drop 1 l) (sym e))

pub taken_else : (L : Lanes) (i j a b : ℕ) → (a ≡ i → b ≡ j → ⊥) → taken L i j a b ≡ L a b
unfolding taken
taken_else L i j a b ne = grind (arith, nat_tests)

pub taken_state : State → ℕ → ℕ → State
taken_state S a b = record { servers = S.servers; lanes = taken S.lanes a b }

abbrev pub with_lanes : State → Lanes → State
with_lanes S L = record { servers = S.servers; lanes = L }

module _ (g : Code) where
  abbrev pub Fine : State → Type 0
  Fine S = Sound g.n g.k (has g) (core S)

  -- a server changes mildly
  pub fine_put : (S : State) (s : ℕ) (r : Server) → Fine S → Mild (S.servers s) r → Fine (record { servers = upd S.servers s r; lanes = S.lanes })
  fine_put S s r h m =
      let R : State = record { servers = upd S.servers s r; lanes = S.lanes } in
      alter_keeps g.n g.k (has g) (core S) (core R) h (mild_alter S R (mild_put S s r m) (λ a b. refl))

  -- a message that is no tag notice is posted to all others
  pub fine_spread : (S : State) (s : ℕ) (m : Message) → Fine S → ((y o : ℕ) → heard y o m ≡ o)
      → ((b : ℕ) → s < g.n → b < g.n → (s ≡ b → ⊥) → Good g.n g.k (has g) (core S) s b (S.lanes s b) m)
      → Fine (with_lanes S (spread S.lanes s g.n m))
  fine_spread S s m h quiet good =
      post_keeps g.n g.k (has g) (core S) (core (with_lanes S (spread S.lanes s g.n m))) m (λ a b. a ≡ s) quiet
      (λ a b an bn ne e. rw e (good b (rw e at an) bn (λ q. ne (e ∙ q)))) h
      (record {
        own = λ s x. refl;
        told = λ s x j. refl;
        held = λ s x u. refl;
        live = λ s p. refl;
        num = λ s p. refl;
        want = λ s p y. refl;
        last = λ s. refl;
        lane = λ a b. spread_cases S.lanes s g.n a b m;
      })

  -- such a message is posted to one lane
  pub fine_post : (S : State) (i j : ℕ) (m : Message) → Fine S → ((y o : ℕ) → heard y o m ≡ o)
      → Good g.n g.k (has g) (core S) i j (S.lanes i j) m
      → Fine (with_lanes S (posted S.lanes i j m))
  fine_post S i j m h quiet good =
      post_keeps g.n g.k (has g) (core S) (core (with_lanes S (posted S.lanes i j m))) m (λ a b. (a ≡ i) × (b ≡ j)) quiet
      (λ a b an bn ne e. rw (e.0, e.1) good) h
      (record {
        own = λ s x. refl;
        told = λ s x j. refl;
        held = λ s x u. refl;
        live = λ s p. refl;
        num = λ s p. refl;
        want = λ s p y. refl;
        last = λ s. refl;
        lane = λ a b. posted_cases S.lanes i j a b m;
      })

  -- the oldest message is taken, and is no tag notice
  pub fine_take : (S : State) (a b : ℕ) (m : Message) (ms : List Message) → a < g.n → b < g.n → (a ≡ b → ⊥) → S.lanes a b ≡ m ∷ ms → Fine S
      → ((y o : ℕ) → heard y o m ≡ o) → Fine (with_lanes S (taken S.lanes a b))
  fine_take S a b m ms an bn ne e h quiet =
      take_keeps g.n g.k (has g) (core S) (core (with_lanes S (taken S.lanes a b))) a b m an bn ne h
      (record {
        own = λ s x. refl;
        held = λ s x u. refl;
        live = λ s p. refl;
        num = λ s p. refl;
        want = λ s p y. refl;
        last = λ s. refl;
        front = taken_here S.lanes a b m ms e;
        others = λ i j. taken_else S.lanes a b i j;
        hears = λ y. sym (quiet y ((S.servers b).told y a));
        else = λ s y j ne. refl;
      })
