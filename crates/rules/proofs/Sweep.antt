-- Entries of one object leave the history of a server.
use Rattle.std.proofs.Common.{◌≡◌, ℕ, ◌<◌, ◌≤◌, Bool, true, false, ◌⊎◌, List, ◌∷◌, ◌++◌, get_or, sym, refl, ◌∙◌, inl, inr, ⊎_elim, arith}
use Rattle.std.proofs.lemmas.Bool.{both_ways, cases_Bool, cases_eq}
use Rattle.rules.proofs.RankedMessages.{Message, Written, Tagged, Question, Plain, Coded}
use Rattle.rules.proofs.Core.{Core, after, On, Kept, Asked, Mends, Replied, Good, Sound}
use Rattle.rules.proofs.Walks.{chain_le, front_le, on_front}

module _ (n k : ℕ) (has : ℕ → ℕ → Bool) where
  -- why the entry of a tag may leave: all have told a higher one and no open read wants it, or it is the own tag and all have told it
  pub data Idle (c : Core) (s x u : ℕ) : Type 0 where
    below : ((i : ℕ) → i < n → u < c.told s x i) → ((p : ℕ) → c.live s p ≡ true → c.want s p x ≡ u → ⊥) → Idle c s x u
    level : u ≡ c.own s x → ((i : ℕ) → i < n → c.told s x i ≡ u) → Idle c s x u

  pub record Sweep (c d : Core) : Type 0 where
    pub own : (i y : ℕ) → d.own i y ≡ c.own i y
    pub told : (i y j : ℕ) → d.told i y j ≡ c.told i y j
    pub lane : (a b : ℕ) → d.lane a b ≡ c.lane a b
    pub live : (i p : ℕ) → d.live i p ≡ c.live i p
    pub num : (i p : ℕ) → d.num i p ≡ c.num i p
    pub want : (i p y : ℕ) → d.want i p y ≡ c.want i p y
    pub last : (i : ℕ) → d.last i ≡ c.last i
    pub zero_held : (i y : ℕ) → d.held i y 0 ≡ true
    pub no_new : (i y u : ℕ) → d.held i y u ≡ true → c.held i y u ≡ true
    pub gone : (i y u : ℕ) → c.held i y u ≡ true → (d.held i y u ≡ true) ⊎ Idle c i y u

  module _ (c d : Core) (h : Sound n k has c) (g : Sweep c d) where
    known : (i j y : ℕ) → i < n → j < n → (j ≡ i → ⊥) → c.told i y j ≤ c.own j y
    known i j y inn jn ne = chain_le y (c.told i y j) (c.lane j i) (c.own j y) (h.chain j i y jn inn ne)

    known_or_own : (i j y : ℕ) → i < n → j < n → c.told i y j ≤ c.own j y
    known_or_own i j y inn jn = elim (cases_eq j i) [ inl e ↦ let q = h.self i y in rw e (omega arith) | inr ne ↦ known i j y inn jn ne ]

    -- a tag that was held is, or it was idle
    stays : (i y u : ℕ) → c.held i y u ≡ true → (Idle c i y u → ⊥) → d.held i y u ≡ true
    stays i y u e no_idle = ⊎_elim (λ q. q) (λ q. absurd (no_idle q)) (g.gone i y u e)

    -- the own tag goes only where all have told it
    own_idle : (s x : ℕ) → s < n → Idle c s x (c.own s x) → (i : ℕ) → i < n → c.told s x i ≡ c.own s x
    own_idle s x sn (below lt fr) = absurd (let w = lt s sn in let q = h.self s x in omega arith)
    own_idle s x sn (level e all) = all

    bare_now : (s x : ℕ) → s < n → d.held s x (d.own s x) ≡ false → (c.held s x (c.own s x) ≡ false) ⊎ ((i : ℕ) → i < n → c.told s x i ≡ c.own s x)
    bare_now s x sn e =
        let f : d.held s x (c.own s x) ≡ false = rw (g.own s x) at e in
        elim (cases_Bool (c.held s x (c.own s x))) [
          | inl q ↦ inr (⊎_elim (λ w. absurd (both_ways (d.held s x (c.own s x)) f w)) (λ w. own_idle s x sn w) (g.gone s x (c.own s x) q))
          | inr q ↦ inl q
        ]

    sweep_bare : (s j x : ℕ) → s < n → j < n → d.held s x (d.own s x) ≡ false → c.own s x ≤ c.told s x j
    sweep_bare s j x sn jn e = ⊎_elim (λ q. h.bare s j x sn jn q) (λ (q : (i : ℕ) → i < n → c.told s x i ≡ c.own s x). let w = q j jn in omega arith) (bare_now s x sn e)

    not_idle_passed : (j x u i : ℕ) → i < n → c.told j x i ≤ u → u < c.own j x → Idle c j x u → ⊥
    not_idle_passed j x u i inn le lt (below f fr) = let w = f i inn in omega arith
    not_idle_passed j x u i inn le lt (level e all) = omega arith

    sweep_passed : (j s x t i : ℕ) → j < n → s < n → (j ≡ s → ⊥) → has j x ≡ true → On x (c.told s x j) (c.lane j s) t → t < c.own j x
        → i < n → c.told j x i ≤ t → d.held j x t ≡ true
    sweep_passed j s x t i jn sn ne f on lt inn le = stays j x t (h.passed j s x t i jn sn ne f on lt inn le) (not_idle_passed j x t i inn le lt)

    -- j has passed the own tag of s, which all have told s: j holds it
    lost_was : (s j x : ℕ) → s < n → j < n → d.held s x (d.own s x) ≡ false → has j x ≡ true → c.own s x < c.own j x → c.held j x (c.own s x) ≡ true
    lost_was s j x sn jn e f lt = ⊎_elim
        (λ q. h.lost s j x sn jn q f lt)
        (λ (q : (i : ℕ) → i < n → c.told s x i ≡ c.own s x).
        let ne : j ≡ s → ⊥ = λ w. let z : c.own s x < c.own s x = rw w at lt in omega arith in
        let on : On x (c.told s x j) (c.lane j s) (c.own s x) = rw (← q j jn) (on_front x (c.told s x j) (c.lane j s)) in
        h.passed j s x (c.own s x) s jn sn ne f on lt sn (known j s x jn sn (λ w. ne (sym w))))
        (bare_now s x sn e)

    sweep_lost : (s j x : ℕ) → s < n → j < n → d.held s x (d.own s x) ≡ false → has j x ≡ true → c.own s x < c.own j x → d.held j x (c.own s x) ≡ true
    sweep_lost s j x sn jn e f lt = stays j x (c.own s x) (lost_was s j x sn jn e f lt) (not_idle_passed j x (c.own s x) s sn (known_or_own j s x jn sn) lt)

    -- what a question wants
    module _ (a b : ℕ) (an : a < n) (bn : b < n) (ne : a ≡ b → ⊥) (pre : List Message) (m : Message) (post : List Message) (e : c.lane a b ≡ pre ++ m ∷ post) where
      front : (y : ℕ) → c.told b y a ≤ after y (c.told b y a) pre
      front y = front_le y (c.told b y a) pre (m ∷ post) (c.own a y) (rw e at (h.chain a b y an bn ne))

      kept_by : (y u : ℕ) → u ≡ after y (c.told b y a) pre → (u ≤ c.own b y) × (u < c.own b y → c.held b y u ≡ true) → Kept n k has d a b y u
      kept_by y u q w = inr (
        rw (g.own b y) w.0,
        λ lt. let lt' : u < c.own b y = rw (g.own b y) at lt in
            let fr = front y in stays b y u (w.1 lt') (not_idle_passed b y u a an (omega arith) lt'),
      )

      kept_idle : (y u p : ℕ) → c.live a p ≡ true → c.want a p y ≡ u → has b y ≡ true → d.held a y u ≡ false → Idle c a y u → Kept n k has d a b y u
      kept_idle y u p lv wa f no_more (below lt fr) = absurd (fr p lv wa)
      kept_idle y u p lv wa f no_more (level q all) =
          let bare : d.held a y (d.own a y) ≡ false = rw (g.own a y, ← q) no_more in
          let le = sweep_bare a b y an bn bare in
          let kn = known a b y an bn (λ w. ne (sym w)) in
          inr (rw (g.own b y) (omega arith), λ lt. rw q (sweep_lost a b y an bn bare f (rw (g.own b y, q) at lt)))

      kept_still : (y u p : ℕ) → c.live a p ≡ true → c.want a p y ≡ u → has b y ≡ true → u ≡ after y (c.told b y a) pre → Kept n k has c a b y u → Kept n k has d a b y u
      kept_still y u p lv wa f q (inl w) = elim (cases_Bool (d.held a y u)) [
        | inl z ↦ inl z
        | inr z ↦ ⊎_elim (λ r. inl r) (λ r. kept_idle y u p lv wa f z r) (g.gone a y u w)
      ]
      kept_still y u p lv wa f q (inr w) = kept_by y u q w

      asked_still : (p : ℕ) (T : List ℕ) → Asked n k has c a b pre p T → Asked n k has d a b pre p T
      asked_still p T q = record {
        counted = rw (g.last a) q.counted;
        chain = λ y lt. rw (g.told b y a) (q.chain y lt);
        read = λ i lv nu y lt. g.want a i y ∙ q.read i (sym (g.live a i) ∙ lv) (sym (g.num a i) ∙ nu) y lt;
        kept = λ i lv nu y lt f. let lv' = sym (g.live a i) ∙ lv in let nu' = sym (g.num a i) ∙ nu in
            rw (g.want a i y) (kept_still y (c.want a i y) i lv' refl f (q.read i lv' nu' y lt ∙ q.chain y lt) (q.kept i lv' nu' y lt f));
      }

      wanted_stays : (y u p w : ℕ) → c.live b p ≡ true → c.want b p y ≡ u → Mends n k has c a b pre y u w → Idle c b y u → ⊥
      wanted_stays y u p w lv wa q (below lt fr) = fr p lv wa
      wanted_stays y u p w lv wa q (level r all) = q.off (rw (← all a an) (on_front y (c.told b y a) pre))

      stated_stays : (y u p w : ℕ) → c.live b p ≡ true → c.want b p y ≡ u → (w < u) × (after y (c.told b y a) pre ≤ w) → Idle c b y w → ⊥
      stated_stays y u p w lv wa q (below lt fr) = let z = lt a an in let fro = front y in let r = q.1 in omega arith
      stated_stays y u p w lv wa q (level r all) = let z = (h.reads b p lv).1 y in let v = q.0 in omega arith

      stated_still : (y u p w : ℕ) → c.live b p ≡ true → c.want b p y ≡ u → c.held b y w ≡ true → (w ≡ 0) ⊎ ((w < u) × (after y (c.told b y a) pre ≤ w)) → d.held b y w ≡ true
      stated_still y u p w lv wa q (inl z) = rw z (g.zero_held b y)
      stated_still y u p w lv wa q (inr z) = stays b y w q (stated_stays y u p w lv wa z)

      mends_still : (y u p w : ℕ) → c.live b p ≡ true → c.want b p y ≡ u → Mends n k has c a b pre y u w → Mends n k has d a b pre y u w
      mends_still y u p w lv wa q = record {
        wanted = stays b y u q.wanted (wanted_stays y u p w lv wa q);
        stated = stated_still y u p w lv wa q.stated q.low;
        off = rw (g.told b y a) q.off;
        low = rw (g.told b y a) q.low;
      }

      replied_still : (p : ℕ) (st : List ℕ) → Replied n k has c a b pre p st → Replied n k has d a b pre p st
      replied_still p st q = record {
        counted = rw (g.last b) q.counted;
        usable = λ i lv nu y lt f. let lv' = sym (g.live b i) ∙ lv in
            rw (g.want b i y) (⊎_elim (λ w. inl w) (λ w. inr (mends_still y (c.want b i y) i (get_or st y 0) lv' refl w)) (q.usable i lv' (sym (g.num b i) ∙ nu) y lt f));
      }

    good_still : (a b : ℕ) → a < n → b < n → (a ≡ b → ⊥) → (pre : List Message) (m : Message) (post : List Message) → c.lane a b ≡ pre ++ m ∷ post → Good n k has c a b pre m → Good n k has d a b pre m
    good_still a b an bn ne pre (Written y v t l) post e q = tt
    good_still a b an bn ne pre (Tagged y t) post e q = tt
    good_still a b an bn ne pre (Question p y T) post e q = asked_still a b an bn ne pre (Question p y T) post e p T q
    good_still a b an bn ne pre (Plain p v) post e q = rw (g.last b) q
    good_still a b an bn ne pre (Coded p v st) post e q = replied_still a b an bn ne pre (Coded p v st) post e p st q

    pub sweep_keeps : Sound n k has d
    sweep_keeps = record {
      zero_held = g.zero_held;
      self = λ s x. g.told s x s ∙ h.self s x ∙ sym (g.own s x);
      chain = λ j s x jn sn ne. rw (g.told s x j, g.lane j s, g.own j x) (h.chain j s x jn sn ne);
      behind = λ s j x sn jn e f. rw (g.own s x, g.told s x j) (h.behind s j x sn jn e f);
      bare = λ s j x sn jn e. rw (g.own s x, g.told s x j) (sweep_bare s j x sn jn e);
      passed = λ j s x t i jn sn ne f on lt inn le. sweep_passed j s x t i jn sn ne f (rw (g.told s x j, g.lane j s) at on) (rw (g.own j x) at lt) inn (rw (g.told j x i) at le);
      lost = λ s j x sn jn e f lt. rw (g.own s x) (sweep_lost s j x sn jn e f (rw (g.own s x, g.own j x) at lt));
      reads = λ s p e. let r = h.reads s p (sym (g.live s p) ∙ e) in (rw (g.last s, g.num s p) r.0, λ y. rw (g.want s p y, g.own s y) (r.1 y));
      lanes = λ a b an bn ne pre m post e. let q = sym (g.lane a b) ∙ e in good_still a b an bn ne pre m post q (h.lanes a b an bn ne pre m post q);
    }
