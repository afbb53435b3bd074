-- A server's own tag of an object rises to a held tag, and all others are notified.
use Rattle.std.proofs.Common.{◌≡◌, ℕ, ◌<◌, ◌≤◌, Bool, true, false, ◌⊎◌, List, [], ◌∷◌, ◌++◌, sym, refl, ◌∙◌, subst, inl, inr, ⊎_elim, arith}
use Rattle.std.proofs.lemmas.Bool.{both_ways, cases_eq, eq-eqb, ne_eqb}
use Rattle.rules.proofs.RankedMessages.{Message, Tagged}
use Rattle.rules.proofs.Core.{Core, heard, Chain, On, Kept, Good, Sound}
use Rattle.rules.proofs.Walks.{chain_push, chain_le, on_push, on_le, Place, place, before, here}
use Rattle.rules.proofs.Carry.{Carry, good_carry}

module _ (n k : ℕ) (has : ℕ → ℕ → Bool) where
  pub record Move (c d : Core) (s x t : ℕ) : Type 0 where
    pub above : c.own s x < t
    pub holds : c.held s x t ≡ true
    pub old : has s x ≡ true → c.held s x (c.own s x) ≡ true
    pub within : has s x ≡ false → (j : ℕ) → j < n → has j x ≡ true → t ≤ c.told s x j
    pub own_here : d.own s x ≡ t
    pub own_else : (i y : ℕ) → (i ≡ s → y ≡ x → ⊥) → d.own i y ≡ c.own i y
    pub told_here : d.told s x s ≡ t
    pub told_else : (i y j : ℕ) → (i ≡ s → y ≡ x → j ≡ s → ⊥) → d.told i y j ≡ c.told i y j
    pub held : (i y u : ℕ) → d.held i y u ≡ c.held i y u
    pub live : (i p : ℕ) → d.live i p ≡ c.live i p
    pub num : (i p : ℕ) → d.num i p ≡ c.num i p
    pub want : (i p y : ℕ) → d.want i p y ≡ c.want i p y
    pub last : (i : ℕ) → d.last i ≡ c.last i
    pub lane_from : (b : ℕ) → b < n → (b ≡ s → ⊥) → d.lane s b ≡ c.lane s b ++ Tagged x t ∷ []
    pub lane_else : (a b : ℕ) → (a ≡ s → ⊥) → d.lane a b ≡ c.lane a b

  module _ (c d : Core) (s x t : ℕ) (sn : s < n) (h : Sound n k has c) (g : Move c d s x t) where
    -- the own tag that moved, or another
    cases_own : (i y : ℕ) → ((i ≡ s) × (y ≡ x)) ⊎ (i ≡ s → y ≡ x → ⊥)
    cases_own i y = elim (cases_eq i s) [ inl e ↦ elim (cases_eq y x) [ inl q ↦ inl (e, q) | inr ne ↦ inr (λ _ q. ne q) ] | inr ne ↦ inr (λ e _. ne e) ]

    told_other : (i y j : ℕ) → (j ≡ i → ⊥) → d.told i y j ≡ c.told i y j
    told_other i y j ne = g.told_else i y j (λ p _ r. ne (r ∙ sym p))

    own_rises : (i y : ℕ) → c.own i y ≤ d.own i y
    own_rises i y = elim (cases_own i y) [
      | inl e ↦ rw (e.0, e.1, g.own_here) (let l = g.above in omega arith)
      | inr ne ↦ let q = g.own_else i y ne in omega arith
    ]

    -- what the others know is not above
    known : (i j y : ℕ) → i < n → j < n → (j ≡ i → ⊥) → c.told i y j ≤ c.own j y
    known i j y inn jn ne = chain_le y (c.told i y j) (c.lane j i) (c.own j y) (h.chain j i y jn inn ne)

    -- notices of x do not tell of another object
    apart : (y o : ℕ) → (y ≡ x → ⊥) → heard y o (Tagged x t) ≡ o
    apart y o ne = rw (ne_eqb x y (λ e. ne (sym e)))

    tells : heard x (c.own s x) (Tagged x t) ≡ t
    tells = rw (eq-eqb x x refl)

    chain_from : (b y : ℕ) → b < n → (s ≡ b → ⊥) → Chain y (c.told b y s) (c.lane s b ++ Tagged x t ∷ []) (d.own s y)
    chain_from b y bn ne =
        let q = h.chain s b y sn bn ne in
        elim (cases_eq y x) [
          | inl e ↦ rw (e, g.own_here) (chain_push x (c.told b x s) (c.lane s b) (c.own s x) (Tagged x t) t (rw e at q) tells (let l = g.above in omega arith))
          | inr no_x ↦ rw (g.own_else s y (λ _ e. no_x e)) (chain_push y (c.told b y s) (c.lane s b) (c.own s y) (Tagged x t) (c.own s y) q (apart y (c.own s y) no_x) (omega arith))
        ]

    move_chain : (a b y : ℕ) → a < n → b < n → (a ≡ b → ⊥) → Chain y (d.told b y a) (d.lane a b) (d.own a y)
    move_chain a b y an bn ne = rw (told_other b y a ne) (elim (cases_eq a s) [
      | inl e ↦ rw (e, g.lane_from b bn (λ q. ne (e ∙ sym q))) (chain_from b y bn (λ q. ne (e ∙ q)))
      | inr far ↦ rw (g.lane_else a b far, g.own_else a y (λ e _. far e)) (h.chain a b y an bn ne)
    ])

    move_behind : (i j y : ℕ) → i < n → j < n → has i y ≡ false → has j y ≡ true → d.own i y ≤ d.told i y j
    move_behind i j y inn jn e f =
        let ne : j ≡ i → ⊥ = λ q. both_ways (has i y) e (rw q at f) in
        rw (told_other i y j ne) (elim (cases_own i y) [
          | inl q ↦ rw (q.0, q.1, g.own_here) (g.within (rw (q.0, q.1) at e) j jn (rw q.1 at f))
          | inr q ↦ rw (g.own_else i y q) (h.behind i j y inn jn e f)
        ])

    -- where a tag is bare now, it is another's, and was bare
    bare_else : (i y : ℕ) → d.held i y (d.own i y) ≡ false → (i ≡ s → y ≡ x → ⊥)
    bare_else i y e p q =
        let f : c.held s x t ≡ false = sym (g.held s x t) ∙ (rw (p, q, g.own_here) at e) in
        both_ways (c.held s x t) f g.holds

    bare_was : (i y : ℕ) → d.held i y (d.own i y) ≡ false → c.held i y (c.own i y) ≡ false
    bare_was i y e = sym (g.held i y (c.own i y)) ∙ (rw (g.own_else i y (bare_else i y e)) at e)

    move_bare : (i j y : ℕ) → i < n → j < n → d.held i y (d.own i y) ≡ false → d.own i y ≤ d.told i y j
    move_bare i j y inn jn e =
        let no = bare_else i y e in
        rw (g.own_else i y no, g.told_else i y j (λ p q _. no p q)) (h.bare i j y inn jn (bare_was i y e))

    -- a tag of x not above the old own tag, and below the new one, that s knows to be wanted
    stays : (b u i : ℕ) → b < n → (s ≡ b → ⊥) → has s x ≡ true → On x (c.told b x s) (c.lane s b) u → i < n → c.told s x i ≤ u → c.held s x u ≡ true
    stays b u i bn ne f on inn le =
        let q = h.chain s b x sn bn ne in
        let top = on_le x (c.told b x s) (c.lane s b) (c.own s x) u q on in
        elim (cases_eq u (c.own s x)) [
          | inl e ↦ rw e (g.old f)
          | inr no_own ↦ h.passed s b x u i sn bn ne f on (omega arith) inn le
        ]

    passed_here : (b u i : ℕ) → b < n → (s ≡ b → ⊥) → has s x ≡ true → On x (c.told b x s) (c.lane s b ++ Tagged x t ∷ []) u → u < t → i < n → d.told s x i ≤ u → c.held s x u ≡ true
    passed_here b u i bn ne f on lt inn le =
        let i_other : i ≡ s → ⊥ = λ e. let q = g.told_here in let w : d.told s x s ≤ u = rw e at le in omega arith in
        let same = told_other s x i i_other in
        ⊎_elim (λ o. stays b u i bn ne f o inn (omega arith)) (λ (e : u ≡ heard x (c.own s x) (Tagged x t)). absurd (let w = tells in omega arith))
        (on_push x (c.told b x s) (c.lane s b) (c.own s x) (Tagged x t) u (h.chain s b x sn bn ne) on)

    passed_from : (b y u i : ℕ) → b < n → (s ≡ b → ⊥) → has s y ≡ true → On y (c.told b y s) (c.lane s b ++ Tagged x t ∷ []) u → u < d.own s y → i < n → d.told s y i ≤ u → c.held s y u ≡ true
    passed_from b y u i bn ne f on lt inn le = elim (cases_eq y x) [
      | inl e ↦ rw e (passed_here b u i bn ne (rw e at f) (rw e at on) (rw (e, g.own_here) at lt) inn (rw e at le))
      | inr no_x ↦
          let lt' : u < c.own s y = rw (g.own_else s y (λ _ e. no_x e)) at lt in
          let le' : c.told s y i ≤ u = rw (g.told_else s y i (λ _ e _. no_x e)) at le in
          ⊎_elim (λ o. h.passed s b y u i sn bn ne f o lt' inn le') (λ (e : u ≡ heard y (c.own s y) (Tagged x t)). absurd (let w = apart y (c.own s y) no_x in omega arith))
          (on_push y (c.told b y s) (c.lane s b) (c.own s y) (Tagged x t) u (h.chain s b y sn bn ne) on)
    ]

    move_passed : (j b y u i : ℕ) → j < n → b < n → (j ≡ b → ⊥) → has j y ≡ true → On y (d.told b y j) (d.lane j b) u → u < d.own j y
        → i < n → d.told j y i ≤ u → d.held j y u ≡ true
    move_passed j b y u i jn bn ne f on lt inn le = g.held j y u ∙ elim (cases_eq j s) [
      | inl e ↦ rw e (passed_from b y u i bn (λ q. ne (e ∙ q)) (rw e at f) (rw (e, g.lane_from b bn (λ q. ne (e ∙ sym q))) at (rw (told_other b y j ne) at on)) (rw e at lt) inn (rw e at le))
      | inr far ↦ h.passed j b y u i jn bn ne f (rw (told_other b y j ne, g.lane_else j b far) at on) (rw (g.own_else j y (λ e _. far e)) at lt) inn (rw (g.told_else j y i (λ e _ _. far e)) at le)
    ]

    lost_here : (i : ℕ) → i < n → c.held i x (c.own i x) ≡ false → has s x ≡ true → (i ≡ s → ⊥) → c.held s x (c.own i x) ≡ true
    lost_here i inn e f ne =
        let le = h.bare i s x inn sn e in
        let le' = known i s x inn sn (λ q. ne (sym q)) in
        elim (cases_eq (c.own i x) (c.own s x)) [
          | inl q ↦ rw q (g.old f)
          | inr q ↦ h.lost i s x inn sn e f (omega arith)
        ]

    move_lost : (i j y : ℕ) → i < n → j < n → d.held i y (d.own i y) ≡ false → has j y ≡ true → d.own i y < d.own j y → d.held j y (d.own i y) ≡ true
    move_lost i j y inn jn e f lt =
        let no = bare_else i y e in
        rw (g.own_else i y no) (g.held j y (c.own i y) ∙ elim (cases_own j y) [
          | inl q ↦ rw (q.0, q.1) (lost_here i inn (rw q.1 at (bare_was i y e)) (rw (q.0, q.1) at f) (λ p. no p q.1))
          | inr q ↦ h.lost i j y inn jn (bare_was i y e) f (rw (g.own_else i y no, g.own_else j y q) at lt)
        ])

    move_kept : (a b y u : ℕ) → has b y ≡ true → Kept n k has c a b y u → Kept n k has d a b y u
    move_kept a b y u f (inl e) = inl (g.held a y u ∙ e)
    move_kept a b y u f (inr e) = inr (
      let r = own_rises b y in let l = e.0 in omega arith,
      λ lt. g.held b y u ∙ elim (cases_own b y) [
        | inl q ↦ elim (cases_eq u (c.own b y)) [
          | inl w ↦ rw (w, q.0, q.1) (g.old (rw (q.0, q.1) at f))
          | inr w ↦ e.1 (let l = e.0 in omega arith)
        ]
        | inr q ↦ e.1 (rw (g.own_else b y q) at lt)
      ],
    )

    carry : (a b : ℕ) → (a ≡ b → ⊥) → (pre : List Message) → Carry n k has c d a b pre pre
    carry a b ne pre = record {
      last = λ i. let e = g.last i in omega arith;
      live = g.live;
      num = g.num;
      want = g.want;
      same = λ y. rw (told_other b y a ne);
      more = λ y u on. rw (told_other b y a ne) at on;
      kept = λ y u f q. move_kept a b y u f q;
      held = λ y u e. g.held b y u ∙ e;
    }

    at_place : (b : ℕ) → b < n → (s ≡ b → ⊥) → (pre : List Message) (z : Message) → Place (c.lane s b) (Tagged x t) pre z → Good n k has c s b pre z
    at_place b bn ne pre z (before post e) = h.lanes s b sn bn ne pre z post e
    at_place b bn ne pre z (here e q) = subst (Good n k has c s b pre) q tt

    move_lanes : (a b : ℕ) → a < n → b < n → (a ≡ b → ⊥) → (pre : List Message) (z : Message) (post : List Message) → d.lane a b ≡ pre ++ z ∷ post → Good n k has d a b pre z
    move_lanes a b an bn ne pre z post e = good_carry n k has c d a b pre pre (carry a b ne pre) z (elim (cases_eq a s) [
      | inl q ↦ rw q (at_place b bn (λ w. ne (q ∙ w)) pre z (place (c.lane s b) (Tagged x t) pre z post (sym (g.lane_from b bn (λ w. ne (q ∙ sym w))) ∙ (rw q at e))))
      | inr far ↦ h.lanes a b an bn ne pre z post (sym (g.lane_else a b far) ∙ e)
    ])

    move_self : (i y : ℕ) → d.told i y i ≡ d.own i y
    move_self i y = elim (cases_own i y) [
      | inl q ↦ rw (q.0, q.1) (g.told_here ∙ sym g.own_here)
      | inr q ↦ g.told_else i y i (λ p r _. q p r) ∙ h.self i y ∙ sym (g.own_else i y q)
    ]

    pub move_keeps : Sound n k has d
    move_keeps = record {
      zero_held = λ i y. g.held i y 0 ∙ h.zero_held i y;
      self = move_self;
      chain = move_chain;
      behind = move_behind;
      bare = move_bare;
      passed = move_passed;
      lost = move_lost;
      reads = λ i p e. let r = h.reads i p (sym (g.live i p) ∙ e) in (rw (g.last i, g.num i p) r.0, λ y. let w = r.1 y in let o = own_rises i y in rw (g.want i p y) (omega arith));
      lanes = move_lanes;
    }
