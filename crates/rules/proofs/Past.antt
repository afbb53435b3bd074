-- What each server has applied, by counts of each server's writes in order: a write brings what its server had applied before it.
use Rattle.std.proofs.Common.{◌≡◌, ℕ, suc, ◌%◌, ◌<◌, ◌≤◌, List, [], ◌∷◌, ◌++◌, length, get_or, sym, refl, ap, ◌∙◌, subst, inl, inr, ⊎_elim, arith}
use Rattle.std.specs.List.{ContainsAt}
use Rattle.std.proofs.lemmas.Bool.{cases_eq, cases_lt}
use Rattle.std.proofs.lemmas.List.{get_or_append_left, get_or_push, length_push}
use Rattle.std.proofs.ByRecursion.{has_append_left, has_push, has_push_cases}
use Rattle.rules.specs.Words.{upd}
use Rattle.rules.proofs.Words.{upd_same, upd_other}

-- A write: its tag, the writer's clock with this write, and the tags that the writer had applied before it.
pub record Made : Type 0 where
  pub tag : ℕ
  pub clock : List ℕ
  pub past : List ℕ

abbrev pub no_made : Made
no_made = record { tag = 0; clock = []; past = [] }

-- the writes of each server, in order
abbrev pub Writes : Type 0
Writes = ℕ → List Made

abbrev pub nth : Writes → ℕ → ℕ → Made
nth W j m = get_or (W j) m no_made

-- u is the tag of a write whose place is within a bound for each writer
pub record Reached (n : ℕ) (W : Writes) (bound : ℕ → ℕ) (u : ℕ) : Type 0 where
  pub writer : ℕ
  pub place : ℕ
  pub is_server : writer < n
  pub below : place < bound writer
  pub among : place < length (W writer)
  pub tag : (nth W writer place).tag ≡ u

-- The writes W, the tags A that each server has applied, and the clocks C.
pub record Counts (n : ℕ) (W : Writes) (A : ℕ → List ℕ) (C : ℕ → ℕ → ℕ) : Type 0 where
  -- a server has applied its own writes, and of another's no more than there are
  pub own : (j : ℕ) → j < n → length (W j) ≡ C j j
  pub most : (s j : ℕ) → s < n → j < n → C s j ≤ length (W j)
  -- what is applied is what is counted
  pub reached : (s u : ℕ) → s < n → ContainsAt (A s) u → Reached n W (C s) u
  pub applied : (s j m : ℕ) → s < n → j < n → m < C s j → ContainsAt (A s) (nth W j m).tag
  -- a write's clock counts itself, and its tag has its server
  pub counted : (j m : ℕ) → j < n → m < length (W j) → get_or (nth W j m).clock j 0 ≡ suc m
  pub server : (j m : ℕ) → j < n → m < length (W j) → (nth W j m).tag % 6 ≡ j
  pub once : (j m k : ℕ) → j < n → m < length (W j) → k < length (W j) → (nth W j m).tag ≡ (nth W j k).tag → m ≡ k
  -- what was applied before it is within its clock, and who applied it has at least its clock
  pub before : (j m u : ℕ) → j < n → m < length (W j) → ContainsAt (nth W j m).past u → Reached n W (λ i. get_or (nth W j m).clock i 0) u
  pub brings : (s j m : ℕ) → s < n → j < n → m < C s j → (i : ℕ) → i < n → get_or (nth W j m).clock i 0 ≤ C s i

-- ---- one write more

pub record Longer (W X : Writes) : Type 0 where
  pub more : (j : ℕ) → length (W j) ≤ length (X j)
  pub same : (j m : ℕ) → m < length (W j) → nth X j m ≡ nth W j m

abbrev pub pushed : Writes → ℕ → Made → Writes
pushed W s M = upd W s (W s ++ M ∷ [])

pub pushed_here : (W : Writes) (s : ℕ) (M : Made) → pushed W s M s ≡ W s ++ M ∷ []
pushed_here W s M = upd_same W s (W s ++ M ∷ [])

pub pushed_last : (W : Writes) (s : ℕ) (M : Made) → nth (pushed W s M) s (length (W s)) ≡ M
pushed_last W s M = ap (λ l. get_or l (length (W s)) no_made) (pushed_here W s M) ∙ get_or_push (W s) M no_made (length (W s)) refl

pub pushed_among : (W : Writes) (s : ℕ) (M : Made) → length (W s) < length (pushed W s M s)
pushed_among W s M = rw (pushed_here W s M) (let l = length_push (W s) M in omega arith)

pub pushed_longer : (W : Writes) (s : ℕ) (M : Made) → Longer W (pushed W s M)
pushed_longer W s M = record {
  more = λ j. elim (cases_eq j s) [ inl e ↦ rw (e, pushed_here W s M) (let l = length_push (W s) M in omega arith) | inr ne ↦ rw (upd_other W s j (W s ++ M ∷ []) ne) (omega arith) ];
  same = λ j m lt. elim (cases_eq j s) [
    | inl e ↦ let lt' : m < length (W s) = rw e at lt in rw (e, pushed_here W s M) (get_or_append_left (W s) (M ∷ []) no_made m lt')
    | inr ne ↦ ap (λ l. get_or l m no_made) (upd_other W s j (W s ++ M ∷ []) ne)
  ];
}

pub reached_longer : (n : ℕ) (W X : Writes) (b c : ℕ → ℕ) (u : ℕ) → Longer W X → ((i : ℕ) → i < n → b i ≤ c i) → Reached n W b u → Reached n X c u
reached_longer n W X b c u h le r = record {
  writer = r.writer;
  place = r.place;
  is_server = r.is_server;
  below = let l = le r.writer r.is_server in let q = r.below in omega arith;
  among = let l = h.more r.writer in let q = r.among in omega arith;
  tag = ap (λ (z : Made). z.tag) (h.same r.writer r.place r.among) ∙ r.tag;
}

module _ (n : ℕ) (W : Writes) (A B : ℕ → List ℕ) (C D : ℕ → ℕ → ℕ) (h : Counts n W A C) (s : ℕ) (sn : s < n) (M : Made)
    (here : D s s ≡ suc (C s s)) (else : (i : ℕ) → (i ≡ s → ⊥) → D s i ≡ C s i) (far : (k : ℕ) → (k ≡ s → ⊥) → (i : ℕ) → D k i ≡ C k i)
    (clock : (i : ℕ) → i < n → get_or M.clock i 0 ≡ D s i) (past : M.past ≡ A s) (of_s : M.tag % 6 ≡ s)
    (new : (m : ℕ) → m < length (W s) → (nth W s m).tag ≡ M.tag → ⊥)
    (more : B s ≡ A s ++ M.tag ∷ []) (rest : (k : ℕ) → (k ≡ s → ⊥) → B k ≡ A k) where
  X : Writes
  X = pushed W s M

  L : Longer W X
  unfolding X
  L = pushed_longer W s M

  last : nth X s (length (W s)) ≡ M
  unfolding X
  last = ap (λ l. get_or l (length (W s)) no_made) (pushed_here W s M) ∙ get_or_push (W s) M no_made (length (W s)) refl

  length_here : length (X s) ≡ suc (length (W s))
  unfolding X
  length_here = ap length (pushed_here W s M) ∙ (let l = length_push (W s) M in omega arith)

  length_else : (j : ℕ) → (j ≡ s → ⊥) → length (X j) ≡ length (W j)
  unfolding X
  length_else j ne = ap length (upd_other W s j (W s ++ M ∷ []) ne)

  grows : (k i : ℕ) → C k i ≤ D k i
  grows k i = elim (cases_eq k s) [
    | inl e ↦ rw e (elim (cases_eq i s) [ inl q ↦ rw q (let l = here in omega arith) | inr ne ↦ (let l = else i ne in omega arith) ])
    | inr ne ↦ let l = far k ne i in omega arith
  ]

  -- a place of X is one of W, or the last
  data Place (j m : ℕ) : Type 0 where
    old : m < length (W j) → Place j m
    last_one : j ≡ s → m ≡ length (W s) → Place j m

  place : (j m : ℕ) → m < length (X j) → Place j m
  place j m lt = elim (cases_eq j s) [
    | inl e ↦ let lt' : m < length (X s) = rw e at lt in elim (cases_lt m (length (W s))) [
      | inl l ↦ old (rw e l)
      | inr l ↦ last_one e (let q = length_here in omega arith)
    ]
    | inr ne ↦ old (let q = length_else j ne in omega arith)
  ]

  -- a count of D is one of C, or the last of s at s
  data Count (k j m : ℕ) : Type 0 where
    old_count : m < C k j → Count k j m
    last_count : k ≡ s → j ≡ s → m ≡ length (W s) → Count k j m

  count : (k j m : ℕ) → k < n → j < n → m < D k j → Count k j m
  count k j m kn jn lt = elim (cases_eq k s) [
    | inl e ↦ elim (cases_eq j s) [
      | inl q ↦ let lt' : m < D s s = rw (e, q) at lt in elim (cases_lt m (C s s)) [
        | inl l ↦ old_count (rw (e, q) l)
        | inr l ↦ last_count e q (let z = here in let o = h.own s sn in omega arith)
      ]
      | inr ne ↦ let lt' : m < D s j = rw e at lt in old_count (rw e (let z = else j ne in omega arith))
    ]
    | inr ne ↦ old_count (let z = far k ne j in omega arith)
  ]

  old_tag : (j m : ℕ) → m < length (W j) → (nth X j m).tag ≡ (nth W j m).tag
  old_tag j m lt = ap (λ (z : Made). z.tag) (L.same j m lt)

  tag_last : (j m : ℕ) → j ≡ s → m ≡ length (W s) → nth X j m ≡ M
  tag_last j m e q = rw (e, q) last

  counted_at : (j m : ℕ) → j < n → Place j m → get_or (nth X j m).clock j 0 ≡ suc m
  counted_at j m jn (old lt) = ap (λ (z : Made). get_or z.clock j 0) (L.same j m lt) ∙ h.counted j m jn lt
  counted_at j m jn (last_one e q) = ap (λ (z : Made). get_or z.clock j 0) (tag_last j m e q) ∙ rw e (clock s sn ∙ here ∙ (let o = h.own s sn in omega arith))

  server_at : (j m : ℕ) → j < n → Place j m → (nth X j m).tag % 6 ≡ j
  server_at j m jn (old lt) = ap (λ t. t % 6) (old_tag j m lt) ∙ h.server j m jn lt
  server_at j m jn (last_one e q) = ap (λ (z : Made). z.tag % 6) (tag_last j m e q) ∙ of_s ∙ sym e

  new_at : (j m : ℕ) → j ≡ s → m < length (W j) → (nth X j m).tag ≡ M.tag → ⊥
  new_at j m e lt q = new m (rw e at lt) (subst (λ i. (nth W i m).tag ≡ M.tag) e (sym (old_tag j m lt) ∙ q))

  once_at : (j m k : ℕ) → j < n → Place j m → Place j k → (nth X j m).tag ≡ (nth X j k).tag → m ≡ k
  once_at j m k jn (old a) (old b) e = h.once j m k jn a b (sym (old_tag j m a) ∙ e ∙ old_tag j k b)
  once_at j m k jn (old a) (last_one p q) e = absurd (new_at j m p a (e ∙ ap (λ (z : Made). z.tag) (tag_last j k p q)))
  once_at j m k jn (last_one p q) (old b) e = absurd (new_at j k p b (sym e ∙ ap (λ (z : Made). z.tag) (tag_last j m p q)))
  once_at j m k jn (last_one p q) (last_one a b) e = q ∙ sym b

  before_at : (j m u : ℕ) → j < n → Place j m → ContainsAt (nth X j m).past u → Reached n X (λ i. get_or (nth X j m).clock i 0) u
  before_at j m u jn (old lt) p = subst (λ (z : Made). Reached n X (λ i. get_or z.clock i 0) u) (sym (L.same j m lt))
      (reached_longer n W X _ _ u L (λ i inn. omega arith) (h.before j m u jn lt (subst (λ (z : Made). ContainsAt z.past u) (L.same j m lt) p)))
  before_at j m u jn (last_one e q) p = subst (λ (z : Made). Reached n X (λ i. get_or z.clock i 0) u) (sym (tag_last j m e q))
      (reached_longer n W X (C s) (λ i. get_or M.clock i 0) u L (λ i inn. let a = clock i inn in let b = grows s i in omega arith)
      (h.reached s u sn (subst (λ l. ContainsAt l u) past (subst (λ (z : Made). ContainsAt z.past u) (tag_last j m e q) p))))

  reached_at : (k u : ℕ) → k < n → ContainsAt (B k) u → Reached n X (D k) u
  reached_at k u kn p = elim (cases_eq k s) [
    | inl e ↦ rw e (⊎_elim (λ q. reached_longer n W X (C s) (D s) u L (λ i _. grows s i) (h.reached s u sn q))
        (λ q. record { writer = s; place = length (W s); is_server = sn; below = let a = here in let b = h.own s sn in omega arith; among = let l = length_here in omega arith; tag = ap (λ (z : Made). z.tag) last ∙ q })
        (has_push_cases (A s) M.tag u (subst (λ l. ContainsAt l u) more (subst (λ i. ContainsAt (B i) u) e p))))
    | inr ne ↦ reached_longer n W X (C k) (D k) u L (λ i _. grows k i) (h.reached k u kn (subst (λ l. ContainsAt l u) (rest k ne) p))
  ]

  applied_at : (k j m : ℕ) → k < n → j < n → Count k j m → ContainsAt (B k) (nth X j m).tag
  applied_at k j m kn jn (old_count lt) =
      let lw : m < length (W j) = let a = h.most k j kn jn in omega arith in
      let q : ContainsAt (A k) (nth X j m).tag = subst (ContainsAt (A k)) (sym (old_tag j m lw)) (h.applied k j m kn jn lt) in
      elim (cases_eq k s) [
        | inl e ↦ let q' : ContainsAt (A s) (nth X j m).tag = rw e at q in rw (e, more) (has_append_left (A s) (M.tag ∷ []) (nth X j m).tag q')
        | inr ne ↦ rw (rest k ne) q
      ]
  applied_at k j m kn jn (last_count e p q) = subst (λ i. ContainsAt (B i) (nth X j m).tag) (sym e) (subst (λ (z : Made). ContainsAt (B s) z.tag) (sym (tag_last j m p q)) (subst (λ l. ContainsAt l M.tag) (sym more) (has_push (A s) M.tag)))

  brings_at : (k j m : ℕ) → k < n → j < n → Count k j m → (i : ℕ) → i < n → get_or (nth X j m).clock i 0 ≤ D k i
  brings_at k j m kn jn (old_count lt) i inn =
      let lw : m < length (W j) = let a = h.most k j kn jn in omega arith in
      let e = ap (λ (z : Made). get_or z.clock i 0) (L.same j m lw) in
      let a = h.brings k j m kn jn lt i inn in
      let b = grows k i in
      omega arith
  brings_at k j m kn jn (last_count e p q) i inn =
      let a = ap (λ (z : Made). get_or z.clock i 0) (tag_last j m p q) in
      let b = clock i inn in
      rw e (omega arith)

  pub counts_write : Counts n (pushed W s M) B D
  unfolding X
  counts_write = record {
    own = λ j jn. elim (cases_eq j s) [
      | inl e ↦ rw e (length_here ∙ (let a = h.own s sn in let b = here in omega arith))
      | inr ne ↦ length_else j ne ∙ h.own j jn ∙ sym (far j ne j)
    ];
    most = λ k j kn jn. elim (cases_eq k s) [
      | inl e ↦ rw e (elim (cases_eq j s) [
        | inl q ↦ rw q (let a = length_here in let b = h.own s sn in let c = here in omega arith)
        | inr ne ↦ (let a = length_else j ne in let b = h.most s j sn jn in let c = else j ne in omega arith)
      ])
      | inr ne ↦ let a = far k ne j in let b = h.most k j kn jn in let c = L.more j in omega arith
    ];
    reached = reached_at;
    applied = λ k j m kn jn lt. applied_at k j m kn jn (count k j m kn jn lt);
    counted = λ j m jn lt. counted_at j m jn (place j m lt);
    server = λ j m jn lt. server_at j m jn (place j m lt);
    once = λ j m k jn a b. once_at j m k jn (place j m a) (place j k b);
    before = λ j m u jn lt. before_at j m u jn (place j m lt);
    brings = λ k j m kn jn lt. brings_at k j m kn jn (count k j m kn jn lt);
  }

-- ---- a write of another server is applied

module _ (n : ℕ) (W : Writes) (A B : ℕ → List ℕ) (C D : ℕ → ℕ → ℕ) (h : Counts n W A C) (s a m : ℕ) (sn : s < n) (an : a < n) (lm : m < length (W a))
    (next : C s a ≡ m) (here : D s a ≡ suc m) (else : (i : ℕ) → (i ≡ a → ⊥) → D s i ≡ C s i) (far : (k : ℕ) → (k ≡ s → ⊥) → (i : ℕ) → D k i ≡ C k i)
    (clock : (i : ℕ) → i < n → get_or (nth W a m).clock i 0 ≤ D s i)
    (more : B s ≡ A s ++ (nth W a m).tag ∷ []) (rest : (k : ℕ) → (k ≡ s → ⊥) → B k ≡ A k) where
  other : s ≡ a → ⊥
  other e = let o = h.own s sn in let q : length (W a) ≡ C s a = subst (λ i. length (W i) ≡ C s i) e o in omega arith

  up : (k i : ℕ) → C k i ≤ D k i
  up k i = elim (cases_eq k s) [
    | inl e ↦ rw e (elim (cases_eq i a) [ inl q ↦ rw q (omega arith) | inr ne ↦ (let l = else i ne in omega arith) ])
    | inr ne ↦ let l = far k ne i in omega arith
  ]

  data Seen (k j p : ℕ) : Type 0 where
    old_seen : p < C k j → Seen k j p
    last_seen : k ≡ s → j ≡ a → p ≡ m → Seen k j p

  seen : (k j p : ℕ) → p < D k j → Seen k j p
  seen k j p lt = elim (cases_eq k s) [
    | inl e ↦ elim (cases_eq j a) [
      | inl q ↦ let lt' : p < D s a = rw (e, q) at lt in elim (cases_lt p m) [
        | inl l ↦ old_seen (rw (e, q) (omega arith))
        | inr l ↦ last_seen e q (omega arith)
      ]
      | inr ne ↦ let lt' : p < D s j = rw e at lt in old_seen (rw e (let z = else j ne in omega arith))
    ]
    | inr ne ↦ old_seen (let z = far k ne j in omega arith)
  ]

  applied_seen : (k j p : ℕ) → k < n → j < n → Seen k j p → ContainsAt (B k) (nth W j p).tag
  applied_seen k j p kn jn (old_seen lt) =
      let q = h.applied k j p kn jn lt in
      elim (cases_eq k s) [
        | inl e ↦ let q' : ContainsAt (A s) (nth W j p).tag = rw e at q in rw (e, more) (has_append_left (A s) ((nth W a m).tag ∷ []) (nth W j p).tag q')
        | inr ne ↦ rw (rest k ne) q
      ]
  applied_seen k j p kn jn (last_seen e q r) = rw (e, q, r) (subst (λ l. ContainsAt l (nth W a m).tag) (sym more) (has_push (A s) (nth W a m).tag))

  brings_seen : (k j p : ℕ) → k < n → j < n → Seen k j p → (i : ℕ) → i < n → get_or (nth W j p).clock i 0 ≤ D k i
  brings_seen k j p kn jn (old_seen lt) i inn = let x = h.brings k j p kn jn lt i inn in let y = up k i in omega arith
  brings_seen k j p kn jn (last_seen e q r) i inn = rw (e, q, r) (clock i inn)

  pub counts_apply : Counts n W B D
  counts_apply = record {
    own = λ j jn. elim (cases_eq j s) [
      | inl e ↦ rw e (h.own s sn ∙ sym (else s other))
      | inr ne ↦ h.own j jn ∙ sym (far j ne j)
    ];
    most = λ k j kn jn. elim (cases_eq k s) [
      | inl e ↦ rw e (elim (cases_eq j a) [ inl q ↦ rw q (omega arith) | inr ne ↦ (let x = else j ne in let y = h.most s j sn jn in omega arith) ])
      | inr ne ↦ let x = far k ne j in let y = h.most k j kn jn in omega arith
    ];
    reached = λ k u kn p. elim (cases_eq k s) [
      | inl e ↦ rw e (⊎_elim (λ q. reached_longer n W W (C s) (D s) u (record { more = λ j. omega arith; same = λ j p lt. refl }) (λ i _. up s i) (h.reached s u sn q))
          (λ q. record { writer = a; place = m; is_server = an; below = omega arith; among = lm; tag = q })
          (has_push_cases (A s) (nth W a m).tag u (subst (λ l. ContainsAt l u) more (subst (λ i. ContainsAt (B i) u) e p))))
      | inr ne ↦ reached_longer n W W (C k) (D k) u (record { more = λ j. omega arith; same = λ j p lt. refl }) (λ i _. up k i) (h.reached k u kn (subst (λ l. ContainsAt l u) (rest k ne) p))
    ];
    applied = λ k j p kn jn lt. applied_seen k j p kn jn (seen k j p lt);
    counted = h.counted;
    server = h.server;
    once = h.once;
    before = h.before;
    brings = λ k j p kn jn lt. brings_seen k j p kn jn (seen k j p lt);
  }

-- ---- a write brings its past

pub past_brought : (n : ℕ) (W : Writes) (A : ℕ → List ℕ) (C : ℕ → ℕ → ℕ) → Counts n W A C → (j m s : ℕ) → j < n → m < length (W j) → s < n → ContainsAt (A s) (nth W j m).tag → (u : ℕ) → ContainsAt (nth W j m).past u → ContainsAt (A s) u
past_brought n W A C h j m s jn lt sn p u q =
    let r = h.reached s (nth W j m).tag sn p in
    let same_writer : r.writer ≡ j = sym (h.server r.writer r.place r.is_server r.among) ∙ ap (λ t. t % 6) r.tag ∙ h.server j m jn lt in
    let among : r.place < length (W j) = subst (λ i. r.place < length (W i)) same_writer r.among in
    let tag : (nth W j r.place).tag ≡ (nth W j m).tag = subst (λ i. (nth W i r.place).tag ≡ (nth W j m).tag) same_writer r.tag in
    let same_place : r.place ≡ m = h.once j r.place m jn among lt tag in
    let below : m < C s j = subst (λ i. i < C s j) same_place (subst (λ i. r.place < C s i) same_writer r.below) in
    let b = h.before j m u jn lt q in
    let le = h.brings s j m sn jn below b.writer b.is_server in
    subst (ContainsAt (A s)) b.tag (h.applied s b.writer b.place sn b.is_server (let z = b.below in omega arith))
