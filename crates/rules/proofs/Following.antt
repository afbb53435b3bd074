-- The reads that the events tell of, and the places of a server: what joins them, and how it is kept.
use Rattle.std.proofs.Common.{◌≡◌, ℕ, zero, suc, ◌+◌, ◌<◌, ◌≤◌, Bool, true, false, ◌&&◌, ◌||◌, eqb, ltb, ◌⊎◌, List, [], ◌∷◌, ◌++◌, length, get_or, sym, refl, ap, ◌∙◌, subst, ap₂, inl, inr, ⊎_elim, append_assoc, append-nil, arith}
use Rattle.std.proofs.lemmas.Bool.{cases_Bool, cases_eq, cases_lt, both_ways, and_parts, and_from, lt-ltb, eq-eqb}
use Rattle.std.proofs.lemmas.List.{get_or_append_left, get_or_push, length_push}
use Rattle.rules.specs.Words.{upd}
use Rattle.rules.specs.State.{Layout}
use Rattle.rules.specs.Law.{with_own}
use Rattle.rules.specs.Events.{Event, Followed, just_opened, follow_call, follow_all, follow, reads_of, opened_by}
use Rattle.rules.proofs.Unranked.{tag_at}
use Rattle.rules.proofs.Ranked.{Read, is_open, no_read, clients, slots, most_reads}
use Rattle.rules.proofs.Words.{upd_same, upd_other}

-- ---- one event more

module _ (l : Layout) (s : ℕ) where
  follow_push : (done later : List Event) (e : Event) (rs : List Followed) → follow l s done (later ++ e ∷ []) rs ≡ follow_all l s 1 (done ++ later) e (follow l s done later rs) ++ opened_by s e.call e.answer
  follow_push done [] e rs = ap (λ d. follow_all l s 1 d e rs ++ opened_by s e.call e.answer) (sym (append-nil done))
  follow_push done (d ∷ later) e rs =
      let rs' = follow_all l s 1 done d rs ++ opened_by s d.call d.answer in
      follow_push (done ++ d ∷ []) later e rs'
      ∙ ap (λ z. follow_all l s 1 z e (follow l s (done ++ d ∷ []) later rs') ++ opened_by s e.call e.answer) (append_assoc done (d ∷ []) later)

  pub reads_push : (es : List Event) (e : Event) → reads_of l s (es ++ e ∷ []) ≡ follow_all l s 1 es e (reads_of l s es) ++ opened_by s e.call e.answer
  reads_push es e = follow_push [] es e []

  pub all_length : (m : ℕ) (es : List Event) (e : Event) (rs : List Followed) → length (follow_all l s m es e rs) ≡ length rs
  all_length m es e [] = refl
  all_length m es e (r ∷ rs) = ap suc (all_length (suc m) es e rs)

  pub all_at : (m : ℕ) (es : List Event) (e : Event) (rs : List Followed) (k : ℕ) (d : Followed) (n : ℕ) → k < length rs → n ≡ m + k → get_or (follow_all l s m es e rs) k d ≡ follow_call l s n es e e.call (get_or rs k d)
  all_at m es e [] k d n lt q = absurd (omega arith)
  all_at m es e (r ∷ rs) zero d n lt q = let z : n ≡ m = omega arith in ap (λ i. follow_call l s i es e e.call r) (sym z)
  all_at m es e (r ∷ rs) (suc k) d n lt q = all_at (suc m) es e rs k d n (omega arith) (omega arith)

  pub all_same : (m : ℕ) (es : List Event) (e : Event) (rs : List Followed) → ((n : ℕ) (r : Followed) → follow_call l s n es e e.call r ≡ r) → follow_all l s m es e rs ≡ rs
  all_same m es e [] h = refl
  all_same m es e (r ∷ rs) h = ap₂ ◌∷◌ (h m r) (all_same (suc m) es e rs h)

-- ---- what joins them

-- the read with the number k + 1
abbrev pub at : List Followed → ℕ → Followed
at F k = get_or F k (just_opened 0 false)

abbrev pub live : (ℕ → Read) → ℕ → Bool
live rs i = ltb i slots && is_open (rs i)

-- an open read at the place i is the one with its number
pub record Linked (s : ℕ) (F : List Followed) (r : Read) (i : ℕ) : Type 0 where
  pub index : ℕ
  pub number : r.number ≡ suc index
  pub among : index < length F
  pub open_too : (at F index).is_open ≡ true
  pub object : (at F index).object ≡ r.object
  pub client : (at F index).client ≡ ltb i clients
  pub hand : (j : ℕ) → with_own s (at F index).repliers j ≡ r.hand j

-- an answered read gives value and tag of the one with its number, a client's that is closed
pub record Answers (F : List Followed) (r : Read) : Type 0 where
  pub index : ℕ
  pub number : r.number ≡ suc index
  pub among : index < length F
  pub client : (at F index).client ≡ true
  pub closed : (at F index).is_open ≡ false
  pub tag : tag_at r.tag ≡ (at F index).tag
  pub value : r.value ≡ (at F index).value

pub record StandsAt (rs : ℕ → Read) (k : ℕ) : Type 0 where
  pub place : ℕ
  pub lives : live rs place ≡ true
  pub number : (rs place).number ≡ suc k

pub record Follows (s : ℕ) (F : List Followed) (rs : ℕ → Read) (opened : ℕ) : Type 0 where
  pub count : length F ≡ opened
  pub few : opened ≤ most_reads
  pub links : (i : ℕ) → live rs i ≡ true → Linked s F (rs i) i
  pub stands : (k : ℕ) → k < length F → (at F k).is_open ≡ true → StandsAt rs k
  pub apart : (i j : ℕ) → live rs i ≡ true → live rs j ≡ true → (rs i).number ≡ (rs j).number → i ≡ j
  pub kept : (i : ℕ) → i < clients → eqb (rs i).state 0 ≡ false → eqb (rs i).state 1 ≡ false → Answers F (rs i)

-- ---- reads change

-- what becomes of the open read at the place i, with the number k + 1
pub data Moves (s : ℕ) (G : List Followed) (rs : ℕ → Read) (i k : ℕ) : Type 0 where
  stays : live rs i ≡ true → (rs i).number ≡ suc k → Linked s G (rs i) i → Moves s G rs i k
  gone : live rs i ≡ false → (at G k).is_open ≡ false → (eqb (rs i).state 0 ≡ false → i < clients → Answers G (rs i)) → Moves s G rs i k

-- a place that is not open stays, or is freed
abbrev pub Idle : (ℕ → Read) → (ℕ → Read) → ℕ → Type 0
Idle rs rs' i = (rs' i ≡ rs i) ⊎ (rs' i ≡ no_read)

module _ (s : ℕ) (F G : List Followed) (rs rs' : ℕ → Read) (o : ℕ) (h : Follows s F rs o)
    (same_length : length G ≡ length F)
    (closed_same : (k : ℕ) → k < length F → (at F k).is_open ≡ false → at G k ≡ at F k)
    (idle : (i : ℕ) → live rs i ≡ false → Idle rs rs' i)
    (busy : (i : ℕ) (lv : live rs i ≡ true) → Moves s G rs' i (h.links i lv).index) where
  no_read_dead : (i : ℕ) → rs' i ≡ no_read → live rs' i ≡ true → ⊥
  no_read_dead i e lv = both_ways false refl (sym (ap is_open e) ∙ (and_parts (ltb i slots) (is_open (rs' i)) lv).1)

  -- what is open was open
  was_live : (i : ℕ) → live rs' i ≡ true → live rs i ≡ true
  was_live i lv = elim (cases_Bool (live rs i)) [
    | inl e ↦ e
    | inr e ↦ ⊎_elim (λ q. absurd (both_ways (live rs i) e (sym (ap (λ (r : Read). ltb i slots && is_open r) q) ∙ lv))) (λ q. absurd (no_read_dead i q lv)) (idle i e)
  ]

  link : (i k : ℕ) → live rs' i ≡ true → Moves s G rs' i k → Linked s G (rs' i) i
  link i k lv (stays a b c) = c
  link i k lv (gone a b c) = absurd (both_ways (live rs' i) a lv)

  number_of : (i k : ℕ) → live rs' i ≡ true → Moves s G rs' i k → (rs' i).number ≡ suc k
  number_of i k lv (stays a b c) = b
  number_of i k lv (gone a b c) = absurd (both_ways (live rs' i) a lv)

  open_before : (k : ℕ) → k < length F → (at G k).is_open ≡ true → (at F k).is_open ≡ true
  open_before k lt e = elim (cases_Bool (at F k).is_open) [
    | inl q ↦ q
    | inr q ↦ absurd (both_ways (at F k).is_open q (sym (ap (λ (r : Followed). r.is_open) (closed_same k lt q)) ∙ e))
  ]

  standing : (k i : ℕ) → (at G k).is_open ≡ true → Moves s G rs' i k → StandsAt rs' k
  standing k i e (stays a b c) = record { place = i; lives = a; number = b }
  standing k i e (gone a b c) = absurd (both_ways (at G k).is_open b e)

  answer : (i k : ℕ) → i < clients → eqb (rs' i).state 0 ≡ false → eqb (rs' i).state 1 ≡ false → Moves s G rs' i k → Answers G (rs' i)
  answer i k ic a b (stays lv n c) = absurd (both_ways (eqb (rs' i).state 1) b (and_parts (ltb i slots) (is_open (rs' i)) lv).1)
  answer i k ic a b (gone lv n c) = c a ic

  answered_before : (i : ℕ) → rs' i ≡ rs i → Answers F (rs i) → Answers G (rs' i)
  answered_before i e a =
      let same = closed_same a.index a.among a.closed in
      subst (Answers G) (sym e) (record {
        index = a.index;
        number = a.number;
        among = let l = a.among in omega arith;
        client = ap (λ (r : Followed). r.client) same ∙ a.client;
        closed = ap (λ (r : Followed). r.is_open) same ∙ a.closed;
        tag = a.tag ∙ sym (ap (λ (r : Followed). r.tag) same);
        value = a.value ∙ sym (ap (λ (r : Followed). r.value) same);
      })

  pub follows_change : Follows s G rs' o
  follows_change = record {
    count = same_length ∙ h.count;
    few = h.few;
    links = λ i lv. link i _ lv (busy i (was_live i lv));
    stands = λ k lt e.
        let lt' : k < length F = omega arith in
        let st = h.stands k lt' (open_before k lt' e) in
        let ln = h.links st.place st.lives in
        let same : ln.index ≡ k = let a = ln.number in let b = st.number in omega arith in
        standing k st.place e (subst (Moves s G rs' st.place) same (busy st.place st.lives));
    apart = λ i j li lj e.
        let a = was_live i li in
        let b = was_live j lj in
        let x = number_of i _ li (busy i a) in
        let y = number_of j _ lj (busy j b) in
        let u = (h.links i a).number in
        let v = (h.links j b).number in
        h.apart i j a b (omega arith);
    kept = λ i ic a b. elim (cases_Bool (live rs i)) [
      | inl lv ↦ answer i _ ic a b (busy i lv)
      | inr lv ↦ ⊎_elim
          (λ q. answered_before i q (h.kept i ic (sym (ap (λ (r : Read). eqb r.state 0) q) ∙ a) (sym (ap (λ (r : Read). eqb r.state 1) q) ∙ b)))
          (λ q. absurd (both_ways (eqb (rs' i).state 0) a (ap (λ (r : Read). eqb r.state 0) q))) (idle i lv)
    ];
  }

-- ---- a read is opened

module _ (s : ℕ) (F : List Followed) (rs : ℕ → Read) (o i x : ℕ) (client : Bool) (new : Read) (h : Follows s F rs o) (free : live rs i ≡ false) (place : i < slots) (more : o < most_reads)
    (kind : client ≡ ltb i clients) (is_open_new : new.state ≡ 1) (number : new.number ≡ o + 1) (object : new.object ≡ x) (hand : (j : ℕ) → new.hand j ≡ eqb j s) where
  G : List Followed
  G = F ++ just_opened x client ∷ []

  rs' : ℕ → Read
  rs' = upd rs i new

  old_at : (k : ℕ) → k < length F → at G k ≡ at F k
  unfolding G
  old_at k lt = get_or_append_left F (just_opened x client ∷ []) (just_opened 0 false) k lt

  last_at : at G (length F) ≡ just_opened x client
  unfolding G
  last_at = get_or_push F (just_opened x client) (just_opened 0 false) (length F) refl

  long : length G ≡ suc (length F)
  unfolding G
  long = let l = length_push F (just_opened x client) in omega arith

  here : rs' i ≡ new
  unfolding rs'
  here = upd_same rs i new

  there : (j : ℕ) → (j ≡ i → ⊥) → rs' j ≡ rs j
  unfolding rs'
  there j ne = upd_other rs i j new ne

  old_link : (j : ℕ) → Linked s F (rs j) j → Linked s G (rs j) j
  old_link j k =
      let same = old_at k.index k.among in
      record {
        index = k.index;
        number = k.number;
        among = let l = k.among in let m = long in omega arith;
        open_too = ap (λ (r : Followed). r.is_open) same ∙ k.open_too;
        object = ap (λ (r : Followed). r.object) same ∙ k.object;
        client = ap (λ (r : Followed). r.client) same ∙ k.client;
        hand = λ a. ap (λ (r : Followed). with_own s r.repliers a) same ∙ k.hand a;
      }

  new_link : Linked s G new i
  new_link = record {
    index = length F;
    number = number ∙ (let c = h.count in omega arith);
    among = let m = long in omega arith;
    open_too = ap (λ (r : Followed). r.is_open) last_at;
    object = ap (λ (r : Followed). r.object) last_at ∙ sym object;
    client = ap (λ (r : Followed). r.client) last_at ∙ kind;
    hand = λ j. ap (λ (r : Followed). with_own s r.repliers j) last_at ∙ or_none (eqb j s) ∙ sym (hand j);
  }
    where
      or_none : (b : Bool) → (b || false) ≡ b
      or_none true = refl
      or_none false = refl

  new_live : live rs' i ≡ true
  new_live = and_from (ltb i slots) (is_open (rs' i)) (lt-ltb i slots place) (ap is_open here ∙ eq-eqb new.state 1 is_open_new)

  same_live : (j : ℕ) → (j ≡ i → ⊥) → live rs' j ≡ true → live rs j ≡ true
  same_live j ne lv = sym (ap (λ (r : Read). ltb j slots && is_open r) (there j ne)) ∙ lv

  other : (j : ℕ) → live rs j ≡ true → j ≡ i → ⊥
  other j lv e = both_ways (live rs i) free (subst (λ k. live rs k ≡ true) e lv)

  pub follows_open : Follows s (F ++ just_opened x client ∷ []) (upd rs i new) (o + 1)
  unfolding G rs'
  follows_open = record {
    count = long ∙ (let c = h.count in omega arith);
    few = omega arith;
    links = λ j lv. elim (cases_eq j i) [
      | inl e ↦ subst (λ k. Linked s G (rs' k) k) (sym e) (subst (λ (r : Read). Linked s G r i) (sym here) new_link)
      | inr ne ↦ subst (λ (r : Read). Linked s G r j) (sym (there j ne)) (old_link j (h.links j (same_live j ne lv)))
    ];
    stands = λ k lt e. elim (cases_lt k (length F)) [
      | inl l ↦
          let st = h.stands k l (sym (ap (λ (r : Followed). r.is_open) (old_at k l)) ∙ e) in
          let ne = other st.place st.lives in
          record { place = st.place; lives = ap (λ (r : Read). ltb st.place slots && is_open r) (there st.place ne) ∙ st.lives; number = ap (λ (r : Read). r.number) (there st.place ne) ∙ st.number }
      | inr l ↦ record { place = i; lives = new_live; number = ap (λ (r : Read). r.number) here ∙ number ∙ (let c = h.count in let m = long in omega arith) }
    ];
    apart = λ a b la lb e. elim (cases_eq a i) [
      | inl p ↦ elim (cases_eq b i) [
        | inl q ↦ p ∙ sym q
        | inr q ↦ absurd (
            let k = h.links b (same_live b q lb) in
            let n = k.number in let m = k.among in let c = h.count in
            let u : (rs' a).number ≡ o + 1 = ap (λ z. (rs' z).number) p ∙ ap (λ (r : Read). r.number) here ∙ number in
            let v : (rs' b).number ≡ (rs b).number = ap (λ (r : Read). r.number) (there b q) in
            omega arith)
      ]
      | inr p ↦ elim (cases_eq b i) [
        | inl q ↦ absurd (
            let k = h.links a (same_live a p la) in
            let n = k.number in let m = k.among in let c = h.count in
            let u : (rs' b).number ≡ o + 1 = ap (λ z. (rs' z).number) q ∙ ap (λ (r : Read). r.number) here ∙ number in
            let v : (rs' a).number ≡ (rs a).number = ap (λ (r : Read). r.number) (there a p) in
            omega arith)
        | inr q ↦ h.apart a b (same_live a p la) (same_live b q lb) (sym (ap (λ (r : Read). r.number) (there a p)) ∙ e ∙ ap (λ (r : Read). r.number) (there b q))
      ]
    ];
    kept = λ j jc a b. elim (cases_eq j i) [
      | inl e ↦ absurd (both_ways (eqb (rs' j).state 1) b (ap (λ k. eqb (rs' k).state 1) e ∙ ap is_open here ∙ eq-eqb new.state 1 is_open_new))
      | inr ne ↦
          let t = there j ne in
          let k = h.kept j jc (sym (ap (λ (r : Read). eqb r.state 0) t) ∙ a) (sym (ap (λ (r : Read). eqb r.state 1) t) ∙ b) in
          let same = old_at k.index k.among in
          subst (Answers G) (sym t) (record {
            index = k.index;
            number = k.number;
            among = let l = k.among in let m = long in omega arith;
            client = ap (λ (r : Followed). r.client) same ∙ k.client;
            closed = ap (λ (r : Followed). r.is_open) same ∙ k.closed;
            tag = k.tag ∙ sym (ap (λ (r : Followed). r.tag) same);
            value = k.value ∙ sym (ap (λ (r : Followed). r.value) same);
          })
    ];
  }
