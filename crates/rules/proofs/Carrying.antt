-- A delivery keeps the values right; every run has them.
use Rattle.std.proofs.Common.{◌≡◌, ℕ, ◌<◌, true, cond, ◌&&◌, eqb, ltb, List, [], ◌∷◌, ◌++◌, length, get_or, drop, sym, refl, ap, ◌∙◌, ap₂, inl, inr, arith}
use Rattle.std.specs.List.{AllByRecursion}
use Rattle.std.proofs.lemmas.Bool.{cases_eq, eqb-true, and_parts, and_from, cond_both}
use Rattle.rules.proofs.RankedMessages.{Message, Written, Tagged, Question, Plain, Coded, tag}
use Rattle.rules.proofs.RankedWords.{upd, listed, posted, taken}
use Rattle.rules.proofs.Ranked.{Code, Entry, Waiting, Read, Server, State, holds, kept, is_open, slots, clients, queue, no_read}
use Rattle.std.proofs.lemmas.List.FromFn.{get_or-map-range_with_len, length-map-range_with_len}
use Rattle.rules.proofs.RankedSteps.{Outcome, Found, Turn, turn, check, unless, lane_refusal, entered, queued, reading, tells as hearing, answered, in_hand, history_room, fits, states, mixed, reply, question_done, open_slot, take_done, internal_answer, client_answer, settle, mendable, mended, got, oldest, deliver}
use Rattle.rules.proofs.Words.{upd_same, upd_other}
use Rattle.rules.proofs.Frames.{Fine}
use Rattle.std.proofs.ByRecursion.{All-push, All-drop}
use Rattle.rules.proofs.RankedFacts.{Lawful, AllowedMessage}
use Rattle.rules.proofs.Calls.{unless_both}
use Rattle.rules.proofs.Deliver.{lane_ends, open_found, mends}
use Rattle.rules.proofs.Source.{Sourced, FoundRight}
use Rattle.rules.proofs.Algebra.{Cells, Mix}
use Rattle.rules.proofs.Values.{live, StillReads, OfEntry, OfTag, Right, Told, Valued, kept_right, put_valued}
use Rattle.rules.proofs.Valuing.{closed_same, still_same, right_same, decoded_right}
use Rattle.rules.proofs.Mixing.{reply_right, states_of, held_of, mended_right}

module _ (g : Code) (R : Lawful g) (L : List Entry) (cells : Cells g R L) (S : State) (f : Fine g S) (src : Sourced g (OfEntry g R L) (OfTag g R L) S) (h : Valued g R L S) where
  abbrev Kept : Turn → Type 0
  Kept t = Valued g R L t.next

  module _ (a b : ℕ) (an : a < g.n) (bn : b < g.n) (ne : a ≡ b → ⊥) where
    taken_told : (P : ℕ → ℕ → Message → Type 0) (i j : ℕ) → AllByRecursion (P i j) (S.lanes i j) → AllByRecursion (P i j) (taken S.lanes a b i j)
    unfolding taken
    taken_told P i j q = cond_both (eqb i a && eqb j b) (drop 1 (S.lanes i j)) (S.lanes i j) (AllByRecursion (P i j)) (λ _. All-drop (P i j) 1 (S.lanes i j) q) (λ _. q)

    take_valued : (r : Server) → Right g R L b r → StillReads (S.servers b) r → Valued g R L (take_done g S a b r)
    unfolding take_done
    take_valued r right still = put_valued g R L S b r (taken S.lanes a b) f h (λ _. right) still
        (λ i j inn jn nn q. taken_told (λ i j. Told g R L i (upd S.servers b r i) (upd S.servers b r j)) i j q)

    -- the server that gets the message has its symbol, own tags and open reads as they were
    take_plain : (r : Server) → r.own ≡ (S.servers b).own → r.symbol ≡ (S.servers b).symbol → ((i : ℕ) → live r i ≡ true → r.reads i ≡ (S.servers b).reads i) → Valued g R L (take_done g S a b r)
    take_plain r eo es er = take_valued r (right_same g R L cells b (S.servers b) r (h.servers b bn) eo es er) (still_same (S.servers b) r er)

    settle_valued : (i : ℕ) (r : Read) (v : List ℕ) → Kept (settle g S a b i r v)
    unfolding settle reading entered
    settle_valued i r v =
        let p = S.servers b in
        let one = turn (Outcome 4) (take_done g S a b (client_answer g p i r v)) in
        let two = turn (Outcome 4) (take_done g S a b (internal_answer g p i r v)) in
        cond_both (ltb i clients) one (unless (check (history_room g S b) 15 0) S two) Kept
        (λ _. take_plain (client_answer g p i r v) refl refl (closed_same p.reads i (answered r v (r.tags r.object) 3) refl))
        (λ _. unless_both Kept (check (history_room g S b) 15 0) S two h (λ _. take_plain (internal_answer g p i r v) refl refl (closed_same p.reads i no_read refl)))

    queued_valued : (ws : List Waiting) → Valued g R L (take_done g S a b (queued (S.servers b) ws))
    unfolding queued
    queued_valued ws = take_plain (queued (S.servers b) ws) refl refl (λ i e. refl)

    heard_valued : (x t : ℕ) → Valued g R L (take_done g S a b (hearing (S.servers b) x a t))
    unfolding hearing
    heard_valued x t = take_plain (hearing (S.servers b) x a t) refl refl (λ i e. refl)

    question_valued : (m x : ℕ) (T : List ℕ) → Told g R L a (S.servers a) (S.servers b) (Question m x T) → Valued g R L (question_done g S a b (reply g b (S.servers b) m x T))
    unfolding question_done posted
    question_valued m x T told =
        let p = S.servers b in
        let P : ℕ → ℕ → Message → Type 0 = λ i j. Told g R L i (S.servers i) (S.servers j) in
        record {
          servers = h.servers;
          lanes = λ i j inn jn nn. cond_both (eqb i b && eqb j a) (taken S.lanes a b i j ++ reply g b p m x T ∷ []) (taken S.lanes a b i j) (AllByRecursion (P i j))
              (λ e. let q = and_parts (eqb i b) (eqb j a) e in
              All-push (P i j) (taken S.lanes a b i j) (reply g b p m x T) (taken_told P i j (h.lanes i j inn jn nn)) (rw (eqb-true i b q.0, eqb-true j a q.1) reply_told))
              (λ _. taken_told P i j (h.lanes i j inn jn nn));
        }
      where
        plain_told : holds (S.servers b).history x (get_or T x 0) ≡ true → Told g R L b (S.servers b) (S.servers a) (Plain m (kept g (S.servers b).history x (get_or T x 0)))
        plain_told held i lv nu =
            let w = told.1 i lv nu in
            kept_right g R L (S.servers b).history x (get_or T x 0) cells (src.servers b).history held
            ∙ sym (ap₂ (kept g L) w.0 (ap ((S.servers a).reads i).tags w.0 ∙ w.1 x told.0))

        reply_told : Told g R L b (S.servers b) (S.servers a) (reply g b (S.servers b) m x T)
        reply_told = cond_both (holds (S.servers b).history x (get_or T x 0)) (Plain m (kept g (S.servers b).history x (get_or T x 0))) (Coded m (mixed g b (S.servers b) T g.k) (listed g.k (λ y. states g b (S.servers b) y (get_or T y 0))))
            (Told g R L b (S.servers b) (S.servers a)) plain_told
            (λ _. (
              (λ y yk. rw (get_or-map-range_with_len (λ y. states g b (S.servers b) y (get_or T y 0)) 0 g.k y y 0 yk (omega arith))
                  (states_of g R L cells b (S.servers b) y (get_or T y 0) (src.servers b) (held_of g R L cells (S.servers b).history y (get_or T y 0) (src.servers b).history))),
              reply_right g R L cells b (S.servers b) T bn (h.servers b bn).symbol (src.servers b).history,
              length-map-range_with_len (λ y. states g b (S.servers b) y (get_or T y 0)) 0 g.k,
            ))

    -- one symbol more in hand
    hand_right : (i : ℕ) (v : List ℕ) → live (S.servers b) i ≡ true → Mix g R L a ((S.servers b).reads i).tags v → Right g R L b (reading (S.servers b) (upd (S.servers b).reads i (in_hand ((S.servers b).reads i) a v)))
    unfolding reading
    hand_right i v lv new =
        let p = S.servers b in
        let q = h.servers b bn in
        let r' = in_hand (p.reads i) a v in
        record {
          symbol = q.symbol;
          object = λ j e. elim (cases_eq j i) [
            | inl z ↦ rw (z, upd_same p.reads i r') (q.object i lv)
            | inr far ↦ let u = upd_other p.reads i j r' far in rw u (q.object j (rw u at e))
          ];
          hand = λ j e k kn w. elim (cases_eq j i) [
            | inl z ↦
                let u : upd p.reads i r' j ≡ r' = ap (upd p.reads i r') z ∙ upd_same p.reads i r' in
                rw u (hands i v lv new k kn (sym (ap (λ (r : Read). r.hand k) u) ∙ w))
            | inr far ↦ let u = upd_other p.reads i j r' far in rw u (q.hand j (rw u at e) k kn (rw u at w))
          ];
        }
      where
        hands : (i : ℕ) (v : List ℕ) → live (S.servers b) i ≡ true → Mix g R L a ((S.servers b).reads i).tags v → (k : ℕ) → k < g.n → upd ((S.servers b).reads i).hand a true k ≡ true
            → Mix g R L k ((S.servers b).reads i).tags (upd ((S.servers b).reads i).symbols a v k)
        hands i v lv new k kn w = elim (cases_eq k a) [
          | inl e ↦ rw (e, upd_same ((S.servers b).reads i).symbols a v) new
          | inr far ↦ rw (upd_other ((S.servers b).reads i).symbols a k v far) ((h.servers b bn).hand i lv k kn (sym (upd_other ((S.servers b).reads i).hand a k true far) ∙ w))
        ]

    -- all hands of the read with one symbol more
    pub all_hands : (i : ℕ) (v : List ℕ) → live (S.servers b) i ≡ true → Mix g R L a ((S.servers b).reads i).tags v
        → (k : ℕ) → k < g.n → (in_hand ((S.servers b).reads i) a v).hand k ≡ true → Mix g R L k ((S.servers b).reads i).tags ((in_hand ((S.servers b).reads i) a v).symbols k)
    all_hands i v lv new k kn w = elim (cases_eq k a) [
      | inl e ↦ rw (e, upd_same ((S.servers b).reads i).symbols a v) new
      | inr far ↦ rw (upd_other ((S.servers b).reads i).symbols a k v far) ((h.servers b bn).hand i lv k kn (sym (upd_other ((S.servers b).reads i).hand a k true far) ∙ w))
    ]

    hand_still : (i : ℕ) (v : List ℕ) → live (S.servers b) i ≡ true → StillReads (S.servers b) (reading (S.servers b) (upd (S.servers b).reads i (in_hand ((S.servers b).reads i) a v)))
    unfolding reading
    hand_still i v lv j e =
        let p = S.servers b in
        let r' = in_hand (p.reads i) a v in
        elim (cases_eq j i) [
          | inl z ↦ let u : upd p.reads i r' j ≡ r' = ap (upd p.reads i r') z ∙ upd_same p.reads i r' in
              inl (record { was = rw z lv; number = rw (u, z); object = rw (u, z); tags = rw (u, z) })
          | inr far ↦ let u = upd_other p.reads i j r' far in
              inl (record { was = rw u at e; number = ap (λ (r : Read). r.number) u; object = ap (λ (r : Read). r.object) u; tags = ap (λ (r : Read). r.tags) u })
        ]

    slot_live : (m : ℕ) → ltb (open_slot g (S.servers b) m) slots ≡ true → live (S.servers b) (open_slot g (S.servers b) m) ≡ true
    slot_live m e = and_from (ltb (open_slot g (S.servers b) m) slots) (is_open ((S.servers b).reads (open_slot g (S.servers b) m))) e (open_found g (S.servers b) m e).0

    got_valued : (m : Message) (d : Found) → Told g R L a (S.servers a) (S.servers b) m → Kept (got g S a b m d)
    unfolding got
    got_valued (Written x v t ck) d told =
        let p = S.servers b in
        let ws = p.waiting ++ record { object = x; tag = tag t a; value = v; clock = ck } ∷ [] in
        unless_both Kept (check (ltb (length p.waiting) queue) 18 0) S (turn (Outcome 0) (take_done g S a b (queued p ws))) h (λ _. queued_valued ws)
    got_valued (Tagged x t) d told = heard_valued x t
    got_valued (Question m x T) d told =
        let p = S.servers b in
        unless_both Kept (check (ltb (length (S.lanes b a)) g.places) 17 0) S (turn (Outcome (cond (holds p.history x (get_or T x 0)) 1 2)) (question_done g S a b (reply g b p m x T))) h (λ _. question_valued m x T told)
    got_valued (Plain m v) d told =
        let p = S.servers b in
        let i = open_slot g p m in
        cond_both (ltb i slots) (settle g S a b i (p.reads i) v) (turn (Outcome 5) (take_done g S a b p)) Kept (λ _. settle_valued i (p.reads i) v) (λ _. take_plain p refl refl (λ i e. refl))
    got_valued (Coded m v st) d told =
        let p = S.servers b in
        let i = open_slot g p m in
        let r = p.reads i in
        let w = mended g p a r v st g.k in
        let r' = in_hand r a w in
        let useless = turn (Outcome 6) (take_done g S a b p) in
        let wait = turn (Outcome 3) (take_done g S a b (reading p (upd p.reads i r'))) in
        cond_both (ltb i slots) (cond (mendable g p a r st) (cond d.recovered (settle g S a b i r' d.value) wait) useless) (turn (Outcome 5) (take_done g S a b p)) Kept
        (λ e. cond_both (mendable g p a r st) (cond d.recovered (settle g S a b i r' d.value) wait) useless Kept
        (λ q. cond_both d.recovered (settle g S a b i r' d.value) wait Kept (λ _. settle_valued i r' d.value)
        (λ _. take_valued (reading p (upd p.reads i r')) (hand_right i w (slot_live m e) (mended_right g R L cells p a r v st an (src.servers b).history q told.1)) (hand_still i w (slot_live m e))))
        (λ _. take_plain p refl refl (λ i e. refl)))
        (λ _. take_plain p refl refl (λ i e. refl))

    oldest_valued : (l : List Message) (d : Found) → AllByRecursion (Told g R L a (S.servers a) (S.servers b)) l → Kept (oldest g S a b l d)
    unfolding oldest
    oldest_valued [] d all = h
    oldest_valued (m ∷ ms) d all = cond_both (fits g m) (got g S a b m d) (turn (Outcome 7) (take_done g S a b (S.servers b))) Kept (λ _. got_valued m d all.0) (λ _. take_plain (S.servers b) refl refl (λ i e. refl))

    -- the value that answers an open read is the one under its tag
    pub plain_right : (m : ℕ) (v : List ℕ) (ms : List Message) → S.lanes a b ≡ Plain m v ∷ ms → (l : ltb (open_slot g (S.servers b) m) slots ≡ true)
        → (let r = (S.servers b).reads (open_slot g (S.servers b) m) in v ≡ kept g L r.object (r.tags r.object))
    plain_right m v ms e l =
        let i = open_slot g (S.servers b) m in
        let all : AllByRecursion (Told g R L a (S.servers a) (S.servers b)) (Plain m v ∷ ms) = rw e at (h.lanes a b an bn ne) in
        all.0 i (slot_live m l) (open_found g (S.servers b) m l).1

    pub coded_right : (m : ℕ) (v st : List ℕ) (ms : List Message) (d : Found) → S.lanes a b ≡ Coded m v st ∷ ms → AllowedMessage g S a b (Coded m v st) d → (l : ltb (open_slot g (S.servers b) m) slots ≡ true) → d.recovered ≡ true
        → (let r = (S.servers b).reads (open_slot g (S.servers b) m) in d.value ≡ kept g L r.object (r.tags r.object))
    coded_right m v st ms d e ok l rec =
        let p = S.servers b in
        let i = open_slot g p m in
        let r = p.reads i in
        let all : AllByRecursion (Told g R L a (S.servers a) (S.servers b)) (Coded m v st ∷ ms) = rw e at (h.lanes a b an bn ne) in
        let lv = slot_live m l in
        let w = mended g p a r v st g.k in
        let mend = mends g S f a b an bn ne m v st ms e l in
        decoded_right g R L cells (in_hand r a w).hand (in_hand r a w).symbols r.object d.value r.tags ((h.servers b bn).object i lv) ((ok l mend).decoded rec)
        (all_hands i w lv (mended_right g R L cells p a r v st an (src.servers b).history mend all.0.1))

    -- the value that answers an internal read is the one under its tag
    pub found_right : (m : Message) (ms : List Message) (d : Found) → S.lanes a b ≡ m ∷ ms → AllowedMessage g S a b m d
        → FoundRight g (OfEntry g R L) (OfTag g R L) (λ e q. q.0) (λ x. refl) S src a b m d
    found_right (Written x v t ck) ms d e ok = tt
    found_right (Tagged x t) ms d e ok = tt
    found_right (Question m x T) ms d e ok = tt
    found_right (Plain m v) ms d e ok = λ l c.
        let i = open_slot g (S.servers b) m in
        let all : AllByRecursion (Told g R L a (S.servers a) (S.servers b)) (Plain m v ∷ ms) = rw e at (h.lanes a b an bn ne) in
        ((src.servers b).reads i ((S.servers b).reads i).object, all.0 i (slot_live m l) (open_found g (S.servers b) m l).1)
    found_right (Coded m v st) ms d e ok = λ l c rec.
        let p = S.servers b in
        let i = open_slot g p m in
        let r = p.reads i in
        let all : AllByRecursion (Told g R L a (S.servers a) (S.servers b)) (Coded m v st ∷ ms) = rw e at (h.lanes a b an bn ne) in
        let lv = slot_live m l in
        let w = mended g p a r v st g.k in
        let mend = mends g S f a b an bn ne m v st ms e l in
        let t = ok l mend in (
          (src.servers b).reads i r.object,
          decoded_right g R L cells (in_hand r a w).hand (in_hand r a w).symbols r.object d.value r.tags ((h.servers b bn).object i lv) (t.decoded rec)
              (all_hands i w lv (mended_right g R L cells p a r v st an (src.servers b).history mend all.0.1)),
        )

  pub deliver_valued : (a b : ℕ) (d : Found) → Kept (deliver g S a b d)
  unfolding deliver
  deliver_valued a b d = unless_both Kept (lane_refusal g a b) S (oldest g S a b (S.lanes a b) d) h (λ e.
      let w = lane_ends g a b e in oldest_valued a b w.0 w.1 w.2 (S.lanes a b) d (h.lanes a b w.0 w.1 w.2))
