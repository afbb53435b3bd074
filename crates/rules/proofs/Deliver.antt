-- A delivery keeps the core sound, and never answers 6.
use Rattle.std.proofs.Common.{◌≡◌, ℕ, ◌<◌, Bool, true, false, cond, not, ◌&&◌, ◌||◌, eqb, ltb, ◌⊎◌, List, [], ◌∷◌, ◌++◌, length, get_or, sym, refl, ap, ◌∙◌, inl, inr, ⊎_elim, arith}
use Rattle.std.proofs.lemmas.Bool.{both_ways, cases_Bool, cases_eq, eq-eqb, ne_eqb, eqb-true, eqb-false, ltb-true, and_parts, and_from, or_left, or_right, not-true, cond_both}
use Rattle.rules.proofs.RankedMessages.{Message, Written, Tagged, Question, Plain, Coded, tag}
use Rattle.rules.proofs.RankedWords.{upd, listed, taken}
use Rattle.rules.proofs.Core.{heard, Good}
use Rattle.rules.proofs.Ranked.{Code, Read, Server, State, has, holds, kept, is_open, core, slots, clients, queue}
use Rattle.std.proofs.lemmas.List.FromFn.{get_or-map-range_with_len}
use Rattle.rules.proofs.RankedSteps.{Refused, Outcome, Found, Turn, turn, check, unless, lane_refusal, queued, reading, tells as hearing, answered, in_hand, history_room, fits, states, mixed, reply, question_done, open_slot, take_done, internal_answer, client_answer, settle, mendable, mended, got, oldest, deliver}
use Rattle.rules.proofs.Words.{upd_same, upd_other, upd_keeps, every_from, seek_found}
use Rattle.rules.proofs.Carry.{good_carry}
use Rattle.rules.proofs.Take.{take_keeps}
use Rattle.rules.proofs.Replies.{stated, replies, counts, usable}
use Rattle.rules.proofs.Frames.{Mild, mild_self, taken_here, taken_else, with_lanes, Fine, fine_put, fine_post, fine_take}
use Rattle.rules.proofs.Calls.{unless_both, checked, queued_mild, reading_mild, internal_mild}

-- the two ends of a lane that is not refused
pub lane_ends : (g : Code) (a b : ℕ) → lane_refusal g a b ≡ 0 → (a < g.n) × (b < g.n) × (a ≡ b → ⊥)
unfolding lane_refusal
lane_ends g a b e =
    let p = checked (ltb a g.n && ltb b g.n) 7 (check (not (eqb a b)) 12 0) (omega arith) e in
    let q = and_parts (ltb a g.n) (ltb b g.n) p.0 in
    let r = checked (not (eqb a b)) 12 0 (omega arith) p.1 in
    (ltb-true a g.n q.0, ltb-true b g.n q.1, eqb-false a b (not-true (eqb a b) r.0))

-- what a server states is what the core's word says
pub states_stated : (g : Code) (s : ℕ) (p : Server) (y u : ℕ) → has g s y ≡ true → states g s p y u ≡ stated u (p.own y) (holds p.history y (p.own y)) (holds p.history y u)
unfolding states
states_stated g s p y u e = ap (λ b. cond (b && (not (eqb u (p.own y)) && holds p.history y (p.own y))) (cond (holds p.history y u) u 0) (p.own y)) e
    ∙ same_ways (eqb u (p.own y)) (holds p.history y (p.own y)) (cond (holds p.history y u) u 0) (p.own y)
  where
    same_ways : (a b : Bool) (v o : ℕ) → cond (not a && b) v o ≡ cond a o (cond b v o)
    same_ways true b v o = refl
    same_ways false true v o = refl
    same_ways false false v o = refl

reply_quiet : (g : Code) (s : ℕ) (p : Server) (m x : ℕ) (T : List ℕ) (y o : ℕ) → heard y o (reply g s p m x T) ≡ o
reply_quiet g s p m x T y o = cond_both (holds p.history x (get_or T x 0)) (Plain m (kept g p.history x (get_or T x 0))) (Coded m (mixed g s p T g.k) (listed g.k (λ y. states g s p y (get_or T y 0))))
    (λ z. heard y o z ≡ o) (λ _. refl) (λ _. refl)

pub open_found : (g : Code) (p : Server) (m : ℕ) → ltb (open_slot g p m) slots ≡ true → (is_open (p.reads (open_slot g p m)) ≡ true) × ((p.reads (open_slot g p m)).number ≡ m)
open_found g p m e =
    let q = seek_found slots (λ i. is_open (p.reads i) && eqb (p.reads i).number m) (ltb-true (open_slot g p m) slots e) in
    let r = and_parts (is_open (p.reads (open_slot g p m))) (eqb (p.reads (open_slot g p m)).number m) q in
    (r.0, eqb-true (p.reads (open_slot g p m)).number m r.1)

module _ (g : Code) (S : State) (h : Fine g S) (a b : ℕ) (an : a < g.n) (bn : b < g.n) (ne : a ≡ b → ⊥) where
  abbrev Kept : Turn → Type 0
  Kept t = Fine g t.next

  -- a message other than a tag notice is taken, and the server changes mildly
  taken_fine : (m : Message) (ms : List Message) (r : Server) → S.lanes a b ≡ m ∷ ms → ((y o : ℕ) → heard y o m ≡ o) → Mild (S.servers b) r → Fine g (take_done g S a b r)
  unfolding take_done
  taken_fine m ms r e quiet mild = fine_put g (with_lanes S (taken S.lanes a b)) b r (fine_take g S a b m ms an bn ne e h quiet) mild

  -- a tag notice is heard
  notice_fine : (x t : ℕ) (ms : List Message) → S.lanes a b ≡ Tagged x t ∷ ms → Fine g (take_done g S a b (hearing (S.servers b) x a t))
  unfolding take_done hearing
  notice_fine x t ms e =
      let p = S.servers b in
      let r = hearing p x a t in
      let R : State = record { servers = upd S.servers b r; lanes = taken S.lanes a b } in
      take_keeps g.n g.k (has g) (core S) (core R) a b (Tagged x t) an bn ne h (record {
        own = λ i y. upd_keeps (λ (q : Server). q.own y) S.servers b i r refl;
        held = λ i y u. upd_keeps (λ (q : Server). holds q.history y u) S.servers b i r refl;
        live = λ i k. upd_keeps (λ (q : Server). ltb k slots && is_open (q.reads k)) S.servers b i r refl;
        num = λ i k. upd_keeps (λ (q : Server). (q.reads k).number) S.servers b i r refl;
        want = λ i k y. upd_keeps (λ (q : Server). (q.reads k).tags y) S.servers b i r refl;
        last = λ i. upd_keeps (λ (q : Server). q.opened) S.servers b i r refl;
        front = taken_here S.lanes a b (Tagged x t) ms e;
        others = λ i j. taken_else S.lanes a b i j;
        hears = λ y. ap (λ (q : Server). q.told y a) (upd_same S.servers b r) ∙ told_here y;
        else = λ i y j far. elim (cases_eq i b) [
          | inl q ↦ rw (q, upd_same S.servers b r) (told_else y j (λ z. far q z))
          | inr w ↦ ap (λ (q : Server). q.told y j) (upd_other S.servers b i r w)
        ];
      })
    where
      told_here : (y : ℕ) → upd (S.servers b).told x (upd ((S.servers b).told x) a t) y a ≡ cond (eqb x y) t ((S.servers b).told y a)
      told_here y = elim (cases_eq x y) [
        | inl q ↦ rw (eq-eqb x y q, ← q) (ap (λ (z : ℕ → ℕ). z a) (upd_same (S.servers b).told x (upd ((S.servers b).told x) a t)) ∙ upd_same ((S.servers b).told x) a t)
        | inr w ↦ rw (ne_eqb x y w) (ap (λ (z : ℕ → ℕ). z a) (upd_other (S.servers b).told x y (upd ((S.servers b).told x) a t) (λ z. w (sym z))))
      ]

      told_else : (y j : ℕ) → (j ≡ a → ⊥) → upd (S.servers b).told x (upd ((S.servers b).told x) a t) y j ≡ (S.servers b).told y j
      told_else y j far = elim (cases_eq y x) [
        | inl q ↦ rw q (ap (λ (z : ℕ → ℕ). z j) (upd_same (S.servers b).told x (upd ((S.servers b).told x) a t)) ∙ upd_other ((S.servers b).told x) a j t far)
        | inr w ↦ ap (λ (z : ℕ → ℕ). z j) (upd_other (S.servers b).told x y (upd ((S.servers b).told x) a t) w)
      ]

  -- what is good of a message in another lane stays good
  carried : (m : Message) → Good g.n g.k (has g) (core S) b a (S.lanes b a) m
      → Good g.n g.k (has g) (core (with_lanes S (taken S.lanes a b))) b a (taken S.lanes a b b a) m
  carried m q = rw (taken_else S.lanes a b b a (λ e _. ne (sym e)))
      (good_carry g.n g.k (has g) (core S) (core (with_lanes S (taken S.lanes a b))) b a (S.lanes b a) (S.lanes b a)
      (record { last = λ s. omega arith; live = λ s i. refl; num = λ s i. refl; want = λ s i y. refl; same = λ y. refl; more = λ y u on. on; kept = λ y u i k. k; held = λ y u e. e }) m q)

  question_fine : (m x : ℕ) (T : List ℕ) (ms : List Message) → S.lanes a b ≡ Question m x T ∷ ms → Fine g (question_done g S a b (reply g b (S.servers b) m x T))
  unfolding question_done
  question_fine m x T ms e =
      let p = S.servers b in
      fine_post g (with_lanes S (taken S.lanes a b)) b a (reply g b p m x T) (fine_take g S a b (Question m x T) ms an bn ne e h (λ y o. refl)) (reply_quiet g b p m x T)
      (carried (reply g b p m x T)
      (cond_both (holds p.history x (get_or T x 0)) (Plain m (kept g p.history x (get_or T x 0))) (Coded m (mixed g b p T g.k) (listed g.k (λ y. states g b p y (get_or T y 0))))
      (Good g.n g.k (has g) (core S) b a (S.lanes b a))
      (λ _. counts g.n g.k (has g) (core S) h a b m x T ms an bn ne e)
      (λ _. replies g.n g.k (has g) (core S) h a b m x T ms an bn ne e (mixed g b p T g.k) (listed g.k (λ y. states g b p y (get_or T y 0)))
      (λ y lt f. get_or-map-range_with_len (λ y. states g b p y (get_or T y 0)) 0 g.k y y 0 lt (omega arith) ∙ states_stated g b p y (get_or T y 0) f))))

  -- the read at the place i, with what is in hand or not, is answered
  settle_fine : (m : Message) (ms : List Message) (i : ℕ) (r : Read) (v : List ℕ) → S.lanes a b ≡ m ∷ ms → ((y o : ℕ) → heard y o m ≡ o) → Kept (settle g S a b i r v)
  unfolding settle
  settle_fine m ms i r v e quiet =
      let p = S.servers b in
      let one = turn (Outcome 4) (take_done g S a b (client_answer g p i r v)) in
      let two = turn (Outcome 4) (take_done g S a b (internal_answer g p i r v)) in
      cond_both (ltb i clients) one (unless (check (history_room g S b) 15 0) S two) Kept
      (λ _. taken_fine m ms (client_answer g p i r v) e quiet (reading_mild p i (answered r v (r.tags r.object) 3) (λ z. absurd (both_ways false refl z))))
      (λ _. unless_both Kept (check (history_room g S b) 15 0) S two h (λ _. taken_fine m ms (internal_answer g p i r v) e quiet (internal_mild p i (record { object = r.object; tag = r.tags r.object; value = v }))))

  got_fine : (m : Message) (ms : List Message) (f : Found) → S.lanes a b ≡ m ∷ ms → Kept (got g S a b m f)
  unfolding got
  got_fine (Written x v t ck) ms f e =
      let p = S.servers b in
      let r = queued p (p.waiting ++ record { object = x; tag = tag t a; value = v; clock = ck } ∷ []) in
      unless_both Kept (check (ltb (length p.waiting) queue) 18 0) S (turn (Outcome 0) (take_done g S a b r)) h (λ _. taken_fine (Written x v t ck) ms r e (λ y o. refl) (queued_mild p _))
  got_fine (Tagged x t) ms f e = notice_fine x t ms e
  got_fine (Question m x T) ms f e =
      let p = S.servers b in
      unless_both Kept (check (ltb (length (S.lanes b a)) g.places) 17 0) S (turn (Outcome (cond (holds p.history x (get_or T x 0)) 1 2)) (question_done g S a b (reply g b p m x T))) h (λ _. question_fine m x T ms e)
  got_fine (Plain m v) ms f e =
      let p = S.servers b in
      let i = open_slot g p m in
      cond_both (ltb i slots) (settle g S a b i (p.reads i) v) (turn (Outcome 5) (take_done g S a b p)) Kept
      (λ _. settle_fine (Plain m v) ms i (p.reads i) v e (λ y o. refl)) (λ _. taken_fine (Plain m v) ms p e (λ y o. refl) (mild_self p))
  got_fine (Coded m v st) ms f e =
      let p = S.servers b in
      let i = open_slot g p m in
      let r = p.reads i in
      let r' = in_hand r a (mended g p a r v st g.k) in
      let drop_it = turn (Outcome 5) (take_done g S a b p) in
      let useless = turn (Outcome 6) (take_done g S a b p) in
      let wait = turn (Outcome 3) (take_done g S a b (reading p (upd p.reads i r'))) in
      let dropped = taken_fine (Coded m v st) ms p e (λ y o. refl) (mild_self p) in
      cond_both (ltb i slots) (cond (mendable g p a r st) (cond f.recovered (settle g S a b i r' f.value) wait) useless) drop_it Kept
      (λ _. cond_both (mendable g p a r st) (cond f.recovered (settle g S a b i r' f.value) wait) useless Kept
      (λ _. cond_both f.recovered (settle g S a b i r' f.value) wait Kept
      (λ _. settle_fine (Coded m v st) ms i r' f.value e (λ y o. refl))
      (λ _. taken_fine (Coded m v st) ms (reading p (upd p.reads i r')) e (λ y o. refl) (reading_mild p i r' (λ z. (z, refl, refl)))))
      (λ _. dropped))
      (λ _. dropped)

  oldest_fine : (l : List Message) (f : Found) → S.lanes a b ≡ l → ((m : Message) (ms : List Message) → l ≡ m ∷ ms → ((y o : ℕ) → heard y o m ≡ o) ⊎ (fits g m ≡ true)) → Kept (oldest g S a b l f)
  unfolding oldest
  oldest_fine [] f e noticed = h
  oldest_fine (m ∷ ms) f e noticed = cond_both (fits g m) (got g S a b m f) (turn (Outcome 7) (take_done g S a b (S.servers b))) Kept
      (λ _. got_fine m ms f e)
      (λ q. ⊎_elim (λ quiet. taken_fine m ms (S.servers b) e quiet (mild_self (S.servers b))) (λ w. absurd (both_ways (fits g m) q w)) (noticed m ms refl))

  -- a reply that can be used is not told to be unusable
  pub mends : (m : ℕ) (v st : List ℕ) (ms : List Message) → S.lanes a b ≡ Coded m v st ∷ ms → ltb (open_slot g (S.servers b) m) slots ≡ true
      → mendable g (S.servers b) a ((S.servers b).reads (open_slot g (S.servers b) m)) st ≡ true
  mends m v st ms e lt =
      let p = S.servers b in
      let i = open_slot g p m in
      let o = open_found g p m lt in
      every_from g.k (λ y. not (has g a y) || (eqb (get_or st y 0) ((p.reads i).tags y) || (holds p.history y (get_or st y 0) && holds p.history y ((p.reads i).tags y)))) (λ y yk.
      elim (cases_Bool (has g a y)) [
        | inl f ↦ or_right (not (has g a y)) _ (⊎_elim
            (λ q. or_left (eqb (get_or st y 0) ((p.reads i).tags y)) _ (eq-eqb (get_or st y 0) ((p.reads i).tags y) q))
            (λ q. or_right (eqb (get_or st y 0) ((p.reads i).tags y)) _ (and_from (holds p.history y (get_or st y 0)) (holds p.history y ((p.reads i).tags y)) q.0 q.1))
            (usable g.n g.k (has g) (core S) h a b m v st ms an bn ne e i (and_from (ltb i slots) (is_open (p.reads i)) lt o.0) o.1 y yk f))
        | inr f ↦ or_left (not (has g a y)) _ (rw f)
      ])

abbrev NotSix : Turn → Type 0
NotSix t = t.answer ≡ Outcome 6 → ⊥

outcome_ne : (i : ℕ) → (i ≡ 6 → ⊥) → Outcome i ≡ Outcome 6 → ⊥
outcome_ne i ne e = ne (cc)

refused_ne : (i : ℕ) → Refused i ≡ Outcome 6 → ⊥
refused_ne i e = let z : ◌≡◌ {A = ℕ} 0 1 = cc in omega arith

settle_six : (g : Code) (S : State) (a b i : ℕ) (r : Read) (v : List ℕ) → NotSix (settle g S a b i r v)
unfolding settle
settle_six g S a b i r v =
    let p = S.servers b in
    let one = turn (Outcome 4) (take_done g S a b (client_answer g p i r v)) in
    let two = turn (Outcome 4) (take_done g S a b (internal_answer g p i r v)) in
    cond_both (ltb i clients) one (unless (check (history_room g S b) 15 0) S two) NotSix (λ _. outcome_ne 4 (λ e. omega arith))
    (λ _. unless_both NotSix (check (history_room g S b) 15 0) S two (refused_ne _) (λ _. outcome_ne 4 (λ e. omega arith)))

module _ (g : Code) (S : State) (h : Fine g S) (a b : ℕ) (an : a < g.n) (bn : b < g.n) (ne : a ≡ b → ⊥) where
  got_six : (m : Message) (ms : List Message) (f : Found) → S.lanes a b ≡ m ∷ ms → NotSix (got g S a b m f)
  unfolding got
  got_six (Written x v t ck) ms f e =
      let p = S.servers b in
      let r = queued p (p.waiting ++ record { object = x; tag = tag t a; value = v; clock = ck } ∷ []) in
      unless_both NotSix (check (ltb (length p.waiting) queue) 18 0) S (turn (Outcome 0) (take_done g S a b r)) (refused_ne _) (λ _. outcome_ne 0 (λ z. omega arith))
  got_six (Tagged x t) ms f e = outcome_ne 0 (λ z. omega arith)
  got_six (Question m x T) ms f e =
      let p = S.servers b in
      let c = holds p.history x (get_or T x 0) in
      unless_both NotSix (check (ltb (length (S.lanes b a)) g.places) 17 0) S (turn (Outcome (cond c 1 2)) (question_done g S a b (reply g b p m x T))) (refused_ne _)
      (λ _. outcome_ne (cond c 1 2) (cond_both c 1 2 (λ z. z ≡ 6 → ⊥) (λ _ z. omega arith) (λ _ z. omega arith)))
  got_six (Plain m v) ms f e =
      let p = S.servers b in
      let i = open_slot g p m in
      cond_both (ltb i slots) (settle g S a b i (p.reads i) v) (turn (Outcome 5) (take_done g S a b p)) NotSix (λ _. settle_six g S a b i (p.reads i) v) (λ _. outcome_ne 5 (λ z. omega arith))
  got_six (Coded m v st) ms f e =
      let p = S.servers b in
      let i = open_slot g p m in
      let r = p.reads i in
      let r' = in_hand r a (mended g p a r v st g.k) in
      let useless = turn (Outcome 6) (take_done g S a b p) in
      let wait = turn (Outcome 3) (take_done g S a b (reading p (upd p.reads i r'))) in
      cond_both (ltb i slots) (cond (mendable g p a r st) (cond f.recovered (settle g S a b i r' f.value) wait) useless) (turn (Outcome 5) (take_done g S a b p)) NotSix
      (λ lt. cond_both (mendable g p a r st) (cond f.recovered (settle g S a b i r' f.value) wait) useless NotSix
      (λ _. cond_both f.recovered (settle g S a b i r' f.value) wait NotSix (λ _. settle_six g S a b i r' f.value) (λ _. outcome_ne 3 (λ z. omega arith)))
      (λ q. absurd (both_ways (mendable g p a r st) q (mends g S h a b an bn ne m v st ms e lt))))
      (λ _. outcome_ne 5 (λ z. omega arith))

  oldest_six : (l : List Message) (f : Found) → S.lanes a b ≡ l → NotSix (oldest g S a b l f)
  unfolding oldest
  oldest_six [] f e = refused_ne 13
  oldest_six (m ∷ ms) f e = cond_both (fits g m) (got g S a b m f) (turn (Outcome 7) (take_done g S a b (S.servers b))) NotSix (λ _. got_six m ms f e) (λ _. outcome_ne 7 (λ z. omega arith))

-- tag notices are within their ranges
abbrev pub Noticed : Code → State → Type 0
Noticed g S = (a b x t : ℕ) (ms : List Message) → S.lanes a b ≡ Tagged x t ∷ ms → fits g (Tagged x t) ≡ true

quiet_or : (g : Code) (S : State) (a b : ℕ) → Noticed g S → (m : Message) (ms : List Message) → S.lanes a b ≡ m ∷ ms → ((y o : ℕ) → heard y o m ≡ o) ⊎ (fits g m ≡ true)
quiet_or g S a b h (Written x v t ck) ms e = inl (λ y o. refl)
quiet_or g S a b h (Tagged x t) ms e = inr (h a b x t ms e)
quiet_or g S a b h (Question m x T) ms e = inl (λ y o. refl)
quiet_or g S a b h (Plain m v) ms e = inl (λ y o. refl)
quiet_or g S a b h (Coded m v st) ms e = inl (λ y o. refl)

module _ (g : Code) (S : State) (h : Fine g S) (a b : ℕ) (f : Found) where
  pub deliver_keeps : Noticed g S → Fine g (deliver g S a b f).next
  unfolding deliver
  deliver_keeps noticed = unless_both (λ t. Fine g t.next) (lane_refusal g a b) S (oldest g S a b (S.lanes a b) f) h (λ e.
      let w = lane_ends g a b e in oldest_fine g S h a b w.0 w.1 w.2 (S.lanes a b) f refl (λ m ms. quiet_or g S a b noticed m ms))

  pub deliver_six : (deliver g S a b f).answer ≡ Outcome 6 → ⊥
  unfolding deliver
  deliver_six = unless_both NotSix (lane_refusal g a b) S (oldest g S a b (S.lanes a b) f) (refused_ne _) (λ e.
      let w = lane_ends g a b e in oldest_six g S h a b w.0 w.1 w.2 (S.lanes a b) f refl)
