-- Where entries and tags come from: a claim on every entry, and one on every tag of an object, that every call keeps.
use Rattle.std.proofs.Common.{◌≡◌, ℕ, zero, suc, ◌+◌, ◌-◌, ◌<◌, Bool, true, false, cond, not, ◌&&◌, ◌||◌, eqb, ltb, leb, List, [], ◌∷◌, ◌++◌, length, get_or, take, drop, Some, None, filter, Option, refl, subst, inl, inr, ⊎_elim, arith}
use Rattle.std.specs.List.{AllByRecursion}
use Rattle.std.proofs.lemmas.Bool.{both_ways, cases_eq, eqb-true, leb-false, and_parts, or_cases, cond_both}
use Rattle.rules.proofs.RankedMessages.{Message, Written, Tagged, Question, Plain, Coded, tag, height, server}
use Rattle.rules.proofs.RankedWords.{upd, listed, Lanes, posted, spread, taken}
use Rattle.rules.proofs.Ranked.{Code, Entry, Waiting, Read, Server, State, has, holds, enters, same_entry, kept, highest, top_tag, swap, is_open, slots, clients, queue, most_reads, no_read}
use Rattle.rules.proofs.RankedSteps as Steps
use Rattle.rules.proofs.RankedSteps.{Tag, Value, Number, Still, Outcome, Count, Found, Turn, turn, check, unless, write_refusal, open_refusal, read_refusal, read_found, collect_refusal, collect_at, object_refusal, lane_refusal, entered, counted, queued, sifted, reading, tells as hearing, moved, new_read, opening, answered, in_hand, overtaken, Picked, room, history_room, write_tag, write_done, write, open_done, free_slot, open_read, from_history, from_symbol, read, client_slot, collect_done, collect, wait_tag, next_ready, picked, apply_done, apply_picked, apply, move_done, enter_done, encode_contained, within, encode_other, encode, stays, settled, swept, sweep_done, sweep, fits, states, mixed, reply, question_done, open_slot, take_done, internal_answer, client_answer, settle, mendable, mended, got, oldest, deliver}
use Rattle.rules.proofs.Words.{upd_same, upd_other, highest_found}
use Rattle.std.proofs.ByRecursion.{All-push, All-drop, All-take, All-append, All-get_or, all_kept_by}
use Rattle.rules.proofs.Calls.{unless_both, object_object}

abbrev pub waited : Code → Waiting → Entry
waited g v = record { object = v.object; tag = wait_tag g v; value = v.value }

-- the place that is picked is one of those looked at, and its write is ready
pub record Picks (g : Code) (p : Server) (ws : List Waiting) (n i : ℕ) : Type 0 where
  pub below : i < n
  pub ready : Steps.ready g p (Steps.write_at ws i) ≡ true

pub next_picks : (g : Code) (p : Server) (ws : List Waiting) (n i : ℕ) → next_ready g p ws n ≡ Some i → Picks g p ws n i
unfolding next_ready
next_picks g p ws zero i = λ e. absurd (let z : ◌≡◌ {A = ℕ} 0 1 = cc in omega arith)
next_picks g p ws (suc n) i = cond_both (Steps.ready g p (Steps.write_at ws n)) (Steps.better g ws (next_ready g p ws n) n) (next_ready g p ws n) (λ o. o ≡ Some i → Picks g p ws (suc n) i)
    (λ r. by (next_ready g p ws n) (λ j e. next_picks g p ws n j e) r) (λ _ e. further i (next_picks g p ws n i e))
  where
    further : (j : ℕ) → Picks g p ws n j → Picks g p ws (suc n) j
    further j q = record { below = let l = q.below in omega arith; ready = q.ready }

    here : (j : ℕ) → Steps.ready g p (Steps.write_at ws n) ≡ true → ◌≡◌ {A = Option ℕ} (Some n) (Some j) → Picks g p ws (suc n) j
    here j r e = let z : n ≡ j = cc in record { below = omega arith; ready = subst (λ k. Steps.ready g p (Steps.write_at ws k) ≡ true) z r }

    by : (o : Option ℕ) → ((j : ℕ) → o ≡ Some j → Picks g p ws n j) → Steps.ready g p (Steps.write_at ws n) ≡ true → Steps.better g ws o n ≡ Some i → Picks g p ws (suc n) i
    by None ih r = λ e. here i r e
    by (Some b) ih r = cond_both (ltb (Steps.write_at ws n).tag (Steps.write_at ws b).tag) (Some n) (Some b) (λ o. o ≡ Some i → Picks g p ws (suc n) i) (λ _ e. here i r e)
        (λ _ e. further i (ih i e))

next_below : (g : Code) (p : Server) (ws : List Waiting) (n i : ℕ) → next_ready g p ws n ≡ Some i → i < n
next_below g p ws n i e = (next_picks g p ws n i e).below

module _ (g : Code) (E : Entry → Type 0) (O : ℕ → ℕ → Type 0) where
  pub record Owner (p : Server) : Type 0 where
    pub own : (x : ℕ) → O x (p.own x)
    pub history : AllByRecursion E p.history
    pub waiting : AllByRecursion (λ v. E (waited g v)) p.waiting
    pub reads : (i y : ℕ) → O y ((p.reads i).tags y)

  -- of a message from a
  abbrev pub Sent : ℕ → Message → Type 0
  Sent a (Written x v h ck) = E (record { object = x; tag = tag h a; value = v })
  Sent a (Tagged x t) = (x < g.k) × O x t
  Sent a (Question p x T) = Unit {0}
  Sent a (Plain p v) = Unit {0}
  Sent a (Coded p v st) = Unit {0}

  pub record Sourced (S : State) : Type 0 where
    pub servers : (s : ℕ) → Owner (S.servers s)
    pub lanes : (a b : ℕ) → AllByRecursion (Sent a) (S.lanes a b)

  abbrev pub Chosen : Option Picked → Type 0
  Chosen None = Unit {0}
  Chosen (Some b) = E (waited g b.write) × AllByRecursion (λ v. E (waited g v)) b.others

module _ (g : Code) (E : Entry → Type 0) (O : ℕ → ℕ → Type 0) (up : (e : Entry) → E e → O e.object e.tag) (none : (x : ℕ) → O x 0) where
  -- what is entered has its claim
  entered_tag : (es : List Entry) (x t : ℕ) → AllByRecursion E es → enters es x t ≡ true → O x t
  unfolding enters
  entered_tag [] x t h e = absurd (both_ways false refl e)
  entered_tag (d ∷ es) x t h e = ⊎_elim
      (λ q. let p = and_parts (eqb d.object x) (eqb d.tag t) q in rw (← eqb-true d.object x p.0, ← eqb-true d.tag t p.1) (up d h.0))
      (λ q. entered_tag es x t h.1 q) (or_cases (same_entry x t d) (enters es x t) e)

  overtaken_tags : (rs : ℕ → Read) (all : Bool) (x t : ℕ) (v : List ℕ) (i : ℕ) → (overtaken rs all x t v i).tags ≡ (rs i).tags
  unfolding overtaken
  overtaken_tags rs all x t v i = cond_both (ltb i clients && (is_open (rs i) && (eqb (rs i).object x && (all || ltb ((rs i).tags x) t)))) (answered (rs i) v t 4) (rs i)
      (λ r. r.tags ≡ (rs i).tags) (λ _. refl) (λ _. refl)

  upd_tags : (rs : ℕ → Read) (i : ℕ) (r : Read) → ((j y : ℕ) → O y ((rs j).tags y)) → ((y : ℕ) → O y (r.tags y)) → (j y : ℕ) → O y ((upd rs i r j).tags y)
  upd_tags rs i r h new j y = elim (cases_eq j i) [ inl e ↦ rw (e, upd_same rs i r) (new y) | inr ne ↦ rw (upd_other rs i j r ne) (h j y) ]

  write_owner : (p : Server) (j c h : ℕ) (ws : List Waiting) (e : Entry) (all : Bool) (x t : ℕ) (v : List ℕ) → Owner g E O p → E e → AllByRecursion (λ v. E (waited g v)) ws
      → Owner g E O (reading (entered (counted (queued p ws) j c h) e) (overtaken p.reads all x t v))
  unfolding reading entered counted queued
  write_owner p j c h ws e all x t v o new w = record {
    own = o.own;
    history = All-push E p.history e o.history new;
    waiting = w;
    reads = λ i y. rw (overtaken_tags p.reads all x t v i) (o.reads i y);
  }

  written_owner : (p : Server) (j c h : ℕ) (e : Entry) (all : Bool) (x t : ℕ) (v : List ℕ) → Owner g E O p → E e
      → Owner g E O (reading (entered (counted p j c h) e) (overtaken p.reads all x t v))
  unfolding reading entered counted queued
  written_owner p j c h e all x t v o new = write_owner p j c h p.waiting e all x t v o new o.waiting

  pub picked_all : (p : Server) (ws : List Waiting) → AllByRecursion (λ v. E (waited g v)) ws → Chosen g E O (picked g p ws)
  unfolding picked
  picked_all p ws h = picks (next_ready g p ws (length ws)) (λ i e. next_below g p ws (length ws) i e)
    where
      picks : (o : Option ℕ) → ((i : ℕ) → o ≡ Some i → i < length ws) → Chosen g E O (Steps.pick g ws o)
      picks None lt = tt
      picks (Some i) lt = (
        All-get_or (λ v. E (waited g v)) ws i Steps.no_write (lt i refl) h,
        All-append (λ v. E (waited g v)) (take i ws) (drop (suc i) ws) (All-take (λ v. E (waited g v)) i ws h) (All-drop (λ v. E (waited g v)) (suc i) ws h),
      )

  -- ---- lanes
  spread_all : (L : Lanes) (i n : ℕ) (m : Message) → ((a b : ℕ) → AllByRecursion (Sent g E O a) (L a b)) → Sent g E O i m → (a b : ℕ) → AllByRecursion (Sent g E O a) (spread L i n m a b)
  unfolding spread
  spread_all L i n m h new a b = cond_both (eqb a i && (ltb b n && not (eqb b i))) (L a b ++ m ∷ []) (L a b) (AllByRecursion (Sent g E O a))
      (λ e. All-push (Sent g E O a) (L a b) m (h a b) (rw (eqb-true a i (and_parts (eqb a i) (ltb b n && not (eqb b i)) e).0) new)) (λ _. h a b)

  posted_all : (L : Lanes) (i j : ℕ) (m : Message) → ((a b : ℕ) → AllByRecursion (Sent g E O a) (L a b)) → Sent g E O i m → (a b : ℕ) → AllByRecursion (Sent g E O a) (posted L i j m a b)
  unfolding posted
  posted_all L i j m h new a b = cond_both (eqb a i && eqb b j) (L a b ++ m ∷ []) (L a b) (AllByRecursion (Sent g E O a))
      (λ e. All-push (Sent g E O a) (L a b) m (h a b) (rw (eqb-true a i (and_parts (eqb a i) (eqb b j) e).0) new)) (λ _. h a b)

  taken_all : (L : Lanes) (i j : ℕ) → ((a b : ℕ) → AllByRecursion (Sent g E O a) (L a b)) → (a b : ℕ) → AllByRecursion (Sent g E O a) (taken L i j a b)
  unfolding taken
  taken_all L i j h a b = cond_both (eqb a i && eqb b j) (drop 1 (L a b)) (L a b) (AllByRecursion (Sent g E O a)) (λ _. All-drop (Sent g E O a) 1 (L a b) (h a b)) (λ _. h a b)

  abbrev Kept : Turn → Type 0
  Kept t = Sourced g E O t.next

  put_sourced : (S : State) (s : ℕ) (r : Server) (L : Lanes) → Sourced g E O S → Owner g E O r → ((a b : ℕ) → AllByRecursion (Sent g E O a) (L a b)) → Sourced g E O (record { servers = upd S.servers s r; lanes = L })
  put_sourced S s r L h o l = record {
    servers = λ k. elim (cases_eq k s) [ inl e ↦ rw (e, upd_same S.servers s r) o | inr ne ↦ rw (upd_other S.servers s k r ne) (h.servers k) ];
    lanes = l;
  }

  module _ (S : State) (h : Sourced g E O S) where
    pub write_sourced : (s x : ℕ) (v : List ℕ) → (write_refusal g S s x v ≡ 0 → E (record { object = x; tag = write_tag g (S.servers s) s; value = v })) → Kept (write g S s x v)
    unfolding write write_done
    write_sourced s x v new = unless_both Kept (write_refusal g S s x v) S (turn (Tag (write_tag g (S.servers s) s)) (write_done g S s x v)) h (λ ok.
        let p = S.servers s in
        let e : Entry = record { object = x; tag = write_tag g p s; value = v } in
        put_sourced S s (reading (entered (counted p s (p.clock s + 1) (p.top + 1)) e) (overtaken p.reads true x (write_tag g p s) v)) _ h
        (written_owner p s (p.clock s + 1) (p.top + 1) e true x (write_tag g p s) v (h.servers s) (new ok))
        (spread_all S.lanes s g.n (Written x v (p.top + 1) (listed g.n (counted p s (p.clock s + 1) (p.top + 1)).clock)) h.lanes (new ok)))

    picked_sourced : (s : ℕ) (o : Option Picked) → Chosen g E O o → Kept (apply_picked g S s o)
    unfolding apply_picked apply_done
    picked_sourced s None c = h
    picked_sourced s (Some b) c = unless_both Kept (check (history_room g S s) 15 0) S (turn (Tag (wait_tag g b.write)) (apply_done g S s b.write b.others)) h (λ _.
        let p = S.servers s in
        let v = b.write in
        put_sourced S s _ S.lanes h
        (write_owner p (server v.tag) (get_or v.clock (server v.tag) 0) (height v.tag) b.others (waited g v) false v.object (wait_tag g v) v.value (h.servers s) c.0 c.1) h.lanes)

    pub apply_sourced : (s : ℕ) → Kept (apply g S s)
    unfolding apply
    apply_sourced s = unless_both Kept (check (ltb s g.n) 7 0) S (apply_picked g S s (picked g (S.servers s) (S.servers s).waiting)) h (λ _.
        picked_sourced s (picked g (S.servers s) (S.servers s).waiting) (picked_all (S.servers s) (S.servers s).waiting (h.servers s).waiting))

    opening_owner : (p : Server) (s i x : ℕ) → Owner g E O p → Owner g E O (opening p s i x)
    unfolding opening
    opening_owner p s i x o = record { own = o.own; history = o.history; waiting = o.waiting; reads = upd_tags p.reads i (new_read p s x) o.reads o.own }

    open_sourced : (s i x : ℕ) → Sourced g E O (open_done g S s i x)
    unfolding open_done
    open_sourced s i x =
        let p = S.servers s in
        put_sourced S s (opening p s i x) _ h (opening_owner p s i x (h.servers s)) (spread_all S.lanes s g.n (Question (p.opened + 1) x (listed g.k p.own)) h.lanes tt)

    pub read_sourced : (s x l : ℕ) (f : Found) → Kept (read g S s x l f)
    unfolding read read_found open_read
    read_sourced s x l f =
        let p = S.servers s in
        let t = top_tag x p.history in
        let third = turn (Number (p.opened + 1)) (open_done g S s (free_slot g p) x) in
        let second = cond (from_symbol g p x f) (turn (Value f.value (p.own x) 2) S) (unless (open_refusal g S s) S third) in
        unless_both Kept (read_refusal g s x l) S (cond (from_history g p x && (not (from_symbol g p x f) || f.first_way)) (turn (Value (kept g p.history x t) t 1) S) second) h (λ _.
        cond_both (from_history g p x && (not (from_symbol g p x f) || f.first_way)) (turn (Value (kept g p.history x t) t 1) S) second Kept (λ _. h)
        (λ _. cond_both (from_symbol g p x f) (turn (Value f.value (p.own x) 2) S) (unless (open_refusal g S s) S third) Kept (λ _. h)
        (λ _. unless_both Kept (open_refusal g S s) S third h (λ _. open_sourced s (free_slot g p) x))))

    reading_owner : (p : Server) (i : ℕ) (r : Read) → Owner g E O p → ((y : ℕ) → O y (r.tags y)) → Owner g E O (reading p (upd p.reads i r))
    unfolding reading
    reading_owner p i r o new = record { own = o.own; history = o.history; waiting = o.waiting; reads = upd_tags p.reads i r o.reads new }

    pub collect_sourced : (s m l : ℕ) → Kept (collect g S s m l)
    unfolding collect collect_at collect_done
    collect_sourced s m l =
        let p = S.servers s in
        let i = client_slot g p m in
        let r = p.reads i in
        let out = turn (Value r.value r.tag r.way) (collect_done g S s i) in
        unless_both Kept (collect_refusal g S s m l) S (cond (is_open r) (turn Still S) out) h (λ _. cond_both (is_open r) (turn Still S) out Kept (λ _. h)
        (λ _. put_sourced S s (reading p (upd p.reads i no_read)) S.lanes h (reading_owner p i no_read (h.servers s) none) h.lanes))

    sifted_owner : (p : Server) (es : List Entry) → Owner g E O p → AllByRecursion E es → Owner g E O (sifted p es)
    unfolding sifted
    sifted_owner p es o a = record { own = o.own; history = a; waiting = o.waiting; reads = o.reads }

    swept_all : (p : Server) (x : ℕ) → AllByRecursion E p.history → AllByRecursion E (swept g p x)
    unfolding swept
    swept_all p x a =
        let es = filter (stays g p x) p.history in
        let f : Entry → Bool = λ e. not (same_entry x (p.own x) e) in
        let b = all_kept_by (stays g p x) E p.history a in
        cond_both (settled g p x es) (filter f es) es (AllByRecursion E) (λ _. all_kept_by f E es b) (λ _. b)

    pub sweep_sourced : (s x : ℕ) → Kept (sweep g S s x)
    unfolding sweep sweep_done
    sweep_sourced s x = unless_both Kept (object_refusal g s x) S (turn (Count (length (S.servers s).history - length (swept g (S.servers s) x))) (sweep_done g S s x)) h (λ _.
        put_sourced S s (sifted (S.servers s) (swept g (S.servers s) x)) S.lanes h (sifted_owner (S.servers s) (swept g (S.servers s) x) (h.servers s) (swept_all (S.servers s) x (h.servers s).history)) h.lanes)

    -- ---- encode
    entered_owner : (p : Server) (e : Entry) → Owner g E O p → E e → Owner g E O (entered p e)
    unfolding entered
    entered_owner p e o new = record { own = o.own; history = All-push E p.history e o.history new; waiting = o.waiting; reads = o.reads }

    moved_owner : (p : Server) (s x t : ℕ) (v : List ℕ) → Owner g E O p → O x t → Owner g E O (moved p s x t v)
    unfolding moved
    moved_owner p s x t v o new = record {
      own = λ y. elim (cases_eq y x) [ inl e ↦ rw (e, upd_same p.own x t) new | inr ne ↦ rw (upd_other p.own x y t ne) (o.own y) ];
      history = o.history;
      waiting = o.waiting;
      reads = o.reads;
    }

    move_sourced : (s x : ℕ) (f : ℕ → Bool) (v : List ℕ) → x < g.k → leb (highest f x (S.servers s).history) ((S.servers s).own x) ≡ false → Sourced g E O (move_done g S s x (highest f x (S.servers s).history) v)
    unfolding move_done
    move_sourced s x f v xk e =
        let p = S.servers s in
        let t = highest f x p.history in
        let lt = leb-false t (p.own x) e in
        let c : O x t = ⊎_elim (λ (z : t ≡ 0). absurd (omega arith)) (λ z. entered_tag p.history x t (h.servers s).history z.0) (highest_found f x p.history) in
        put_sourced S s (moved p s x t v) _ h (moved_owner p s x t v (h.servers s) c) (spread_all S.lanes s g.n (Tagged x t) h.lanes (xk, c))

    pub encode_sourced : (s x : ℕ) (f : Found)
        → (object_refusal g s x ≡ 0 → has g s x ≡ true → f.recovered ≡ true → E (record { object = x; tag = (S.servers s).own x; value = f.value })) → Kept (encode g S s x f)
    unfolding encode encode_contained encode_other enter_done
    encode_sourced s x f decoded =
        let p = S.servers s in
        let t = top_tag x p.history in
        let u = highest (within g p x) x p.history in
        let sym' = swap g s x (kept g p.history x (p.own x)) (kept g p.history x t) p.symbol in
        let move = turn (Outcome 1) (move_done g S s x t sym') in
        let e : Entry = record { object = x; tag = p.own x; value = f.value } in
        let enter = turn (Outcome 3) (enter_done g S s e) in
        let ask = turn (Outcome 4) (open_done g S s (clients + x) x) in
        let asking = unless (check (ltb p.opened most_reads) 14 (check (room g S s) 17 0)) S ask in
        let entering = unless (check (history_room g S s) 15 0) S enter in
        let moving = unless (check (room g S s) 17 0) S move in
        let fourth = cond f.recovered entering asking in
        let third = cond (is_open (p.reads (clients + x))) (turn (Outcome 2) S) fourth in
        let second = cond (holds p.history x (p.own x)) moving third in
        let other_move = turn (Outcome 1) (move_done g S s x u p.symbol) in
        let other = cond (leb u (p.own x)) (turn (Outcome 0) S) (unless (check (room g S s) 17 0) S other_move) in
        let contained = cond (leb t (p.own x)) (turn (Outcome 0) S) second in
        unless_both Kept (object_refusal g s x) S (cond (has g s x) contained other) h (λ ok. cond_both (has g s x) contained other Kept
        (λ i. cond_both (leb t (p.own x)) (turn (Outcome 0) S) second Kept (λ _. h) (λ hi.
        cond_both (holds p.history x (p.own x)) moving third Kept
        (λ _. unless_both Kept (check (room g S s) 17 0) S move h (λ _. move_sourced s x (λ _. true) sym' (object_object g s x ok) hi))
        (λ _. cond_both (is_open (p.reads (clients + x))) (turn (Outcome 2) S) fourth Kept (λ _. h)
        (λ _. cond_both f.recovered entering asking Kept
        (λ q. unless_both Kept (check (history_room g S s) 15 0) S enter h (λ _. put_sourced S s (entered p e) S.lanes h (entered_owner p e (h.servers s) (decoded ok i q)) h.lanes))
        (λ _. unless_both Kept (check (ltb p.opened most_reads) 14 (check (room g S s) 17 0)) S ask h (λ _. open_sourced s (clients + x) x))))))
        (λ _. cond_both (leb u (p.own x)) (turn (Outcome 0) S) (unless (check (room g S s) 17 0) S other_move) Kept (λ _. h) (λ hi.
        unless_both Kept (check (room g S s) 17 0) S other_move h (λ _. move_sourced s x (within g p x) p.symbol (object_object g s x ok) hi))))

    -- ---- deliver
    module _ (a b : ℕ) where
      take_sourced : (r : Server) → Owner g E O r → Sourced g E O (take_done g S a b r)
      unfolding take_done
      take_sourced r o = put_sourced S b r (taken S.lanes a b) h o (taken_all S.lanes a b h.lanes)

      queued_owner : (p : Server) (ws : List Waiting) → Owner g E O p → AllByRecursion (λ v. E (waited g v)) ws → Owner g E O (queued p ws)
      unfolding queued
      queued_owner p ws o w = record { own = o.own; history = o.history; waiting = w; reads = o.reads }

      hearing_owner : (p : Server) (x j t : ℕ) → Owner g E O p → Owner g E O (hearing p x j t)
      unfolding hearing
      hearing_owner p x j t o = record { own = o.own; history = o.history; waiting = o.waiting; reads = o.reads }

      internal_owner : (p : Server) (i : ℕ) (r : Read) (v : List ℕ) → Owner g E O p → E (record { object = r.object; tag = r.tags r.object; value = v }) → Owner g E O (internal_answer g p i r v)
      unfolding reading entered
      internal_owner p i r v o new = record {
        own = o.own;
        history = All-push E p.history (record { object = r.object; tag = r.tags r.object; value = v }) o.history new;
        waiting = o.waiting;
        reads = upd_tags p.reads i no_read o.reads none;
      }

      settle_sourced : (i : ℕ) (r : Read) (v : List ℕ) → ((y : ℕ) → O y (r.tags y)) → (ltb i clients ≡ false → E (record { object = r.object; tag = r.tags r.object; value = v })) → Kept (settle g S a b i r v)
      unfolding settle
      settle_sourced i r v tags decoded =
          let p = S.servers b in
          let one = turn (Outcome 4) (take_done g S a b (client_answer g p i r v)) in
          let two = turn (Outcome 4) (take_done g S a b (internal_answer g p i r v)) in
          cond_both (ltb i clients) one (unless (check (history_room g S b) 15 0) S two) Kept
          (λ _. take_sourced (client_answer g p i r v) (reading_owner p i (answered r v (r.tags r.object) 3) (h.servers b) tags))
          (λ q. unless_both Kept (check (history_room g S b) 15 0) S two h (λ _. take_sourced (internal_answer g p i r v) (internal_owner p i r v (h.servers b) (decoded q))))

      -- the value that answers an internal read
      abbrev pub FoundRight : Message → Found → Type 0
      FoundRight (Written x v t ck) f = Unit {0}
      FoundRight (Tagged x t) f = Unit {0}
      FoundRight (Question m x T) f = Unit {0}
      FoundRight (Plain m v) f =
          let i = open_slot g (S.servers b) m in
          let r = (S.servers b).reads i in
          ltb i slots ≡ true → ltb i clients ≡ false → E (record { object = r.object; tag = r.tags r.object; value = v })
      FoundRight (Coded m v st) f =
          let i = open_slot g (S.servers b) m in
          let r = (S.servers b).reads i in
          ltb i slots ≡ true → ltb i clients ≡ false → f.recovered ≡ true → E (record { object = r.object; tag = r.tags r.object; value = f.value })

      got_sourced : (m : Message) (f : Found) → Sent g E O a m → FoundRight m f → Kept (got g S a b m f)
      unfolding got question_done
      got_sourced (Written x v t ck) f sent right =
          let p = S.servers b in
          let w : Waiting = record { object = x; tag = tag t a; value = v; clock = ck } in
          unless_both Kept (check (ltb (length p.waiting) queue) 18 0) S (turn (Outcome 0) (take_done g S a b (queued p (p.waiting ++ w ∷ [])))) h (λ _.
          take_sourced (queued p (p.waiting ++ w ∷ [])) (queued_owner p (p.waiting ++ w ∷ []) (h.servers b) (All-push (λ v. E (waited g v)) p.waiting w (h.servers b).waiting sent)))
      got_sourced (Tagged x t) f sent right = take_sourced (hearing (S.servers b) x a t) (hearing_owner (S.servers b) x a t (h.servers b))
      got_sourced (Question m x T) f sent right =
          let p = S.servers b in
          unless_both Kept (check (ltb (length (S.lanes b a)) g.places) 17 0) S (turn (Outcome (cond (holds p.history x (get_or T x 0)) 1 2)) (question_done g S a b (reply g b p m x T))) h (λ _. question_sourced)
        where
          question_sourced : Sourced g E O (record { servers = S.servers; lanes = posted (taken S.lanes a b) b a (reply g b (S.servers b) m x T) })
          question_sourced = record {
            servers = h.servers;
            lanes = posted_all (taken S.lanes a b) b a (reply g b (S.servers b) m x T) (taken_all S.lanes a b h.lanes)
                (cond_both (holds (S.servers b).history x (get_or T x 0)) (Plain m (kept g (S.servers b).history x (get_or T x 0))) (Coded m (mixed g b (S.servers b) T g.k) (listed g.k (λ y. states g b (S.servers b) y (get_or T y 0)))) (Sent g E O b) (λ _. tt) (λ _. tt));
          }
      got_sourced (Plain m v) f sent right =
          let p = S.servers b in
          let i = open_slot g p m in
          cond_both (ltb i slots) (settle g S a b i (p.reads i) v) (turn (Outcome 5) (take_done g S a b p)) Kept
          (λ e. settle_sourced i (p.reads i) v ((h.servers b).reads i) (right e)) (λ _. take_sourced p (h.servers b))
      got_sourced (Coded m v st) f sent right =
          let p = S.servers b in
          let i = open_slot g p m in
          let r = p.reads i in
          let r' = in_hand r a (mended g p a r v st g.k) in
          let useless = turn (Outcome 6) (take_done g S a b p) in
          let wait = turn (Outcome 3) (take_done g S a b (reading p (upd p.reads i r'))) in
          cond_both (ltb i slots) (cond (mendable g p a r st) (cond f.recovered (settle g S a b i r' f.value) wait) useless) (turn (Outcome 5) (take_done g S a b p)) Kept
          (λ e. cond_both (mendable g p a r st) (cond f.recovered (settle g S a b i r' f.value) wait) useless Kept
          (λ _. cond_both f.recovered (settle g S a b i r' f.value) wait Kept
          (λ q. settle_sourced i r' f.value ((h.servers b).reads i) (λ c. right e c q))
          (λ _. take_sourced (reading p (upd p.reads i r')) (reading_owner p i r' (h.servers b) ((h.servers b).reads i))))
          (λ _. take_sourced p (h.servers b)))
          (λ _. take_sourced p (h.servers b))

      oldest_sourced : (l : List Message) (f : Found) → AllByRecursion (Sent g E O a) l → ((m : Message) (ms : List Message) → l ≡ m ∷ ms → FoundRight m f) → Kept (oldest g S a b l f)
      unfolding oldest
      oldest_sourced [] f all right = h
      oldest_sourced (m ∷ ms) f all right = cond_both (fits g m) (got g S a b m f) (turn (Outcome 7) (take_done g S a b (S.servers b))) Kept
          (λ _. got_sourced m f all.0 (right m ms refl)) (λ _. take_sourced (S.servers b) (h.servers b))

      pub deliver_sourced : (f : Found) → (lane_refusal g a b ≡ 0 → (m : Message) (ms : List Message) → S.lanes a b ≡ m ∷ ms → FoundRight m f) → Kept (deliver g S a b f)
      unfolding deliver
      deliver_sourced f right = unless_both Kept (lane_refusal g a b) S (oldest g S a b (S.lanes a b) f) h (λ e. oldest_sourced (S.lanes a b) f (h.lanes a b) (right e))
