-- Each call by its cases: what holds of every way that it can end holds of the call.
use Rattle.std.proofs.Common.{◌≡◌, ℕ, ◌+◌, ◌-◌, ◌<◌, ◌≤◌, Bool, true, false, cond, not, ◌&&◌, ◌||◌, eqb, ltb, leb, List, [], ◌∷◌, ◌++◌, length, get_or, Some, None, Option, sym, refl, ap, ◌∙◌, ap₂, inl, inr, ⊎_elim, arith}
use Rattle.std.proofs.lemmas.Bool.{both_ways, cases_eq, ltb-true, leb-true, leb-false, and_parts, and_from, and_cases, or_parts, not-false, cond_both}
use Rattle.rules.proofs.RankedMessages.{Message, Written, Tagged, Question, Plain, Coded, tag}
use Rattle.rules.proofs.RankedWords.{upd, some}
use Rattle.rules.proofs.Ranked.{Code, Read, Server, State, has, holds, enters, kept, highest, top_tag, swap, is_open, slots, clients, queue, most_reads, no_read}
use Rattle.rules.proofs.RankedSteps.{Refused, Tag, Value, Number, Still, Nothing, Outcome, Count, Found, Turn, turn, check, unless, write_refusal, open_refusal, read_refusal, read_found, collect_refusal, collect_at, object_refusal, lane_refusal, entered, queued, reading, tells as hearing, answered, in_hand, Picked, room, history_room, write_tag, write_done, write, open_done, free_slot, open_read, from_history, from_symbol, read, client_slot, collect_done, collect, wait_tag, picked, apply_done, apply_picked, apply, move_done, enter_done, encode_contained, within, encode_other, encode, swept, sweep_done, sweep, fits, reply, question_done, open_slot, take_done, internal_answer, client_answer, settle, mendable, mended, got, oldest, deliver}
use Rattle.rules.proofs.Words.{upd_same, upd_other, highest_found}
use Rattle.rules.proofs.Calls.{unless_both, checked, object_server, object_object, read_server, read_object}
use Rattle.rules.proofs.Deliver.{lane_ends, open_found}

-- what a delivery does to the receiver: own tags and heights stay, and at most the tag of an open read is entered
pub data Entering (p r : Server) : Type 0 where
  as_was : r.history ≡ p.history → Entering p r
  answer_of : (i : ℕ) (v : List ℕ) → (ltb i slots && is_open (p.reads i)) ≡ true → r.history ≡ p.history ++ record { object = (p.reads i).object; tag = (p.reads i).tags (p.reads i).object; value = v } ∷ [] → Entering p r

pub record WasOpen (p r : Server) (i : ℕ) : Type 0 where
  pub was : (ltb i slots && is_open (p.reads i)) ≡ true
  pub object : (r.reads i).object ≡ (p.reads i).object
  pub tags : (r.reads i).tags ≡ (p.reads i).tags

open_same : (p r : Server) → r.reads ≡ p.reads → (i : ℕ) → (ltb i slots && is_open (r.reads i)) ≡ true → WasOpen p r i
open_same p r q i e = record { was = ap (λ (rs : ℕ → Read). ltb i slots && is_open (rs i)) (sym q) ∙ e; object = ap (λ (rs : ℕ → Read). (rs i).object) q; tags = ap (λ (rs : ℕ → Read). (rs i).tags) q }

-- one place changes to a read that is not open, or has the object and tags of the open one that was there
open_upd : (p r : Server) (j : ℕ) (q : Read) → r.reads ≡ upd p.reads j q → (is_open q ≡ true → (is_open (p.reads j) ≡ true) × (q.object ≡ (p.reads j).object) × (q.tags ≡ (p.reads j).tags))
    → (i : ℕ) → (ltb i slots && is_open (r.reads i)) ≡ true → WasOpen p r i
open_upd p r j q eq h i e =
    let at : r.reads i ≡ upd p.reads j q i = ap (λ (rs : ℕ → Read). rs i) eq in
    let a = and_parts (ltb i slots) (is_open (r.reads i)) e in
    elim (cases_eq i j) [
      | inl z ↦
          let u : r.reads i ≡ q = at ∙ ap (upd p.reads j q) z ∙ upd_same p.reads j q in
          let w = h (ap is_open (sym u) ∙ a.1) in
          record { was = and_from (ltb i slots) (is_open (p.reads i)) a.0 (rw z w.0); object = rw (u, z) w.1; tags = rw (u, z) w.2 }
      | inr ne ↦
          let u : r.reads i ≡ p.reads i = at ∙ upd_other p.reads j i q ne in
          record { was = and_from (ltb i slots) (is_open (p.reads i)) a.0 (ap is_open (sym u) ∙ a.1); object = ap (λ (z : Read). z.object) u; tags = ap (λ (z : Read). z.tags) u }
    ]

-- a place that gets a read that is not open leaves the open reads
shut : (rs : ℕ → Read) (i : ℕ) (q : Read) → is_open q ≡ false → (k : ℕ) → (ltb k slots && is_open (upd rs i q k)) ≡ true → upd rs i q k ≡ rs k
shut rs i q c k e = elim (cases_eq k i) [
  | inl w ↦ absurd (both_ways (is_open q) c (ap is_open (sym (ap (upd rs i q) w ∙ upd_same rs i q)) ∙ (and_parts (ltb k slots) (is_open (upd rs i q k)) e).1))
  | inr ne ↦ upd_other rs i k q ne
]

-- the waiting writes are as before, or the front of the lane from a joins them
pub data Queues (a : ℕ) (lane : List Message) (p r : Server) : Type 0 where
  as_before : r.waiting ≡ p.waiting → Queues a lane p r
  joins : (x : ℕ) (v : List ℕ) (h : ℕ) (ck : List ℕ) (ms : List Message) → lane ≡ Written x v h ck ∷ ms
      → r.waiting ≡ p.waiting ++ record { object = x; tag = tag h a; value = v; clock = ck } ∷ [] → Queues a lane p r

pub record Receives (a : ℕ) (lane : List Message) (p r : Server) : Type 0 where
  pub clock : r.clock ≡ p.clock
  pub waiting : Queues a lane p r
  pub top : r.top ≡ p.top
  pub own : r.own ≡ p.own
  pub history : Entering p r
  -- what is open was open, with its object and tags
  pub reads : (i : ℕ) → (ltb i slots && is_open (r.reads i)) ≡ true → WasOpen p r i

module _ (g : Code) (S : State) (Φ : Turn → Type 0) (refused : (r : ℕ) → Φ (turn (Refused r) S)) where
  pub write_cases : (s x : ℕ) (v : List ℕ) → (write_refusal g S s x v ≡ 0 → Φ (turn (Tag (write_tag g (S.servers s) s)) (write_done g S s x v))) → Φ (write g S s x v)
  unfolding write
  write_cases s x v go = unless_both Φ (write_refusal g S s x v) S (turn (Tag (write_tag g (S.servers s) s)) (write_done g S s x v)) (refused _) go

  picked_cases : (s : ℕ) (o : Option Picked) → picked g (S.servers s) (S.servers s).waiting ≡ o → Φ (turn Nothing S)
      → ((b : Picked) → picked g (S.servers s) (S.servers s).waiting ≡ Some b → Φ (turn (Tag (wait_tag g b.write)) (apply_done g S s b.write b.others))) → Φ (apply_picked g S s o)
  unfolding apply_picked
  picked_cases s None e none some = none
  picked_cases s (Some b) e none some = unless_both Φ (check (history_room g S s) 15 0) S (turn (Tag (wait_tag g b.write)) (apply_done g S s b.write b.others)) (refused _) (λ _. some b e)

  -- the same, with the server
  pub apply_cases_at : (s : ℕ) → Φ (turn Nothing S)
      → ((b : Picked) → s < g.n → picked g (S.servers s) (S.servers s).waiting ≡ Some b → Φ (turn (Tag (wait_tag g b.write)) (apply_done g S s b.write b.others))) → Φ (apply g S s)
  unfolding apply
  apply_cases_at s none some = unless_both Φ (check (ltb s g.n) 7 0) S (apply_picked g S s (picked g (S.servers s) (S.servers s).waiting)) (refused _) (λ ok.
      let sn = ltb-true s g.n (checked (ltb s g.n) 7 0 (omega arith) ok).0 in
      picked_cases s (picked g (S.servers s) (S.servers s).waiting) refl none (λ b e. some b sn e))

  pub apply_cases : (s : ℕ) → Φ (turn Nothing S)
      → ((b : Picked) → picked g (S.servers s) (S.servers s).waiting ≡ Some b → Φ (turn (Tag (wait_tag g b.write)) (apply_done g S s b.write b.others))) → Φ (apply g S s)
  unfolding apply
  apply_cases s none some = unless_both Φ (check (ltb s g.n) 7 0) S (apply_picked g S s (picked g (S.servers s) (S.servers s).waiting)) (refused _) (λ _.
      picked_cases s (picked g (S.servers s) (S.servers s).waiting) refl none some)

  pub read_cases : (s x l : ℕ) (f : Found)
      → (s < g.n → x < g.k → (S.servers s).own x ≤ top_tag x (S.servers s).history → Φ (turn (Value (kept g (S.servers s).history x (top_tag x (S.servers s).history)) (top_tag x (S.servers s).history) 1) S))
      → (s < g.n → x < g.k → top_tag x (S.servers s).history ≤ (S.servers s).own x → f.recovered ≡ true → Φ (turn (Value f.value ((S.servers s).own x) 2) S))
      → (s < g.n → x < g.k → top_tag x (S.servers s).history < (S.servers s).own x → f.recovered ≡ false → open_refusal g S s ≡ 0 → Φ (turn (Number ((S.servers s).opened + 1)) (open_done g S s (free_slot g (S.servers s)) x)))
      → Φ (read g S s x l f)
  unfolding read read_found open_read
  read_cases s x l f one two three =
      let p = S.servers s in
      let t = top_tag x p.history in
      let third = turn (Number (p.opened + 1)) (open_done g S s (free_slot g p) x) in
      let first = turn (Value (kept g p.history x t) t 1) S in
      let other = turn (Value f.value (p.own x) 2) S in
      let second = cond (from_symbol g p x f) other (unless (open_refusal g S s) S third) in
      let a = from_history g p x in
      let b = from_symbol g p x f in
      unless_both Φ (read_refusal g s x l) S (cond (a && (not b || f.first_way)) first second) (refused _) (λ ok.
      let sn = read_server g s x l ok in
      let xk = read_object g s x l ok in
      cond_both (a && (not b || f.first_way)) first second Φ (λ e. one sn xk (leb-true (p.own x) t (and_parts a (not b || f.first_way) e).0))
      (λ e. cond_both b other (unless (open_refusal g S s) S third) Φ
      (λ q. let w = and_parts (leb t (p.own x)) f.recovered q in two sn xk (leb-true t (p.own x) w.0) w.1)
      (λ q. unless_both Φ (open_refusal g S s) S third (refused _) (λ free.
      let hi : t < p.own x = ⊎_elim (λ w. leb-false (p.own x) t w) (λ (w : (not b || f.first_way) ≡ false). absurd (both_ways b q (not-false b (or_parts (not b) f.first_way w).0))) (and_cases a (not b || f.first_way) e) in
      three sn xk hi (⊎_elim (λ (w : leb t (p.own x) ≡ false). absurd (let z = leb-false t (p.own x) w in omega arith)) (λ w. w) (and_cases (leb t (p.own x)) f.recovered q)) free))))

  collect_server : (s m l : ℕ) → collect_refusal g S s m l ≡ 0 → s < g.n
  unfolding collect_refusal
  collect_server s m l e = ltb-true s g.n (checked (ltb s g.n) 7 _ (omega arith) e).0

  collect_slot : (s m l : ℕ) → collect_refusal g S s m l ≡ 0 → client_slot g (S.servers s) m < clients
  unfolding collect_refusal
  collect_slot s m l e = ltb-true (client_slot g (S.servers s) m) clients
      (checked (ltb (client_slot g (S.servers s) m) clients) 10 0 (omega arith) (checked (eqb l g.w) 9 _ (omega arith) (checked (ltb s g.n) 7 _ (omega arith) e).1).1).0

  pub collect_cases : (s m l : ℕ) → Φ (turn Still S)
      → ((i : ℕ) → i ≡ client_slot g (S.servers s) m → s < g.n → i < clients → is_open ((S.servers s).reads i) ≡ false → Φ (turn (Value ((S.servers s).reads i).value ((S.servers s).reads i).tag ((S.servers s).reads i).way) (collect_done g S s i))) → Φ (collect g S s m l)
  unfolding collect collect_at
  collect_cases s m l one two =
      let i = client_slot g (S.servers s) m in
      let r = (S.servers s).reads i in
      let out = turn (Value r.value r.tag r.way) (collect_done g S s i) in
      unless_both Φ (collect_refusal g S s m l) S (cond (is_open r) (turn Still S) out) (refused _) (λ ok. cond_both (is_open r) (turn Still S) out Φ (λ _. one) (λ shut. two i refl (collect_server s m l ok) (collect_slot s m l ok) shut))

  pub sweep_cases : (s x : ℕ) → (s < g.n → x < g.k → Φ (turn (Count (length (S.servers s).history - length (swept g (S.servers s) x))) (sweep_done g S s x))) → Φ (sweep g S s x)
  unfolding sweep
  sweep_cases s x go = unless_both Φ (object_refusal g s x) S (turn (Count (length (S.servers s).history - length (swept g (S.servers s) x))) (sweep_done g S s x)) (refused _) (λ ok. go (object_server g s x ok) (object_object g s x ok))

  pub encode_cases : (s x : ℕ) (f : Found) → ((o : ℕ) → (o ≡ 4 → ⊥) → Φ (turn (Outcome o) S))
      → ((t : ℕ) (v : List ℕ) → s < g.n → x < g.k → (S.servers s).own x < t → enters (S.servers s).history x t ≡ true → Φ (turn (Outcome 1) (move_done g S s x t v)))
      → (s < g.n → x < g.k → f.recovered ≡ true → Φ (turn (Outcome 3) (enter_done g S s (record { object = x; tag = (S.servers s).own x; value = f.value }))))
      → (s < g.n → x < g.k → holds (S.servers s).history x ((S.servers s).own x) ≡ false → f.recovered ≡ false
      → is_open ((S.servers s).reads (clients + x)) ≡ false → ltb (S.servers s).opened most_reads ≡ true → Φ (turn (Outcome 4) (open_done g S s (clients + x) x)))
      → Φ (encode g S s x f)
  unfolding encode encode_contained encode_other
  encode_cases s x f stay moves enters-own asks =
      let p = S.servers s in
      let t = top_tag x p.history in
      let u = highest (within g p x) x p.history in
      let sym' = swap g s x (kept g p.history x (p.own x)) (kept g p.history x t) p.symbol in
      let move = turn (Outcome 1) (move_done g S s x t sym') in
      let enter = turn (Outcome 3) (enter_done g S s (record { object = x; tag = p.own x; value = f.value })) in
      let ask = turn (Outcome 4) (open_done g S s (clients + x) x) in
      let asking = unless (check (ltb p.opened most_reads) 14 (check (room g S s) 17 0)) S ask in
      let entering = unless (check (history_room g S s) 15 0) S enter in
      let moving = unless (check (room g S s) 17 0) S move in
      let fourth = cond f.recovered entering asking in
      let third = cond (is_open (p.reads (clients + x))) (turn (Outcome 2) S) fourth in
      let second = cond (holds p.history x (p.own x)) moving third in
      let other_move = turn (Outcome 1) (move_done g S s x u p.symbol) in
      let other = cond (leb u (p.own x)) (turn (Outcome 0) S) (unless (check (room g S s) 17 0) S other_move) in
      let contained = cond (leb t (p.own x)) (turn (Outcome 0) S) second in
      unless_both Φ (object_refusal g s x) S (cond (has g s x) contained other) (refused _) (λ ok.
      let sn = object_server g s x ok in
      let xk = object_object g s x ok in
      cond_both (has g s x) contained other Φ
      (λ i. cond_both (leb t (p.own x)) (turn (Outcome 0) S) second Φ (λ _. stay 0 (λ e. omega arith)) (λ hi.
      cond_both (holds p.history x (p.own x)) moving third Φ
      (λ _. unless_both Φ (check (room g S s) 17 0) S move (refused _) (λ _. moves t sym' sn xk (leb-false t (p.own x) hi) (found s x (λ _. true) hi)))
      (λ q. cond_both (is_open (p.reads (clients + x))) (turn (Outcome 2) S) fourth Φ (λ _. stay 2 (λ e. omega arith))
      (λ shut. cond_both f.recovered entering asking Φ
      (λ w. unless_both Φ (check (history_room g S s) 15 0) S enter (refused _) (λ _. enters-own sn xk w))
      (λ w. unless_both Φ (check (ltb p.opened most_reads) 14 (check (room g S s) 17 0)) S ask (refused _) (λ ok. asks sn xk q w shut (checked (ltb p.opened most_reads) 14 _ (omega arith) ok).0))))))
      (λ i. cond_both (leb u (p.own x)) (turn (Outcome 0) S) (unless (check (room g S s) 17 0) S other_move) Φ (λ _. stay 0 (λ e. omega arith)) (λ hi.
      unless_both Φ (check (room g S s) 17 0) S other_move (refused _) (λ _. moves u p.symbol sn xk (leb-false u (p.own x) hi) (found s x (within g p x) hi)))))
    where
      found : (s x : ℕ) (d : ℕ → Bool) → leb (highest d x (S.servers s).history) ((S.servers s).own x) ≡ false → enters (S.servers s).history x (highest d x (S.servers s).history) ≡ true
      found s x d e =
          let lt = leb-false (highest d x (S.servers s).history) ((S.servers s).own x) e in
          ⊎_elim (λ (z : highest d x (S.servers s).history ≡ 0). absurd (omega arith)) (λ z. z.0) (highest_found d x (S.servers s).history)

  module _ (a b : ℕ) where
    -- the receiver with the mended symbol in hand
    abbrev pub waiting_on : ℕ → List ℕ → List ℕ → Server
    waiting_on m v st =
        let p = S.servers b in
        let i = open_slot g p m in
        reading p (upd p.reads i (in_hand (p.reads i) a (mended g p a (p.reads i) v st g.k)))

  -- a delivery ends in a state in which the receiver is another, or in a reply
  pub deliver_cases : (a b : ℕ) (f : Found)
      → ((o : ℕ) (r : Server) → Receives a (S.lanes a b) (S.servers b) r → ((i : ℕ) → (ltb i slots && is_open (r.reads i)) ≡ true → r.reads i ≡ (S.servers b).reads i) → Φ (turn (Outcome o) (take_done g S a b r)))
      → ((m : ℕ) (v st : List ℕ) (ms : List Message) → a < g.n → b < g.n → S.lanes a b ≡ Coded m v st ∷ ms → ltb (open_slot g (S.servers b) m) slots ≡ true → f.recovered ≡ false
      → mendable g (S.servers b) a ((S.servers b).reads (open_slot g (S.servers b) m)) st ≡ true
      → Receives a (S.lanes a b) (S.servers b) (waiting_on a b m v st) → Φ (turn (Outcome 3) (take_done g S a b (waiting_on a b m v st))))
      → ((o m x : ℕ) (T : List ℕ) → Φ (turn (Outcome o) (question_done g S a b (reply g b (S.servers b) m x T))))
      → Φ (deliver g S a b f)
  unfolding deliver
  deliver_cases a b f takes waits asks = unless_both Φ (lane_refusal g a b) S (oldest g S a b (S.lanes a b) f) (refused _) (λ ok. front (lane_ends g a b ok).0 (lane_ends g a b ok).1 (S.lanes a b) refl)
    where
      plain : (r : Server) → r.clock ≡ (S.servers b).clock → Queues a (S.lanes a b) (S.servers b) r → r.top ≡ (S.servers b).top → r.own ≡ (S.servers b).own → r.history ≡ (S.servers b).history → ((i : ℕ) → (ltb i slots && is_open (r.reads i)) ≡ true → WasOpen (S.servers b) r i) → Receives a (S.lanes a b) (S.servers b) r
      plain r c w t o h q = record { clock = c; waiting = w; top = t; own = o; history = as_was h; reads = q }

      found_open : (m : ℕ) → ltb (open_slot g (S.servers b) m) slots ≡ true → (ltb (open_slot g (S.servers b) m) slots && is_open ((S.servers b).reads (open_slot g (S.servers b) m))) ≡ true
      found_open m e = and_from (ltb (open_slot g (S.servers b) m) slots) (is_open ((S.servers b).reads (open_slot g (S.servers b) m))) e (open_found g (S.servers b) m e).0

      settles : (i : ℕ) (r : Read) (v : List ℕ) → (ltb i slots && is_open ((S.servers b).reads i)) ≡ true → r.object ≡ ((S.servers b).reads i).object → r.tags ≡ ((S.servers b).reads i).tags → Φ (settle g S a b i r v)
      settles i r v lv eo et = unfold settle in
          cond_both (ltb i clients) (turn (Outcome 4) (take_done g S a b (client_answer g (S.servers b) i r v))) (unless (check (history_room g S b) 15 0) S (turn (Outcome 4) (take_done g S a b (internal_answer g (S.servers b) i r v)))) Φ
          (λ _. takes 4 (client_answer g (S.servers b) i r v) (unfold reading in plain (client_answer g (S.servers b) i r v) refl (as_before refl) refl refl refl (open_upd (S.servers b) (client_answer g (S.servers b) i r v) i (answered r v (r.tags r.object) 3) refl (λ z. absurd (both_ways false refl z)))) (unfold reading in shut (S.servers b).reads i (answered r v (r.tags r.object) 3) refl))
          (λ _. unless_both Φ (check (history_room g S b) 15 0) S (turn (Outcome 4) (take_done g S a b (internal_answer g (S.servers b) i r v))) (refused _) (λ _. takes 4 (internal_answer g (S.servers b) i r v) (unfold reading entered in record { clock = refl; waiting = as_before refl; top = refl; own = refl; history = answer_of i v lv (ap₂ (λ (x : ℕ) (T : ℕ → ℕ). (S.servers b).history ++ record { object = x; tag = T x; value = v } ∷ []) eo et); reads = open_upd (S.servers b) (internal_answer g (S.servers b) i r v) i no_read refl (λ z. absurd (both_ways false refl z)) }) (unfold reading entered in shut (S.servers b).reads i no_read refl)))

      gets : (z : Message) (ms : List Message) → a < g.n → b < g.n → S.lanes a b ≡ z ∷ ms → Φ (got g S a b z f)
      gets (Written x v t ck) ms an bn l = unfold got in unless_both Φ (check (ltb (length (S.servers b).waiting) queue) 18 0) S
          (turn (Outcome 0) (take_done g S a b (queued (S.servers b) ((S.servers b).waiting ++ record { object = x; tag = tag t a; value = v; clock = ck } ∷ [])))) (refused _) (λ _. takes 0 _ (unfold queued in plain (queued (S.servers b) ((S.servers b).waiting ++ record { object = x; tag = tag t a; value = v; clock = ck } ∷ [])) refl (joins x v t ck ms l refl) refl refl refl (open_same (S.servers b) _ refl)) (λ i e. unfold queued in refl))
      gets (Tagged x t) ms an bn l = unfold got in takes 0 (hearing (S.servers b) x a t) (unfold hearing in plain (hearing (S.servers b) x a t) refl (as_before refl) refl refl refl (open_same (S.servers b) _ refl)) (λ i e. unfold hearing in refl)
      gets (Question m x T) ms an bn l = unfold got in unless_both Φ (check (ltb (length (S.lanes b a)) g.places) 17 0) S
          (turn (Outcome (cond (holds (S.servers b).history x (get_or T x 0)) 1 2)) (question_done g S a b (reply g b (S.servers b) m x T))) (refused _) (λ _. asks _ m x T)
      gets (Plain m v) ms an bn l = unfold got in
          let i = open_slot g (S.servers b) m in
          cond_both (ltb i slots) (settle g S a b i ((S.servers b).reads i) v) (turn (Outcome 5) (take_done g S a b (S.servers b))) Φ (λ e. settles i ((S.servers b).reads i) v (found_open m e) refl refl) (λ _. takes 5 (S.servers b) (plain (S.servers b) refl (as_before refl) refl refl refl (open_same (S.servers b) (S.servers b) refl)) (λ i e. refl))
      gets (Coded m v st) ms an bn l = unfold got in
          let p = S.servers b in
          let i = open_slot g p m in
          let r = p.reads i in
          let r' = in_hand r a (mended g p a r v st g.k) in
          let useless = turn (Outcome 6) (take_done g S a b p) in
          let wait = turn (Outcome 3) (take_done g S a b (reading p (upd p.reads i r'))) in
          cond_both (ltb i slots) (cond (mendable g p a r st) (cond f.recovered (settle g S a b i r' f.value) wait) useless) (turn (Outcome 5) (take_done g S a b p)) Φ
          (λ e. cond_both (mendable g p a r st) (cond f.recovered (settle g S a b i r' f.value) wait) useless Φ
          (λ mend. cond_both f.recovered (settle g S a b i r' f.value) wait Φ (λ _. settles i r' f.value (found_open m e) refl refl) (λ q. waits m v st ms an bn l e q mend (unfold reading in plain (reading p (upd p.reads i r')) refl (as_before refl) refl refl refl (open_upd p (reading p (upd p.reads i r')) i r' refl (λ z. (z, refl, refl))))))
          (λ _. takes 6 p (plain p refl (as_before refl) refl refl refl (open_same p p refl)) (λ i e. refl)))
          (λ _. takes 5 p (plain p refl (as_before refl) refl refl refl (open_same p p refl)) (λ i e. refl))

      front : a < g.n → b < g.n → (l : List Message) → S.lanes a b ≡ l → Φ (oldest g S a b l f)
      front an bn [] q = unfold oldest in refused 13
      front an bn (m ∷ ms) q = unfold oldest in cond_both (fits g m) (got g S a b m f) (turn (Outcome 7) (take_done g S a b (S.servers b))) Φ (λ _. gets m ms an bn q) (λ _. takes 7 (S.servers b) (plain (S.servers b) refl (as_before refl) refl refl refl (open_same (S.servers b) (S.servers b) refl)) (λ i e. refl))
