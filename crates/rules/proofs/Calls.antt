-- Every call keeps the core sound.
use Rattle.std.proofs.Common.{◌≡◌, ℕ, ◌+◌, ◌-◌, ◌<◌, ◌≤◌, Bool, true, false, cond, not, ◌&&◌, ◌||◌, eqb, ltb, leb, ◌⊎◌, List, length, get_or, Some, None, filter, Option, sym, refl, ap, ◌∙◌, inl, inr, ⊎_elim, arith}
use Rattle.std.proofs.lemmas.Bool.{both_ways, cases_Bool, cases_eq, eq-eqb, eqb-true, ltb-true, leb-true, leb-false, and_parts, and_from, or_cases, or_left, or_right, not-true, not-false, cond_both}
use Rattle.rules.proofs.RankedMessages.{Written, Tagged, Question, height, server}
use Rattle.rules.proofs.RankedWords.{upd, listed, every, spread}
use Rattle.rules.proofs.Ranked.{Code, Entry, Waiting, Read, Server, State, has, holds, enters, same_entry, kept, highest, top_tag, swap, is_open, core, slots, clients, most_reads, no_read}
use Rattle.std.proofs.lemmas.List.FromFn.{get_or-map-range_with_len}
use Rattle.rules.proofs.RankedSteps.{Refused, Tag, Value, Number, Still, Outcome, Count, Found, Turn, turn, check, unless, write_refusal, open_refusal, read_refusal, read_found, collect_refusal, collect_at, object_refusal, entered, counted, queued, sifted, reading, moved, new_read, opening, answered, overtaken, Picked, room, history_room, write_tag, write_done, write, open_done, free_slot, open_read, from_history, from_symbol, read, client_slot, collect_done, collect, wait_tag, picked, apply_done, apply_picked, apply, move_done, enter_done, encode_contained, within, encode_other, encode, floor, wanted, stays, settled, swept, sweep_done, sweep}
use Rattle.rules.proofs.Words.{upd_same, upd_other, upd_keeps, every_at, some_from, lowest_le, holds_push, enters_sift, highest_found}
use Rattle.rules.proofs.Move.{move_keeps}
use Rattle.rules.proofs.Sweep.{Idle, below, level, sweep_keeps}
use Rattle.rules.proofs.Replies.{opens}
use Rattle.rules.proofs.Frames.{Slot, same, fresh_read, Mild, spread_from, spread_else, Fine, fine_put, fine_spread}

pub unless_both : (Φ : Turn → Type 0) (r : ℕ) (S : State) (t : Turn) → Φ (turn (Refused r) S) → (r ≡ 0 → Φ t) → Φ (unless r S t)
unless_both Φ r S t h go = cond_both (eqb r 0) t (turn (Refused r) S) Φ (λ e. go (eqb-true r 0 e)) (λ _. h)

-- what was checked, where nothing is refused
pub checked : (b : Bool) (r later : ℕ) → 0 < r → check b r later ≡ 0 → (b ≡ true) × (later ≡ 0)
checked true r later lt e = (refl, e)
checked false r later lt e = absurd (omega arith)

-- ---- servers that change mildly

-- a read that stands open after an overtaking write is as it was
pub overtaken_open : (rs : ℕ → Read) (all : Bool) (x t : ℕ) (v : List ℕ) (i : ℕ) → is_open (overtaken rs all x t v i) ≡ true → overtaken rs all x t v i ≡ rs i
unfolding overtaken
overtaken_open rs all x t v i = cond_both (ltb i clients && (is_open (rs i) && (eqb (rs i).object x && (all || ltb ((rs i).tags x) t)))) (answered (rs i) v t 4) (rs i)
    (λ r. is_open r ≡ true → r ≡ rs i) (λ _ e. absurd (both_ways false refl e)) (λ _ e. refl)

slot_same : (p r : Server) (i : ℕ) → r.reads i ≡ p.reads i → is_open (r.reads i) ≡ true → Slot p r i
slot_same p r i e o = same (ap is_open (sym e) ∙ o) (ap (λ (q : Read). q.number) e) (ap (λ (q : Read). q.tags) e)

write_mild : (p : Server) (j c h : ℕ) (ws : List Waiting) (e : Entry) (all : Bool) (x t : ℕ) (v : List ℕ)
    → Mild p (reading (entered (counted (queued p ws) j c h) e) (overtaken p.reads all x t v))
unfolding reading entered counted queued
write_mild p j c h ws e all x t v = record {
  own = λ y. refl;
  told = λ y i. refl;
  held = λ y u. holds_push p.history e y u;
  opened = omega arith;
  reads = λ i o. slot_same p (reading (entered (counted (queued p ws) j c h) e) (overtaken p.reads all x t v)) i (overtaken_open p.reads all x t v i o) o;
}

written_mild : (p : Server) (j c h : ℕ) (e : Entry) (all : Bool) (x t : ℕ) (v : List ℕ) → Mild p (reading (entered (counted p j c h) e) (overtaken p.reads all x t v))
unfolding reading entered counted queued
written_mild p j c h e all x t v = write_mild p j c h p.waiting e all x t v

pub queued_mild : (p : Server) (ws : List Waiting) → Mild p (queued p ws)
unfolding queued
queued_mild p ws = record { own = λ y. refl; told = λ y i. refl; held = λ y u e. e; opened = omega arith; reads = λ i o. same o refl refl }

entered_mild : (p : Server) (e : Entry) → Mild p (entered p e)
unfolding entered
entered_mild p e = record { own = λ y. refl; told = λ y i. refl; held = λ y u. holds_push p.history e y u; opened = omega arith; reads = λ i o. same o refl refl }

-- the place i changes to a read that is not open, or is as it was but for what is in hand
pub reading_mild : (p : Server) (i : ℕ) (r : Read) → (is_open r ≡ true → (is_open (p.reads i) ≡ true) × (r.number ≡ (p.reads i).number) × (r.tags ≡ (p.reads i).tags)) → Mild p (reading p (upd p.reads i r))
unfolding reading
reading_mild p i r h = record {
  own = λ y. refl;
  told = λ y i. refl;
  held = λ y u e. e;
  opened = omega arith;
  reads = λ k o. elim (cases_eq k i) [
    | inl e ↦
        let u : upd p.reads i r k ≡ r = ap (upd p.reads i r) e ∙ upd_same p.reads i r in
        let w = h (ap is_open (sym u) ∙ o) in
        same (rw e w.0) (rw (u, e) w.1) (rw (u, e) w.2)
    | inr ne ↦ slot_same p (reading p (upd p.reads i r)) k (upd_other p.reads i k r ne) o
  ];
}

mild_then : (p q r : Server) → Mild p q → Mild q r → q.opened ≡ p.opened → Mild p r
mild_then p q r h l e = record {
  own = λ x. l.own x ∙ h.own x;
  told = λ x j. l.told x j ∙ h.told x j;
  held = λ x t o. l.held x t (h.held x t o);
  opened = let a = h.opened in let b = l.opened in omega arith;
  reads = λ i o. joins i (l.reads i o);
}
  where
    joins : (i : ℕ) → Slot q r i → Slot p r i
    joins i (same o n t) = further (h.reads i o)
      where
        further : Slot p q i → Slot p r i
        further (same o' n' t') = same o' (n ∙ n') (t ∙ t')
        further (fresh_read a b t') = absurd (omega arith)
    joins i (fresh_read a b t) = fresh_read (omega arith) b (t ∙ own_same)
      where
        own_same : q.own ≡ p.own
        own_same = λ j x. h.own x j

pub internal_mild : (p : Server) (i : ℕ) (e : Entry) → Mild p (reading (entered p e) (upd p.reads i no_read))
unfolding reading entered
internal_mild p i e = record {
  own = λ y. refl;
  told = λ y i. refl;
  held = λ y u. holds_push p.history e y u;
  opened = omega arith;
  reads = λ k o. elim (cases_eq k i) [
    | inl q ↦ absurd (both_ways false refl (ap is_open (sym (ap (upd p.reads i no_read) q ∙ upd_same p.reads i no_read)) ∙ o))
    | inr ne ↦ slot_same p (reading (entered p e) (upd p.reads i no_read)) k (upd_other p.reads i k no_read ne) o
  ];
}

opening_mild : (p : Server) (s i x : ℕ) → Mild p (opening p s i x)
unfolding opening
opening_mild p s i x = record {
  own = λ y. refl;
  told = λ y i. refl;
  held = λ y u e. e;
  opened = omega arith;
  reads = λ k o. elim (cases_eq k i) [
    | inl e ↦
        let u : upd p.reads i (new_read p s x) k ≡ new_read p s x = ap (upd p.reads i (new_read p s x)) e ∙ upd_same p.reads i (new_read p s x) in
        fresh_read (rw u (omega arith)) (rw u (omega arith)) (rw u)
    | inr ne ↦ slot_same p (opening p s i x) k (upd_other p.reads i k (new_read p s x) ne) o
  ];
}

opening_last : (p : Server) (s i x : ℕ) → p.opened + 1 ≤ (opening p s i x).opened
unfolding opening
opening_last p s i x = omega arith

opening_own : (p : Server) (s i x y : ℕ) → (opening p s i x).own y ≡ p.own y
unfolding opening
opening_own p s i x y = refl

-- the read with the new number is the new read
opening_reads : (p : Server) (s i x : ℕ) → ((j : ℕ) → (ltb j slots && is_open (p.reads j)) ≡ true → (p.reads j).number ≤ p.opened)
    → (j : ℕ) → (ltb j slots && is_open ((opening p s i x).reads j)) ≡ true → ((opening p s i x).reads j).number ≡ p.opened + 1 → (y : ℕ) → ((opening p s i x).reads j).tags y ≡ (opening p s i x).own y
unfolding opening
opening_reads p s i x old j o e y = elim (cases_eq j i) [
  | inl q ↦ rw (q, upd_same p.reads i (new_read p s x))
  | inr ne ↦
      let u = upd_other p.reads i j (new_read p s x) ne in
      absurd (let l = old j (rw u at o) in let m : (p.reads j).number ≡ p.opened + 1 = rw u at e in omega arith)
]

pub object_server : (g : Code) (s x : ℕ) → object_refusal g s x ≡ 0 → s < g.n
unfolding object_refusal
object_server g s x e = ltb-true s g.n (checked (ltb s g.n) 7 (check (ltb x g.k) 8 0) (omega arith) e).0

pub object_object : (g : Code) (s x : ℕ) → object_refusal g s x ≡ 0 → x < g.k
unfolding object_refusal
object_object g s x e = ltb-true x g.k (checked (ltb x g.k) 8 0 (omega arith) (checked (ltb s g.n) 7 (check (ltb x g.k) 8 0) (omega arith) e).1).0

pub read_server : (g : Code) (s x l : ℕ) → read_refusal g s x l ≡ 0 → s < g.n
unfolding read_refusal
read_server g s x l e = ltb-true s g.n (checked (ltb s g.n) 7 (check (ltb x g.k) 8 (check (eqb l g.w) 9 0)) (omega arith) e).0

pub read_object : (g : Code) (s x l : ℕ) → read_refusal g s x l ≡ 0 → x < g.k
unfolding read_refusal
read_object g s x l e = ltb-true x g.k (checked (ltb x g.k) 8 (check (eqb l g.w) 9 0) (omega arith) (checked (ltb s g.n) 7 (check (ltb x g.k) 8 (check (eqb l g.w) 9 0)) (omega arith) e).1).0

module _ (g : Code) (S : State) (h : Fine g S) where
  abbrev Kept : Turn → Type 0
  Kept t = Fine g t.next

  -- ---- write and apply
  write_fine : (s x : ℕ) (v : List ℕ) → Fine g (write_done g S s x v)
  unfolding write_done
  write_fine s x v =
      let p = S.servers s in
      let t = write_tag g p s in
      let c = counted p s (p.clock s + 1) (p.top + 1) in
      let r = reading (entered c (record { object = x; tag = t; value = v })) (overtaken p.reads true x t v) in
      let R : State = record { servers = upd S.servers s r; lanes = S.lanes } in
      fine_spread g R s (Written x v (p.top + 1) (listed g.n c.clock)) (fine_put g S s r h (written_mild p s (p.clock s + 1) (p.top + 1) (record { object = x; tag = t; value = v }) true x t v)) (λ y o. refl) (λ b sn bn ne. tt)

  pub write_keeps : (s x : ℕ) (v : List ℕ) → Kept (write g S s x v)
  unfolding write
  write_keeps s x v = unless_both Kept (write_refusal g S s x v) S (turn (Tag (write_tag g (S.servers s) s)) (write_done g S s x v)) h (λ _. write_fine s x v)

  apply_fine : (s : ℕ) (v : Waiting) (vs : List Waiting) → Fine g (apply_done g S s v vs)
  unfolding apply_done
  apply_fine s v vs = fine_put g S s _ h (write_mild (S.servers s) (server v.tag) (get_or v.clock (server v.tag) 0) (height v.tag) vs (record { object = v.object; tag = wait_tag g v; value = v.value }) false v.object (wait_tag g v) v.value)

  picked_fine : (s : ℕ) (o : Option Picked) → Kept (apply_picked g S s o)
  unfolding apply_picked
  picked_fine s None = h
  picked_fine s (Some b) = unless_both Kept (check (history_room g S s) 15 0) S (turn (Tag (wait_tag g b.write)) (apply_done g S s b.write b.others)) h (λ _. apply_fine s b.write b.others)

  pub apply_keeps : (s : ℕ) → Kept (apply g S s)
  unfolding apply
  apply_keeps s = unless_both Kept (check (ltb s g.n) 7 0) S (apply_picked g S s (picked g (S.servers s) (S.servers s).waiting)) h (λ _. picked_fine s (picked g (S.servers s) (S.servers s).waiting))

  -- ---- reads
  open_fine : (s i x : ℕ) → s < g.n → Fine g (open_done g S s i x)
  unfolding open_done
  open_fine s i x sn =
      let p = S.servers s in
      let T = listed g.k p.own in
      fine_spread g opened_state s (Question (p.opened + 1) x T) (fine_put g S s (opening p s i x) h (opening_mild p s i x)) (λ y o. refl)
      (λ b sn bn ne. opens g.n g.k (has g) (core opened_state) (fine_put g S s (opening p s i x) h (opening_mild p s i x)) s b i (p.opened + 1) x T sn bn ne
      (rw (upd_same S.servers s (opening p s i x)) last_here)
      (λ y lt. get_or-map-range_with_len p.own 0 g.k y y 0 lt (omega arith) ∙ sym (own_same y))
      (λ j. reads j))
    where
      opened_state : State
      opened_state = record { servers = upd S.servers s (opening (S.servers s) s i x); lanes = S.lanes }

      last_here : (S.servers s).opened + 1 ≤ (opening (S.servers s) s i x).opened
      last_here = opening_last (S.servers s) s i x

      own_same : (y : ℕ) → (upd S.servers s (opening (S.servers s) s i x) s).own y ≡ (S.servers s).own y
      own_same y = ap (λ (r : Server). r.own y) (upd_same S.servers s (opening (S.servers s) s i x)) ∙ opening_own (S.servers s) s i x y

      reads : (j : ℕ) → (ltb j slots && is_open ((upd S.servers s (opening (S.servers s) s i x) s).reads j)) ≡ true → ((upd S.servers s (opening (S.servers s) s i x) s).reads j).number ≡ (S.servers s).opened + 1
          → (y : ℕ) → ((upd S.servers s (opening (S.servers s) s i x) s).reads j).tags y ≡ (upd S.servers s (opening (S.servers s) s i x) s).own y
      reads j o e y = rw (upd_same S.servers s (opening (S.servers s) s i x)) (opening_reads (S.servers s) s i x (λ k q. (h.reads s k q).0) j
          (rw (upd_same S.servers s (opening (S.servers s) s i x)) at o) (rw (upd_same S.servers s (opening (S.servers s) s i x)) at e) y)

  opened_fine : (s x : ℕ) → s < g.n → Kept (open_read g S s x)
  unfolding open_read
  opened_fine s x sn = unless_both Kept (open_refusal g S s) S (turn (Number ((S.servers s).opened + 1)) (open_done g S s (free_slot g (S.servers s)) x)) h (λ _. open_fine s (free_slot g (S.servers s)) x sn)

  found_fine : (s x : ℕ) (f : Found) → s < g.n → Kept (read_found g S s x f)
  unfolding read_found
  found_fine s x f sn =
      let p = S.servers s in
      let t = top_tag x p.history in
      let second = cond (from_symbol g p x f) (turn (Value f.value (p.own x) 2) S) (open_read g S s x) in
      cond_both (from_history g p x && (not (from_symbol g p x f) || f.first_way)) (turn (Value (kept g p.history x t) t 1) S) second Kept (λ _. h)
      (λ _. cond_both (from_symbol g p x f) (turn (Value f.value (p.own x) 2) S) (open_read g S s x) Kept (λ _. h) (λ _. opened_fine s x sn))

  pub read_keeps : (s x l : ℕ) (f : Found) → Kept (read g S s x l f)
  unfolding read
  read_keeps s x l f = unless_both Kept (read_refusal g s x l) S (read_found g S s x f) h (λ e. found_fine s x f (read_server g s x l e))

  collect_fine : (s i : ℕ) → Kept (collect_at g S s i)
  unfolding collect_at collect_done
  collect_fine s i =
      let r = (S.servers s).reads i in
      cond_both (is_open r) (turn Still S) (turn (Value r.value r.tag r.way) (collect_done g S s i)) Kept (λ _. h)
      (λ _. fine_put g S s (reading (S.servers s) (upd (S.servers s).reads i no_read)) h (reading_mild (S.servers s) i no_read (λ e. absurd (both_ways false refl e))))

  pub collect_keeps : (s m l : ℕ) → Kept (collect g S s m l)
  unfolding collect
  collect_keeps s m l = unless_both Kept (collect_refusal g S s m l) S (collect_at g S s (client_slot g (S.servers s) m)) h (λ _. collect_fine s (client_slot g (S.servers s) m))

  -- ---- encode
  enter_fine : (s : ℕ) (e : Entry) → Fine g (enter_done g S s e)
  unfolding enter_done
  enter_fine s e = fine_put g S s (entered (S.servers s) e) h (entered_mild (S.servers s) e)

  move_fine : (s x t : ℕ) (v : List ℕ) → s < g.n → (S.servers s).own x < t → enters (S.servers s).history x t ≡ true
      → (has g s x ≡ true → holds (S.servers s).history x ((S.servers s).own x) ≡ true)
      → (has g s x ≡ false → (j : ℕ) → j < g.n → has g j x ≡ true → t ≤ (S.servers s).told x j)
      → Fine g (move_done g S s x t v)
  unfolding move_done moved
  move_fine s x t v sn above e old low =
      let p = S.servers s in
      let r = moved p s x t v in
      let L = spread S.lanes s g.n (Tagged x t) in
      let R : State = record { servers = upd S.servers s r; lanes = L } in
      move_keeps g.n g.k (has g) (core S) (core R) s x t sn h (record {
        above = above;
        holds = or_right (eqb t 0) (enters p.history x t) e;
        old = old;
        within = low;
        own_here = ap (λ (q : Server). q.own x) (upd_same S.servers s r) ∙ upd_same p.own x t;
        own_else = λ i y ne. elim (cases_eq i s) [
          | inl q ↦ rw (q, upd_same S.servers s r) (upd_other p.own x y t (λ w. ne q w))
          | inr w ↦ ap (λ (q : Server). q.own y) (upd_other S.servers s i r w)
        ];
        told_here = ap (λ (q : Server). q.told x s) (upd_same S.servers s r) ∙ ap (λ (q : ℕ → ℕ). q s) (upd_same p.told x (upd (p.told x) s t)) ∙ upd_same (p.told x) s t;
        told_else = λ i y j ne. elim (cases_eq i s) [
          | inl q ↦ rw (q, upd_same S.servers s r) (elim (cases_eq y x) [
            | inl w ↦ rw w (ap (λ (z : ℕ → ℕ). z j) (upd_same p.told x (upd (p.told x) s t)) ∙ upd_other (p.told x) s j t (λ z. ne q w z))
            | inr w ↦ ap (λ (z : ℕ → ℕ). z j) (upd_other p.told x y (upd (p.told x) s t) w)
          ])
          | inr w ↦ ap (λ (q : Server). q.told y j) (upd_other S.servers s i r w)
        ];
        held = λ i y u. upd_keeps (λ (q : Server). holds q.history y u) S.servers s i r refl;
        live = λ i k. upd_keeps (λ (q : Server). ltb k slots && is_open (q.reads k)) S.servers s i r refl;
        num = λ i k. upd_keeps (λ (q : Server). (q.reads k).number) S.servers s i r refl;
        want = λ i k y. upd_keeps (λ (q : Server). (q.reads k).tags y) S.servers s i r refl;
        last = λ i. upd_keeps (λ (q : Server). q.opened) S.servers s i r refl;
        lane_from = λ b bn ne. spread_from S.lanes s g.n b (Tagged x t) bn ne;
        lane_else = λ a b ne. spread_else S.lanes s g.n a b (Tagged x t) ne;
      })

  -- the highest history tag, where it is above the own tag, is entered
  found_tag : (s x : ℕ) (f : ℕ → Bool) → leb (highest f x (S.servers s).history) ((S.servers s).own x) ≡ false
      → ((S.servers s).own x < highest f x (S.servers s).history) × (enters (S.servers s).history x (highest f x (S.servers s).history) ≡ true) × (f (highest f x (S.servers s).history) ≡ true)
  found_tag s x f e =
      let lt = leb-false (highest f x (S.servers s).history) ((S.servers s).own x) e in
      ⊎_elim (λ (z : highest f x (S.servers s).history ≡ 0). absurd (omega arith)) (λ z. (lt, z.0, z.1)) (highest_found f x (S.servers s).history)

  contained_fine : (s x : ℕ) (f : Found) → s < g.n → has g s x ≡ true → Kept (encode_contained g S s x f)
  unfolding encode_contained
  contained_fine s x f sn i =
      let p = S.servers s in
      let t = top_tag x p.history in
      let move = turn (Outcome 1) (move_done g S s x t (swap g s x (kept g p.history x (p.own x)) (kept g p.history x t) p.symbol)) in
      let enter = turn (Outcome 3) (enter_done g S s (record { object = x; tag = p.own x; value = f.value })) in
      let ask = turn (Outcome 4) (open_done g S s (clients + x) x) in
      let asking = unless (check (ltb p.opened most_reads) 14 (check (room g S s) 17 0)) S ask in
      let entering = unless (check (history_room g S s) 15 0) S enter in
      let moving = unless (check (room g S s) 17 0) S move in
      let fourth = cond f.recovered entering asking in
      let third = cond (is_open (p.reads (clients + x))) (turn (Outcome 2) S) fourth in
      let second = cond (holds p.history x (p.own x)) moving third in
      cond_both (leb t (p.own x)) (turn (Outcome 0) S) second Kept (λ _. h) (λ hi.
      let found = found_tag s x (λ _. true) hi in
      cond_both (holds p.history x (p.own x)) moving third Kept
      (λ q. unless_both Kept (check (room g S s) 17 0) S move h (λ _. move_fine s x t _ sn found.0 found.1 (λ _. q) (λ w. absurd (both_ways (has g s x) w i))))
      (λ _. cond_both (is_open (p.reads (clients + x))) (turn (Outcome 2) S) fourth Kept (λ _. h)
      (λ _. cond_both f.recovered entering asking Kept
      (λ _. unless_both Kept (check (history_room g S s) 15 0) S enter h (λ _. enter_fine s (record { object = x; tag = p.own x; value = f.value })))
      (λ _. unless_both Kept (check (ltb p.opened most_reads) 14 (check (room g S s) 17 0)) S ask h (λ _. open_fine s (clients + x) x sn)))))

  other_fine : (s x : ℕ) → s < g.n → has g s x ≡ false → Kept (encode_other g S s x)
  unfolding encode_other
  other_fine s x sn i =
      let p = S.servers s in
      let t = highest (within g p x) x p.history in
      let move = turn (Outcome 1) (move_done g S s x t p.symbol) in
      cond_both (leb t (p.own x)) (turn (Outcome 0) S) (unless (check (room g S s) 17 0) S move) Kept (λ _. h) (λ hi.
      let found = found_tag s x (within g p x) hi in
      unless_both Kept (check (room g S s) 17 0) S move h (λ _. move_fine s x t p.symbol sn found.0 found.1 (λ w. absurd (both_ways (has g s x) i w))
      (λ _ j jn q. ⊎_elim (λ w. absurd (both_ways (has g j x) (not-true (has g j x) w) q)) (λ w. leb-true t (p.told x j) w)
      (or_cases (not (has g j x)) (leb t (p.told x j)) (every_at g.n (λ j. not (has g j x) || leb t (p.told x j)) found.2 j jn)))))

  pub encode_keeps : (s x : ℕ) (f : Found) → Kept (encode g S s x f)
  unfolding encode
  encode_keeps s x f = unless_both Kept (object_refusal g s x) S (cond (has g s x) (encode_contained g S s x f) (encode_other g S s x)) h (λ e.
      cond_both (has g s x) (encode_contained g S s x f) (encode_other g S s x) Kept (contained_fine s x f (object_server g s x e)) (other_fine s x (object_server g s x e)))

  -- ---- sweep
  pub sweep_idle : (s x y u : ℕ) → enters (S.servers s).history y u ≡ true → (enters (swept g (S.servers s) x) y u ≡ true) ⊎ Idle g.n g.k (has g) (core S) s y u
  unfolding swept
  sweep_idle s x y u e =
      let p = S.servers s in
      let es = filter (stays g p x) p.history in
      let fs = filter (λ d. not (same_entry x (p.own x) d)) es in
      let K : ℕ → ℕ → Bool = λ o t. not (eqb o x && (ltb t (floor g p x) && not (wanted g p x t))) in
      let M : ℕ → ℕ → Bool = λ o t. not (eqb o x && eqb t (p.own x)) in
      let first : enters es y u ≡ (enters p.history y u && K y u) = enters_sift (stays g p x) K (λ d. refl) p.history y u in
      let then : enters fs y u ≡ (enters es y u && M y u) = enters_sift (λ d. not (same_entry x (p.own x) d)) M (λ d. refl) es y u in
      elim (cases_Bool (K y u)) [
        | inr out ↦ inr (
            let a = and_parts (eqb y x) (ltb u (floor g p x) && not (wanted g p x u)) (not-false (eqb y x && (ltb u (floor g p x) && not (wanted g p x u))) out) in
            let b = and_parts (ltb u (floor g p x)) (not (wanted g p x u)) a.1 in
            let yx = eqb-true y x a.0 in
            rw yx (below
            (λ i lt. let l = lowest_le g.n (p.told x) i lt in let m = ltb-true u (floor g p x) b.0 in omega arith)
            (λ i lv w. let q = and_parts (ltb i slots) (is_open (p.reads i)) lv in
            both_ways (wanted g p x u) (not-true (wanted g p x u) b.1)
            (some_from slots (λ i. is_open (p.reads i) && eqb ((p.reads i).tags x) u) i (ltb-true i slots q.0) (and_from (is_open (p.reads i)) (eqb ((p.reads i).tags x) u) q.1 (eq-eqb ((p.reads i).tags x) u w))))))
        | inl stay ↦
            let here : enters es y u ≡ true = first ∙ and_from (enters p.history y u) (K y u) e stay in
            cond_both (settled g p x es) fs es (λ l. (enters l y u ≡ true) ⊎ Idle g.n g.k (has g) (core S) s y u)
            (λ q. elim (cases_Bool (M y u)) [
              | inl still ↦ inl (then ∙ and_from (enters es y u) (M y u) here still)
              | inr out ↦ inr (
                  let a = and_parts (eqb y x) (eqb u (p.own x)) (not-false (eqb y x && eqb u (p.own x)) out) in
                  let yx = eqb-true y x a.0 in
                  let uo = eqb-true u (p.own x) a.1 in
                  let b = and_parts (every g.n (λ j. eqb (p.told x j) (p.own x))) (leb (top_tag x es) (p.own x)) q in
                  rw yx (level uo (λ i lt. eqb-true (p.told x i) (p.own x) (every_at g.n (λ j. eqb (p.told x j) (p.own x)) b.0 i lt) ∙ sym uo)))
            ])
            (λ _. inl here)
      ]

  pub sweep_no_new : (s x y u : ℕ) → enters (swept g (S.servers s) x) y u ≡ true → enters (S.servers s).history y u ≡ true
  unfolding swept
  sweep_no_new s x y u =
      let p = S.servers s in
      let es = filter (stays g p x) p.history in
      let fs = filter (λ d. not (same_entry x (p.own x) d)) es in
      let K : ℕ → ℕ → Bool = λ o t. not (eqb o x && (ltb t (floor g p x) && not (wanted g p x t))) in
      let M : ℕ → ℕ → Bool = λ o t. not (eqb o x && eqb t (p.own x)) in
      let first : enters es y u ≡ (enters p.history y u && K y u) = enters_sift (stays g p x) K (λ d. refl) p.history y u in
      let then : enters fs y u ≡ (enters es y u && M y u) = enters_sift (λ d. not (same_entry x (p.own x) d)) M (λ d. refl) es y u in
      cond_both (settled g p x es) fs es (λ l. enters l y u ≡ true → enters p.history y u ≡ true)
      (λ _ e. (and_parts (enters p.history y u) (K y u) (sym first ∙ (and_parts (enters es y u) (M y u) (sym then ∙ e)).0)).0)
      (λ _ e. (and_parts (enters p.history y u) (K y u) (sym first ∙ e)).0)

  sweep_fine : (s x : ℕ) → Fine g (sweep_done g S s x)
  unfolding sweep_done sifted
  sweep_fine s x =
      let p = S.servers s in
      let es = swept g p x in
      let r = sifted p es in
      let R : State = record { servers = upd S.servers s r; lanes = S.lanes } in
      sweep_keeps g.n g.k (has g) (core S) (core R) h (record {
        own = λ i y. upd_keeps (λ (q : Server). q.own y) S.servers s i r refl;
        told = λ i y j. upd_keeps (λ (q : Server). q.told y j) S.servers s i r refl;
        lane = λ a b. refl;
        live = λ i k. upd_keeps (λ (q : Server). ltb k slots && is_open (q.reads k)) S.servers s i r refl;
        num = λ i k. upd_keeps (λ (q : Server). (q.reads k).number) S.servers s i r refl;
        want = λ i k y. upd_keeps (λ (q : Server). (q.reads k).tags y) S.servers s i r refl;
        last = λ i. upd_keeps (λ (q : Server). q.opened) S.servers s i r refl;
        zero_held = λ i y. refl;
        no_new = λ i y u e. elim (cases_eq i s) [
          | inl q ↦ rw q (⊎_elim (λ z. or_left (eqb u 0) (enters p.history y u) z) (λ z. or_right (eqb u 0) (enters p.history y u) (sweep_no_new s x y u z))
              (or_cases (eqb u 0) (enters es y u) (rw (q, upd_same S.servers s r) at e)))
          | inr ne ↦ rw (upd_other S.servers s i r ne) at e
        ];
        gone = λ i y u e. elim (cases_eq i s) [
          | inl q ↦ rw (q, upd_same S.servers s r) (⊎_elim (λ z. inl (or_left (eqb u 0) (enters es y u) z))
              (λ z. ⊎_elim (λ w. inl (or_right (eqb u 0) (enters es y u) w)) (λ w. inr w) (sweep_idle s x y u z))
              (or_cases (eqb u 0) (enters p.history y u) (rw q at e)))
          | inr ne ↦ inl (rw (upd_other S.servers s i r ne) e)
        ];
      })

  pub sweep_kept : (s x : ℕ) → Kept (sweep g S s x)
  unfolding sweep
  sweep_kept s x = unless_both Kept (object_refusal g s x) S (turn (Count (length (S.servers s).history - length (swept g (S.servers s) x))) (sweep_done g S s x)) h (λ _. sweep_fine s x)
