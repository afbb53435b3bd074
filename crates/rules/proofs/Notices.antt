-- Each write under way or waiting is one of its server's writes; clocks and notices over each call.
use Rattle.std.proofs.Common.{◌≡◌, ℕ, suc, ◌+◌, ◌/◌, ◌%◌, ◌<◌, ◌≤◌, Bool, true, cond, not, ◌&&◌, eqb, ltb, leb, List, [], ◌∷◌, ◌++◌, length, get_or, take, drop, Some, None, Option, sym, refl, ap, ◌∙◌, subst, inl, inr, append-nil, arith}
use mathlib.Core.Path.{fun_ext}
use Rattle.std.specs.List.{AllByRecursion}
use Rattle.std.proofs.lemmas.Bool.{cases_eq, cond_both, cond-true, cond-false, eq-eqb, ne_eqb, eqb-true, leb-true, and_parts}
use Rattle.std.proofs.ByRecursion.{All-push, All-drop, All-take, All-append, All-get_or, All-weaker, all-has}
use Rattle.std.proofs.lemmas.List.FromFn.{get_or-map-range_with_len}
use Rattle.rules.specs.Words.{upd}
use Rattle.rules.specs.Turns.{Call, Write, Read as Ask, Collect, Deliver, Apply, Encode, Sweep, Found}
use Rattle.rules.proofs.RankedMessages.{Message, Written, Tagged, Question, Plain, Coded, tag, server}
use Rattle.rules.proofs.RankedWords.{listed, spread, posted, taken, Lanes}
use Rattle.rules.proofs.Ranked.{Code, Entry, Waiting, Server, State, holds, kept, no_read, clients, fresh}
use Rattle.rules.proofs.RankedSteps as Steps
use Rattle.rules.proofs.RankedSteps.{Answer, Refused, Tag, Value, Number, Still, Nothing, Outcome, Count, Turn, turn, Picked, entered, counted, queued, sifted, reading, moved, opening, write_tag, write_refusal, write_done, apply_done, open_done, collect_done, move_done, enter_done, sweep_done, take_done, question_done, reply, mixed, states, next_ready, picked, wait_tag, step, free_slot}
use Rattle.rules.proofs.RankedFacts.{Lawful, applies}
use Rattle.rules.proofs.Words.{upd_same, upd_other, upd_keeps, every_at}
use Rattle.rules.proofs.Source.{next_picks, Picks}
use Rattle.rules.proofs.Cases.{write_cases, apply_cases_at, read_cases, collect_cases, sweep_cases, encode_cases, deliver_cases, Receives, Queues, as_before, joins}
use Rattle.rules.proofs.Coded.{checked_write}
use Rattle.rules.proofs.Latest.{Known, also}
use Rattle.rules.proofs.Past.{Made, no_made, Writes, nth, Counts, Longer, pushed, pushed_here, pushed_longer, counts_write, counts_apply}
use Rattle.std.proofs.lemmas.List.{get_or_push, length_push}

-- a waiting write is one of its server's
pub record Noted (n : ℕ) (W : Writes) (w : Waiting) : Type 0 where
  pub is_server : server w.tag < n
  pub place : ℕ
  pub count : get_or w.clock (server w.tag) 0 ≡ suc place
  pub among : place < length (W (server w.tag))
  pub tag : (nth W (server w.tag) place).tag ≡ w.tag
  pub clock : (nth W (server w.tag) place).clock ≡ w.clock

abbrev pub Noticed : ℕ → Writes → ℕ → Message → Type 0
Noticed n W a (Written x v h ck) = Noted n W (record { object = x; tag = tag h a; value = v; clock = ck })
Noticed n W a (Tagged x t) = Unit {0}
Noticed n W a (Question m x T) = Unit {0}
Noticed n W a (Plain m v) = Unit {0}
Noticed n W a (Coded m v st) = Unit {0}

pub record Notices (n : ℕ) (W : Writes) (S : State) : Type 0 where
  pub waiting : (s : ℕ) → AllByRecursion (Noted n W) (S.servers s).waiting
  pub lanes : (a b : ℕ) → AllByRecursion (Noticed n W a) (S.lanes a b)

noted_longer : (n : ℕ) (W X : Writes) → Longer W X → (w : Waiting) → Noted n W w → Noted n X w
noted_longer n W X l w h = record {
  is_server = h.is_server;
  place = h.place;
  count = h.count;
  among = let m = l.more (server w.tag) in let q = h.among in omega arith;
  tag = ap (λ (z : Made). z.tag) (l.same (server w.tag) h.place h.among) ∙ h.tag;
  clock = ap (λ (z : Made). z.clock) (l.same (server w.tag) h.place h.among) ∙ h.clock;
}

noticed_longer : (n : ℕ) (W X : Writes) → Longer W X → (a : ℕ) (m : Message) → Noticed n W a m → Noticed n X a m
noticed_longer n W X l a (Written x v h ck) q = noted_longer n W X l (record { object = x; tag = tag h a; value = v; clock = ck }) q
noticed_longer n W X l a (Tagged x t) q = tt
noticed_longer n W X l a (Question m x T) q = tt
noticed_longer n W X l a (Plain m v) q = tt
noticed_longer n W X l a (Coded m v st) q = tt

pub notices_longer : (n : ℕ) (W X : Writes) → Longer W X → (S : State) → Notices n W S → Notices n X S
notices_longer n W X l S h = record {
  waiting = λ s. All-weaker (Noted n W) (Noted n X) (noted_longer n W X l) (S.servers s).waiting (h.waiting s);
  lanes = λ a b. All-weaker (Noticed n W a) (Noticed n X a) (noticed_longer n W X l a) (S.lanes a b) (h.lanes a b);
}

-- ---- calls that leave clocks and notices

pub record Quiet (n : ℕ) (W : Writes) (S : State) (t : Turn) : Type 0 where
  pub clocks : (s : ℕ) → (t.next.servers s).clock ≡ (S.servers s).clock
  pub notices : Notices n W t.next

module _ (g : Code) (W : Writes) (S : State) (h : Notices g.n W S) where
  abbrev Kept : Turn → Type 0
  Kept t = Quiet g.n W S t

  -- one server changes, with its clock and waiting writes as they were
  put_quiet : (a : Answer) (s : ℕ) (r : Server) (Ln : Lanes) → r.clock ≡ (S.servers s).clock → AllByRecursion (Noted g.n W) r.waiting → ((a b : ℕ) → AllByRecursion (Noticed g.n W a) (Ln a b))
      → Kept (turn a (record { servers = upd S.servers s r; lanes = Ln }))
  put_quiet a s r Ln c w l = record {
    clocks = λ k. upd_keeps (λ (q : Server). q.clock) S.servers s k r c;
    notices = record {
      waiting = λ k. elim (cases_eq k s) [ inl e ↦ rw (e, upd_same S.servers s r) w | inr ne ↦ rw (upd_other S.servers s k r ne) (h.waiting k) ];
      lanes = l;
    };
  }

  same_quiet : (a : Answer) → Kept (turn a S)
  same_quiet a = record { clocks = λ s. refl; notices = h }

  spread_quiet : (i : ℕ) (m : Message) → Noticed g.n W i m → (a b : ℕ) → AllByRecursion (Noticed g.n W a) (spread S.lanes i g.n m a b)
  unfolding spread
  spread_quiet i m new a b = cond_both (eqb a i && (ltb b g.n && not (eqb b i))) (S.lanes a b ++ m ∷ []) (S.lanes a b) (AllByRecursion (Noticed g.n W a))
      (λ e. All-push (Noticed g.n W a) (S.lanes a b) m (h.lanes a b) (rw (eqb-true a i (and_parts (eqb a i) (ltb b g.n && not (eqb b i)) e).0) new)) (λ _. h.lanes a b)

  taken_quiet : (i j a b : ℕ) → AllByRecursion (Noticed g.n W a) (taken S.lanes i j a b)
  unfolding taken
  taken_quiet i j a b = cond_both (eqb a i && eqb b j) (drop 1 (S.lanes a b)) (S.lanes a b) (AllByRecursion (Noticed g.n W a)) (λ _. All-drop (Noticed g.n W a) 1 (S.lanes a b) (h.lanes a b)) (λ _. h.lanes a b)

  open_quiet : (a : Answer) (s i x : ℕ) → Kept (turn a (open_done g S s i x))
  unfolding open_done opening
  open_quiet a s i x = put_quiet a s (opening (S.servers s) s i x) _ refl (h.waiting s) (spread_quiet s (Question ((S.servers s).opened + 1) x (listed g.k (S.servers s).own)) tt)

  collect_quiet : (a : Answer) (s i : ℕ) → Kept (turn a (collect_done g S s i))
  unfolding collect_done reading
  collect_quiet a s i = put_quiet a s (reading (S.servers s) (upd (S.servers s).reads i no_read)) S.lanes refl (h.waiting s) h.lanes

  sweep_quiet : (a : Answer) (s x : ℕ) → Kept (turn a (sweep_done g S s x))
  unfolding sweep_done sifted
  sweep_quiet a s x = put_quiet a s (sifted (S.servers s) (Steps.swept g (S.servers s) x)) S.lanes refl (h.waiting s) h.lanes

  move_quiet : (a : Answer) (s x t : ℕ) (v : List ℕ) → Kept (turn a (move_done g S s x t v))
  unfolding move_done moved
  move_quiet a s x t v = put_quiet a s (moved (S.servers s) s x t v) _ refl (h.waiting s) (spread_quiet s (Tagged x t) tt)

  enter_quiet : (a : Answer) (s : ℕ) (e : Entry) → Kept (turn a (enter_done g S s e))
  unfolding enter_done entered
  enter_quiet a s e = put_quiet a s (entered (S.servers s) e) S.lanes refl (h.waiting s) h.lanes

  take_quiet : (o a b : ℕ) (r : Server) → Receives a (S.lanes a b) (S.servers b) r → Kept (turn (Outcome o) (take_done g S a b r))
  unfolding take_done
  take_quiet o a b r q = put_quiet (Outcome o) b r (taken S.lanes a b) q.clock (arrived q.waiting) (λ i j. taken_quiet a b i j)
    where
      arrived : Queues a (S.lanes a b) (S.servers b) r → AllByRecursion (Noted g.n W) r.waiting
      arrived (as_before e) = subst (AllByRecursion (Noted g.n W)) (sym e) (h.waiting b)
      arrived (joins x v t ck ms e w) =
          let all : AllByRecursion (Noticed g.n W a) (Written x v t ck ∷ ms) = rw e at (h.lanes a b) in
          subst (AllByRecursion (Noted g.n W)) (sym w) (All-push (Noted g.n W) (S.servers b).waiting (record { object = x; tag = tag t a; value = v; clock = ck }) (h.waiting b) all.0)

  question_quiet : (o a b m x : ℕ) (T : List ℕ) → Kept (turn (Outcome o) (question_done g S a b (reply g b (S.servers b) m x T)))
  unfolding question_done posted
  question_quiet o a b m x T =
      let p = S.servers b in
      let z = reply g b p m x T in
      let new : Noticed g.n W b z = cond_both (holds p.history x (get_or T x 0)) (Plain m (kept g p.history x (get_or T x 0))) (Coded m (mixed g b p T g.k) (listed g.k (λ y. states g b p y (get_or T y 0)))) (Noticed g.n W b) (λ _. tt) (λ _. tt) in
      record {
        clocks = λ s. refl;
        notices = record {
          waiting = h.waiting;
          lanes = λ i j. cond_both (eqb i b && eqb j a) (taken S.lanes a b i j ++ z ∷ []) (taken S.lanes a b i j) (AllByRecursion (Noticed g.n W i))
              (λ e. All-push (Noticed g.n W i) (taken S.lanes a b i j) z (taken_quiet a b i j) (rw (eqb-true i b (and_parts (eqb i b) (eqb j a) e).0) new)) (λ _. taken_quiet a b i j);
        };
      }

  read_quiet : (s x l : ℕ) (f : Found) → Kept (Steps.read g S s x l f)
  read_quiet s x l f = read_cases g S Kept (λ r. same_quiet (Refused r)) s x l f (λ _ _ _. same_quiet _) (λ _ _ _ _. same_quiet _) (λ _ _ _ _ _. open_quiet _ s (free_slot g (S.servers s)) x)

  collects_quiet : (s m l : ℕ) → Kept (Steps.collect g S s m l)
  collects_quiet s m l = collect_cases g S Kept (λ r. same_quiet (Refused r)) s m l (same_quiet Still) (λ i _ _ _ _. collect_quiet _ s i)

  encode_quiet : (s x : ℕ) (f : Found) → Kept (Steps.encode g S s x f)
  encode_quiet s x f = encode_cases g S Kept (λ r. same_quiet (Refused r)) s x f (λ o _. same_quiet (Outcome o)) (λ t v _ _ _ _. move_quiet _ s x t v) (λ _ _ _. enter_quiet _ s _) (λ _ _ _ _ _ _. open_quiet _ s (clients + x) x)

  sweeps_quiet : (s x : ℕ) → Kept (Steps.sweep g S s x)
  sweeps_quiet s x = sweep_cases g S Kept (λ r. same_quiet (Refused r)) s x (λ _ _. sweep_quiet _ s x)

  deliver_quiet : (a b : ℕ) (f : Found) → Kept (Steps.deliver g S a b f)
  deliver_quiet a b f = deliver_cases g S Kept (λ r. same_quiet (Refused r)) a b f (λ o r q _. take_quiet o a b r q) (λ m v st ms _ _ _ _ _ _ q. take_quiet 3 a b _ q) (λ o m x T. question_quiet o a b m x T)

-- what is picked was waiting and is ready
pub record Takes (n : ℕ) (W : Writes) (ready : Waiting → Bool) (k : Picked) : Type 0 where
  pub noted : Noted n W k.write
  pub others : AllByRecursion (Noted n W) k.others
  pub ready_now : ready k.write ≡ true

picked_takes : (g : Code) (W : Writes) (p : Server) (b : Picked) → AllByRecursion (Noted g.n W) p.waiting → picked g p p.waiting ≡ Some b → Takes g.n W (Steps.ready g p) b
unfolding picked
picked_takes g W p b all = from (next_ready g p p.waiting (length p.waiting)) (λ i q. next_picks g p p.waiting (length p.waiting) i q)
  where
    from : (o : Option ℕ) → ((i : ℕ) → o ≡ Some i → Picks g p p.waiting (length p.waiting) i) → Steps.pick g p.waiting o ≡ Some b → Takes g.n W (Steps.ready g p) b
    from None ps q = absurd (let z : ◌≡◌ {A = ℕ} 0 1 = cc in omega arith)
    from (Some i) ps q =
        let pk = ps i refl in
        let l = p.waiting in
        let k : Picked = record { write = Steps.write_at l i; others = take i l ++ drop (suc i) l } in
        let z : k ≡ b = cc in
        subst (Takes g.n W (Steps.ready g p)) z (record {
          noted = All-get_or (Noted g.n W) l i Steps.no_write pk.below all;
          others = All-append (Noted g.n W) (take i l) (drop (suc i) l) (All-take (Noted g.n W) i l all) (All-drop (Noted g.n W) (suc i) l all);
          ready_now = pk.ready;
        })

-- ---- clocks, applied tags and notices over each call

-- the clock of each server
abbrev pub clocks : State → ℕ → ℕ → ℕ
clocks S s j = (S.servers s).clock j

-- the write that s makes with the tag t
abbrev pub made_write : Code → (ℕ → List ℕ) → State → ℕ → ℕ → Made
made_write g A S s t = record { tag = t; clock = listed g.n (upd (S.servers s).clock s ((S.servers s).clock s + 1)); past = A s }

pub record Traced (g : Code) (W : Writes) (A : ℕ → List ℕ) (S : State) : Type 0 where
  pub counts : Counts g.n W A (clocks S)
  pub notices : Notices g.n W S

counts_same : (n : ℕ) (W : Writes) (A B : ℕ → List ℕ) (C D : ℕ → ℕ → ℕ) → ((s : ℕ) → B s ≡ A s) → ((s j : ℕ) → D s j ≡ C s j) → Counts n W A C → Counts n W B D
counts_same n W A B C D ea ec h = subst (λ (X : ℕ → List ℕ). Counts n W X D) (sym (fun_ext ea)) (subst (Counts n W A) (sym (fun_ext (λ s. fun_ext (ec s)))) h)

module _ (g : Code) (R : Lawful g) (L : List Entry) (A : ℕ → List ℕ) (S : State) (known : Known g R L A S) (W : Writes) (h : Traced g W A S) where
  -- the writes after a call: one more where a write was accepted
  abbrev pub made_by : Call → Answer → Writes
  made_by (Write s x v) (Tag t) = pushed W s (made_write g A S s t)
  made_by (Write s x v) (Refused r) = W
  made_by (Write s x v) (Value u t w) = W
  made_by (Write s x v) (Number p) = W
  made_by (Write s x v) Still = W
  made_by (Write s x v) Nothing = W
  made_by (Write s x v) (Outcome o) = W
  made_by (Write s x v) (Count c) = W
  made_by (Ask s x l) a = W
  made_by (Collect s m l) a = W
  made_by (Deliver i j) a = W
  made_by (Apply s) a = W
  made_by (Encode s x) a = W
  made_by (Sweep s x) a = W

  quiet_traced : (c : Call) (f : Found) → ((k : ℕ) → applies k c (step g S c f).answer ≡ []) → Quiet g.n W S (step g S c f) → Traced g W (also A c (step g S c f).answer) (step g S c f).next
  quiet_traced c f none q = record {
    counts = counts_same g.n W A (also A c (step g S c f).answer) (clocks S) (clocks (step g S c f).next) (λ k. ap (λ l. A k ++ l) (none k) ∙ append-nil (A k)) (λ s j. ap (λ (z : ℕ → ℕ). z j) (q.clocks s)) h.counts;
    notices = q.notices;
  }

  stays_traced : (S' : State) → S' ≡ S → Traced g W (λ k. A k ++ []) S'
  stays_traced S' e = subst (Traced g W (λ k. A k ++ [])) (sym e) (record {
    counts = counts_same g.n W A (λ k. A k ++ []) (clocks S) (clocks S) (λ k. append-nil (A k)) (λ s j. refl) h.counts;
    notices = h.notices;
  })

  -- ---- write
  module _ (s x : ℕ) (v : List ℕ) (ok : write_refusal g S s x v ≡ 0) where
    sn : s < g.n
    sn = (checked_write g S s x v ok).0

    p : Server
    p = S.servers s

    abbrev t : ℕ
    t = write_tag g (S.servers s) s

    abbrev M : Made
    M = record { tag = write_tag g (S.servers s) s; clock = listed g.n (upd (S.servers s).clock s ((S.servers s).clock s + 1)); past = A s }

    clock_here : ((write_done g S s x v).servers s).clock ≡ upd (S.servers s).clock s ((S.servers s).clock s + 1)
    unfolding write_done reading entered counted
    clock_here = ap (λ (q : Server). q.clock) (upd_same S.servers s _)

    clock_far : (k : ℕ) → (k ≡ s → ⊥) → ((write_done g S s x v).servers k).clock ≡ (S.servers k).clock
    unfolding write_done
    clock_far k ne = ap (λ (q : Server). q.clock) (upd_other S.servers s k _ ne)

    waiting_same : (k : ℕ) → ((write_done g S s x v).servers k).waiting ≡ (S.servers k).waiting
    unfolding write_done reading entered counted
    waiting_same k = upd_keeps (λ (q : Server). q.waiting) S.servers s k _ refl

    lanes_after : (write_done g S s x v).lanes ≡ spread S.lanes s g.n (Written x v ((S.servers s).top + 1) (listed g.n (upd (S.servers s).clock s ((S.servers s).clock s + 1))))
    unfolding write_done counted
    lanes_after = refl

    clock_cell : (i : ℕ) → i < g.n → get_or (listed g.n (upd (S.servers s).clock s ((S.servers s).clock s + 1))) i 0 ≡ upd (S.servers s).clock s ((S.servers s).clock s + 1) i
    clock_cell i inn = get_or-map-range_with_len (upd (S.servers s).clock s ((S.servers s).clock s + 1)) 0 g.n i i 0 inn (omega arith)

    s6 : s < 6
    s6 = let few = R.few in let l = sn in omega arith

    tag_server : server (tag ((S.servers s).top + 1) s) ≡ s
    tag_server = let l = s6 in omega arith

    -- no write of s has this tag yet
    new : (m : ℕ) → m < length (W s) → (nth W s m).tag ≡ t → ⊥
    new m lt e =
        let own = h.counts.own s sn in
        let has = h.counts.applied s s m sn sn (omega arith) in
        let of_s = h.counts.server s m sn lt in
        let low = all-has (λ u. (u % 6 ≡ s) → u / 6 ≤ (S.servers s).top) (A s) (nth W s m).tag (known.tops s s sn) has of_s in
        let l = s6 in
        omega arith

    noted : Noted g.n (pushed W s M) (record { object = x; tag = tag ((S.servers s).top + 1) s; value = v; clock = listed g.n (upd (S.servers s).clock s ((S.servers s).clock s + 1)) })
    noted = record {
      is_server = rw tag_server sn;
      place = length (W s);
      count = rw tag_server (clock_cell s sn ∙ upd_same (S.servers s).clock s ((S.servers s).clock s + 1) ∙ (let o = h.counts.own s sn in omega arith));
      among = rw (tag_server, pushed_here W s M) (let l = length_push (W s) M in omega arith);
      tag = rw (tag_server, pushed_here W s M) (ap (λ (z : Made). z.tag) (get_or_push (W s) M no_made (length (W s)) refl));
      clock = rw (tag_server, pushed_here W s M) (ap (λ (z : Made). z.clock) (get_or_push (W s) M no_made (length (W s)) refl));
    }

    pub write_traced : Traced g (pushed W s M) (λ k. A k ++ cond (eqb s k) (t ∷ []) []) (write_done g S s x v)
    write_traced = record {
      counts = counts_write g.n W A (λ k. A k ++ cond (eqb s k) (t ∷ []) []) (clocks S) (clocks (write_done g S s x v)) h.counts s sn M
          (ap (λ (z : ℕ → ℕ). z s) clock_here ∙ upd_same (S.servers s).clock s ((S.servers s).clock s + 1) ∙ (omega arith))
          (λ i ne. ap (λ (z : ℕ → ℕ). z i) clock_here ∙ upd_other (S.servers s).clock s i ((S.servers s).clock s + 1) ne)
          (λ k ne i. ap (λ (z : ℕ → ℕ). z i) (clock_far k ne))
          (λ i inn. clock_cell i inn ∙ sym (ap (λ (z : ℕ → ℕ). z i) clock_here)) refl (let l = s6 in omega arith) new
          (ap (λ b. A s ++ cond b (t ∷ []) []) (eq-eqb s s refl))
          (λ k ne. ap (λ b. A k ++ cond b (t ∷ []) []) (ne_eqb s k (λ q. ne (sym q))) ∙ append-nil (A k));
      notices =
          let old = notices_longer g.n W (pushed W s M) (pushed_longer W s M) S h.notices in
          record {
            waiting = λ k. subst (AllByRecursion (Noted g.n (pushed W s M))) (sym (waiting_same k)) (old.waiting k);
            lanes = λ a b. subst (λ (z : Lanes). AllByRecursion (Noticed g.n (pushed W s M) a) (z a b)) (sym lanes_after) (spread_quiet g (pushed W s M) S old s _ noted a b);
          };
    }

  -- ---- apply
  module _ (s : ℕ) (sn : s < g.n) (b : Picked) (e : picked g (S.servers s) (S.servers s).waiting ≡ Some b) where
    abbrev w : Waiting
    w = b.write

    abbrev a : ℕ
    a = server b.write.tag

    abbrev m : ℕ
    m = (picked_takes g W (S.servers s) b (h.notices.waiting s) e).noted.place

    clock_here' : ((apply_done g S s b.write b.others).servers s).clock ≡ upd (S.servers s).clock (server b.write.tag) (get_or b.write.clock (server b.write.tag) 0)
    unfolding apply_done reading entered counted queued
    clock_here' = ap (λ (q : Server). q.clock) (upd_same S.servers s _)

    clock_far' : (k : ℕ) → (k ≡ s → ⊥) → ((apply_done g S s b.write b.others).servers k).clock ≡ (S.servers k).clock
    unfolding apply_done
    clock_far' k ne = ap (λ (q : Server). q.clock) (upd_other S.servers s k _ ne)

    waiting_after : (k : ℕ) → AllByRecursion (Noted g.n W) ((apply_done g S s b.write b.others).servers k).waiting
    unfolding apply_done reading entered counted queued
    waiting_after k = elim (cases_eq k s) [
      | inl q ↦ rw (q, upd_same S.servers s _) (picked_takes g W (S.servers s) b (h.notices.waiting s) e).others
      | inr ne ↦ rw (upd_other S.servers s k _ ne) (h.notices.waiting k)
    ]

    lanes_same : (apply_done g S s b.write b.others).lanes ≡ S.lanes
    unfolding apply_done
    lanes_same = refl

    -- what ready says of one count
    ready_at : (i : ℕ) → i < g.n → cond (eqb i a) (eqb (get_or w.clock i 0) ((S.servers s).clock i + 1)) (leb (get_or w.clock i 0) ((S.servers s).clock i)) ≡ true
    ready_at i inn = every_at g.n (λ j. cond (eqb j a) (eqb (get_or w.clock j 0) ((S.servers s).clock j + 1)) (leb (get_or w.clock j 0) ((S.servers s).clock j))) (picked_takes g W (S.servers s) b (h.notices.waiting s) e).ready_now i inn

    an : a < g.n
    an = (picked_takes g W (S.servers s) b (h.notices.waiting s) e).noted.is_server

    is_next : get_or w.clock a 0 ≡ (S.servers s).clock a + 1
    is_next = eqb-true (get_or w.clock a 0) ((S.servers s).clock a + 1) (sym (cond-true (eqb a a) _ _ (eq-eqb a a refl)) ∙ ready_at a an)

    not_above : (i : ℕ) → i < g.n → (i ≡ a → ⊥) → get_or w.clock i 0 ≤ (S.servers s).clock i
    not_above i inn ne = leb-true (get_or w.clock i 0) ((S.servers s).clock i) (sym (cond-false (eqb i a) _ _ (ne_eqb i a ne)) ∙ ready_at i inn)

    here : clocks (apply_done g S s b.write b.others) s a ≡ suc m
    here = ap (λ (z : ℕ → ℕ). z a) clock_here' ∙ upd_same (S.servers s).clock a (get_or w.clock a 0) ∙ (picked_takes g W (S.servers s) b (h.notices.waiting s) e).noted.count

    else : (i : ℕ) → (i ≡ a → ⊥) → clocks (apply_done g S s b.write b.others) s i ≡ (S.servers s).clock i
    else i ne = ap (λ (z : ℕ → ℕ). z i) clock_here' ∙ upd_other (S.servers s).clock a i (get_or w.clock a 0) ne

    pub apply_traced : Traced g W (λ k. A k ++ cond (eqb s k) (wait_tag g b.write ∷ []) []) (apply_done g S s b.write b.others)
    apply_traced =
        let nd = (picked_takes g W (S.servers s) b (h.notices.waiting s) e).noted in
        record {
          counts = counts_apply g.n W A (λ k. A k ++ cond (eqb s k) (w.tag ∷ []) []) (clocks S) (clocks (apply_done g S s b.write b.others)) h.counts s a m sn an nd.among
              (let q = is_next in let c = nd.count in omega arith) here else
              (λ k ne i. ap (λ (z : ℕ → ℕ). z i) (clock_far' k ne))
              (λ i inn. subst (λ ck. get_or ck i 0 ≤ clocks (apply_done g S s b.write b.others) s i) (sym nd.clock) (elim (cases_eq i a) [
                | inl q ↦ rw q (let x = here in let y = nd.count in omega arith)
                | inr ne ↦ (let x = else i ne in let y = not_above i inn ne in omega arith)
              ]))
              (ap (λ c. A s ++ cond c (w.tag ∷ []) []) (eq-eqb s s refl) ∙ ap (λ u. A s ++ u ∷ []) (sym nd.tag))
              (λ k ne. ap (λ c. A k ++ cond c (w.tag ∷ []) []) (ne_eqb s k (λ q. ne (sym q))) ∙ append-nil (A k));
          notices = record { waiting = waiting_after; lanes = λ i j. subst (λ (z : Lanes). AllByRecursion (Noticed g.n W i) (z i j)) (sym lanes_same) (h.notices.lanes i j) };
        }

  -- ---- each call
  pub step_traced : (c : Call) (f : Found) → Traced g (made_by c (step g S c f).answer) (also A c (step g S c f).answer) (step g S c f).next
  step_traced (Write s x v) f = write_cases g S (λ t. Traced g (made_by (Write s x v) t.answer) (also A (Write s x v) t.answer) t.next) (λ r. stays_traced S refl) s x v (λ ok. write_traced s x v ok)
  step_traced (Ask s x l) f = quiet_traced (Ask s x l) f (λ k. refl) (read_quiet g W S h.notices s x l f)
  step_traced (Collect s m l) f = quiet_traced (Collect s m l) f (λ k. refl) (collects_quiet g W S h.notices s m l)
  step_traced (Deliver i j) f = quiet_traced (Deliver i j) f (λ k. refl) (deliver_quiet g W S h.notices i j f)
  step_traced (Apply s) f = apply_cases_at g S (λ t. Traced g W (also A (Apply s) t.answer) t.next) (λ r. stays_traced S refl) s (stays_traced S refl) (λ b sn e. apply_traced s sn b e)
  step_traced (Encode s x) f = quiet_traced (Encode s x) f (λ k. refl) (encode_quiet g W S h.notices s x f)
  step_traced (Sweep s x) f = quiet_traced (Sweep s x) f (λ k. refl) (sweeps_quiet g W S h.notices s x)

pub fresh_traced : (g : Code) → Traced g (λ _. []) (λ _. []) (fresh g)
fresh_traced g = record {
  counts = record {
    own = λ j jn. refl;
    most = λ s j sn jn. omega arith;
    reached = λ s u sn p. absurd (let l = p.1 in omega arith);
    applied = λ s j m sn jn lt. absurd (omega arith);
    counted = λ j m jn lt. absurd (omega arith);
    server = λ j m jn lt. absurd (omega arith);
    once = λ j m k jn lt. absurd (omega arith);
    before = λ j m u jn lt. absurd (omega arith);
    brings = λ s j m sn jn lt. absurd (omega arith);
  };
  notices = record { waiting = λ s. tt; lanes = λ a b. tt };
}
