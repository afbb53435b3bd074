-- The steps of the rules on the view of a ranked state are the view of the ranked steps.
use Rattle.std.proofs.Common.{◌≡◌, ℕ, zero, suc, ◌+◌, ◌<◌, ◌≤◌, Bool, true, false, cond, not, ◌&&◌, ◌||◌, eqb, ltb, leb, List, [], ◌∷◌, ◌++◌, map, length, get_or, take, drop, Some, None, Option, sym, refl, ap, ◌∙◌, subst, ap₂, arith}
use mathlib.Core.Path.{fun_ext}
use lib.ListN.{length-map}
use Rattle.std.proofs.lemmas.Bool.Decides.{nat_tests}
use Rattle.std.proofs.lemmas.Bool.{ltb-true, eqb-true, both_ways}
use Rattle.std.proofs.lemmas.List.{map-append}
use Rattle.terms.specs.Lists.{listed}
use Rattle.terms.specs.declared.refusal.Refusal.{Refusal}
use Rattle.message.specs.declared.tag.Tag as declared
use Rattle.message.specs.Tags.{lower}
use Rattle.message.specs.Meanings.{Meaning, write_notice, question}
use Rattle.rules.specs.Words.{upd}
use Rattle.rules.specs.Lanes as lanes
use Rattle.rules.specs.Lanes.{spread}
use Rattle.rules.specs.Histories as history
use Rattle.rules.specs.State as model
use Rattle.rules.specs.State.{Free, Open, Answered}
use Rattle.rules.specs.Turns as turns
use Rattle.rules.specs.Turns.{Found}
use Rattle.rules.specs.Updates as updates
use Rattle.rules.specs.Writing as writing
use Rattle.rules.specs.Reading as reading_rule
use Rattle.rules.specs.Encoding as encoding
use Rattle.rules.proofs.RankedMessages.{Written, Question, height, server}
use Rattle.rules.proofs.Unranked.{tag_at}
use Rattle.rules.proofs.RankedWords.{Lanes}
use Rattle.rules.proofs.Ranked.{Code, layout_of, Entry, Waiting, Read, Server, State, kept, top_tag, is_open, clients, depth, most_reads}
use Rattle.rules.proofs.RankedSteps as Steps
use Rattle.rules.proofs.RankedSteps.{Refused, Tag, Value, Number, Turn, turn}
use Rattle.rules.proofs.Calls.{checked}
use Rattle.rules.proofs.View.{entry_at, waiting_at, asking_at, given_at, read_at, server_at, lanes_at, state_at, refusal_of, refusal_at, turn_at, cond_at, upd_at, get_or_at, take_at, drop_at, listed_at, lower_at, same_at, above_at, tag_made, value_at, top_at, Shape, shape_free, shape_open, shape_answered, shape, spread_at, lanes_free_at, first_at}

-- ---- turns

pub unless_at : (r : ℕ) (o : Option Refusal) (S : State) (t : turns.Turn) (u : Turn) → o ≡ refusal_at r → (r ≡ 0 → t ≡ turn_at u) → turns.unless o (state_at S) t ≡ turn_at (Steps.unless r S u)
unless_at r o S t u eo et = ap (λ (o : Option Refusal). turns.unless o (state_at S) t) eo ∙ by (eqb r 0) (λ q. et (eqb-true r 0 q))
  where
    by : (b : Bool) → (b ≡ true → t ≡ turn_at u) → turns.unless (cond b None (Some (refusal_of r))) (state_at S) t ≡ turn_at (cond b u (turn (Refused r) S))
    by true h = h refl
    by false h = refl

-- the same condition, the same ways
pub cond_same : {A B : Type 0} (f : B → A) (b c : Bool) (x y : A) (u v : B) → b ≡ c → x ≡ f u → y ≡ f v → cond b x y ≡ f (cond c u v)
cond_same f b true x y u v e p q = ap (λ z. cond z x y) e ∙ p
cond_same f b false x y u v e p q = ap (λ z. cond z x y) e ∙ q

-- above, the one way round or the other
pub cond_above : (a b : ℕ) (x y : turns.Turn) (u v : Turn) → x ≡ turn_at u → y ≡ turn_at v → cond (lower (tag_at a) (tag_at b)) x y ≡ turn_at (cond (leb b a) v u)
cond_above a b x y u v p q = ap (λ z. cond z x y) (lower_at a b) ∙ turned (ltb a b) (leb b a) flip
  where
    flip : ltb a b ≡ not (leb b a)
    flip = grind (arith, nat_tests)

    turned : (d c : Bool) → d ≡ not c → cond d x y ≡ turn_at (cond c v u)
    turned d true e = ap (λ z. cond z x y) e ∙ q
    turned d false e = ap (λ z. cond z x y) e ∙ p

-- ---- the changes of a server

abbrev made : (ℕ → ℕ) → ℕ → List ℕ → (ℕ → declared.Tag) → (ℕ → ℕ → declared.Tag) → List history.Entry → List model.Waiting → (ℕ → model.Read) → ℕ → model.Server
made c t s o d h w r n = record { clock = c; top = t; symbol = s; own = o; told = d; history = h; waiting = w; reads = r; opened = n }

pub entered_same : (p : Server) (e : Entry) → updates.entered (server_at p) (entry_at e) ≡ server_at (Steps.entered p e)
unfolding updates.entered Steps.entered
entered_same p e = ap (λ h. made p.clock p.top p.symbol (λ x. tag_at (p.own x)) (λ x j. tag_at (p.told x j)) h (map waiting_at p.waiting) (λ i. read_at (p.reads i)) p.opened) (sym (map-append entry_at p.history (e ∷ [])))

pub counted_same : (p : Server) (j c h : ℕ) → updates.counted (server_at p) j c h ≡ server_at (Steps.counted p j c h)
unfolding updates.counted Steps.counted
counted_same p j c h = refl

pub queued_same : (p : Server) (ws : List Waiting) → updates.queued (server_at p) (map waiting_at ws) ≡ server_at (Steps.queued p ws)
unfolding updates.queued Steps.queued
queued_same p ws = refl

pub sifted_same : (p : Server) (es : List Entry) → updates.sifted (server_at p) (map entry_at es) ≡ server_at (Steps.sifted p es)
unfolding updates.sifted Steps.sifted
sifted_same p es = refl

pub reading_same : (p : Server) (rs : ℕ → Read) → updates.reading (server_at p) (λ i. read_at (rs i)) ≡ server_at (Steps.reading p rs)
unfolding updates.reading Steps.reading
reading_same p rs = refl

told_same : (d : ℕ → ℕ → ℕ) (x j t : ℕ) → upd (λ y i. tag_at (d y i)) x (upd (λ i. tag_at (d x i)) j (tag_at t)) ≡ (λ y i. tag_at (upd d x (upd (d x) j t) y i))
told_same d x j t = ap (upd (λ y i. tag_at (d y i)) x) (upd_at tag_at (d x) j t) ∙ upd_at {A = ℕ → ℕ} {B = ℕ → declared.Tag} (λ row i. tag_at (row i)) d x (upd (d x) j t)

pub hearing_same : (p : Server) (x j t : ℕ) → updates.hearing (server_at p) x j (tag_at t) ≡ server_at (Steps.tells p x j t)
unfolding updates.hearing Steps.tells
hearing_same p x j t = ap (λ d. made p.clock p.top p.symbol (λ x. tag_at (p.own x)) d (map entry_at p.history) (map waiting_at p.waiting) (λ i. read_at (p.reads i)) p.opened) (told_same p.told x j t)

pub moved_same : (p : Server) (s x t : ℕ) (v : List ℕ) → updates.moved (server_at p) s x (tag_at t) v ≡ server_at (Steps.moved p s x t v)
unfolding updates.moved Steps.moved
moved_same p s x t v = ap₂ (λ (o : ℕ → declared.Tag) (d : ℕ → ℕ → declared.Tag). made p.clock p.top v o d (map entry_at p.history) (map waiting_at p.waiting) (λ i. read_at (p.reads i)) p.opened)
    (upd_at tag_at p.own x t) (told_same p.told x s t)

pub opening_same : (p : Server) (s i x : ℕ) → updates.opening (server_at p) s i x ≡ server_at (Steps.opening p s i x)
unfolding updates.opening Steps.opening
opening_same p s i x = ap (λ r. made p.clock p.top p.symbol (λ x. tag_at (p.own x)) (λ x j. tag_at (p.told x j)) (map entry_at p.history) (map waiting_at p.waiting) r (p.opened + 1))
    (upd_at read_at p.reads i (Steps.new_read p s x))

-- ---- reads

module _ (all : Bool) (x t : ℕ) (v : List ℕ) (r : Read) where
  abbrev beaten : Bool
  beaten = eqb r.object x && (all || ltb (r.tags x) t)

  newer_same : Shape r → updates.newer all x (tag_at t) v (read_at r) ≡ cond (is_open r && beaten) (read_at (Steps.answered r v t 4)) (read_at r)
  newer_same (shape_free q w e) = subst (λ z. updates.newer all x (tag_at t) v z ≡ cond (is_open r && beaten) (read_at (Steps.answered r v t 4)) z) (sym e)
      (sym (ap (λ b. cond (b && beaten) (read_at (Steps.answered r v t 4)) Free) w))
  newer_same (shape_answered q w e) = subst (λ z. updates.newer all x (tag_at t) v z ≡ cond (is_open r && beaten) (read_at (Steps.answered r v t 4)) z) (sym e)
      (sym (ap (λ b. cond (b && beaten) (read_at (Steps.answered r v t 4)) (Answered (given_at r))) w))
  newer_same (shape_open q w e) = subst (λ z. updates.newer all x (tag_at t) v z ≡ cond (is_open r && beaten) (read_at (Steps.answered r v t 4)) z) (sym e)
      (ap (λ b. cond (eqb r.object x && (all || b)) (read_at (Steps.answered r v t 4)) (Open (asking_at r))) (lower_at (r.tags x) t)
      ∙ sym (ap (λ b. cond (b && beaten) (read_at (Steps.answered r v t 4)) (Open (asking_at r))) w))

  over_same : (c : Bool) → cond c (updates.newer all x (tag_at t) v (read_at r)) (read_at r) ≡ read_at (cond (c && (is_open r && beaten)) (Steps.answered r v t 4) r)
  over_same true = newer_same (shape r) ∙ cond_at read_at (is_open r && beaten) (Steps.answered r v t 4) r
  over_same false = refl

pub overtaken_same : (rs : ℕ → Read) (all : Bool) (x t : ℕ) (v : List ℕ) → updates.overtaken (λ i. read_at (rs i)) all x (tag_at t) v ≡ (λ i. read_at (Steps.overtaken rs all x t v i))
unfolding updates.overtaken Steps.overtaken
overtaken_same rs all x t v = fun_ext (λ i. over_same all x t v (rs i) (ltb i clients))

pub is_free_same : (r : Read) → updates.is_free (read_at r) ≡ eqb r.state 0
is_free_same r = by (shape r)
  where
    by : Shape r → updates.is_free (read_at r) ≡ eqb r.state 0
    by (shape_free q w e) = ap updates.is_free e ∙ sym q
    by (shape_open q w e) = ap updates.is_free e ∙ sym q
    by (shape_answered q w e) = ap updates.is_free e ∙ sym q

pub is_open_same : (r : Read) → updates.is_open (read_at r) ≡ is_open r
is_open_same r = by (shape r)
  where
    by : Shape r → updates.is_open (read_at r) ≡ is_open r
    by (shape_free q w e) = ap updates.is_open e ∙ sym w
    by (shape_open q w e) = ap updates.is_open e ∙ sym w
    by (shape_answered q w e) = ap updates.is_open e ∙ sym w

pub has_number_same : (m : ℕ) (r : Read) → updates.has_number m (read_at r) ≡ (not (eqb r.state 0) && eqb r.number m)
has_number_same m r = by (shape r)
  where
    by : Shape r → updates.has_number m (read_at r) ≡ (not (eqb r.state 0) && eqb r.number m)
    by (shape_free q w e) = ap (updates.has_number m) e ∙ sym (ap (λ b. not b && eqb r.number m) q)
    by (shape_open q w e) = ap (updates.has_number m) e ∙ sym (ap (λ b. not b && eqb r.number m) q)
    by (shape_answered q w e) = ap (updates.has_number m) e ∙ sym (ap (λ b. not b && eqb r.number m) q)

pub is_open_as_same : (m : ℕ) (r : Read) → updates.is_open_as m (read_at r) ≡ (is_open r && eqb r.number m)
is_open_as_same m r = by (shape r)
  where
    by : Shape r → updates.is_open_as m (read_at r) ≡ (is_open r && eqb r.number m)
    by (shape_free q w e) = ap (updates.is_open_as m) e ∙ sym (ap (λ b. b && eqb r.number m) w)
    by (shape_open q w e) = ap (updates.is_open_as m) e ∙ sym (ap (λ b. b && eqb r.number m) w)
    by (shape_answered q w e) = ap (updates.is_open_as m) e ∙ sym (ap (λ b. b && eqb r.number m) w)

pub asks_same : (x t : ℕ) (r : Read) → encoding.asks x (tag_at t) (read_at r) ≡ (is_open r && eqb (r.tags x) t)
asks_same x t r = by (shape r)
  where
    by : Shape r → encoding.asks x (tag_at t) (read_at r) ≡ (is_open r && eqb (r.tags x) t)
    by (shape_free q w e) = ap (encoding.asks x (tag_at t)) e ∙ sym (ap (λ b. b && eqb (r.tags x) t) w)
    by (shape_open q w e) = ap (encoding.asks x (tag_at t)) e ∙ same_at (r.tags x) t ∙ sym (ap (λ b. b && eqb (r.tags x) t) w)
    by (shape_answered q w e) = ap (encoding.asks x (tag_at t)) e ∙ sym (ap (λ b. b && eqb (r.tags x) t) w)

-- ---- one server and the lanes change

pub put_same : (S : State) (s : ℕ) (p : model.Server) (q : Server) (L : lanes.Lanes Meaning) (M : Lanes) → p ≡ server_at q → L ≡ lanes_at M → writing.put (state_at S) s p L ≡ state_at (Steps.put S s q M)
put_same S s p q L M ep eL = ap₂ (λ (z : model.Server) (l : lanes.Lanes Meaning). writing.put (state_at S) s z l) ep eL
    ∙ ap (λ (z : ℕ → model.Server). let T : model.State = record { servers = z; lanes = lanes_at M } in T) (upd_at server_at S.servers s q)

pub history_room_same : (S : State) (s : ℕ) → writing.history_room (state_at S) s ≡ ltb (length (S.servers s).history) depth
history_room_same S s = ap (λ k. ltb k depth) (length-map (S.servers s).history entry_at)

-- checks in a row, by equal tests and with the numbers of their refusals
abbrev Checks : Type 0
Checks = List (Bool × Bool × ℕ)

abbrev rule_chain : Checks → Option Refusal
rule_chain [] = None
rule_chain (c ∷ cs) = turns.check c.0 (refusal_of c.2) (rule_chain cs)

abbrev ranked_chain : Checks → ℕ
ranked_chain [] = 0
ranked_chain (c ∷ cs) = Steps.check c.1 c.2 (ranked_chain cs)

abbrev EqualChecks : Checks → Type 0
EqualChecks [] = Unit {0}
EqualChecks (c ∷ cs) = ((c.0 ≡ c.1) × (Some (refusal_of c.2) ≡ refusal_at c.2)) × EqualChecks cs

pub chain_at : (cs : Checks) → EqualChecks cs → rule_chain cs ≡ refusal_at (ranked_chain cs)
chain_at [] h = refl
chain_at (c ∷ cs) h = ap₂ (λ (z : Bool) (o : Option Refusal). turns.check z (refusal_of c.2) o) h.0.0 (chain_at cs h.1) ∙ by c.1
  where
    by : (b : Bool) → turns.check b (refusal_of c.2) (refusal_at (ranked_chain cs)) ≡ refusal_at (Steps.check b c.2 (ranked_chain cs))
    by true = refl
    by false = h.0.1

module _ (g : Code) where
  pub room_same : (S : State) (s : ℕ) → writing.room (layout_of g) (state_at S) s ≡ Steps.room g S s
  room_same S s = lanes_free_at g.places g.n s S.lanes

  -- ---- write
  write_refusal_same : (S : State) (s x : ℕ) (v : List ℕ) → writing.write_refusal (layout_of g) (state_at S) s x v ≡ refusal_at (Steps.write_refusal g S s x v)
  unfolding writing.write_refusal Steps.write_refusal
  write_refusal_same S s x v =
      let used = ltb ((S.servers s).clock s) 1000000 && ltb (S.servers s).top 6000000 in
      chain_at ((ltb s g.n, ltb s g.n, 7) ∷ (ltb x g.k, ltb x g.k, 8) ∷ (eqb (length v) g.w, eqb (length v) g.w, 9) ∷ (Steps.elements g v, Steps.elements g v, 11)
      ∷ (used, used, 14) ∷ (writing.history_room (state_at S) s, Steps.history_room g S s, 15) ∷ (writing.room (layout_of g) (state_at S) s, Steps.room g S s, 17) ∷ [])
      ((refl, refl), ((refl, refl), ((refl, refl), ((refl, refl), ((refl, refl), ((history_room_same S s, refl), ((room_same S s, refl), tt)))))))

  write_done_same : (S : State) (s x : ℕ) (v : List ℕ) → s < 6 → writing.write_done (layout_of g) (state_at S) s x v ≡ state_at (Steps.write_done g S s x v)
  unfolding writing.write_done Steps.write_done updates.counted Steps.counted
  write_done_same S s x v lt =
      let p = S.servers s in
      let t = Steps.write_tag g p s in
      let c = Steps.counted p s (p.clock s + 1) (p.top + 1) in
      let e : Entry = record { object = x; tag = t; value = v } in
      ap (λ (z : declared.Tag). writing.put (state_at S) s
      (updates.reading (updates.entered (server_at c) (record { object = x; tag = z; value = v })) (updates.overtaken (λ i. read_at (p.reads i)) true x z v))
      (spread (lanes_at S.lanes) s g.n (write_notice x v (p.top + 1) (listed g.n c.clock)))) (tag_made (p.top + 1) s lt)
      ∙ put_same S s _ (Steps.reading (Steps.entered c e) (Steps.overtaken p.reads true x t v)) _ (spread S.lanes s g.n (Written x v (p.top + 1) (listed g.n c.clock)))
      (ap₂ updates.reading (entered_same c e) (overtaken_same p.reads true x t v) ∙ reading_same (Steps.entered c e) (Steps.overtaken p.reads true x t v))
      (spread_at S.lanes s g.n (Written x v (p.top + 1) (listed g.n c.clock)))

  write_server : (S : State) (s x : ℕ) (v : List ℕ) → Steps.write_refusal g S s x v ≡ 0 → s < g.n
  unfolding Steps.write_refusal
  write_server S s x v e = ltb-true s g.n (checked (ltb s g.n) 7 _ (omega arith) e).0

  pub write_same : g.n ≤ 6 → (S : State) (s x : ℕ) (v : List ℕ) → writing.write (layout_of g) (state_at S) s x v ≡ turn_at (Steps.write g S s x v)
  unfolding writing.write Steps.write
  write_same few S s x v = unless_at (Steps.write_refusal g S s x v) _ S _ (turn (Tag (Steps.write_tag g (S.servers s) s)) (Steps.write_done g S s x v)) (write_refusal_same S s x v) (λ ok.
      let lt : s < 6 = let l = write_server S s x v ok in omega arith in
      ap₂ (λ (t : declared.Tag) (z : model.State). turns.turn (turns.Tagged t) z) (tag_made ((S.servers s).top + 1) s lt) (write_done_same S s x v lt))

  -- ---- apply
  ready_same : (p : Server) (w : Waiting) → writing.is_ready (layout_of g) (server_at p) (waiting_at w) ≡ Steps.ready g p w
  ready_same p w = refl

  write_at_same : (ws : List Waiting) (i : ℕ) → writing.write_at (map waiting_at ws) i ≡ waiting_at (Steps.write_at ws i)
  write_at_same ws i = get_or_at waiting_at ws i Steps.no_write

  better_same : (ws : List Waiting) (o : Option ℕ) (i : ℕ) → writing.better (map waiting_at ws) o i ≡ Steps.better g ws o i
  better_same ws None i = refl
  better_same ws (Some b) i = ap₂ (λ (u v : model.Waiting). cond (lower u.tag v.tag) (Some i) (Some b)) (write_at_same ws i) (write_at_same ws b)
      ∙ ap (λ c. cond c (Some i) (Some b)) (lower_at (Steps.write_at ws i).tag (Steps.write_at ws b).tag)

  next_same : (p : Server) (ws : List Waiting) (n : ℕ) → writing.next_ready (layout_of g) (server_at p) (map waiting_at ws) n ≡ Steps.next_ready g p ws n
  unfolding writing.next_ready Steps.next_ready
  next_same p ws zero = refl
  next_same p ws (suc i) = ap (λ (w : model.Waiting). cond (writing.is_ready (layout_of g) (server_at p) w) (writing.better (map waiting_at ws) (writing.next_ready (layout_of g) (server_at p) (map waiting_at ws) i) i) (writing.next_ready (layout_of g) (server_at p) (map waiting_at ws) i)) (write_at_same ws i)
      ∙ ap (λ o. cond (Steps.ready g p (Steps.write_at ws i)) (writing.better (map waiting_at ws) o i) o) (next_same p ws i)
      ∙ ap (λ o. cond (Steps.ready g p (Steps.write_at ws i)) o (Steps.next_ready g p ws i)) (better_same ws (Steps.next_ready g p ws i) i)

  without_same : (ws : List Waiting) (i : ℕ) → writing.without (map waiting_at ws) i ≡ map waiting_at (take i ws ++ drop (suc i) ws)
  without_same ws i = ap₂ ◌++◌ (take_at waiting_at i ws) (drop_at waiting_at (suc i) ws) ∙ sym (map-append waiting_at (take i ws) (drop (suc i) ws))

  apply_done_same : (S : State) (s : ℕ) (w : Waiting) (ws : List Waiting) → writing.apply_done (layout_of g) (state_at S) s (waiting_at w) (map waiting_at ws) ≡ state_at (Steps.apply_done g S s w ws)
  unfolding writing.apply_done Steps.apply_done updates.counted Steps.counted updates.queued Steps.queued
  apply_done_same S s w ws =
      let p = S.servers s in
      let j = server w.tag in
      let c = Steps.counted (Steps.queued p ws) j (get_or w.clock j 0) (height w.tag) in
      let e : Entry = record { object = w.object; tag = w.tag; value = w.value } in
      put_same S s _ (Steps.reading (Steps.entered c e) (Steps.overtaken p.reads false w.object w.tag w.value)) _ S.lanes
      (ap₂ updates.reading (entered_same c e) (overtaken_same p.reads false w.object w.tag w.value) ∙ reading_same (Steps.entered c e) (Steps.overtaken p.reads false w.object w.tag w.value)) refl

  apply_at_same : (S : State) (s : ℕ) (o : Option ℕ) → writing.apply_at (layout_of g) (state_at S) s o ≡ turn_at (Steps.apply_picked g S s (Steps.pick g (S.servers s).waiting o))
  unfolding Steps.apply_picked
  apply_at_same S s None = refl
  apply_at_same S s (Some i) =
      let ws = (S.servers s).waiting in
      let w = Steps.write_at ws i in
      unless_at (Steps.check (Steps.history_room g S s) 15 0) _ S _ (turn (Tag (Steps.wait_tag g w)) (Steps.apply_done g S s w (take i ws ++ drop (suc i) ws)))
      (chain_at ((writing.history_room (state_at S) s, Steps.history_room g S s, 15) ∷ []) ((history_room_same S s, refl), tt))
      (λ _. ap₂ (λ (u : model.Waiting) (us : List model.Waiting). turns.turn (turns.Tagged u.tag) (writing.apply_done (layout_of g) (state_at S) s u us)) (write_at_same ws i) (without_same ws i)
      ∙ ap (turns.turn (turns.Tagged (tag_at w.tag))) (apply_done_same S s w (take i ws ++ drop (suc i) ws)))

  pub apply_same : (S : State) (s : ℕ) → writing.apply (layout_of g) (state_at S) s ≡ turn_at (Steps.apply g S s)
  unfolding writing.apply Steps.apply Steps.picked
  apply_same S s =
      let p = S.servers s in
      unless_at (Steps.check (ltb s g.n) 7 0) _ S _ (Steps.apply_picked g S s (Steps.pick g p.waiting (Steps.next_ready g p p.waiting (length p.waiting))))
      (chain_at ((ltb s g.n, ltb s g.n, 7) ∷ []) ((refl, refl), tt))
      (λ _. ap (writing.apply_at (layout_of g) (state_at S) s) (ap (writing.next_ready (layout_of g) (server_at p) (map waiting_at p.waiting)) (length-map p.waiting waiting_at) ∙ next_same p p.waiting (length p.waiting))
      ∙ apply_at_same S s (Steps.next_ready g p p.waiting (length p.waiting)))

  -- ---- read
  pub open_done_same : (S : State) (s i x : ℕ) → reading_rule.open_done (layout_of g) (state_at S) s i x ≡ state_at (Steps.open_done g S s i x)
  unfolding reading_rule.open_done Steps.open_done
  open_done_same S s i x =
      let p = S.servers s in
      put_same S s _ (Steps.opening p s i x) _ (spread S.lanes s g.n (Question (p.opened + 1) x (listed g.k p.own))) (opening_same p s i x)
      (ap (λ ts. spread (lanes_at S.lanes) s g.n (question (p.opened + 1) x ts)) (listed_at tag_at g.k p.own) ∙ spread_at S.lanes s g.n (Question (p.opened + 1) x (listed g.k p.own)))

  free_place_same : (p : Server) → reading_rule.free_place (server_at p) ≡ cond (ltb (Steps.free_slot g p) clients) (Some (Steps.free_slot g p)) None
  free_place_same p = first_at clients (λ i. updates.is_free (read_at (p.reads i))) (λ i. eqb (p.reads i).state 0) (λ i. is_free_same (p.reads i))

  open_read_same : (S : State) (s x : ℕ) → reading_rule.open_read (layout_of g) (state_at S) s x ≡ turn_at (Steps.open_read g S s x)
  unfolding reading_rule.open_read Steps.open_read Steps.open_refusal
  open_read_same S s x = ap (λ place. turns.unless (reading_rule.open_refusal (layout_of g) (state_at S) s place) (state_at S) (turns.turn (turns.Numbered ((S.servers s).opened + 1)) (reading_rule.opened_at (layout_of g) (state_at S) s x place))) (free_place_same (S.servers s))
      ∙ by (ltb (Steps.free_slot g (S.servers s)) clients)
    where
      p : Server
      p = S.servers s

      i : ℕ
      i = Steps.free_slot g (S.servers s)

      done : Turn
      done = turn (Number ((S.servers s).opened + 1)) (Steps.open_done g S s (Steps.free_slot g (S.servers s)) x)

      number : Bool
      number = ltb (S.servers s).opened most_reads

      by : (b : Bool) → turns.unless (reading_rule.open_refusal (layout_of g) (state_at S) s (cond b (Some (Steps.free_slot g (S.servers s))) None)) (state_at S)
          (turns.turn (turns.Numbered ((S.servers s).opened + 1)) (reading_rule.opened_at (layout_of g) (state_at S) s x (cond b (Some (Steps.free_slot g (S.servers s))) None)))
          ≡ turn_at (Steps.unless (Steps.check (ltb (S.servers s).opened most_reads) 14 (Steps.check b 16 (Steps.check (Steps.room g S s) 17 0))) S (turn (Number ((S.servers s).opened + 1)) (Steps.open_done g S s (Steps.free_slot g (S.servers s)) x)))
      by true = unless_at (Steps.check (ltb (S.servers s).opened most_reads) 14 (Steps.check true 16 (Steps.check (Steps.room g S s) 17 0))) _ S _ (turn (Number ((S.servers s).opened + 1)) (Steps.open_done g S s (Steps.free_slot g (S.servers s)) x))
          (chain_at ((ltb (S.servers s).opened most_reads, ltb (S.servers s).opened most_reads, 14) ∷ (true, true, 16) ∷ (writing.room (layout_of g) (state_at S) s, Steps.room g S s, 17) ∷ []) ((refl, refl), ((refl, refl), ((room_same S s, refl), tt))))
          (λ _. ap (turns.turn (turns.Numbered ((S.servers s).opened + 1))) (open_done_same S s (Steps.free_slot g (S.servers s)) x))
      by false = unless_at (Steps.check (ltb (S.servers s).opened most_reads) 14 (Steps.check false 16 (Steps.check (Steps.room g S s) 17 0))) _ S _ (turn (Number ((S.servers s).opened + 1)) (Steps.open_done g S s (Steps.free_slot g (S.servers s)) x))
          (chain_at ((ltb (S.servers s).opened most_reads, ltb (S.servers s).opened most_reads, 14) ∷ (false, false, 16) ∷ (writing.room (layout_of g) (state_at S) s, Steps.room g S s, 17) ∷ []) ((refl, refl), ((refl, refl), ((room_same S s, refl), tt))))
          (λ e. absurd (both_ways false refl (checked false 16 (Steps.check (Steps.room g S s) 17 0) (omega arith) (checked (ltb (S.servers s).opened most_reads) 14 _ (omega arith) e).1).0))

  from_history_same : (p : Server) (x : ℕ) → reading_rule.from_history (layout_of g) (server_at p) x ≡ Steps.from_history g p x
  from_history_same p x = ap (λ t. not (lower t (tag_at (p.own x)))) (top_at x p.history) ∙ above_at (top_tag x p.history) (p.own x)

  from_symbol_same : (p : Server) (x : ℕ) (f : Found) → reading_rule.from_symbol (layout_of g) (server_at p) x f ≡ Steps.from_symbol g p x f
  from_symbol_same p x f = ap (λ b. b && f.recovered) (ap (λ t. not (lower (tag_at (p.own x)) t)) (top_at x p.history) ∙ above_at (p.own x) (top_tag x p.history))

  read_found_same : (S : State) (s x : ℕ) (f : Found) → reading_rule.read_found (layout_of g) (state_at S) s x f ≡ turn_at (Steps.read_found g S s x f)
  unfolding reading_rule.read_found Steps.read_found
  read_found_same S s x f =
      let p = S.servers s in
      let t = top_tag x p.history in
      cond_same turn_at _ (Steps.from_history g p x && (not (Steps.from_symbol g p x f) || f.first_way)) _ _ (turn (Value (kept g p.history x t) t 1) S) (cond (Steps.from_symbol g p x f) (turn (Value f.value (p.own x) 2) S) (Steps.open_read g S s x))
      (ap₂ (λ (a b : Bool). a && (not b || f.first_way)) (from_history_same p x) (from_symbol_same p x f))
      (ap (λ u. turns.turn (turns.Valued (history.value_under g.w (map entry_at p.history) x u) u 1) (state_at S)) (top_at x p.history) ∙ ap (λ v. turns.turn (turns.Valued v (tag_at t) 1) (state_at S)) (value_at g p.history x t))
      (cond_same turn_at _ (Steps.from_symbol g p x f) _ _ (turn (Value f.value (p.own x) 2) S) (Steps.open_read g S s x) (from_symbol_same p x f) refl (open_read_same S s x))

  pub read_same : (S : State) (s x l : ℕ) (f : Found) → reading_rule.read (layout_of g) (state_at S) s x l f ≡ turn_at (Steps.read g S s x l f)
  unfolding reading_rule.read Steps.read reading_rule.read_refusal Steps.read_refusal
  read_same S s x l f = unless_at (Steps.check (ltb s g.n) 7 (Steps.check (ltb x g.k) 8 (Steps.check (eqb l g.w) 9 0))) _ S _ (Steps.read_found g S s x f)
      (chain_at ((ltb s g.n, ltb s g.n, 7) ∷ (ltb x g.k, ltb x g.k, 8) ∷ (eqb l g.w, eqb l g.w, 9) ∷ []) ((refl, refl), ((refl, refl), ((refl, refl), tt)))) (λ _. read_found_same S s x f)
