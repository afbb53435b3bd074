-- The steps of the rules on the view of a ranked state are the view of the ranked steps: collect, encode, sweep and deliver.
use Rattle.std.proofs.Common.{◌≡◌, ℕ, zero, suc, ◌+◌, ◌-◌, ◌<◌, ◌≤◌, Bool, true, false, cond, not, ◌&&◌, ◌||◌, eqb, ltb, List, [], ◌∷◌, ◌++◌, map, length, get_or, Some, None, filter, Option, sym, refl, ap, ◌∙◌, ap₂, arith}
use mathlib.Core.Path.{fun_ext}
use lib.ListN.{length-map}
use Rattle.std.proofs.lemmas.Bool.{cond-true, cond-false, ltb-true, lt-ltb, and_parts, both_ways, not-true}
use Rattle.std.proofs.lemmas.List.{map-append}
use Rattle.terms.specs.Lists.{listed, every}
use Rattle.message.specs.declared.tag.Tag as declared
use Rattle.message.specs.Tags.{zero_tag, lower, same}
use Rattle.message.specs.Meanings.{Meaning, plain_reply, coded_reply}
use Rattle.rules.specs.Words.{upd}
use Rattle.rules.specs.Lanes as lanes
use Rattle.rules.specs.Lanes.{posted, spread, taken}
use Rattle.rules.specs.Histories as history
use Rattle.rules.specs.State as model
use Rattle.rules.specs.State.{Open}
use Rattle.rules.specs.Turns as turns
use Rattle.rules.specs.Turns.{Found}
use Rattle.rules.specs.Updates as updates
use Rattle.rules.specs.Writing as writing
use Rattle.rules.specs.Reading as reading_rule
use Rattle.rules.specs.Encoding as encoding
use Rattle.rules.specs.Delivering as delivering
use Rattle.rules.proofs.RankedMessages.{Message, Written, Tagged, Question, Plain, Coded, tag}
use Rattle.rules.proofs.Unranked.{tag_at, message_at}
use Rattle.rules.proofs.RankedWords.{lowest}
use Rattle.rules.proofs.Ranked.{Code, layout_of, Entry, Waiting, Read, Server, State, has, swap, same_entry, holds, kept, highest, top_tag, is_open, no_read, clients, slots, queue, most_reads}
use Rattle.rules.proofs.RankedSteps as Steps
use Rattle.rules.proofs.RankedSteps.{Tag, Value, Still, Outcome, Count, Turn, turn}
use Rattle.rules.proofs.Words.{seek_found}
use Rattle.rules.proofs.Calls.{checked}
use Rattle.rules.proofs.View.{entry_at, waiting_at, asking_at, read_at, server_at, state_at, refusal_of, refusal_at, turn_at, upd_at, get_or_at, listed_at, kept_by_at, every_same, some_same, lower_at, same_at, above_at, tag_made, lowest_at, holds_at, value_at, highest_at, top_at, Shape, shape_free, shape_open, shape_answered, shape, posted_at, spread_at, taken_at, first_at}
use Rattle.rules.proofs.Same.{unless_at, cond_same, cond_above, entered_same, queued_same, sifted_same, reading_same, hearing_same, moved_same, is_open_same, has_number_same, is_open_as_same, asks_same, put_same, chain_at, history_room_same, room_same, open_done_same}

-- a place found in the view is that found in the ranked state
by_place : {A : Type 0} (n i : ℕ) (b : Bool) (F : Option ℕ → A) (x : A) → ltb i n ≡ b → (i < n → F (Some i) ≡ x) → (ltb i n ≡ false → F None ≡ x) → F (cond b (Some i) None) ≡ x
by_place n i true F x e found none = found (ltb-true i n e)
by_place n i false F x e found none = none e

module _ (g : Code) where
  -- ---- collect
  collect_done_same : (S : State) (s i : ℕ) → reading_rule.collect_done (layout_of g) (state_at S) s i ≡ state_at (Steps.collect_done g S s i)
  unfolding reading_rule.collect_done Steps.collect_done
  collect_done_same S s i =
      let p = S.servers s in
      put_same S s _ (Steps.reading p (upd p.reads i no_read)) _ S.lanes (ap (updates.reading (server_at p)) (upd_at read_at p.reads i no_read) ∙ reading_same p (upd p.reads i no_read)) refl

  collect_read_same : (S : State) (s i : ℕ) → eqb ((S.servers s).reads i).state 0 ≡ false → reading_rule.collect_read (layout_of g) (state_at S) s i (read_at ((S.servers s).reads i)) ≡ turn_at (Steps.collect_at g S s i)
  unfolding Steps.collect_at
  collect_read_same S s i used = by (shape ((S.servers s).reads i))
    where
      r : Read
      r = (S.servers s).reads i

      by : Shape ((S.servers s).reads i) → reading_rule.collect_read (layout_of g) (state_at S) s i (read_at ((S.servers s).reads i))
          ≡ turn_at (cond (is_open ((S.servers s).reads i)) (turn Still S) (turn (Value ((S.servers s).reads i).value ((S.servers s).reads i).tag ((S.servers s).reads i).way) (Steps.collect_done g S s i)))
      by (shape_free q w e) = absurd (both_ways (eqb ((S.servers s).reads i).state 0) used q)
      by (shape_open q w e) = ap (reading_rule.collect_read (layout_of g) (state_at S) s i) e
          ∙ sym (ap (λ b. turn_at (cond b (turn Still S) (turn (Value ((S.servers s).reads i).value ((S.servers s).reads i).tag ((S.servers s).reads i).way) (Steps.collect_done g S s i)))) w)
      by (shape_answered q w e) = ap (reading_rule.collect_read (layout_of g) (state_at S) s i) e
          ∙ ap (turns.turn (turns.Valued ((S.servers s).reads i).value (tag_at ((S.servers s).reads i).tag) ((S.servers s).reads i).way)) (collect_done_same S s i)
          ∙ sym (ap (λ b. turn_at (cond b (turn Still S) (turn (Value ((S.servers s).reads i).value ((S.servers s).reads i).tag ((S.servers s).reads i).way) (Steps.collect_done g S s i)))) w)

  client_place_same : (p : Server) (m : ℕ) → reading_rule.client_place (server_at p) m ≡ cond (ltb (Steps.client_slot g p m) clients) (Some (Steps.client_slot g p m)) None
  client_place_same p m = first_at clients (λ i. updates.has_number m (read_at (p.reads i))) (λ i. not (eqb (p.reads i).state 0) && eqb (p.reads i).number m) (λ i. has_number_same m (p.reads i))

  client_used : (p : Server) (m : ℕ) → Steps.client_slot g p m < clients → eqb (p.reads (Steps.client_slot g p m)).state 0 ≡ false
  client_used p m lt =
      let i = Steps.client_slot g p m in
      not-true (eqb (p.reads i).state 0) (and_parts (not (eqb (p.reads i).state 0)) (eqb (p.reads i).number m) (seek_found clients (λ i. not (eqb (p.reads i).state 0) && eqb (p.reads i).number m) lt)).0

  pub collect_same : (S : State) (s m l : ℕ) → reading_rule.collect (layout_of g) (state_at S) s m l ≡ turn_at (Steps.collect g S s m l)
  unfolding reading_rule.collect Steps.collect Steps.collect_refusal
  collect_same S s m l =
      let p = S.servers s in
      let i = Steps.client_slot g p m in
      ap (λ place. turns.unless (reading_rule.collect_refusal (layout_of g) s l place) (state_at S) (reading_rule.collect_at (layout_of g) (state_at S) s place)) (client_place_same p m)
      ∙ by (ltb i clients) refl
    where
      by : (b : Bool) → ltb (Steps.client_slot g (S.servers s) m) clients ≡ b → turns.unless (reading_rule.collect_refusal (layout_of g) s l (cond b (Some (Steps.client_slot g (S.servers s) m)) None)) (state_at S) (reading_rule.collect_at (layout_of g) (state_at S) s (cond b (Some (Steps.client_slot g (S.servers s) m)) None))
          ≡ turn_at (Steps.unless (Steps.check (ltb s g.n) 7 (Steps.check (eqb l g.w) 9 (Steps.check (ltb (Steps.client_slot g (S.servers s) m) clients) 10 0))) S (Steps.collect_at g S s (Steps.client_slot g (S.servers s) m)))
      by true q = unless_at (Steps.check (ltb s g.n) 7 (Steps.check (eqb l g.w) 9 (Steps.check (ltb (Steps.client_slot g (S.servers s) m) clients) 10 0))) _ S _ (Steps.collect_at g S s (Steps.client_slot g (S.servers s) m))
          (chain_at ((ltb s g.n, ltb s g.n, 7) ∷ (eqb l g.w, eqb l g.w, 9) ∷ (true, ltb (Steps.client_slot g (S.servers s) m) clients, 10) ∷ []) ((refl, refl), ((refl, refl), ((sym q, refl), tt))))
          (λ _. collect_read_same S s (Steps.client_slot g (S.servers s) m) (client_used (S.servers s) m (ltb-true (Steps.client_slot g (S.servers s) m) clients q)))
      by false q = unless_at (Steps.check (ltb s g.n) 7 (Steps.check (eqb l g.w) 9 (Steps.check (ltb (Steps.client_slot g (S.servers s) m) clients) 10 0))) _ S _ (Steps.collect_at g S s (Steps.client_slot g (S.servers s) m))
          (chain_at ((ltb s g.n, ltb s g.n, 7) ∷ (eqb l g.w, eqb l g.w, 9) ∷ (false, ltb (Steps.client_slot g (S.servers s) m) clients, 10) ∷ []) ((refl, refl), ((refl, refl), ((sym q, refl), tt))))
          (λ e. absurd (both_ways (ltb (Steps.client_slot g (S.servers s) m) clients) q (checked (ltb (Steps.client_slot g (S.servers s) m) clients) 10 0 (omega arith) (checked (eqb l g.w) 9 _ (omega arith) (checked (ltb s g.n) 7 _ (omega arith) e).1).1).0))

  -- ---- encode
  object_refusal_same : (s x : ℕ) → encoding.object_refusal (layout_of g) s x ≡ refusal_at (Steps.object_refusal g s x)
  unfolding encoding.object_refusal Steps.object_refusal
  object_refusal_same s x = chain_at ((ltb s g.n, ltb s g.n, 7) ∷ (ltb x g.k, ltb x g.k, 8) ∷ []) ((refl, refl), ((refl, refl), tt))

  move_done_same : (S : State) (s x t : ℕ) (v : List ℕ) → encoding.move_done (layout_of g) (state_at S) s x (tag_at t) v ≡ state_at (Steps.move_done g S s x t v)
  unfolding encoding.move_done Steps.move_done
  move_done_same S s x t v = put_same S s _ (Steps.moved (S.servers s) s x t v) _ (spread S.lanes s g.n (Tagged x t)) (moved_same (S.servers s) s x t v) (spread_at S.lanes s g.n (Tagged x t))

  enter_done_same : (S : State) (s : ℕ) (e : Entry) → encoding.enter_done (layout_of g) (state_at S) s (entry_at e) ≡ state_at (Steps.enter_done g S s e)
  unfolding encoding.enter_done Steps.enter_done
  enter_done_same S s e = put_same S s _ (Steps.entered (S.servers s) e) _ S.lanes (entered_same (S.servers s) e) refl

  turned_same : (s : ℕ) (p : Server) (x t u : ℕ) (v : List ℕ) → encoding.turned (layout_of g) s (server_at p) x (tag_at t) (tag_at u) v ≡ swap g s x (kept g p.history x t) (kept g p.history x u) v
  unfolding swap
  turned_same s p x t u v = ap₂ (λ (a b : List ℕ). listed g.w (λ c. g.plus (get_or v c 0) (g.times (g.coefficient s x) (g.plus (get_or b c 0) (g.minus (get_or a c 0)))))) (value_at g p.history x t) (value_at g p.history x u)

  one_check : (b c : Bool) (r : ℕ) (S : State) (t : turns.Turn) (u : Turn) → Some (refusal_of r) ≡ refusal_at r → b ≡ c → t ≡ turn_at u → turns.unless (turns.check b (refusal_of r) None) (state_at S) t ≡ turn_at (Steps.unless (Steps.check c r 0) S u)
  one_check b c r S t u lit e q = unless_at (Steps.check c r 0) _ S t u (chain_at ((b, c, r) ∷ []) ((e, lit), tt)) (λ _. q)

  contained_same : (S : State) (s x : ℕ) (f : Found) → encoding.encode_contained (layout_of g) (state_at S) s x f ≡ turn_at (Steps.encode_contained g S s x f)
  unfolding encoding.encode_contained Steps.encode_contained
  contained_same S s x f =
      let p = S.servers s in
      let t = top_tag x p.history in
      let own = p.own x in
      let moving = turn (Outcome 1) (Steps.move_done g S s x t (swap g s x (kept g p.history x own) (kept g p.history x t) p.symbol)) in
      let entering = turn (Outcome 3) (Steps.enter_done g S s (record { object = x; tag = own; value = f.value })) in
      let asking = turn (Outcome 4) (Steps.open_done g S s (clients + x) x) in
      let opens = Steps.unless (Steps.check (ltb p.opened most_reads) 14 (Steps.check (Steps.room g S s) 17 0)) S asking in
      let enters = Steps.unless (Steps.check (Steps.history_room g S s) 15 0) S entering in
      let moves = Steps.unless (Steps.check (Steps.room g S s) 17 0) S moving in
      ap (λ (u : declared.Tag). cond (lower (tag_at own) u)
      (cond (history.holds (map entry_at p.history) x (tag_at own))
      (turns.unless (turns.check (writing.room (layout_of g) (state_at S) s) (refusal_of 17) None) (state_at S) (turns.turn (turns.Outcome 1) (encoding.move_done (layout_of g) (state_at S) s x u (encoding.turned (layout_of g) s (server_at p) x (tag_at own) u p.symbol))))
      (cond (updates.is_open (read_at (p.reads (clients + x)))) (turns.turn (turns.Outcome 2) (state_at S))
      (cond f.recovered
      (turns.unless (turns.check (writing.history_room (state_at S) s) (refusal_of 15) None) (state_at S) (turns.turn (turns.Outcome 3) (encoding.enter_done (layout_of g) (state_at S) s (record { object = x; tag = tag_at own; value = f.value }))))
      (turns.unless (turns.check (ltb p.opened most_reads) (refusal_of 14) (turns.check (writing.room (layout_of g) (state_at S) s) (refusal_of 17) None)) (state_at S) (turns.turn (turns.Outcome 4) (reading_rule.open_done (layout_of g) (state_at S) s (clients + x) x))))))
      (turns.turn (turns.Outcome 0) (state_at S))) (top_at x p.history)
      ∙ cond_above own t _ _ (cond (holds p.history x own) moves (cond (is_open (p.reads (clients + x))) (turn (Outcome 2) S) (cond f.recovered enters opens))) (turn (Outcome 0) S)
      (cond_same turn_at _ (holds p.history x own) _ _ moves (cond (is_open (p.reads (clients + x))) (turn (Outcome 2) S) (cond f.recovered enters opens)) (holds_at p.history x own)
      (one_check _ (Steps.room g S s) 17 S _ moving refl (room_same g S s)
      (ap (λ v. turns.turn (turns.Outcome 1) (encoding.move_done (layout_of g) (state_at S) s x (tag_at t) v)) (turned_same s p x own t p.symbol)
      ∙ ap (turns.turn (turns.Outcome 1)) (move_done_same S s x t (swap g s x (kept g p.history x own) (kept g p.history x t) p.symbol))))
      (cond_same turn_at _ (is_open (p.reads (clients + x))) _ _ (turn (Outcome 2) S) (cond f.recovered enters opens) (is_open_same (p.reads (clients + x))) refl
      (cond_same turn_at f.recovered f.recovered _ _ enters opens refl
      (one_check _ (Steps.history_room g S s) 15 S _ entering refl (history_room_same S s) (ap (turns.turn (turns.Outcome 3)) (enter_done_same S s (record { object = x; tag = own; value = f.value }))))
      (unless_at (Steps.check (ltb p.opened most_reads) 14 (Steps.check (Steps.room g S s) 17 0)) _ S _ asking
      (chain_at ((ltb p.opened most_reads, ltb p.opened most_reads, 14) ∷ (writing.room (layout_of g) (state_at S) s, Steps.room g S s, 17) ∷ []) ((refl, refl), ((room_same g S s, refl), tt)))
      (λ _. ap (turns.turn (turns.Outcome 4)) (open_done_same g S s (clients + x) x))))))
      refl

  within_same : (p : Server) (x t : ℕ) → encoding.within (layout_of g) (server_at p) x (tag_at t) ≡ Steps.within g p x t
  within_same p x t = every_same g.n _ _ (λ j. ap (λ b. not (has g j x) || b) (above_at (p.told x j) t))

  other_same : (S : State) (s x : ℕ) → encoding.encode_other (layout_of g) (state_at S) s x ≡ turn_at (Steps.encode_other g S s x)
  unfolding encoding.encode_other Steps.encode_other
  other_same S s x =
      let p = S.servers s in
      let t = highest (Steps.within g p x) x p.history in
      let moving = turn (Outcome 1) (Steps.move_done g S s x t p.symbol) in
      ap (λ (u : declared.Tag). cond (lower (tag_at (p.own x)) u)
      (turns.unless (turns.check (writing.room (layout_of g) (state_at S) s) (refusal_of 17) None) (state_at S) (turns.turn (turns.Outcome 1) (encoding.move_done (layout_of g) (state_at S) s x u p.symbol)))
      (turns.turn (turns.Outcome 0) (state_at S))) (highest_at (encoding.within (layout_of g) (server_at p) x) (Steps.within g p x) (within_same p x) x p.history)
      ∙ cond_above (p.own x) t _ _ (Steps.unless (Steps.check (Steps.room g S s) 17 0) S moving) (turn (Outcome 0) S)
      (one_check _ (Steps.room g S s) 17 S _ moving refl (room_same g S s) (ap (turns.turn (turns.Outcome 1)) (move_done_same S s x t p.symbol))) refl

  pub encode_same : (S : State) (s x : ℕ) (f : Found) → encoding.encode (layout_of g) (state_at S) s x f ≡ turn_at (Steps.encode g S s x f)
  unfolding encoding.encode Steps.encode
  encode_same S s x f = unless_at (Steps.object_refusal g s x) _ S _ (cond (has g s x) (Steps.encode_contained g S s x f) (Steps.encode_other g S s x)) (object_refusal_same s x)
      (λ _. cond_same turn_at (has g s x) (has g s x) _ _ (Steps.encode_contained g S s x f) (Steps.encode_other g S s x) refl (contained_same S s x f) (other_same S s x))

  -- ---- sweep
  wanted_same : (p : Server) (x t : ℕ) → encoding.wanted (layout_of g) (server_at p) x (tag_at t) ≡ Steps.wanted g p x t
  wanted_same p x t = some_same slots _ _ (λ i. asks_same x t (p.reads i))

  stays_same : (p : Server) (x : ℕ) (e : Entry) → encoding.stays (layout_of g) (server_at p) x (entry_at e) ≡ Steps.stays g p x e
  stays_same p x e = ap₂ (λ (a b : Bool). not (eqb e.object x && (a && not b)))
      (ap (lower (tag_at e.tag)) (lowest_at g.n (p.told x)) ∙ lower_at e.tag (lowest g.n (p.told x))) (wanted_same p x e.tag)

  settled_same : (p : Server) (x : ℕ) (es : List Entry) → encoding.settled (layout_of g) (server_at p) x (map entry_at es) ≡ Steps.settled g p x es
  settled_same p x es = ap₂ ◌&&◌ (every_same g.n _ _ (λ j. same_at (p.told x j) (p.own x)))
      (ap (λ t. not (lower (tag_at (p.own x)) t)) (top_at x es) ∙ above_at (p.own x) (top_tag x es))

  swept_same : (p : Server) (x : ℕ) → encoding.swept (layout_of g) (server_at p) x ≡ map entry_at (Steps.swept g p x)
  unfolding encoding.swept Steps.swept
  swept_same p x =
      let es = filter (Steps.stays g p x) p.history in
      ap (λ l. cond (encoding.settled (layout_of g) (server_at p) x l) (filter (λ e. not (history.is_entry x (tag_at (p.own x)) e)) l) l)
      (kept_by_at entry_at (encoding.stays (layout_of g) (server_at p) x) (Steps.stays g p x) (stays_same p x) p.history)
      ∙ cond_same (map entry_at) _ (Steps.settled g p x es) _ _ (filter (λ e. not (same_entry x (p.own x) e)) es) es (settled_same p x es)
      (kept_by_at entry_at (λ e. not (history.is_entry x (tag_at (p.own x)) e)) (λ e. not (same_entry x (p.own x) e)) (λ e. ap (λ b. not (eqb e.object x && b)) (same_at e.tag (p.own x))) es) refl

  sweep_done_same : (S : State) (s x : ℕ) → encoding.sweep_done (layout_of g) (state_at S) s x ≡ state_at (Steps.sweep_done g S s x)
  unfolding encoding.sweep_done Steps.sweep_done
  sweep_done_same S s x = put_same S s _ (Steps.sifted (S.servers s) (Steps.swept g (S.servers s) x)) _ S.lanes
      (ap (updates.sifted (server_at (S.servers s))) (swept_same (S.servers s) x) ∙ sifted_same (S.servers s) (Steps.swept g (S.servers s) x)) refl

  pub sweep_same : (S : State) (s x : ℕ) → encoding.sweep (layout_of g) (state_at S) s x ≡ turn_at (Steps.sweep g S s x)
  unfolding encoding.sweep Steps.sweep
  sweep_same S s x =
      let p = S.servers s in
      unless_at (Steps.object_refusal g s x) _ S _ (turn (Count (length p.history - length (Steps.swept g p x))) (Steps.sweep_done g S s x)) (object_refusal_same s x)
      (λ _. ap₂ (λ (c : ℕ) (T : model.State). turns.turn (turns.Removed c) T)
      (ap₂ (λ (a b : ℕ). a - b) (length-map p.history entry_at) (ap length (swept_same p x) ∙ length-map (Steps.swept g p x) entry_at)) (sweep_done_same S s x))

  -- ---- deliver
  take_done_same : (S : State) (a b : ℕ) (p : model.Server) (q : Server) → p ≡ server_at q → delivering.take_done (layout_of g) (state_at S) a b p ≡ state_at (Steps.take_done g S a b q)
  unfolding delivering.take_done Steps.take_done
  take_done_same S a b p q e = put_same S b p q _ (taken S.lanes a b) e (taken_at S.lanes a b)

  exchanges_same : (s : ℕ) (p : Server) (y u : ℕ) → delivering.exchanges (layout_of g) s (server_at p) y (tag_at u) ≡ Steps.exchanges g s p y u
  exchanges_same s p y u = ap₂ (λ (a b : Bool). has g s y && (not a && b)) (same_at u (p.own y)) (holds_at p.history y (p.own y))

  stated_same : (s : ℕ) (p : Server) (y u : ℕ) → delivering.stated (layout_of g) s (server_at p) y (tag_at u) ≡ tag_at (Steps.states g s p y u)
  unfolding delivering.stated Steps.states
  stated_same s p y u = cond_same tag_at _ (Steps.exchanges g s p y u) _ _ (cond (holds p.history y u) u 0) (p.own y) (exchanges_same s p y u)
      (cond_same tag_at _ (holds p.history y u) _ _ u 0 (holds_at p.history y u) refl refl) refl

  restated_same : (s : ℕ) (p : Server) (T : List ℕ) (y : ℕ) → delivering.restated (layout_of g) s (server_at p) (map tag_at T) y ≡ Steps.mixed g s p T y
  unfolding delivering.restated Steps.mixed
  restated_same s p T zero = refl
  restated_same s p T (suc y) =
      let u = get_or T y 0 in
      ap₂ (λ (z : declared.Tag) (v : List ℕ). cond (delivering.exchanges (layout_of g) s (server_at p) y z) (encoding.turned (layout_of g) s (server_at p) y (tag_at (p.own y)) (delivering.stated (layout_of g) s (server_at p) y z) v) v)
      (get_or_at tag_at T y 0) (restated_same s p T y)
      ∙ ap₂ (λ (b : Bool) (w : declared.Tag). cond b (encoding.turned (layout_of g) s (server_at p) y (tag_at (p.own y)) w (Steps.mixed g s p T y)) (Steps.mixed g s p T y)) (exchanges_same s p y u) (stated_same s p y u)
      ∙ ap (λ v. cond (Steps.exchanges g s p y u) v (Steps.mixed g s p T y)) (turned_same s p y (p.own y) (Steps.states g s p y u) (Steps.mixed g s p T y))

  stated_list : (s : ℕ) (p : Server) (T : List ℕ) → listed g.k (λ y. delivering.stated (layout_of g) s (server_at p) y (get_or (map tag_at T) y zero_tag)) ≡ map tag_at (listed g.k (λ y. Steps.states g s p y (get_or T y 0)))
  stated_list s p T = ap (listed g.k) (fun_ext (λ y. ap (delivering.stated (layout_of g) s (server_at p) y) (get_or_at tag_at T y 0) ∙ stated_same s p y (get_or T y 0)))
      ∙ listed_at tag_at g.k (λ y. Steps.states g s p y (get_or T y 0))

  asked_held : (p : Server) (x : ℕ) (T : List ℕ) → history.holds (map entry_at p.history) x (get_or (map tag_at T) x zero_tag) ≡ holds p.history x (get_or T x 0)
  asked_held p x T = ap (history.holds (map entry_at p.history) x) (get_or_at tag_at T x 0) ∙ holds_at p.history x (get_or T x 0)

  reply_same : (s : ℕ) (p : Server) (m x : ℕ) (T : List ℕ) → delivering.reply (layout_of g) s (server_at p) m x (map tag_at T) ≡ message_at (Steps.reply g s p m x T)
  reply_same s p m x T = cond_same message_at _ (holds p.history x (get_or T x 0)) _ _ (Plain m (kept g p.history x (get_or T x 0))) (Coded m (Steps.mixed g s p T g.k) (listed g.k (λ y. Steps.states g s p y (get_or T y 0)))) (asked_held p x T)
      (ap (plain_reply m) (ap (history.value_under g.w (map entry_at p.history) x) (get_or_at tag_at T x 0) ∙ value_at g p.history x (get_or T x 0)))
      (ap₂ (coded_reply m) (restated_same s p T g.k) (stated_list s p T))

  question_done_same : (S : State) (a b : ℕ) (m : Message) (z : Meaning) → z ≡ message_at m → delivering.question_done (layout_of g) (state_at S) a b z ≡ state_at (Steps.question_done g S a b m)
  unfolding delivering.question_done Steps.question_done
  question_done_same S a b m z e = ap (λ (L : lanes.Lanes Meaning). let T : model.State = record { servers = λ s. server_at (S.servers s); lanes = L } in T)
      (ap₂ (λ (L : lanes.Lanes Meaning) (w : Meaning). posted L b a w) (taken_at S.lanes a b) e ∙ posted_at (taken S.lanes a b) b a m)

  settle_same : (S : State) (a b i : ℕ) (r : Read) (v : List ℕ) → delivering.settle (layout_of g) (state_at S) a b i (asking_at r) v ≡ turn_at (Steps.settle g S a b i r v)
  unfolding delivering.settle Steps.settle
  settle_same S a b i r v =
      let p = S.servers b in
      let e : Entry = record { object = r.object; tag = r.tags r.object; value = v } in
      cond_same turn_at (ltb i clients) (ltb i clients) _ _ (turn (Outcome 4) (Steps.take_done g S a b (Steps.client_answer g p i r v))) (Steps.unless (Steps.check (Steps.history_room g S b) 15 0) S (turn (Outcome 4) (Steps.take_done g S a b (Steps.internal_answer g p i r v)))) refl
      (ap (turns.turn (turns.Outcome 4)) (take_done_same S a b _ (Steps.client_answer g p i r v)
      (ap (updates.reading (server_at p)) (upd_at read_at p.reads i (Steps.answered r v (r.tags r.object) 3)) ∙ reading_same p (upd p.reads i (Steps.answered r v (r.tags r.object) 3)))))
      (one_check _ (Steps.history_room g S b) 15 S _ (turn (Outcome 4) (Steps.take_done g S a b (Steps.internal_answer g p i r v))) refl (history_room_same S b)
      (ap (turns.turn (turns.Outcome 4)) (take_done_same S a b _ (Steps.internal_answer g p i r v)
      (ap₂ updates.reading (entered_same p e) (upd_at read_at p.reads i no_read) ∙ reading_same (Steps.entered p e) (upd p.reads i no_read)))))

  -- the objects below y can be mended
  abbrev mends_at : Server → ℕ → Read → List ℕ → ℕ → Bool
  mends_at p a r st y = not (has g a y) || (eqb (get_or st y 0) (r.tags y) || (holds p.history y (get_or st y 0) && holds p.history y (r.tags y)))

  mended_ways : (a e h : Bool) (v w : List ℕ) → cond (a && not e) (cond h (Some v) None) (Some w) ≡ cond (not a || (e || h)) (Some (cond (a && not e) v w)) None
  mended_ways true true h v w = refl
  mended_ways true false true v w = refl
  mended_ways true false false v w = refl
  mended_ways false e h v w = refl

  mended_at_same : (p : Server) (a : ℕ) (r : Read) (st : List ℕ) (y : ℕ) (v : List ℕ) → delivering.mended_at (layout_of g) (server_at p) a (asking_at r) (map tag_at st) y v
      ≡ cond (mends_at p a r st y) (Some (cond (has g a y && not (eqb (get_or st y 0) (r.tags y))) (swap g a y (kept g p.history y (get_or st y 0)) (kept g p.history y (r.tags y)) v) v)) None
  mended_at_same p a r st y v =
      let t = get_or st y 0 in
      ap (λ (u : declared.Tag). cond (has g a y && not (same u (tag_at (r.tags y)))) (cond (history.holds (map entry_at p.history) y u && history.holds (map entry_at p.history) y (tag_at (r.tags y))) (Some (encoding.turned (layout_of g) a (server_at p) y u (tag_at (r.tags y)) v)) None) (Some v)) (get_or_at tag_at st y 0)
      ∙ ap₂ (λ (e : Bool) (w : List ℕ). cond (has g a y && not e) (cond (history.holds (map entry_at p.history) y (tag_at t) && history.holds (map entry_at p.history) y (tag_at (r.tags y))) (Some w) None) (Some v)) (same_at t (r.tags y)) (turned_same a p y t (r.tags y) v)
      ∙ ap₂ (λ (c d : Bool). cond (has g a y && not (eqb t (r.tags y))) (cond (c && d) (Some (swap g a y (kept g p.history y t) (kept g p.history y (r.tags y)) v)) None) (Some v)) (holds_at p.history y t) (holds_at p.history y (r.tags y))
      ∙ mended_ways (has g a y) (eqb t (r.tags y)) (holds p.history y t && holds p.history y (r.tags y)) (swap g a y (kept g p.history y t) (kept g p.history y (r.tags y)) v) v

  pub mended_same : (p : Server) (a : ℕ) (r : Read) (v st : List ℕ) (y : ℕ) → delivering.mended (layout_of g) (server_at p) a (asking_at r) v (map tag_at st) y ≡ cond (every y (mends_at p a r st)) (Some (Steps.mended g p a r v st y)) None
  unfolding delivering.mended Steps.mended every
  mended_same p a r v st zero = refl
  mended_same p a r v st (suc y) = ap (delivering.mended_next (layout_of g) (server_at p) a (asking_at r) (map tag_at st) y) (mended_same p a r v st y) ∙ by (every y (mends_at p a r st))
    where
      by : (c : Bool) → delivering.mended_next (layout_of g) (server_at p) a (asking_at r) (map tag_at st) y (cond c (Some (Steps.mended g p a r v st y)) None)
          ≡ cond (c && mends_at p a r st y) (Some (cond (has g a y && not (eqb (get_or st y 0) (r.tags y))) (swap g a y (kept g p.history y (get_or st y 0)) (kept g p.history y (r.tags y)) (Steps.mended g p a r v st y)) (Steps.mended g p a r v st y))) None
      by true = mended_at_same p a r st y (Steps.mended g p a r v st y)
      by false = refl

  pub open_place_same : (p : Server) (m : ℕ) → delivering.open_place (server_at p) m ≡ cond (ltb (Steps.open_slot g p m) slots) (Some (Steps.open_slot g p m)) None
  open_place_same p m = first_at slots (λ i. updates.is_open_as m (read_at (p.reads i))) (λ i. is_open (p.reads i) && eqb (p.reads i).number m) (λ i. is_open_as_same m (p.reads i))

  -- what is open is seen as open
  pub seen_open : (r : Read) → is_open r ≡ true → read_at r ≡ Open (asking_at r)
  seen_open r o = by (shape r)
    where
      by : Shape r → read_at r ≡ Open (asking_at r)
      by (shape_free q w e) = absurd (both_ways (is_open r) w o)
      by (shape_open q w e) = e
      by (shape_answered q w e) = absurd (both_ways (is_open r) w o)

  slot_open : (p : Server) (m : ℕ) → Steps.open_slot g p m < slots → is_open (p.reads (Steps.open_slot g p m)) ≡ true
  slot_open p m lt = (and_parts (is_open (p.reads (Steps.open_slot g p m))) (eqb (p.reads (Steps.open_slot g p m)).number m) (seek_found slots (λ i. is_open (p.reads i) && eqb (p.reads i).number m) lt)).0

  module _ (S : State) (a b : ℕ) where
    dropped_same : delivering.dropped (layout_of g) (state_at S) a b ≡ turn_at (turn (Outcome 5) (Steps.take_done g S a b (S.servers b)))
    dropped_same = ap (turns.turn (turns.Outcome 5)) (take_done_same S a b (server_at (S.servers b)) (S.servers b) refl)

    plain_same : (m : ℕ) (v : List ℕ) (f : Found) → delivering.plain_at (layout_of g) (state_at S) a b v (delivering.open_place (server_at (S.servers b)) m) ≡ turn_at (Steps.got g S a b (Plain m v) f)
    unfolding Steps.got
    plain_same m v f =
        let p = S.servers b in
        let i = Steps.open_slot g p m in
        let used = Steps.settle g S a b i (p.reads i) v in
        let unused = turn (Outcome 5) (Steps.take_done g S a b p) in
        ap (delivering.plain_at (layout_of g) (state_at S) a b v) (open_place_same p m)
        ∙ by_place slots i (ltb i slots) (delivering.plain_at (layout_of g) (state_at S) a b v) (turn_at (cond (ltb i slots) used unused)) refl
        (λ lt. ap (delivering.plain_to (layout_of g) (state_at S) a b i v) (seen_open (p.reads i) (slot_open p m lt)) ∙ settle_same S a b i (p.reads i) v ∙ ap turn_at (sym (cond-true (ltb i slots) used unused (lt-ltb i slots lt))))
        (λ e. dropped_same ∙ ap turn_at (sym (cond-false (ltb i slots) used unused e)))

    symbol_same : (i : ℕ) (r : Read) (v st : List ℕ) (f : Found) → is_open r ≡ true → delivering.by_symbol (layout_of g) (state_at S) a b i (asking_at r) f (delivering.mended (layout_of g) (server_at (S.servers b)) a (asking_at r) v (map tag_at st) g.k)
        ≡ turn_at (let p = S.servers b in let w = Steps.in_hand r a (Steps.mended g p a r v st g.k) in cond (Steps.mendable g p a r st) (cond f.recovered (Steps.settle g S a b i w f.value) (turn (Outcome 3) (Steps.take_done g S a b (Steps.reading p (upd p.reads i w))))) (turn (Outcome 6) (Steps.take_done g S a b p)))
    symbol_same i r v st f o = ap (delivering.by_symbol (layout_of g) (state_at S) a b i (asking_at r) f) (mended_same (S.servers b) a r v st g.k) ∙ by (Steps.mendable g (S.servers b) a r st)
      where
        by : (c : Bool) → delivering.by_symbol (layout_of g) (state_at S) a b i (asking_at r) f (cond c (Some (Steps.mended g (S.servers b) a r v st g.k)) None)
            ≡ turn_at (let p = S.servers b in let w = Steps.in_hand r a (Steps.mended g p a r v st g.k) in cond c (cond f.recovered (Steps.settle g S a b i w f.value) (turn (Outcome 3) (Steps.take_done g S a b (Steps.reading p (upd p.reads i w))))) (turn (Outcome 6) (Steps.take_done g S a b p)))
        by true =
            let p = S.servers b in
            let w = Steps.in_hand r a (Steps.mended g p a r v st g.k) in
            let wo : is_open w ≡ true = o in
            cond_same turn_at f.recovered f.recovered _ _ (Steps.settle g S a b i w f.value) (turn (Outcome 3) (Steps.take_done g S a b (Steps.reading p (upd p.reads i w)))) refl
            (settle_same S a b i w f.value)
            (ap (turns.turn (turns.Outcome 3)) (take_done_same S a b _ (Steps.reading p (upd p.reads i w))
            (ap (updates.reading (server_at p)) (ap (upd (λ k. read_at (p.reads k)) i) (sym (seen_open w wo)) ∙ upd_at read_at p.reads i w) ∙ reading_same p (upd p.reads i w))))
        by false = ap (turns.turn (turns.Outcome 6)) (take_done_same S a b (server_at (S.servers b)) (S.servers b) refl)

    coded_same : (m : ℕ) (v st : List ℕ) (f : Found) → delivering.coded_at (layout_of g) (state_at S) a b v (map tag_at st) f (delivering.open_place (server_at (S.servers b)) m) ≡ turn_at (Steps.got g S a b (Coded m v st) f)
    unfolding Steps.got
    coded_same m v st f =
        let p = S.servers b in
        let i = Steps.open_slot g p m in
        let r = p.reads i in
        let w = Steps.in_hand r a (Steps.mended g p a r v st g.k) in
        let used = cond (Steps.mendable g p a r st) (cond f.recovered (Steps.settle g S a b i w f.value) (turn (Outcome 3) (Steps.take_done g S a b (Steps.reading p (upd p.reads i w))))) (turn (Outcome 6) (Steps.take_done g S a b p)) in
        let unused = turn (Outcome 5) (Steps.take_done g S a b p) in
        ap (delivering.coded_at (layout_of g) (state_at S) a b v (map tag_at st) f) (open_place_same p m)
        ∙ by_place slots i (ltb i slots) (delivering.coded_at (layout_of g) (state_at S) a b v (map tag_at st) f) (turn_at (cond (ltb i slots) used unused)) refl
        (λ lt. ap (delivering.coded_to (layout_of g) (state_at S) a b i v (map tag_at st) f) (seen_open r (slot_open p m lt)) ∙ symbol_same i r v st f (slot_open p m lt) ∙ ap turn_at (sym (cond-true (ltb i slots) used unused (lt-ltb i slots lt))))
        (λ e. dropped_same ∙ ap turn_at (sym (cond-false (ltb i slots) used unused e)))

    got_same : a < 6 → (m : Message) (f : Found) → delivering.got (layout_of g) (state_at S) a b (message_at m) f ≡ turn_at (Steps.got g S a b m f)
    unfolding delivering.got Steps.got
    got_same lt (Written x v h ck) f =
        let p = S.servers b in
        let w : Waiting = record { object = x; tag = tag h a; value = v; clock = ck } in
        one_check _ (ltb (length p.waiting) queue) 18 S _ (turn (Outcome 0) (Steps.take_done g S a b (Steps.queued p (p.waiting ++ w ∷ [])))) refl (ap (λ k. ltb k queue) (length-map p.waiting waiting_at))
        (ap (turns.turn (turns.Outcome 0)) (take_done_same S a b _ (Steps.queued p (p.waiting ++ w ∷ []))
        (ap (λ (t : declared.Tag). updates.queued (server_at p) (map waiting_at p.waiting ++ (let z : model.Waiting = record { object = x; tag = t; value = v; clock = ck } in z) ∷ [])) (tag_made h a lt)
        ∙ ap (updates.queued (server_at p)) (sym (map-append waiting_at p.waiting (w ∷ []))) ∙ queued_same p (p.waiting ++ w ∷ []))))
    got_same lt (Tagged x t) f = ap (turns.turn (turns.Outcome 0)) (take_done_same S a b _ (Steps.tells (S.servers b) x a t) (hearing_same (S.servers b) x a t))
    got_same lt (Question m x T) f =
        let p = S.servers b in
        one_check _ (ltb (length (S.lanes b a)) g.places) 17 S _ (turn (Outcome (cond (holds p.history x (get_or T x 0)) 1 2)) (Steps.question_done g S a b (Steps.reply g b p m x T))) refl (ap (λ k. ltb k g.places) (length-map (S.lanes b a) message_at))
        (ap₂ (λ (c : Bool) (T : model.State). turns.turn (turns.Outcome (cond c 1 2)) T) (asked_held p x T) (question_done_same S a b (Steps.reply g b p m x T) _ (reply_same b p m x T)))
    got_same lt (Plain m v) f = plain_same m v f
    got_same lt (Coded m v st) f = coded_same m v st f

    oldest_same : a < 6 → (ms : List Message) (f : Found) → delivering.oldest (layout_of g) (state_at S) a b (map message_at ms) f ≡ turn_at (Steps.oldest g S a b ms f)
    unfolding delivering.oldest Steps.oldest
    oldest_same lt [] f = refl
    oldest_same lt (m ∷ ms) f = cond_same turn_at (Steps.fits g m) (Steps.fits g m) _ _ (Steps.got g S a b m f) (turn (Outcome 7) (Steps.take_done g S a b (S.servers b))) refl (got_same lt m f)
        (ap (turns.turn (turns.Outcome 7)) (take_done_same S a b (server_at (S.servers b)) (S.servers b) refl))

  pub deliver_same : g.n ≤ 6 → (S : State) (a b : ℕ) (f : Found) → delivering.deliver (layout_of g) (state_at S) a b f ≡ turn_at (Steps.deliver g S a b f)
  unfolding delivering.deliver Steps.deliver delivering.lane_refusal Steps.lane_refusal
  deliver_same few S a b f =
      let ends = ltb a g.n && ltb b g.n in
      unless_at (Steps.check ends 7 (Steps.check (not (eqb a b)) 12 0)) _ S _ (Steps.oldest g S a b (S.lanes a b) f)
      (chain_at ((ends, ends, 7) ∷ (not (eqb a b), not (eqb a b), 12) ∷ []) ((refl, refl), ((refl, refl), tt)))
      (λ e. let l = ltb-true a g.n (and_parts (ltb a g.n) (ltb b g.n) (checked ends 7 _ (omega arith) e).0).0 in oldest_same S a b (omega arith) (S.lanes a b) f)
