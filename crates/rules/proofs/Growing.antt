-- The log of accepted writes grows; in every run every symbol is right.
use Rattle.std.proofs.Common.{◌≡◌, ℕ, ◌+◌, ◌/◌, ◌%◌, ◌<◌, ◌≤◌, true, false, eqb, ◌⊎◌, List, [], ◌∷◌, ◌++◌, length, get_or, sym, refl, ap, ◌∙◌, inl, inr, ⊎_elim, arith}
use Rattle.std.specs.List.{AllByRecursion}
use Rattle.std.proofs.lemmas.Bool.{or_from, and_right, both_ways, cases_Bool, eq-eqb, ne_eqb, eqb-true, and_from, or_cases, or_parts, cond_both, cond-true, cond-false}
use Rattle.rules.proofs.RankedMessages.{Message, Written, Tagged, Question, Plain, Coded, tag}
use Rattle.rules.proofs.RankedWords.{upd}
use Rattle.rules.proofs.Ranked.{Code, Entry, Waiting, Server, State, holds, enters, same_entry, entered_value, kept, zeros, clients}
use Rattle.rules.proofs.RankedSteps as Steps
use Rattle.rules.proofs.RankedSteps.{Call, Write, Ask, Collect, Deliver, Apply, Encode, Sweep, Answer, Refused, Tag, Still, Nothing, Outcome, Found, Turn, turn, entered, counted, queued, sifted, reading, moved, opening, write_tag, write_done, write, open_done, free_slot, collect_done, wait_tag, apply_done, move_done, enter_done, sweep_done, reply, question_done, take_done, step, after}
use Rattle.rules.proofs.Words.{upd_each, holds_push}
use Rattle.std.proofs.ByRecursion.{All-weaker}
use Rattle.rules.proofs.RankedFacts.{Lawful, only, Allowed}
use Rattle.rules.proofs.Calls.{object_server, object_object}
use Rattle.rules.proofs.Deliver.{lane_ends}
use Rattle.rules.proofs.Source.{Sent, Sourced, waited, read_sourced, collect_sourced, apply_sourced, encode_sourced, sweep_sourced, deliver_sourced}
use Rattle.rules.proofs.Algebra.{Cells, Mix, mix_same}
use Rattle.rules.proofs.Values.{OfEntry, OfTag, Told, Valued}
use Rattle.rules.proofs.Valuing.{decoded_right, write_valued, read_valued, collect_valued, apply_valued, encode_valued, sweep_valued}
use Rattle.rules.proofs.Carrying.{deliver_valued, found_right}
use Rattle.rules.proofs.Cases.{write_cases, apply_cases, read_cases, collect_cases, sweep_cases, encode_cases, deliver_cases}
use Rattle.rules.proofs.Always.{Stands, step_stands}

-- ---- heights applied only rise

module _ (g : Code) (S : State) where
  abbrev Rises : Turn → Type 0
  Rises t = (s : ℕ) → (S.servers s).top ≤ (t.next.servers s).top

  rises_put : (s : ℕ) (r : Server) → (S.servers s).top ≤ r.top → (k : ℕ) → (S.servers k).top ≤ (upd S.servers s r k).top
  rises_put s r h k = upd_each (λ (p q : Server). p.top ≤ q.top) S.servers s r (λ p. omega arith) h k

  write_top : (s x : ℕ) (v : List ℕ) → Rises (turn (Tag (write_tag g (S.servers s) s)) (write_done g S s x v))
  unfolding write_done reading entered counted
  write_top s x v = rises_put s _ (omega arith)

  apply_top : (s : ℕ) (v : Waiting) (vs : List Waiting) → Rises (turn (Tag (wait_tag g v)) (apply_done g S s v vs))
  unfolding apply_done reading entered counted queued
  apply_top s v vs = rises_put s _ (omega arith)

  open_top : (a : Answer) (s i x : ℕ) → Rises (turn a (open_done g S s i x))
  unfolding open_done opening
  open_top a s i x = rises_put s _ (omega arith)

  collect_top : (a : Answer) (s i : ℕ) → Rises (turn a (collect_done g S s i))
  unfolding collect_done reading
  collect_top a s i = rises_put s _ (omega arith)

  sweep_top : (a : Answer) (s x : ℕ) → Rises (turn a (sweep_done g S s x))
  unfolding sweep_done sifted
  sweep_top a s x = rises_put s _ (omega arith)

  move_top : (a : Answer) (s x t : ℕ) (v : List ℕ) → Rises (turn a (move_done g S s x t v))
  unfolding move_done moved
  move_top a s x t v = rises_put s _ (omega arith)

  enter_top : (a : Answer) (s : ℕ) (e : Entry) → Rises (turn a (enter_done g S s e))
  unfolding enter_done entered
  enter_top a s e = rises_put s _ (omega arith)

  take_top : (o a b : ℕ) (r : Server) → r.top ≡ (S.servers b).top → Rises (turn (Outcome o) (take_done g S a b r))
  unfolding take_done
  take_top o a b r e = rises_put b r (omega arith)

  question_top : (o a b : ℕ) (m : Message) → Rises (turn (Outcome o) (question_done g S a b m))
  unfolding question_done
  question_top o a b m s = omega arith

  same_top : (a : Answer) → Rises (turn a S)
  same_top a s = omega arith

  pub rises : (c : Call) (f : Found) → Rises (step g S c f)
  rises (Write s x v) f = write_cases g S Rises (λ r. same_top (Refused r)) s x v (λ _. write_top s x v)
  rises (Ask s x l) f = read_cases g S Rises (λ r. same_top (Refused r)) s x l f (λ _ _ _. same_top Still) (λ _ _ _ _. same_top Still) (λ _ _ _ _ _. open_top Still s (free_slot g (S.servers s)) x)
  rises (Collect s m l) f = collect_cases g S Rises (λ r. same_top (Refused r)) s m l (same_top Still) (λ i _ _ _ _. collect_top Still s i)
  rises (Deliver a b) f = deliver_cases g S Rises (λ r. same_top (Refused r)) a b f (λ o r e _. take_top o a b r e.top) (λ m v st ms _ _ _ _ _ _ e. take_top 3 a b _ e.top) (λ o m x T. question_top o a b (reply g b (S.servers b) m x T))
  rises (Apply s) f = apply_cases g S Rises (λ r. same_top (Refused r)) s (same_top Nothing) (λ b _. apply_top s b.write b.others)
  rises (Encode s x) f = encode_cases g S Rises (λ r. same_top (Refused r)) s x f (λ o _. same_top (Outcome o)) (λ t v _ _ _ _. move_top (Outcome 1) s x t v) (λ _ _ _. enter_top (Outcome 3) s (record { object = x; tag = (S.servers s).own x; value = f.value })) (λ _ _ _ _ _ _. open_top (Outcome 4) s (clients + x) x)
  rises (Sweep s x) f = sweep_cases g S Rises (λ r. same_top (Refused r)) s x (λ _ _. sweep_top Still s x)

-- ---- a longer log

entered_grow : (g : Code) (L : List Entry) (e : Entry) (x t : ℕ) → enters L x t ≡ true → entered_value g (L ++ e ∷ []) x t ≡ entered_value g L x t
unfolding entered_value enters
entered_grow g [] e x t h = absurd (both_ways false refl h)
entered_grow g (d ∷ L) e x t h = elim (cases_Bool (same_entry x t d)) [
  | inl q ↦ cond-true (same_entry x t d) d.value (entered_value g (L ++ e ∷ []) x t) q ∙ sym (cond-true (same_entry x t d) d.value (entered_value g L x t) q)
  | inr q ↦ cond-false (same_entry x t d) d.value (entered_value g (L ++ e ∷ []) x t) q
      ∙ entered_grow g L e x t (⊎_elim (λ w. absurd (both_ways (same_entry x t d) q w)) (λ w. w) (or_cases (same_entry x t d) (enters L x t) h))
      ∙ sym (cond-false (same_entry x t d) d.value (entered_value g L x t) q)
]

entered_new : (g : Code) (L : List Entry) (e : Entry) → enters L e.object e.tag ≡ false → entered_value g (L ++ e ∷ []) e.object e.tag ≡ e.value
unfolding entered_value enters
entered_new g [] e h = cond-true (same_entry e.object e.tag e) e.value (zeros g) (and_from (eqb e.object e.object) (eqb e.tag e.tag) (eq-eqb e.object e.object refl) (eq-eqb e.tag e.tag refl))
entered_new g (d ∷ L) e h =
    let p = or_parts (same_entry e.object e.tag d) (enters L e.object e.tag) h in
    cond-false (same_entry e.object e.tag d) d.value (entered_value g (L ++ e ∷ []) e.object e.tag) p.0 ∙ entered_new g L e p.1

entered_cases : (g : Code) (L : List Entry) (e : Entry) (x t : ℕ) → (entered_value g (L ++ e ∷ []) x t ≡ entered_value g L x t) ⊎ (entered_value g (L ++ e ∷ []) x t ≡ e.value)
unfolding entered_value
entered_cases g [] e x t = cond_both (same_entry x t e) e.value (zeros g) (λ v. (v ≡ zeros g) ⊎ (v ≡ e.value)) (λ _. inr refl) (λ _. inl refl)
entered_cases g (d ∷ L) e x t = elim (cases_Bool (same_entry x t d)) [
  | inl q ↦ inl (cond-true (same_entry x t d) d.value (entered_value g (L ++ e ∷ []) x t) q ∙ sym (cond-true (same_entry x t d) d.value (entered_value g L x t) q))
  | inr q ↦ ⊎_elim (λ w. inl (cond-false (same_entry x t d) d.value (entered_value g (L ++ e ∷ []) x t) q ∙ w ∙ sym (cond-false (same_entry x t d) d.value (entered_value g L x t) q)))
      (λ w. inr (cond-false (same_entry x t d) d.value (entered_value g (L ++ e ∷ []) x t) q ∙ w)) (entered_cases g L e x t)
]

pub kept_grow : (g : Code) (L : List Entry) (e : Entry) (x t : ℕ) → holds L x t ≡ true → kept g (L ++ e ∷ []) x t ≡ kept g L x t
unfolding kept
kept_grow g L e x t h = elim (cases_Bool (eqb t 0)) [
  | inl q ↦ rw q
  | inr q ↦ rw q (entered_grow g L e x t (⊎_elim (λ w. absurd (both_ways (eqb t 0) q w)) (λ w. w) (or_cases (eqb t 0) (enters L x t) h)))
]

pub kept_new : (g : Code) (L : List Entry) (e : Entry) → 0 < e.tag → enters L e.object e.tag ≡ false → kept g (L ++ e ∷ []) e.object e.tag ≡ e.value
unfolding kept
kept_new g L e pos h = cond-false (eqb e.tag 0) (zeros g) (entered_value g (L ++ e ∷ []) e.object e.tag) (ne_eqb e.tag 0 (λ q. omega arith)) ∙ entered_new g L e h

kept_cases : (g : Code) (L : List Entry) (e : Entry) (x t : ℕ) → (kept g (L ++ e ∷ []) x t ≡ kept g L x t) ⊎ (kept g (L ++ e ∷ []) x t ≡ e.value)
unfolding kept
kept_cases g L e x t = elim (cases_Bool (eqb t 0)) [ inl q ↦ inl (rw q) | inr q ↦ rw q (entered_cases g L e x t) ]

module _ (g : Code) (R : Lawful g) (L : List Entry) (e : Entry) (pos : 0 < e.tag) where
  M : List Entry
  M = L ++ e ∷ []

  pub cells_grow : Cells g R L → length e.value ≡ g.w → ((c : ℕ) → c < g.w → get_or e.value c 0 < g.q) → Cells g R (L ++ e ∷ [])
  cells_grow h long less = record {
    long = λ x t. ⊎_elim (λ q. ap length q ∙ h.long x t) (λ q. ap length q ∙ long) (kept_cases g L e x t);
    below = λ x t c lt. ⊎_elim (λ q. rw q (h.below x t c lt)) (λ q. rw q (less c lt)) (kept_cases g L e x t);
    zero_tag = λ x. kept_grow g L e x 0 refl ∙ h.zero_tag x;
  }

  tag_grow : (x t : ℕ) → OfTag g R L x t → OfTag g R (L ++ e ∷ []) x t
  tag_grow x t h = holds_push L e x t h

  entry_grow : (d : Entry) → OfEntry g R L d → OfEntry g R (L ++ e ∷ []) d
  entry_grow d h = (tag_grow d.object d.tag h.0, h.1 ∙ sym (kept_grow g L e d.object d.tag h.0))

  sent_grow : (a : ℕ) (m : Message) → Sent g (OfEntry g R L) (OfTag g R L) a m → Sent g (OfEntry g R (L ++ e ∷ [])) (OfTag g R (L ++ e ∷ [])) a m
  sent_grow a (Written x v t ck) h = entry_grow (record { object = x; tag = tag t a; value = v }) h
  sent_grow a (Tagged x t) h = (h.0, tag_grow x t h.1)
  sent_grow a (Question m x T) h = tt
  sent_grow a (Plain m v) h = tt
  sent_grow a (Coded m v st) h = tt

  pub sourced_grow : (S : State) → Sourced g (OfEntry g R L) (OfTag g R L) S → Sourced g (OfEntry g R (L ++ e ∷ [])) (OfTag g R (L ++ e ∷ [])) S
  sourced_grow S h = record {
    servers = λ s. record {
      own = λ x. tag_grow x _ ((h.servers s).own x);
      history = All-weaker (OfEntry g R L) (OfEntry g R (L ++ e ∷ [])) entry_grow (S.servers s).history (h.servers s).history;
      waiting = All-weaker (λ v. OfEntry g R L (waited g v)) (λ v. OfEntry g R (L ++ e ∷ []) (waited g v)) (λ v. entry_grow (waited g v)) (S.servers s).waiting (h.servers s).waiting;
      reads = λ i y. tag_grow y _ ((h.servers s).reads i y);
    };
    lanes = λ a b. All-weaker (Sent g (OfEntry g R L) (OfTag g R L) a) (Sent g (OfEntry g R (L ++ e ∷ [])) (OfTag g R (L ++ e ∷ [])) a) (sent_grow a) (S.lanes a b) (h.lanes a b);
  }

  mix_grow : (s : ℕ) (T : ℕ → ℕ) (v : List ℕ) → ((y : ℕ) → y < g.k → OfTag g R L y (T y)) → Mix g R L s T v → Mix g R (L ++ e ∷ []) s T v
  mix_grow s T v tags h = record {
    long = h.long;
    cells = λ c lt. h.cells c lt ∙ mix_same g R s (λ y. get_or (kept g L y (T y)) c 0) (λ y. get_or (kept g (L ++ e ∷ []) y (T y)) c 0)
        (λ y yk. ap (λ z. g.times (g.coefficient s y) (get_or z c 0)) (sym (kept_grow g L e y (T y) (tags y yk))));
  }

  told_grow : (S : State) (a b : ℕ) → Sourced g (OfEntry g R L) (OfTag g R L) S → (m : Message) → Told g R L a (S.servers a) (S.servers b) m → Told g R (L ++ e ∷ []) a (S.servers a) (S.servers b) m
  told_grow S a b src (Written x v t ck) h = tt
  told_grow S a b src (Tagged x t) h = tt
  told_grow S a b src (Question m x T) h = h
  told_grow S a b src (Plain m v) h = λ i lv nu. h i lv nu ∙ sym (kept_grow g L e ((S.servers b).reads i).object (((S.servers b).reads i).tags ((S.servers b).reads i).object) ((src.servers b).reads i ((S.servers b).reads i).object))
  told_grow S a b src (Coded m v st) h = ((λ y yk. tag_grow y (get_or st y 0) (h.0 y yk)), mix_grow a (λ y. get_or st y 0) v h.0 h.1, h.2)

  pub valued_grow : (S : State) → Sourced g (OfEntry g R L) (OfTag g R L) S → Valued g R L S → Valued g R (L ++ e ∷ []) S
  valued_grow S src h = record {
    servers = λ s sn. let q = h.servers s sn in record {
      symbol = mix_grow s (S.servers s).own (S.servers s).symbol (λ y _. (src.servers s).own y) q.symbol;
      object = q.object;
      hand = λ i lv j jn w. mix_grow j ((S.servers s).reads i).tags (((S.servers s).reads i).symbols j) (λ y _. (src.servers s).reads i y) (q.hand i lv j jn w);
    };
    lanes = λ a b an bn ne. All-weaker (Told g R L a (S.servers a) (S.servers b)) (Told g R (L ++ e ∷ []) a (S.servers a) (S.servers b)) (told_grow S a b src) (S.lanes a b) (h.lanes a b an bn ne);
  }

-- ---- one step, with the log

-- the log knows no height of a server above what it has applied
abbrev pub Tops : Code → List Entry → State → Type 0
Tops g L S = (s : ℕ) → s < g.n → AllByRecursion (λ e. (e.tag % 6 ≡ s) → e.tag / 6 ≤ (S.servers s).top) L

pub new_tag : (L : List Entry) (s top x : ℕ) → s < 6 → AllByRecursion (λ e. (e.tag % 6 ≡ s) → e.tag / 6 ≤ top) L → enters L x (tag (top + 1) s) ≡ false
unfolding enters
new_tag [] s top x lt h = refl
new_tag (d ∷ L) s top x lt h = or_from (same_entry x (tag (top + 1) s) d) (enters L x (tag (top + 1) s))
    (and_right (eqb d.object x) (eqb d.tag (tag (top + 1) s)) (ne_eqb d.tag (tag (top + 1) s) (λ q.
    let a : d.tag % 6 ≡ s = omega arith in
    let b = h.0 a in
    omega arith)))
    (new_tag L s top x lt h.1)

tops_rise : (g : Code) (L : List Entry) (S : State) (t : Turn) → Tops g L S → ((s : ℕ) → (S.servers s).top ≤ (t.next.servers s).top) → Tops g L t.next
tops_rise g L S t h r s sn = All-weaker (λ e. (e.tag % 6 ≡ s) → e.tag / 6 ≤ (S.servers s).top) (λ e. (e.tag % 6 ≡ s) → e.tag / 6 ≤ (t.next.servers s).top)
    (λ e q w. let a = q w in let b = r s in omega arith) L (h s sn)

pub record ToldRight (g : Code) (R : Lawful g) (L : List Entry) (S : State) : Type 0 where
  pub stands : Stands g R S
  pub cells : Cells g R L
  pub sourced : Sourced g (OfEntry g R L) (OfTag g R L) S
  pub valued : Valued g R L S
  pub tops : Tops g L S

module _ (g : Code) (R : Lawful g) (L : List Entry) (S : State) (h : ToldRight g R L S) where
  up : (e : Entry) → OfEntry g R L e → OfTag g R L e.object e.tag
  up e q = q.0

  none : (x : ℕ) → OfTag g R L x 0
  none x = refl

  -- a call other than write leaves the log
  step_sourced : (c : Call) (f : Found) → Allowed g S c f → ((s x : ℕ) (v : List ℕ) → c ≡ Write s x v → ⊥) → Sourced g (OfEntry g R L) (OfTag g R L) (step g S c f).next
  step_sourced (Write s x v) f ok no_write = absurd (no_write s x v refl)
  step_sourced (Ask s x l) f ok no_write = read_sourced g (OfEntry g R L) (OfTag g R L) (λ e q. q.0) (λ x. refl) S h.sourced s x l f
  step_sourced (Collect s m l) f ok no_write = collect_sourced g (OfEntry g R L) (OfTag g R L) (λ e q. q.0) (λ x. refl) S h.sourced s m l
  step_sourced (Deliver a b) f ok no_write = deliver_sourced g (OfEntry g R L) (OfTag g R L) (λ e q. q.0) (λ x. refl) S h.sourced a b f (λ e m ms q.
      let w = lane_ends g a b e in found_right g R L h.cells S h.stands.fine h.sourced h.valued a b w.0 w.1 w.2 m ms f q (ok m ms q w.0 w.1))
  step_sourced (Apply s) f ok no_write = apply_sourced g (OfEntry g R L) (OfTag g R L) (λ e q. q.0) (λ x. refl) S h.sourced s
  step_sourced (Encode s x) f ok no_write = encode_sourced g (OfEntry g R L) (OfTag g R L) (λ e q. q.0) (λ x. refl) S h.sourced s x f (λ e i rec.
      let sn = object_server g s x e in
      let xk = object_object g s x e in (
        (h.sourced.servers s).own x,
        decoded_right g R L h.cells (only g s) (λ _. (S.servers s).symbol) x f.value (S.servers s).own xk ((ok sn xk).decoded rec)
            (λ j jn q. rw (eqb-true j s q) (h.valued.servers s sn).symbol),
      ))
  step_sourced (Sweep s x) f ok no_write = sweep_sourced g (OfEntry g R L) (OfTag g R L) (λ e q. q.0) (λ x. refl) S h.sourced s x

  step_valued : (c : Call) (f : Found) → Valued g R L (step g S c f).next
  step_valued (Write s x v) f = write_valued g R L h.cells S h.stands.fine h.sourced h.valued s x v
  step_valued (Ask s x l) f = read_valued g R L h.cells S h.stands.fine h.sourced h.valued s x l f
  step_valued (Collect s m l) f = collect_valued g R L h.cells S h.stands.fine h.sourced h.valued s m l
  step_valued (Deliver a b) f = deliver_valued g R L h.cells S h.stands.fine h.sourced h.valued a b f
  step_valued (Apply s) f = apply_valued g R L h.cells S h.stands.fine h.sourced h.valued s
  step_valued (Encode s x) f = encode_valued g R L h.cells S h.stands.fine h.sourced h.valued s x f
  step_valued (Sweep s x) f = sweep_valued g R L h.cells S h.stands.fine h.sourced h.valued s x

  pub step_told : (m : Steps.Move) → Allowed g S m.call m.found → ((s x : ℕ) (v : List ℕ) → m.call ≡ Write s x v → ⊥) → ToldRight g R L (after g S m)
  step_told m ok no_write = record {
    stands = step_stands g R S m h.stands;
    cells = h.cells;
    sourced = step_sourced m.call m.found ok no_write;
    valued = step_valued m.call m.found;
    tops = tops_rise g L S (step g S m.call m.found) h.tops (rises g S m.call m.found);
  }
