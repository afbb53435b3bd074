-- What stands after each call of a run, of its events and its state.
use Rattle.std.proofs.Common.{◌≡◌, ℕ, suc, ◌+◌, ◌<◌, true, false, not, ◌&&◌, eqb, ltb, List, [], ◌∷◌, ◌++◌, map, length, sym, refl, ap, ◌∙◌, subst, ap₂, append_assoc, append-nil, arith}
use mathlib.Core.Path.{fun_ext}
use Rattle.std.specs.List.{ContainsAt}
use Rattle.std.proofs.lemmas.List.{map-append}
use Rattle.std.proofs.lemmas.Bool.{both_ways, and_right, and_parts, not-true, eqb-true}
use Rattle.message.specs.declared.tag.Tag as declared
use Rattle.field.specs.Laws.{Ring}
use Rattle.code.specs.Codings.{symbol}
use Rattle.code.specs.Layout.{Accepted}
use Rattle.rules.specs.Histories as history
use Rattle.rules.specs.Histories.{has_entry}
use Rattle.rules.specs.State as model
use Rattle.rules.specs.State.{Layout, new_group}
use Rattle.rules.specs.Turns as turns
use Rattle.rules.specs.Turns.{Call, Write, Read as Ask, Collect, Deliver, Apply, Encode, Sweep, Found}
use Rattle.rules.specs.Runs as runs
use Rattle.rules.specs.Runs.{Move}
use Rattle.rules.specs.Events as told
use Rattle.rules.specs.Events.{Event, event, events}
use Rattle.rules.specs.Law as rule
use Rattle.rules.proofs.Lists.{each_push, has_image, image_has}
use Rattle.rules.proofs.Past.{Made, Writes, nth, Longer, pushed_last, pushed_among, pushed_longer, past_brought}
use Rattle.rules.proofs.Heights.{Heights, Proper, step_heights, step_proper}
use Rattle.rules.proofs.Following.{at, Answers, Follows, reads_push}
use Rattle.rules.proofs.FollowSteps.{newF, step_follows}
use Rattle.rules.proofs.Words.{seek_found}
use Rattle.code.specs.Recovery.{Recovers}
use Rattle.std.proofs.ByRecursion.{All-from_get_or}
use Rattle.rules.proofs.Notices.{Traced, made_write, made_by, step_traced, fresh_traced}
use Rattle.message.specs.Tags.{rank}
use Rattle.rules.proofs.Unranked.{tag_at}
use Rattle.rules.proofs.Ranked.{Code, layout_of, Entry, Read, State, clients, fresh, slots}
use Rattle.rules.proofs.RankedSteps as Steps
use Rattle.rules.proofs.RankedSteps.{Answer, Refused, Tag, Value, Number, Still, Nothing, Outcome, Count, Turn, write_tag}
use Rattle.rules.proofs.RankedFacts as law
use Rattle.rules.proofs.RankedFacts.{accepted_by, Lawful, Waits}
use Rattle.rules.proofs.View.{entry_at, asking_at, given_at, read_at, Shape, shape_free, shape_open, shape_answered, shape, state_at, answer_at, fresh_at, has_entry_at, holds_at, rank_at}
use Rattle.rules.proofs.Told.{step_same, allowed, Tells, latest_same, given_same, tells_push}
use Rattle.rules.proofs.Deliver.{deliver_six}
use Rattle.rules.proofs.Cases.{write_cases, read_cases, collect_cases}
use Rattle.rules.proofs.Coded.{checked_write}
use Rattle.rules.proofs.Growing.{new_tag}
use Rattle.rules.proofs.Algebra.{mix_symbol}
use Rattle.rules.proofs.Latest.{Known, step_known, fresh_known, also}
use Rattle.rules.proofs.Peaks.{read_latest}
use Rattle.rules.proofs.Waits.{step_waits}

-- ---- the ranked code of a layout

abbrev pub code_of : Layout → Code
code_of l = record {
  n = l.code.servers;
  k = l.code.objects;
  w = l.code.cells;
  places = l.places;
  q = l.code.arithmetic.size;
  plus = l.code.arithmetic.plus;
  minus = l.code.arithmetic.minus;
  times = l.code.arithmetic.times;
  coefficient = l.code.coefficient;
}

pub lawful : (l : Layout) → Ring l.code.arithmetic → Accepted l.code → Lawful (code_of l)
lawful l r a = record {
  servers = a.least_servers;
  few = a.most_servers;
  objects = a.least_objects;
  few_objects = a.most_objects;
  cells = a.least_cells;
  few_cells = a.most_cells;
  small = r.most;
  coefficients = a.elements;
  least = r.least;
  plus_below = r.plus_below;
  minus_below = r.minus_below;
  times_below = r.times_below;
  plus_comm = r.plus_comm;
  plus_assoc = r.plus_assoc;
  plus_zero = r.plus_zero;
  plus_minus = r.plus_minus;
  times_comm = r.times_comm;
  times_plus = r.times_plus;
}

-- ---- what a ranked answer was

pub outcome_was : (a : Answer) (o : ℕ) → answer_at a ≡ turns.Outcome o → a ≡ Outcome o
outcome_was (Refused r) o e = absurd (let z : ◌≡◌ {A = ℕ} 0 1 = cc in omega arith)
outcome_was (Tag t) o e = absurd (let z : ◌≡◌ {A = ℕ} 0 1 = cc in omega arith)
outcome_was (Value v t w) o e = absurd (let z : ◌≡◌ {A = ℕ} 0 1 = cc in omega arith)
outcome_was (Number p) o e = absurd (let z : ◌≡◌ {A = ℕ} 0 1 = cc in omega arith)
outcome_was Still o e = absurd (let z : ◌≡◌ {A = ℕ} 0 1 = cc in omega arith)
outcome_was Nothing o e = absurd (let z : ◌≡◌ {A = ℕ} 0 1 = cc in omega arith)
outcome_was (Outcome p) o e = let z : p ≡ o = cc in ap Outcome z
outcome_was (Count c) o e = absurd (let z : ◌≡◌ {A = ℕ} 0 1 = cc in omega arith)

pub record WasValue (a : Answer) (v : List ℕ) (t : declared.Tag) (way : ℕ) : Type 0 where
  pub ranked : ℕ
  pub is : a ≡ Value v ranked way
  pub tag : t ≡ tag_at ranked

pub value_was : (a : Answer) (v : List ℕ) (t : declared.Tag) (way : ℕ) → answer_at a ≡ turns.Valued v t way → WasValue a v t way
value_was (Refused r) v t way e = absurd (let z : ◌≡◌ {A = ℕ} 0 1 = cc in omega arith)
value_was (Tag u) v t way e = absurd (let z : ◌≡◌ {A = ℕ} 0 1 = cc in omega arith)
value_was (Value u r w) v t way e = let p : u ≡ v = cc in let q : t ≡ tag_at r = cc in let z : w ≡ way = cc in
    record { ranked = r; is = ap₂ (λ (x : List ℕ) (y : ℕ). Value x r y) p z; tag = q }
value_was (Number p) v t way e = absurd (let z : ◌≡◌ {A = ℕ} 0 1 = cc in omega arith)
value_was Still v t way e = absurd (let z : ◌≡◌ {A = ℕ} 0 1 = cc in omega arith)
value_was Nothing v t way e = absurd (let z : ◌≡◌ {A = ℕ} 0 1 = cc in omega arith)
value_was (Outcome p) v t way e = absurd (let z : ◌≡◌ {A = ℕ} 0 1 = cc in omega arith)
value_was (Count c) v t way e = absurd (let z : ◌≡◌ {A = ℕ} 0 1 = cc in omega arith)

-- ---- no two writes share a tag

abbrev pub Differ : List history.Entry → Type 0
Differ ws = (before : List history.Entry) (w : history.Entry) (later : List history.Entry) → ws ≡ before ++ w ∷ later → (x : ℕ) → has_entry before x w.tag ≡ false

module _ (g : Code) (R : Lawful g) (L : List Entry) (A : ℕ → List ℕ) (S : State) (h : Known g R L A S) where
  step_differ : Differ (map entry_at L) → (c : Call) (f : Found) → Differ (map entry_at (L ++ accepted_by c (Steps.step g S c f).answer))
  step_differ d (Write s x v) f = write_cases g S (λ t. Differ (map entry_at (L ++ accepted_by (Write s x v) t.answer))) (λ r. subst (λ l. Differ (map entry_at l)) (sym (append-nil L)) d) s x v (λ ok.
      let sn = (checked_write g S s x v ok).0 in
      let e : Entry = record { object = x; tag = write_tag g (S.servers s) s; value = v } in
      subst Differ (sym (map-append entry_at L (e ∷ []))) (each_push (λ before w. (y : ℕ) → has_entry before y w.tag ≡ false) (map entry_at L) (entry_at e) d
      (λ y. has_entry_at L y e.tag ∙ new_tag L s (S.servers s).top y (let few = R.few in omega arith) (h.told.tops s sn))))
  step_differ d (Ask s x l) f = subst (λ l. Differ (map entry_at l)) (sym (append-nil L)) d
  step_differ d (Collect s m l) f = subst (λ l. Differ (map entry_at l)) (sym (append-nil L)) d
  step_differ d (Deliver a b) f = subst (λ l. Differ (map entry_at l)) (sym (append-nil L)) d
  step_differ d (Apply s) f = subst (λ l. Differ (map entry_at l)) (sym (append-nil L)) d
  step_differ d (Encode s x) f = subst (λ l. Differ (map entry_at l)) (sym (append-nil L)) d
  step_differ d (Sweep s x) f = subst (λ l. Differ (map entry_at l)) (sym (append-nil L)) d

-- ---- the writes in order

-- the write that j made with the tag t, after the events, and what j had applied before it
pub record MadeAt (g : Code) (W : Writes) (before : List Event) (j : ℕ) (t : declared.Tag) : Type 0 where
  pub is_server : j < g.n
  pub place : ℕ
  pub among : place < length (W j)
  pub tag : tag_at (nth W j place).tag ≡ t
  pub past : map tag_at (nth W j place).past ≡ told.applied j before

made_longer : (g : Code) (W X : Writes) (before : List Event) (j : ℕ) (t : declared.Tag) → Longer W X → MadeAt g W before j t → MadeAt g X before j t
made_longer g W X before j t l h = record {
  is_server = h.is_server;
  place = h.place;
  among = let m = l.more j in let q = h.among in omega arith;
  tag = ap (λ (z : Made). tag_at z.tag) (l.same j h.place h.among) ∙ h.tag;
  past = ap (λ (z : Made). map tag_at z.past) (l.same j h.place h.among) ∙ h.past;
}

-- each accepted write of the events is among the writes
abbrev pub AllMade : Code → Writes → List Event → Event → Type 0
AllMade g W before e = (j x : ℕ) (v : List ℕ) (t : declared.Tag) → e.call ≡ Write j x v → e.answer ≡ turns.Tagged t → MadeAt g W before j t

pub record WasTag (a : Answer) (t : declared.Tag) : Type 0 where
  pub ranked : ℕ
  pub is : a ≡ Tag ranked
  pub tag : tag_at ranked ≡ t

pub tag_was : (a : Answer) (t : declared.Tag) → answer_at a ≡ turns.Tagged t → WasTag a t
tag_was (Refused r) t e = absurd (let z : ◌≡◌ {A = ℕ} 0 1 = cc in omega arith)
tag_was (Tag u) t e = record { ranked = u; is = refl; tag = cc }
tag_was (Value u r w) t e = absurd (let z : ◌≡◌ {A = ℕ} 0 1 = cc in omega arith)
tag_was (Number p) t e = absurd (let z : ◌≡◌ {A = ℕ} 0 1 = cc in omega arith)
tag_was Still t e = absurd (let z : ◌≡◌ {A = ℕ} 0 1 = cc in omega arith)
tag_was Nothing t e = absurd (let z : ◌≡◌ {A = ℕ} 0 1 = cc in omega arith)
tag_was (Outcome p) t e = absurd (let z : ◌≡◌ {A = ℕ} 0 1 = cc in omega arith)
tag_was (Count c) t e = absurd (let z : ◌≡◌ {A = ℕ} 0 1 = cc in omega arith)

module _ (g : Code) (R : Lawful g) (es : List Event) (L : List Entry) (A : ℕ → List ℕ) (S : State) (tells : Tells es L A) (known : Known g R L A S) (W : Writes) (traced : Traced g W A S) where
  abbrev Grows : Call → Answer → Type 0
  Grows c a = Longer W (made_by g R L A S known W traced c a)

  same_long : Longer W W
  same_long = record { more = λ j. omega arith; same = λ j m lt. refl }

  grows : (c : Call) (a : Answer) → Grows c a
  grows (Write s x v) (Tag t) = pushed_longer W s _
  grows (Write s x v) (Refused r) = same_long
  grows (Write s x v) (Value u t w) = same_long
  grows (Write s x v) (Number p) = same_long
  grows (Write s x v) Still = same_long
  grows (Write s x v) Nothing = same_long
  grows (Write s x v) (Outcome o) = same_long
  grows (Write s x v) (Count c) = same_long
  grows (Ask s x l) a = same_long
  grows (Collect s m l) a = same_long
  grows (Deliver i j) a = same_long
  grows (Apply s) a = same_long
  grows (Encode s x) a = same_long
  grows (Sweep s x) a = same_long

  new_made : (j x : ℕ) (v : List ℕ) (f : Found) (r : ℕ) (t : declared.Tag) → tag_at r ≡ t → (Steps.step g S (Write j x v) f).answer ≡ Tag r → MadeAt g (made_by g R L A S known W traced (Write j x v) (Steps.step g S (Write j x v) f).answer) es j t
  new_made j x v f r t er = write_cases g S (λ z. z.answer ≡ Tag r → MadeAt g (made_by g R L A S known W traced (Write j x v) z.answer) es j t)
      (λ q e. absurd (let z : ◌≡◌ {A = ℕ} 0 1 = cc in omega arith)) j x v (λ ok e.
      let u : write_tag g (S.servers j) j ≡ r = cc in
      let M = made_write g A S j (write_tag g (S.servers j) j) in
      record {
        is_server = (checked_write g S j x v ok).0;
        place = length (W j);
        among = pushed_among W j M;
        tag = ap (λ (z : Made). tag_at z.tag) (pushed_last W j M) ∙ ap tag_at u ∙ er;
        past = ap (λ (z : Made). map tag_at z.past) (pushed_last W j M) ∙ sym (tells.applied j);
      })

  pub step_made : (m : Move) → ((before : List Event) (e : Event) (later : List Event) → es ≡ before ++ e ∷ later → AllMade g W before e)
      → (event (layout_of g) (state_at S) m).answer ≡ answer_at (Steps.step g S m.call m.found).answer
      → (before : List Event) (e : Event) (later : List Event) → es ++ event (layout_of g) (state_at S) m ∷ [] ≡ before ++ e ∷ later
      → AllMade g (made_by g R L A S known W traced m.call (Steps.step g S m.call m.found).answer) before e
  step_made m old same = each_push (AllMade g X) es (event (layout_of g) (state_at S) m)
      (λ before e later q j x v t ec ea. made_longer g W X before j t (grows m.call (Steps.step g S m.call m.found).answer) (old before e later q j x v t ec ea))
      (λ j x v t ec ea.
      let was = tag_was (Steps.step g S m.call m.found).answer t (sym same ∙ ea) in
      subst (λ c. (Steps.step g S c m.found).answer ≡ Tag was.ranked → MadeAt g (made_by g R L A S known W traced c (Steps.step g S c m.found).answer) es j t) (sym ec)
      (new_made j x v m.found was.ranked t was.tag) was.is)
    where
      X : Writes
      X = made_by g R L A S known W traced m.call (Steps.step g S m.call m.found).answer

-- ---- reads

pub number_was : (a : Answer) (m : ℕ) → answer_at a ≡ turns.Numbered m → a ≡ Number m
number_was (Refused r) m e = absurd (let z : ◌≡◌ {A = ℕ} 0 1 = cc in omega arith)
number_was (Tag t) m e = absurd (let z : ◌≡◌ {A = ℕ} 0 1 = cc in omega arith)
number_was (Value v t w) m e = absurd (let z : ◌≡◌ {A = ℕ} 0 1 = cc in omega arith)
number_was (Number p) m e = let z : p ≡ m = cc in ap Number z
number_was Still m e = absurd (let z : ◌≡◌ {A = ℕ} 0 1 = cc in omega arith)
number_was Nothing m e = absurd (let z : ◌≡◌ {A = ℕ} 0 1 = cc in omega arith)
number_was (Outcome p) m e = absurd (let z : ◌≡◌ {A = ℕ} 0 1 = cc in omega arith)
number_was (Count c) m e = absurd (let z : ◌≡◌ {A = ℕ} 0 1 = cc in omega arith)

-- the reads of each server are followed
abbrev pub AllFollowed : Code → List Event → State → Type 0
AllFollowed g es S = (k : ℕ) → k < g.n → Follows k (told.reads_of (layout_of g) k es) (S.servers k).reads (S.servers k).opened

module _ (g : Code) (es : List Event) (S : State) (follows : AllFollowed g es S) where
  -- the number of the next read
  next_number : (s x cells : ℕ) (f : Found) (m : ℕ) → (Steps.read g S s x cells f).answer ≡ Number m → m ≡ suc (length (told.reads_of (layout_of g) s es))
  next_number s x cells f m = read_cases g S (λ t. t.answer ≡ Number m → m ≡ suc (length (told.reads_of (layout_of g) s es)))
      (λ r e. absurd (let z : ◌≡◌ {A = ℕ} 0 1 = cc in omega arith)) s x cells f
      (λ _ _ _ e. absurd (let z : ◌≡◌ {A = ℕ} 0 1 = cc in omega arith)) (λ _ _ _ _ e. absurd (let z : ◌≡◌ {A = ℕ} 0 1 = cc in omega arith))
      (λ sn _ _ _ _ e. let z : (S.servers s).opened + 1 ≡ m = cc in let c = (follows s sn).count in omega arith)

  answers_closed : (s m : ℕ) (r : Read) (v : List ℕ) (t : declared.Tag) → Answers (told.reads_of (layout_of g) s es) r → r.number ≡ m → r.value ≡ v → tag_at r.tag ≡ t → rule.ClosedWith (layout_of g) es s m v t
  answers_closed s m r v t a en ev et = record {
    before_it = a.index;
    number = sym en ∙ a.number;
    among = a.among;
    client = a.client;
    closed = a.closed;
    tag = sym et ∙ a.tag;
    value = sym ev ∙ a.value;
  }

  -- what collect gives
  given_closed : (s m cells : ℕ) (v : List ℕ) (r : ℕ) (t : declared.Tag) (way : ℕ) → t ≡ tag_at r → (Steps.collect g S s m cells).answer ≡ Value v r way → rule.ClosedWith (layout_of g) es s m v t
  given_closed s m cells v r t way et = collect_cases g S (λ z. z.answer ≡ Value v r way → rule.ClosedWith (layout_of g) es s m v t)
      (λ q e. absurd (let z : ◌≡◌ {A = ℕ} 0 1 = cc in omega arith)) s m cells (λ e. absurd (let z : ◌≡◌ {A = ℕ} 0 1 = cc in omega arith))
      (λ i ei sn ic shut e.
      let rd = (S.servers s).reads i in
      let vv : rd.value ≡ v = cc in
      let tt' : rd.tag ≡ r = cc in
      let found = subst (λ k. (not (eqb ((S.servers s).reads k).state 0) && eqb ((S.servers s).reads k).number m) ≡ true) (sym ei)
      (seek_found clients (λ i. not (eqb ((S.servers s).reads i).state 0) && eqb ((S.servers s).reads i).number m) (subst (λ k. k < clients) ei ic)) in
      let w = and_parts (not (eqb rd.state 0)) (eqb rd.number m) found in
      answers_closed s m rd v t ((follows s sn).kept i ic (not-true (eqb rd.state 0) w.0) shut) (eqb-true rd.number m w.1) vv (ap tag_at tt' ∙ sym et))

  -- what the group keeps
  kept_closed : (s i : ℕ) (r : model.Given) → s < g.n → i < clients → read_at ((S.servers s).reads i) ≡ model.Answered r → rule.ClosedWith (layout_of g) es s r.number r.value r.tag
  kept_closed s i r sn ic e = by (shape ((S.servers s).reads i))
    where
      by : Shape ((S.servers s).reads i) → rule.ClosedWith (layout_of g) es s r.number r.value r.tag
      by (shape_free q w z) = absurd (let c : model.Free ≡ model.Answered r = sym z ∙ e in let d : ◌≡◌ {A = ℕ} 0 1 = cc in omega arith)
      by (shape_open q w z) = absurd (let c : model.Open (asking_at ((S.servers s).reads i)) ≡ model.Answered r = sym z ∙ e in let d : ◌≡◌ {A = ℕ} 0 1 = cc in omega arith)
      by (shape_answered q w z) =
          let c : model.Answered (given_at ((S.servers s).reads i)) ≡ model.Answered r = sym z ∙ e in
          let d : given_at ((S.servers s).reads i) ≡ r = cc in
          answers_closed s r.number ((S.servers s).reads i) r.value r.tag ((follows s sn).kept i ic q w)
          (ap (λ (k : model.Given). k.number) d) (ap (λ (k : model.Given). k.value) d) (ap (λ (k : model.Given). k.tag) d)

  -- open reads wait
  open_wait : Waits g S → rule.OpenReadsWait (layout_of g) es
  open_wait waits s sn = All-from_get_or _ (told.reads_of (layout_of g) s es) (told.just_opened 0 false) (λ k lt op rec.
      let h = follows s sn in
      let st = h.stands k lt op in
      let ln = h.links st.place st.lives in
      let same : ln.index ≡ k = let a = ln.number in let b = st.number in omega arith in
      let r = (S.servers s).reads st.place in
      let hand : rule.with_own s (at (told.reads_of (layout_of g) s es) k).repliers ≡ r.hand = subst (λ z. rule.with_own s (at (told.reads_of (layout_of g) s es) z).repliers ≡ r.hand) same (fun_ext ln.hand) in
      let object : (at (told.reads_of (layout_of g) s es) k).object ≡ r.object = subst (λ z. (at (told.reads_of (layout_of g) s es) z).object ≡ r.object) same ln.object in
      waits s st.place sn st.lives (subst (λ z. Recovers (layout_of g).code r.hand z) object (subst (λ z. Recovers (layout_of g).code z (at (told.reads_of (layout_of g) s es) k).object) hand rec)))

-- ---- the joint invariant

pub record Stand (g : Code) (R : Lawful g) (es : List Event) (seen : model.State) : Type 0 where
  pub log : List Entry
  pub done : ℕ → List ℕ
  pub state : State
  pub view : seen ≡ state_at state
  pub tells : Tells es log done
  pub known : Known g R log done state
  pub waits : Waits g state
  pub differ : Differ (map entry_at log)
  pub usable : rule.RepliesUsable (layout_of g) es
  pub at_once : rule.ReadAtOnce (layout_of g) es
  pub writes : Writes
  pub traced : Traced g writes done state
  pub made : (before : List Event) (e : Event) (later : List Event) → es ≡ before ++ e ∷ later → AllMade g writes before e
  pub heights : Heights done state
  pub proper : Proper g log
  pub follows : AllFollowed g es state
  pub numbered : rule.ReadsNumbered (layout_of g) es
  pub collected : rule.Collected (layout_of g) es

module _ (g : Code) (R : Lawful g) (es : List Event) (L : List Entry) (A : ℕ → List ℕ) (S : State) (tells : Tells es L A) (known : Known g R L A S) (m : Move) (ok : runs.Allowed (layout_of g) (state_at S) m.call m.found) where
  answer_same : (event (layout_of g) (state_at S) m).answer ≡ answer_at (Steps.step g S m.call m.found).answer
  answer_same = ap (λ (t : turns.Turn). t.answer) (step_same g R.few S m.call m.found)

  six_never : (a b : ℕ) → m.call ≡ Deliver a b → (event (layout_of g) (state_at S) m).answer ≡ turns.Outcome 6 → ⊥
  six_never a b ec ea = deliver_six g S known.told.stands.fine a b m.found
      (subst (λ c. (Steps.step g S c m.found).answer ≡ Outcome 6) ec (outcome_was (Steps.step g S m.call m.found).answer 6 (sym answer_same ∙ ea)))

  once : (s x cells : ℕ) (v : List ℕ) (t : declared.Tag) (way : ℕ) → m.call ≡ Ask s x cells → (event (layout_of g) (state_at S) m).answer ≡ turns.Valued v t way
      → (t ≡ told.latest s x es) × (v ≡ told.given (layout_of g) es x t)
  once s x cells v t way ec ea =
      let was = value_was (Steps.step g S m.call m.found).answer v t way (sym answer_same ∙ ea) in
      let q = read_latest g L A S known.told.stands.fine known.peaks R known.told.cells known.told.sourced known.told.valued s x cells m.found
      (subst (λ c. law.Allowed g S c m.found) ec (allowed g S m.call m.found ok)) v was.ranked way
      (subst (λ c. (Steps.step g S c m.found).answer ≡ Value v was.ranked way) ec was.is) in (
        was.tag ∙ ap tag_at q.0 ∙ sym (latest_same es L A tells s x),
        q.1 ∙ sym (ap (told.given (layout_of g) es x) was.tag ∙ given_same g es L A tells x was.ranked),
      )

  pub step_stands : Waits g S → Differ (map entry_at L) → rule.RepliesUsable (layout_of g) es → rule.ReadAtOnce (layout_of g) es
      → (W : Writes) (traced : Traced g W A S) → ((before : List Event) (e : Event) (later : List Event) → es ≡ before ++ e ∷ later → AllMade g W before e)
      → Heights A S → Proper g L → AllFollowed g es S → rule.ReadsNumbered (layout_of g) es → rule.Collected (layout_of g) es
      → Stand g R (es ++ event (layout_of g) (state_at S) m ∷ []) (runs.after (layout_of g) (state_at S) m)
  step_stands waits differ usable at_once W traced made heights proper follows numbered collected = record {
    log = L ++ accepted_by m.call (Steps.step g S m.call m.found).answer;
    done = also A m.call (Steps.step g S m.call m.found).answer;
    state = Steps.after g S m;
    view = ap (λ (t : turns.Turn). t.next) (step_same g R.few S m.call m.found);
    tells = tells_push es L A tells (event (layout_of g) (state_at S) m) m.call (Steps.step g S m.call m.found).answer refl answer_same;
    known = step_known g R L A S known m (allowed g S m.call m.found ok);
    waits = step_waits g S waits m.call m.found (allowed g S m.call m.found ok);
    differ = step_differ g R L A S known differ m.call m.found;
    usable = each_push (λ before e. (a b : ℕ) → e.call ≡ Deliver a b → e.answer ≡ turns.Outcome 6 → ⊥) es (event (layout_of g) (state_at S) m) usable six_never;
    at_once = each_push (λ before e. (s x cells : ℕ) (v : List ℕ) (t : declared.Tag) (way : ℕ) → e.call ≡ Ask s x cells → e.answer ≡ turns.Valued v t way → (t ≡ told.latest s x before) × (v ≡ told.given (layout_of g) before x t))
        es (event (layout_of g) (state_at S) m) at_once once;
    writes = made_by g R L A S known W traced m.call (Steps.step g S m.call m.found).answer;
    traced = step_traced g R L A S known W traced m.call m.found;
    made = step_made g R es L A S tells known W traced m made answer_same;
    heights = step_heights g A S heights R.few m.call m.found;
    proper = step_proper g R L proper S m.call m.found;
    follows = λ k kn. subst (λ F. Follows k F ((Steps.after g S m).servers k).reads ((Steps.after g S m).servers k).opened) (sym (followed k))
        (step_follows g R es L A S tells known heights proper follows m.call m.found (allowed g S m.call m.found ok) k kn);
    numbered = each_push (λ before e. (s x cells n : ℕ) → e.call ≡ Ask s x cells → e.answer ≡ turns.Numbered n → n ≡ suc (length (told.reads_of (layout_of g) s before))) es (event (layout_of g) (state_at S) m) numbered
        (λ s x cells n ec ea. next_number g es S follows s x cells m.found n (subst (λ c. (Steps.step g S c m.found).answer ≡ Number n) ec (number_was (Steps.step g S m.call m.found).answer n (sym answer_same ∙ ea))));
    collected = each_push (λ before e. (s n cells : ℕ) (v : List ℕ) (t : declared.Tag) (way : ℕ) → e.call ≡ Collect s n cells → e.answer ≡ turns.Valued v t way → rule.ClosedWith (layout_of g) before s n v t) es (event (layout_of g) (state_at S) m) collected
        (λ s n cells v t way ec ea.
        let was = value_was (Steps.step g S m.call m.found).answer v t way (sym answer_same ∙ ea) in
        given_closed g es S follows s n cells v was.ranked t way was.tag (subst (λ c. (Steps.step g S c m.found).answer ≡ Value v was.ranked way) ec was.is));
  }
    where
      followed : (k : ℕ) → told.reads_of (layout_of g) k (es ++ event (layout_of g) (state_at S) m ∷ []) ≡ newF g R es L A S tells known heights proper follows m.call (Steps.step g S m.call m.found).answer k
      followed k = reads_push (layout_of g) k es (event (layout_of g) (state_at S) m)
          ∙ ap (λ (a : turns.Answer). told.follow_all (layout_of g) k 1 es (let e : Event = record { call = m.call; answer = a; oldest = told.oldest_of (state_at S) m.call } in e) (told.reads_of (layout_of g) k es) ++ told.opened_by k m.call a) answer_same

pub move_stands : (g : Code) (R : Lawful g) (es : List Event) (seen : model.State) → Stand g R es seen → (m : Move) → runs.Allowed (layout_of g) seen m.call m.found
    → Stand g R (es ++ event (layout_of g) seen m ∷ []) (runs.after (layout_of g) seen m)
move_stands g R es seen h m = subst (λ (z : model.State). runs.Allowed (layout_of g) z m.call m.found → Stand g R (es ++ event (layout_of g) z m ∷ []) (runs.after (layout_of g) z m)) (sym h.view)
    (λ ok. step_stands g R es h.log h.done h.state h.tells h.known m ok h.waits h.differ h.usable h.at_once h.writes h.traced h.made h.heights h.proper h.follows h.numbered h.collected)

-- the calls done so far, of a run that goes on
pub run_stands : (g : Code) (R : Lawful g) (es : List Event) (seen : model.State) → Stand g R es seen → (done later : List Move) → runs.AllowedRun (layout_of g) seen (done ++ later)
    → Stand g R (es ++ events (layout_of g) seen done) (runs.run (layout_of g) seen done)
run_stands g R es seen h [] later ok = subst (λ l. Stand g R l seen) (sym (append-nil es)) h
run_stands g R es seen h (m ∷ ms) later ok =
    subst (λ l. Stand g R l (runs.run (layout_of g) (runs.after (layout_of g) seen m) ms)) (append_assoc es (event (layout_of g) seen m ∷ []) (events (layout_of g) (runs.after (layout_of g) seen m) ms))
    (run_stands g R (es ++ event (layout_of g) seen m ∷ []) (runs.after (layout_of g) seen m) (move_stands g R es seen h m ok.0) ms later ok.1)

never_split : {X : Type 0} (before : List X) (z : X) (later : List X) → [] ≡ before ++ z ∷ later → ⊥
never_split [] z later e = let q : ◌≡◌ {A = ℕ} 0 1 = cc in omega arith
never_split (b ∷ bs) z later e = let q : ◌≡◌ {A = ℕ} 0 1 = cc in omega arith

pub new_stands : (g : Code) (R : Lawful g) → Stand g R [] (new_group (layout_of g))
new_stands g R = record {
  log = [];
  done = λ _. [];
  state = fresh g;
  view = fresh_at g;
  tells = record { writes = refl; applied = λ k. refl };
  known = fresh_known g R;
  waits = λ s i sn lv. absurd (both_ways (ltb i slots && false) (and_right (ltb i slots) false refl) lv);
  differ = λ before w later e. absurd (never_split before w later e);
  usable = λ before e later q. absurd (never_split before e later q);
  at_once = λ before e later q. absurd (never_split before e later q);
  writes = λ _. [];
  traced = fresh_traced g;
  made = λ before e later q. absurd (never_split before e later q);
  heights = λ k. tt;
  proper = tt;
  follows = λ k kn. record {
    count = refl;
    few = omega arith;
    links = λ i lv. absurd (both_ways (ltb i slots && false) (and_right (ltb i slots) false refl) lv);
    stands = λ j lt. absurd (omega arith);
    apart = λ i j lv. absurd (both_ways (ltb i slots && false) (and_right (ltb i slots) false refl) lv);
    kept = λ i ic q. absurd (both_ways true q refl);
  };
  numbered = λ before e later q. absurd (never_split before e later q);
  collected = λ before e later q. absurd (never_split before e later q);
}

-- ---- from the invariant to the law

module _ (g : Code) (R : Lawful g) (es : List Event) (seen : model.State) (h : Stand g R es seen) where
  pub encoded_from : rule.Encoded (layout_of g) es seen
  encoded_from = subst (rule.Encoded (layout_of g) es) (sym h.view) (record {
    tags_accepted = λ s x sn. ap (λ l. history.holds l x (tag_at ((S.servers s).own x))) h.tells.writes ∙ holds_at h.log x ((S.servers s).own x) ∙ (h.known.told.sourced.servers s).own x;
    symbols_right = λ s sn. mix_symbol g R h.log s (S.servers s).own (S.servers s).symbol (h.known.told.valued.servers s sn).symbol
        ∙ ap (symbol (layout_of g).code s) (sym (fun_ext (λ x. given_same g es h.log h.done h.tells x ((S.servers s).own x))));
  })
    where
      S : State
      S = h.state

  pub differ_from : rule.TagsDiffer (layout_of g) es
  differ_from before w later e = h.differ before w later (sym h.tells.writes ∙ e)

  pub past_from : rule.PastApplied (layout_of g) es
  past_from before e later split j x v t ec ea s sn has u hu =
      let made = h.made before e later split j x v t ec ea in
      let M = nth h.writes j made.place in
      let at = has_image tag_at (h.done s) t (subst (λ l. ContainsAt l t) (h.tells.applied s) has) in
      let same : at.from ≡ M.tag = sym (rank_at at.from) ∙ ap rank (at.is ∙ sym made.tag) ∙ rank_at M.tag in
      let was = has_image tag_at M.past u (subst (λ l. ContainsAt l u) (sym made.past) hu) in
      let brought = past_brought g.n h.writes h.done (λ s j. (h.state.servers s).clock j) h.traced.counts j made.place s made.is_server made.among sn (subst (ContainsAt (h.done s)) same at.has) was.from was.has in
      subst (λ l. ContainsAt l u) (sym (h.tells.applied s)) (subst (ContainsAt (map tag_at (h.done s))) was.is (image_has tag_at (h.done s) was.from brought))

  pub wait_from : rule.OpenReadsWait (layout_of g) es
  wait_from = open_wait g es h.state h.follows h.waits

  pub kept_from : rule.Kept (layout_of g) es seen
  kept_from s i r sn ic e = kept_closed g es h.state h.follows s i r sn ic (sym (ap (λ (z : model.State). (z.servers s).reads i) h.view) ∙ e)

  pub law_from : rule.Law (layout_of g) es seen
  law_from = record {
    encoded = encoded_from;
    replies_usable = h.usable;
    open_reads_wait = wait_from;
    read_at_once = h.at_once;
    reads_numbered = h.numbered;
    collected = h.collected;
    kept = kept_from;
    past_applied = past_from;
    tags_differ = differ_from;
  }

-- the run law
pub run_law : rule.RunLaw
run_law l r a ms ok done later e = let R = lawful l r a in
    law_from (code_of l) R _ _ (run_stands (code_of l) R [] (new_group l) (new_stands (code_of l) R) done later (subst (runs.AllowedRun l (new_group l)) e ok))
