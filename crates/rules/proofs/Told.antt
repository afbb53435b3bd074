-- What a run's events tell, on the view of a ranked state: the writes accepted and applied, by the ranked log and tags.
use Rattle.std.proofs.Common.{◌≡◌, ℕ, ◌≤◌, max, Bool, cond, eqb, ltb, List, [], ◌∷◌, ◌++◌, map, Some, None, sym, refl, ap, ◌∙◌, subst, ap₂, append_assoc, append-nil}
use Rattle.std.proofs.lemmas.List.{map-append}
use Rattle.message.specs.declared.tag.Tag as declared
use Rattle.rules.specs.Histories as history
use Rattle.rules.specs.Histories.{later}
use Rattle.rules.specs.State as model
use Rattle.rules.specs.Turns as turns
use Rattle.rules.specs.Turns.{Call, Write, Read as Ask, Collect, Deliver, Apply, Encode, Sweep, Found}
use Rattle.rules.specs.Runs as runs
use Rattle.rules.specs.Events as told
use Rattle.rules.specs.Events.{Event}
use Rattle.rules.specs.Delivering as delivering
use Rattle.rules.proofs.RankedMessages.{Message, Written, Tagged, Question, Plain, Coded}
use Rattle.rules.proofs.Unranked.{tag_at, message_at}
use Rattle.rules.proofs.Ranked.{Code, layout_of, Entry, State, enters, kept, slots}
use Rattle.rules.proofs.RankedSteps as Steps
use Rattle.rules.proofs.RankedSteps.{Answer, Refused, Tag, Value, Number, Still, Nothing, Outcome, Count, open_slot, mendable, mended}
use Rattle.rules.proofs.RankedFacts as law
use Rattle.rules.proofs.RankedFacts.{accepted_by, applies, best}
use Rattle.rules.proofs.View.{entry_at, asking_at, read_at, server_at, state_at, answer_at, turn_at, cond_at, has_entry_at, value_at, later_at}
use Rattle.rules.proofs.Same.{write_same, apply_same, read_same}
use Rattle.rules.proofs.SameLater.{collect_same, encode_same, sweep_same, deliver_same, mended_same, open_place_same, seen_open}
use Rattle.rules.proofs.Deliver.{open_found}
use Rattle.std.proofs.lemmas.Bool.{cond-true}

-- ---- one step

pub step_same : (g : Code) → g.n ≤ 6 → (S : State) (c : Call) (f : Found) → runs.step (layout_of g) (state_at S) c f ≡ turn_at (Steps.step g S c f)
step_same g few S (Write s x v) f = write_same g few S s x v
step_same g few S (Ask s x l) f = read_same g S s x l f
step_same g few S (Collect s m l) f = collect_same g S s m l
step_same g few S (Deliver a b) f = deliver_same g few S a b f
step_same g few S (Apply s) f = apply_same g S s
step_same g few S (Encode s x) f = encode_same g S s x f
step_same g few S (Sweep s x) f = sweep_same g S s x

-- what may be found in the view may be found in the ranked state
module _ (g : Code) (S : State) where
  tested : (set : ℕ → Bool) (symbols : ℕ → List ℕ) (x : ℕ) (f : Found) → runs.Tested (layout_of g) set symbols x f → law.Tested g set symbols x f
  tested set symbols x f t = record { test = t.test; decoded = t.decoded }

  allowed_message : (a b : ℕ) (m : Message) (f : Found) → runs.AllowedMessage (layout_of g) (server_at (S.servers b)) a (message_at m) f → law.AllowedMessage g S a b m f
  allowed_message a b (Written x v h ck) f ok = tt
  allowed_message a b (Tagged x t) f ok = tt
  allowed_message a b (Question m x T) f ok = tt
  allowed_message a b (Plain m v) f ok = tt
  allowed_message a b (Coded m v st) f ok = λ lt mend.
      let p = S.servers b in
      let i = open_slot g p m in
      let r = p.reads i in
      let at : delivering.open_place (server_at p) m ≡ Some i = open_place_same g p m ∙ cond-true (ltb i slots) (Some i) None lt in
      let ok₁ : runs.AllowedRead (layout_of g) (server_at p) a v (map tag_at st) f (read_at r) = subst (runs.AllowedPlace (layout_of g) (server_at p) a v (map tag_at st) f) at ok in
      let ok₂ : runs.AllowedRead (layout_of g) (server_at p) a v (map tag_at st) f (model.Open (asking_at r)) = subst (runs.AllowedRead (layout_of g) (server_at p) a v (map tag_at st) f) (seen_open g r (open_found g p m lt).0) ok₁ in
      let made : delivering.mended (layout_of g) (server_at p) a (asking_at r) v (map tag_at st) g.k ≡ Some (mended g p a r v st g.k) = mended_same g p a r v st g.k ∙ cond-true (mendable g p a r st) (Some (mended g p a r v st g.k)) None mend in
      let ok₃ : runs.AllowedSymbol (layout_of g) a (asking_at r) f (Some (mended g p a r v st g.k)) = subst (runs.AllowedSymbol (layout_of g) a (asking_at r) f) made ok₂ in
      tested _ _ _ f ok₃

  pub allowed : (c : Call) (f : Found) → runs.Allowed (layout_of g) (state_at S) c f → law.Allowed g S c f
  allowed (Write s x v) f ok = tt
  allowed (Ask s x l) f ok = λ sn xk. tested _ _ _ f (ok sn xk)
  allowed (Collect s m l) f ok = tt
  allowed (Deliver a b) f ok = λ m ms e an bn. allowed_message a b m f (ok (message_at m) (map message_at ms) (ap (map message_at) e) an bn)
  allowed (Apply s) f ok = tt
  allowed (Encode s x) f ok = λ sn xk. tested _ _ _ f (ok sn xk)
  allowed (Sweep s x) f ok = tt

-- ---- what one event tells

pub accepted_same : (c : Call) (a : Answer) → told.accepted_by c (told.tag_told (answer_at a)) ≡ map entry_at (accepted_by c a)
accepted_same (Write s x v) (Tag t) = refl
accepted_same (Write s x v) (Refused r) = refl
accepted_same (Write s x v) (Value u t w) = refl
accepted_same (Write s x v) (Number p) = refl
accepted_same (Write s x v) Still = refl
accepted_same (Write s x v) Nothing = refl
accepted_same (Write s x v) (Outcome o) = refl
accepted_same (Write s x v) (Count n) = refl
accepted_same (Ask s x l) a = refl
accepted_same (Collect s m l) a = refl
accepted_same (Deliver i j) a = refl
accepted_same (Apply s) a = refl
accepted_same (Encode s x) a = refl
accepted_same (Sweep s x) a = refl

pub applied_same : (k : ℕ) (c : Call) (a : Answer) → told.applied_by k c (told.tag_told (answer_at a)) ≡ map tag_at (applies k c a)
applied_same k (Write s x v) (Tag t) = cond_at (map tag_at) (eqb s k) (t ∷ []) []
applied_same k (Write s x v) (Refused r) = refl
applied_same k (Write s x v) (Value u t w) = refl
applied_same k (Write s x v) (Number p) = refl
applied_same k (Write s x v) Still = refl
applied_same k (Write s x v) Nothing = refl
applied_same k (Write s x v) (Outcome o) = refl
applied_same k (Write s x v) (Count n) = refl
applied_same k (Apply s) (Tag t) = cond_at (map tag_at) (eqb s k) (t ∷ []) []
applied_same k (Apply s) (Refused r) = refl
applied_same k (Apply s) (Value u t w) = refl
applied_same k (Apply s) (Number p) = refl
applied_same k (Apply s) Still = refl
applied_same k (Apply s) Nothing = refl
applied_same k (Apply s) (Outcome o) = refl
applied_same k (Apply s) (Count n) = refl
applied_same k (Ask s x l) a = refl
applied_same k (Collect s m l) a = refl
applied_same k (Deliver i j) a = refl
applied_same k (Encode s x) a = refl
applied_same k (Sweep s x) a = refl

-- ---- one event more

pub accepted_push : (es : List Event) (e : Event) → told.accepted (es ++ e ∷ []) ≡ told.accepted es ++ told.accepted_by e.call (told.tag_told e.answer)
accepted_push [] e = append-nil (told.accepted_by e.call (told.tag_told e.answer))
accepted_push (d ∷ es) e = ap (λ l. told.accepted_by d.call (told.tag_told d.answer) ++ l) (accepted_push es e)
    ∙ sym (append_assoc (told.accepted_by d.call (told.tag_told d.answer)) (told.accepted es) (told.accepted_by e.call (told.tag_told e.answer)))

pub applied_push : (k : ℕ) (es : List Event) (e : Event) → told.applied k (es ++ e ∷ []) ≡ told.applied k es ++ told.applied_by k e.call (told.tag_told e.answer)
applied_push k [] e = append-nil (told.applied_by k e.call (told.tag_told e.answer))
applied_push k (d ∷ es) e = ap (λ l. told.applied_by k d.call (told.tag_told d.answer) ++ l) (applied_push k es e)
    ∙ sym (append_assoc (told.applied_by k d.call (told.tag_told d.answer)) (told.applied k es) (told.applied_by k e.call (told.tag_told e.answer)))

-- ---- the latest

best_same : (L : List Entry) (x : ℕ) (A : List ℕ) → told.highest_of (map entry_at L) x (map tag_at A) ≡ tag_at (best L x A)
best_same L x [] = refl
best_same L x (t ∷ A) = ap₂ (λ (b : Bool) (u : declared.Tag). cond b (later (tag_at t) u) u) (has_entry_at L x t) (best_same L x A)
    ∙ ap (λ (u : declared.Tag). cond (enters L x t) u (tag_at (best L x A))) (later_at t (best L x A)) ∙ cond_at tag_at (enters L x t) (max t (best L x A)) (best L x A)

-- The events tell the log L and, for each server, the applied tags A.
pub record Tells (es : List Event) (L : List Entry) (A : ℕ → List ℕ) : Type 0 where
  pub writes : told.accepted es ≡ map entry_at L
  pub applied : (k : ℕ) → told.applied k es ≡ map tag_at (A k)

pub latest_same : (es : List Event) (L : List Entry) (A : ℕ → List ℕ) → Tells es L A → (s x : ℕ) → told.latest s x es ≡ tag_at (best L x (A s))
latest_same es L A h s x = ap₂ (λ (l : List history.Entry) (ts : List declared.Tag). told.highest_of l x ts) h.writes (h.applied s) ∙ best_same L x (A s)

pub given_same : (g : Code) (es : List Event) (L : List Entry) (A : ℕ → List ℕ) → Tells es L A → (x t : ℕ) → told.given (layout_of g) es x (tag_at t) ≡ kept g L x t
given_same g es L A h x t = ap (λ l. history.value_under g.w l x (tag_at t)) h.writes ∙ value_at g L x t

pub tells_push : (es : List Event) (L : List Entry) (A : ℕ → List ℕ) → Tells es L A → (e : Event) (c : Call) (a : Answer) → e.call ≡ c → e.answer ≡ answer_at a
    → Tells (es ++ e ∷ []) (L ++ accepted_by c a) (λ k. A k ++ applies k c a)
tells_push es L A h e c a ec ea = record {
  writes = accepted_push es e ∙ ap₂ (λ (l : List history.Entry) (m : List history.Entry). l ++ m) h.writes (ap₂ (λ (d : Call) (b : turns.Answer). told.accepted_by d (told.tag_told b)) ec ea ∙ accepted_same c a) ∙ sym (map-append entry_at L (accepted_by c a));
  applied = λ k. applied_push k es e ∙ ap₂ (λ (l : List declared.Tag) (m : List declared.Tag). l ++ m) (h.applied k) (ap₂ (λ (d : Call) (b : turns.Answer). told.applied_by k d (told.tag_told b)) ec ea ∙ applied_same k c a) ∙ sym (map-append tag_at (A k) (applies k c a));
}
