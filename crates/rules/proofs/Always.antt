-- Tags are within their ranges in every run; so the core is sound in every run, and no delivery answers 6.
use Rattle.std.proofs.Common.{◌≡◌, ℕ, ◌+◌, ◌*◌, ◌/◌, ◌%◌, ◌<◌, ◌≤◌, true, false, ◌&&◌, eqb, ltb, leb, List, ◌∷◌, length, refl, arith}
use Rattle.std.specs.List.{AllByRecursion}
use Rattle.std.proofs.lemmas.Bool.{le-leb, and_right, ltb-true, lt-ltb, and_parts, and_from, or_left}
use Rattle.rules.proofs.RankedMessages.{Message, Written, Tagged, Question, Plain, Coded, tag}
use Rattle.rules.proofs.Ranked.{Code, Entry, State, has, core, slots, most_writes, most_height, fresh}
use Rattle.rules.proofs.RankedSteps as Steps
use Rattle.rules.proofs.RankedSteps.{Call, Write, Ask, Collect, Deliver, Apply, Encode, Sweep, Found, write_refusal, elements, open_slot, step, after, tag_fits}
use Rattle.rules.proofs.Replies.{starts}
use Rattle.rules.proofs.Frames.{Fine}
use Rattle.rules.proofs.Calls.{checked, write_keeps, read_keeps, collect_keeps, apply_keeps, encode_keeps, sweep_kept}
use Rattle.rules.proofs.Deliver.{Noticed, deliver_keeps}
use Rattle.rules.proofs.Source.{Sent, Sourced, FoundRight, write_sourced, read_sourced, collect_sourced, apply_sourced, encode_sourced, sweep_sourced, deliver_sourced}
use Rattle.rules.proofs.Fitting.{notice_fits}
use Rattle.rules.proofs.RankedFacts.{Lawful}

module _ (g : Code) (R : Lawful g) where
  some_server : 0 < g.n
  some_server = let w = R.servers in omega arith

  abbrev Fit : ℕ → ℕ → Type 0
  Fit x t = tag_fits g t ≡ true

  abbrev FitEntry : Entry → Type 0
  FitEntry e = tag_fits g e.tag ≡ true

  abbrev pub Ranged : State → Type 0
  Ranged S = Sourced g FitEntry Fit S

  none : (x : ℕ) → Fit x 0
  none x = and_from true (ltb 0 g.n && true) refl (and_from (ltb 0 g.n) true (lt-ltb 0 g.n some_server) refl)

  pub tag_ok : (t s : ℕ) → 0 < t → t ≤ most_height → s < g.n → tag_fits g (tag t s) ≡ true
  tag_ok t s pos le sn =
      let hi : (t * 6 + s) / 6 ≡ t = omega arith in
      let lo : (t * 6 + s) % 6 ≡ s = omega arith in
      rw (hi, lo) (and_from (leb t most_height) _ (le-leb t most_height le) (and_from (ltb s g.n) _ (lt-ltb s g.n sn) (or_left (ltb 0 t) (eqb s 0) (lt-ltb 0 t pos))))

  pub write_ok : (S : State) (s x : ℕ) (v : List ℕ) → write_refusal g S s x v ≡ 0 → (s < g.n) × ((S.servers s).top < most_height)
  unfolding write_refusal
  write_ok S s x v e =
      let a = checked (ltb s g.n) 7 _ (omega arith) e in
      let b = checked (ltb x g.k) 8 _ (omega arith) a.1 in
      let c = checked (eqb (length v) g.w) 9 _ (omega arith) b.1 in
      let d = checked (elements g v) 11 _ (omega arith) c.1 in
      let f = checked (ltb ((S.servers s).clock s) most_writes && ltb (S.servers s).top most_height) 14 _ (omega arith) d.1 in
      (ltb-true s g.n a.0, ltb-true (S.servers s).top most_height (and_parts (ltb ((S.servers s).clock s) most_writes) (ltb (S.servers s).top most_height) f.0).1)

  right_always : (S : State) (h : Ranged S) (a b : ℕ) (m : Message) (f : Found) → FoundRight g FitEntry Fit (λ e q. q) none S h a b m f
  right_always S h a b (Written x v t ck) f = tt
  right_always S h a b (Tagged x t) f = tt
  right_always S h a b (Question m x T) f = tt
  right_always S h a b (Plain m v) f = λ _ _. (h.servers b).reads (open_slot g (S.servers b) m) ((S.servers b).reads (open_slot g (S.servers b) m)).object
  right_always S h a b (Coded m v st) f = λ _ _ _. (h.servers b).reads (open_slot g (S.servers b) m) ((S.servers b).reads (open_slot g (S.servers b) m)).object

  step_ranged : (S : State) (c : Call) (f : Found) → Ranged S → Ranged (step g S c f).next
  step_ranged S (Write s x v) f h = write_sourced g FitEntry Fit (λ e q. q) none S h s x v (λ ok. let w = write_ok S s x v ok in
      tag_ok ((S.servers s).top + 1) s (omega arith) (let l = w.1 in omega arith) w.0)
  step_ranged S (Ask s x l) f h = read_sourced g FitEntry Fit (λ e q. q) none S h s x l f
  step_ranged S (Collect s m l) f h = collect_sourced g FitEntry Fit (λ e q. q) none S h s m l
  step_ranged S (Deliver a b) f h = deliver_sourced g FitEntry Fit (λ e q. q) none S h a b f (λ _ m ms e. right_always S h a b m f)
  step_ranged S (Apply s) f h = apply_sourced g FitEntry Fit (λ e q. q) none S h s
  step_ranged S (Encode s x) f h = encode_sourced g FitEntry Fit (λ e q. q) none S h s x f (λ _ _ _. (h.servers s).own x)
  step_ranged S (Sweep s x) f h = sweep_sourced g FitEntry Fit (λ e q. q) none S h s x

  noticed : (S : State) → Ranged S → Noticed g S
  noticed S h a b x t ms e =
      let all : AllByRecursion (Sent g FitEntry Fit a) (Tagged x t ∷ ms) = rw e at (h.lanes a b) in
      notice_fits g R x t all.0.0 all.0.1

  pub record Stands (S : State) : Type 0 where
    pub ranged : Ranged S
    pub fine : Fine g S

  step_fine : (S : State) (c : Call) (f : Found) → Stands S → Fine g (step g S c f).next
  step_fine S (Write s x v) f h = write_keeps g S h.fine s x v
  step_fine S (Ask s x l) f h = read_keeps g S h.fine s x l f
  step_fine S (Collect s m l) f h = collect_keeps g S h.fine s m l
  step_fine S (Deliver a b) f h = deliver_keeps g S h.fine a b f (noticed S h.ranged)
  step_fine S (Apply s) f h = apply_keeps g S h.fine s
  step_fine S (Encode s x) f h = encode_keeps g S h.fine s x f
  step_fine S (Sweep s x) f h = sweep_kept g S h.fine s x

  pub step_stands : (S : State) (m : Steps.Move) → Stands S → Stands (after g S m)
  step_stands S m h = record { ranged = step_ranged S m.call m.found h.ranged; fine = step_fine S m.call m.found h }

  pub fresh_stands : Stands (fresh g)
  fresh_stands = record {
    ranged = record { servers = λ s. record { own = none; history = tt; waiting = tt; reads = λ i y. none y }; lanes = λ a b. tt };
    fine = starts g.n g.k (has g) (core (fresh g)) (record { own = λ s x. refl; told = λ s x j. refl; held = λ s x. refl; lane = λ a b. refl; live = λ s i. and_right (ltb i slots) false refl });
  }
