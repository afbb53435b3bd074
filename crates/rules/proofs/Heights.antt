-- What a server has applied is no higher than its greatest height, and the log has tags of writes only.
use Rattle.std.proofs.Common.{◌≡◌, ℕ, ◌+◌, ◌/◌, ◌<◌, ◌≤◌, true, cond, eqb, List, [], ◌∷◌, ◌++◌, sym, subst, append-nil, arith}
use Rattle.std.specs.List.{AllByRecursion}
use Rattle.std.proofs.lemmas.Bool.{cond_both, eqb-true}
use Rattle.std.proofs.ByRecursion.{All-push, All-weaker}
use Rattle.rules.specs.Turns.{Call, Write, Read as Ask, Collect, Deliver, Apply, Encode, Sweep, Found}
use Rattle.rules.proofs.RankedMessages.{height}
use Rattle.rules.proofs.Ranked.{Code, Entry, Waiting, State}
use Rattle.rules.proofs.RankedSteps.{write_tag, write_done, apply_done, wait_tag, step, tag_fits, entered, counted, queued, reading}
use Rattle.rules.proofs.RankedFacts.{Lawful, accepted_by}
use Rattle.rules.proofs.Words.{upd_same}
use Rattle.rules.proofs.Cases.{write_cases, apply_cases}
use Rattle.rules.proofs.Coded.{checked_write, top_after}
use Rattle.rules.proofs.Growing.{rises}
use Rattle.rules.proofs.Always.{tag_ok, write_ok}
use Rattle.rules.proofs.Latest.{also}

abbrev pub Heights : (ℕ → List ℕ) → State → Type 0
Heights A S = (k : ℕ) → AllByRecursion (λ u. u / 6 ≤ (S.servers k).top) (A k)

module _ (g : Code) (A : ℕ → List ℕ) (S : State) (h : Heights A S) where
  -- tops rise
  risen : (T : State) → ((k : ℕ) → (S.servers k).top ≤ (T.servers k).top) → Heights A T
  risen T up k = All-weaker (λ u. u / 6 ≤ (S.servers k).top) (λ u. u / 6 ≤ (T.servers k).top) (λ u q. let z = up k in omega arith) (A k) (h k)

  nil_heights : (T : State) → Heights A T → Heights (λ k. A k ++ []) T
  nil_heights T q k = subst (AllByRecursion (λ u. u / 6 ≤ (T.servers k).top)) (sym (append-nil (A k))) (q k)

  more_heights : (T : State) (s t : ℕ) → Heights A T → t / 6 ≤ (T.servers s).top → Heights (λ k. A k ++ cond (eqb s k) (t ∷ []) []) T
  more_heights T s t q new k = cond_both (eqb s k) (t ∷ []) [] (λ l. AllByRecursion (λ u. u / 6 ≤ (T.servers k).top) (A k ++ l))
      (λ e. All-push (λ u. u / 6 ≤ (T.servers k).top) (A k) t (q k) (subst (λ i. t / 6 ≤ (T.servers i).top) (eqb-true s k e) new)) (λ _. subst (AllByRecursion (λ u. u / 6 ≤ (T.servers k).top)) (sym (append-nil (A k))) (q k))

  apply_top : (s : ℕ) (v : Waiting) (vs : List Waiting) → height v.tag ≤ ((apply_done g S s v vs).servers s).top
  unfolding apply_done reading entered counted queued
  apply_top s v vs = rw (upd_same S.servers s _) (omega arith)

  pub step_heights : g.n ≤ 6 → (c : Call) (f : Found) → Heights (also A c (step g S c f).answer) (step g S c f).next
  step_heights few (Write s x v) f = write_cases g S (λ t. Heights A t.next → Heights (also A (Write s x v) t.answer) t.next) (λ r q. nil_heights S q) s x v
      (λ ok q. more_heights (write_done g S s x v) s (write_tag g (S.servers s) s) q (let sn = (checked_write g S s x v ok).0 in let l = top_after g S s x v in omega arith)) (risen (step g S (Write s x v) f).next (rises g S (Write s x v) f))
  step_heights few (Ask s x l) f = nil_heights (step g S (Ask s x l) f).next (risen (step g S (Ask s x l) f).next (rises g S (Ask s x l) f))
  step_heights few (Collect s m l) f = nil_heights (step g S (Collect s m l) f).next (risen (step g S (Collect s m l) f).next (rises g S (Collect s m l) f))
  step_heights few (Deliver a b) f = nil_heights (step g S (Deliver a b) f).next (risen (step g S (Deliver a b) f).next (rises g S (Deliver a b) f))
  step_heights few (Apply s) f = apply_cases g S (λ t. Heights A t.next → Heights (also A (Apply s) t.answer) t.next) (λ r q. nil_heights S q) s (λ q. nil_heights S q)
      (λ b e q. more_heights (apply_done g S s b.write b.others) s (wait_tag g b.write) q (apply_top s b.write b.others)) (risen (step g S (Apply s) f).next (rises g S (Apply s) f))
  step_heights few (Encode s x) f = nil_heights (step g S (Encode s x) f).next (risen (step g S (Encode s x) f).next (rises g S (Encode s x) f))
  step_heights few (Sweep s x) f = nil_heights (step g S (Sweep s x) f).next (risen (step g S (Sweep s x) f).next (rises g S (Sweep s x) f))

-- the log's tags fit and are not zero
abbrev pub Proper : Code → List Entry → Type 0
Proper g L = AllByRecursion (λ e. (tag_fits g e.tag ≡ true) × (0 < e.tag)) L

module _ (g : Code) (R : Lawful g) (L : List Entry) (h : Proper g L) (S : State) where
  nil_proper : Proper g (L ++ [])
  nil_proper = subst (Proper g) (sym (append-nil L)) h

  pub step_proper : (c : Call) (f : Found) → Proper g (L ++ accepted_by c (step g S c f).answer)
  step_proper (Write s x v) f = write_cases g S (λ t. Proper g (L ++ accepted_by (Write s x v) t.answer)) (λ r. nil_proper) s x v (λ ok.
      let w = write_ok g R S s x v ok in
      All-push (λ e. (tag_fits g e.tag ≡ true) × (0 < e.tag)) L (record { object = x; tag = write_tag g (S.servers s) s; value = v }) h
      (tag_ok g R ((S.servers s).top + 1) s (omega arith) (let l = w.1 in omega arith) w.0, omega arith))
  step_proper (Ask s x l) f = nil_proper
  step_proper (Collect s m l) f = nil_proper
  step_proper (Deliver a b) f = nil_proper
  step_proper (Apply s) f = nil_proper
  step_proper (Encode s x) f = nil_proper
  step_proper (Sweep s x) f = nil_proper
