-- What a write and an apply make of the peaks; reads answered at once give the latest, in every run.
use Rattle.std.proofs.Common.{◌≡◌, ℕ, ◌+◌, ◌/◌, ◌%◌, ◌<◌, ◌≤◌, max, Bool, true, false, cond, eqb, ltb, ◌⊎◌, List, [], ◌∷◌, ◌++◌, get_or, Some, sym, refl, ap, ◌∙◌, subst, ap₂, inl, inr, ⊎_elim, append-nil, arith}
use Rattle.std.specs.List.{AllByRecursion}
use Rattle.std.proofs.lemmas.Bool.{or_from, and_left, both_ways, cases_Bool, cases_eq, eq-eqb, ne_eqb, eqb-true, ltb-false, and_parts, and_from, or_cases, or_parts, or_right, cond_both, cond-true, cond-false}
use Rattle.rules.proofs.RankedMessages.{Written, height, server}
use Rattle.rules.proofs.RankedWords.{upd, listed, Lanes, spread}
use Rattle.rules.proofs.Ranked.{Code, Entry, Waiting, Read, Server, State, enters, same_entry, highest, top_tag, is_open, slots, clients, fresh}
use Rattle.rules.proofs.RankedSteps as Steps
use Rattle.rules.proofs.RankedSteps.{Call, Write, Ask, Collect, Deliver, Apply, Encode, Sweep, Answer, Found, write_refusal, entered, counted, queued, reading, overtaken, Picked, write_tag, write_done, write, wait_tag, picked, apply_done, step, after}
use Rattle.rules.proofs.Words.{upd_same, upd_other, enters_push, top_push}
use Rattle.std.proofs.ByRecursion.{All-push, All-weaker}
use Rattle.rules.proofs.RankedFacts.{Lawful, Allowed, accepted_by, best, applies}
use Rattle.rules.proofs.Calls.{overtaken_open}
use Rattle.rules.proofs.Source.{waited, Chosen, picked_all}
use Rattle.rules.proofs.Values.{live, OfEntry, OfTag}
use Rattle.rules.proofs.Cases.{write_cases, apply_cases}
use Rattle.rules.proofs.Growing.{ToldRight, new_tag, rises}
use Rattle.rules.proofs.Peaks.{peak, best_push, best_log, Peaks, read_peaks, collect_peaks, encode_peaks, sweep_peaks, deliver_peaks, overtaken_left}
use Rattle.rules.proofs.Coded.{move_told, fresh_told, checked_write, top_after}

-- a tag is of one object
abbrev pub Unique : List Entry → Type 0
Unique L = (x y t : ℕ) → enters L x t ≡ true → enters L y t ≡ true → x ≡ y

unique_push : (L : List Entry) (e : Entry) → Unique L → ((y : ℕ) → enters L y e.tag ≡ false) → Unique (L ++ e ∷ [])
unique_push L e h new x y t a b =
    ⊎_elim (λ p. ⊎_elim (λ q. h x y t p q) (λ q. absurd (both_ways (enters L x e.tag) (new x) (subst (λ z. enters L x z ≡ true) (sym (tag_of y q)) p))) (side y b))
    (λ p. ⊎_elim (λ q. absurd (both_ways (enters L y e.tag) (new y) (subst (λ z. enters L y z ≡ true) (sym (tag_of x p)) q))) (λ q. sym (object_of x p) ∙ object_of y q) (side y b)) (side x a)
  where
    side : (z : ℕ) → enters (L ++ e ∷ []) z t ≡ true → (enters L z t ≡ true) ⊎ (same_entry z t e ≡ true)
    side z w = or_cases (enters L z t) (same_entry z t e) (sym (enters_push L e z t) ∙ w)

    tag_of : (z : ℕ) → same_entry z t e ≡ true → e.tag ≡ t
    tag_of z w = eqb-true e.tag t (and_parts (eqb e.object z) (eqb e.tag t) w).1

    object_of : (z : ℕ) → same_entry z t e ≡ true → e.object ≡ z
    object_of z w = eqb-true e.object z (and_parts (eqb e.object z) (eqb e.tag t) w).0

pub all_entered : (P : ℕ → Type 0) (L : List Entry) (x t : ℕ) → AllByRecursion (λ e. P e.tag) L → enters L x t ≡ true → P t
unfolding enters
all_entered P [] x t h e = absurd (both_ways false refl e)
all_entered P (d ∷ L) x t h e = ⊎_elim (λ q. subst P (eqb-true d.tag t (and_parts (eqb d.object x) (eqb d.tag t) q).1) h.0) (λ q. all_entered P L x t h.1 q) (or_cases (same_entry x t d) (enters L x t) e)

-- one tag more is applied at s: the peak of x rises to it, and no other changes
module _ (g : Code) (L M : List Entry) (A B : ℕ → List ℕ) (S : State) (h : Peaks g L A S) (s x t : ℕ) (v : List ℕ) (all : Bool) (r : Server) (Ln : Lanes)
    (own_same : r.own ≡ (S.servers s).own) (history_more : r.history ≡ (S.servers s).history ++ record { object = x; tag = t; value = v } ∷ [])
    (reads_after : r.reads ≡ overtaken (S.servers s).reads all x t v)
    (elsewhere : (k : ℕ) → (k ≡ s → ⊥) → (y : ℕ) → best M y (B k) ≡ best L y (A k))
    (here_else : (y : ℕ) → (y ≡ x → ⊥) → best M y (B s) ≡ best L y (A s))
    (here : best M x (B s) ≡ max (best L x (A s)) t) where
  raised : (y : ℕ) → peak r y ≡ cond (eqb x y) (max (peak (S.servers s) y) t) (peak (S.servers s) y)
  raised y = ap₂ (λ (o : ℕ → ℕ) (es : List Entry). max (o y) (top_tag y es)) own_same history_more
      ∙ ap (max ((S.servers s).own y)) (top_push y (S.servers s).history (record { object = x; tag = t; value = v }))
      ∙ elim (cases_Bool (eqb x y)) [ inl q ↦ rw q (omega arith) | inr q ↦ rw q ]

  read_left : (i : ℕ) → s < g.n → i < clients → live r i ≡ true → best M (r.reads i).object (B s) ≡ (r.reads i).tags (r.reads i).object
  read_left i sn ic lv =
      let rs = (S.servers s).reads in
      let at : r.reads i ≡ overtaken rs all x t v i = ap (λ (z : ℕ → Read). z i) reads_after in
      let a = and_parts (ltb i slots) (is_open (r.reads i)) lv in
      let o : is_open (overtaken rs all x t v i) ≡ true = ap is_open (sym at) ∙ a.1 in
      let same_read : r.reads i ≡ rs i = at ∙ overtaken_open rs all x t v i o in
      let old = h.asked s i sn ic (and_from (ltb i slots) (is_open (rs i)) a.0 (ap is_open (sym same_read) ∙ a.1)) in
      rw same_read (elim (cases_eq (rs i).object x) [
        | inl e ↦
            let left = or_parts all (ltb ((rs i).tags x) t) (overtaken_left rs all x t v i ic o e) in
            let low = ltb-false ((rs i).tags x) t left.1 in
            let old' : best L x (A s) ≡ (rs i).tags x = rw e at old in
            rw e (here ∙ (omega arith))
        | inr ne ↦ here_else (rs i).object ne ∙ old
      ])

  pub raised_peaks : Peaks g M B (record { servers = upd S.servers s r; lanes = Ln })
  raised_peaks = record {
    peaks = λ k kn y. elim (cases_eq k s) [
      | inl e ↦ rw (e, upd_same S.servers s r) (elim (cases_eq y x) [
        | inl q ↦ rw q (here ∙ ap (λ z. max z t) (h.peaks s (rw e at kn) x) ∙ sym (raised x ∙ cond-true (eqb x x) _ _ (eq-eqb x x refl)))
        | inr ne ↦ here_else y ne ∙ h.peaks s (rw e at kn) y ∙ sym (raised y ∙ cond-false (eqb x y) _ _ (ne_eqb x y (λ q. ne (sym q))))
      ])
      | inr far ↦ rw (upd_other S.servers s k r far) (elsewhere k far y ∙ h.peaks k kn y)
    ];
    asked = λ k i kn ic lv. elim (cases_eq k s) [
      | inl e ↦ rw (e, upd_same S.servers s r) (read_left i (rw e at kn) ic (rw (e, upd_same S.servers s r) at lv))
      | inr far ↦ rw (upd_other S.servers s k r far) (elsewhere k far _ ∙ h.asked k i kn ic (rw (upd_other S.servers s k r far) at lv))
    ];
  }

-- ---- the run, with the log L and what each server has applied

-- no server knows of a height of s above what s has applied
abbrev pub AppliedTops : Code → (ℕ → List ℕ) → State → Type 0
AppliedTops g A S = (k s : ℕ) → s < g.n → AllByRecursion (λ u. (u % 6 ≡ s) → u / 6 ≤ (S.servers s).top) (A k)

pub record Known (g : Code) (R : Lawful g) (L : List Entry) (A : ℕ → List ℕ) (S : State) : Type 0 where
  pub told : ToldRight g R L S
  pub peaks : Peaks g L A S
  pub unique : Unique L
  pub tops : AppliedTops g A S

abbrev pub also : (ℕ → List ℕ) → Call → Answer → ℕ → List ℕ
also A c a k = A k ++ applies k c a

module _ (g : Code) (R : Lawful g) (L : List Entry) (A : ℕ → List ℕ) (S : State) (h : Known g R L A S) where
  tops_after : (c : Call) (f : Found) → AppliedTops g A (step g S c f).next
  tops_after c f k s sn = All-weaker (λ u. (u % 6 ≡ s) → u / 6 ≤ (S.servers s).top) (λ u. (u % 6 ≡ s) → u / 6 ≤ ((step g S c f).next.servers s).top)
      (λ u q w. let a = q w in let b = rises g S c f s in omega arith) (A k) (h.tops k s sn)

  -- ---- write
  write_known : (s x : ℕ) (v : List ℕ) → write_refusal g S s x v ≡ 0 → Peaks g (L ++ record { object = x; tag = write_tag g (S.servers s) s; value = v } ∷ []) (λ k. A k ++ cond (eqb s k) (write_tag g (S.servers s) s ∷ []) []) (write_done g S s x v)
  unfolding write_done reading entered counted
  write_known s x v ok =
      let p = S.servers s in
      let c = counted p s (p.clock s + 1) (p.top + 1) in
      raised_peaks g L (L ++ e ∷ []) A (λ k. A k ++ cond (eqb s k) (e.tag ∷ []) []) S h.peaks s x e.tag v true
      (reading (entered c e) (overtaken p.reads true x e.tag v)) (spread S.lanes s g.n (Written x v (p.top + 1) (listed g.n c.clock))) refl refl refl
      (λ k far y. ap (best (L ++ e ∷ []) y) (ap (λ b. A k ++ cond b (e.tag ∷ []) []) (ne_eqb s k (λ q. far (sym q))) ∙ append-nil (A k)) ∙ best_log L e y (A k) (apart k))
      (λ y ne. ap (best (L ++ e ∷ []) y) at_s ∙ best_push (L ++ e ∷ []) y (A s) e.tag ∙ cond-false (enters (L ++ e ∷ []) y e.tag) _ _ (not_in y ne) ∙ best_log L e y (A s) (apart s))
      (ap (best (L ++ e ∷ []) x) at_s ∙ best_push (L ++ e ∷ []) x (A s) e.tag ∙ cond-true (enters (L ++ e ∷ []) x e.tag) _ _ is_in ∙ ap (λ z. max z e.tag) (best_log L e x (A s) (apart s)))
    where
      e : Entry
      e = record { object = x; tag = write_tag g (S.servers s) s; value = v }

      sn : s < g.n
      sn = (checked_write g S s x v ok).0

      at_s : A s ++ cond (eqb s s) (e.tag ∷ []) [] ≡ A s ++ e.tag ∷ []
      at_s = ap (λ b. A s ++ cond b (e.tag ∷ []) []) (eq-eqb s s refl)

      apart : (k : ℕ) → AllByRecursion (λ u. u ≡ e.tag → ⊥) (A k)
      apart k = All-weaker (λ u. (u % 6 ≡ s) → u / 6 ≤ (S.servers s).top) (λ u. u ≡ e.tag → ⊥)
          (λ u q z. let l = R.few in let below_n = sn in let m : u % 6 ≡ s = omega arith in let w = q m in omega arith) (A k) (h.tops k s sn)

      new_for : (y : ℕ) → enters L y e.tag ≡ false
      new_for y = new_tag L s (S.servers s).top y (let l = R.few in let below_n = sn in omega arith) (h.told.tops s sn)

      not_in : (y : ℕ) → (y ≡ x → ⊥) → enters (L ++ e ∷ []) y e.tag ≡ false
      not_in y ne = enters_push L e y e.tag ∙ or_from (enters L y e.tag) (same_entry y e.tag e) (new_for y) (and_left (eqb x y) (eqb e.tag e.tag) (ne_eqb x y (λ q. ne (sym q))))

      is_in : enters (L ++ e ∷ []) x e.tag ≡ true
      is_in = enters_push L e x e.tag ∙ or_right (enters L x e.tag) (same_entry x e.tag e) (and_from (eqb x x) (eqb e.tag e.tag) (eq-eqb x x refl) (eq-eqb e.tag e.tag refl))

  -- ---- apply
  apply_known : (s : ℕ) (v : Waiting) (vs : List Waiting) → OfEntry g R L (waited g v) → Peaks g L (λ k. A k ++ cond (eqb s k) (wait_tag g v ∷ []) []) (apply_done g S s v vs)
  unfolding apply_done reading entered counted queued
  apply_known s v vs of =
      let p = S.servers s in
      let t = wait_tag g v in
      raised_peaks g L L A (λ k. A k ++ cond (eqb s k) (t ∷ []) []) S h.peaks s v.object t v.value false
      (reading (entered (counted (queued p vs) (server v.tag) (get_or v.clock (server v.tag) 0) (height v.tag)) (waited g v)) (overtaken p.reads false v.object t v.value)) S.lanes refl refl refl
      (λ k far y. ap (best L y) (ap (λ b. A k ++ cond b (t ∷ []) []) (ne_eqb s k (λ q. far (sym q))) ∙ append-nil (A k)))
      (λ y ne. ap (best L y) at_s ∙ best_push L y (A s) t ∙ other y ne (enters L y t) refl)
      (ap (best L v.object) at_s ∙ best_push L v.object (A s) t ∙ this (enters L v.object t) refl)
    where
      at_s : A s ++ cond (eqb s s) (wait_tag g v ∷ []) [] ≡ A s ++ wait_tag g v ∷ []
      at_s = ap (λ b. A s ++ cond b (wait_tag g v ∷ []) []) (eq-eqb s s refl)

      zero_or : (wait_tag g v ≡ 0) ⊎ (enters L v.object (wait_tag g v) ≡ true)
      zero_or = ⊎_elim (λ q. inl (eqb-true (wait_tag g v) 0 q)) (λ q. inr q) (or_cases (eqb (wait_tag g v) 0) (enters L v.object (wait_tag g v)) of.0)

      other : (y : ℕ) → (y ≡ v.object → ⊥) → (b : Bool) → enters L y (wait_tag g v) ≡ b → cond b (max (best L y (A s)) (wait_tag g v)) (best L y (A s)) ≡ best L y (A s)
      other y ne false q = refl
      other y ne true q = ⊎_elim (λ (z : wait_tag g v ≡ 0). omega arith) (λ z. absurd (ne (h.unique y v.object (wait_tag g v) q z))) zero_or

      this : (b : Bool) → enters L v.object (wait_tag g v) ≡ b → cond b (max (best L v.object (A s)) (wait_tag g v)) (best L v.object (A s)) ≡ max (best L v.object (A s)) (wait_tag g v)
      this true q = refl
      this false q = ⊎_elim (λ (z : wait_tag g v ≡ 0). omega arith) (λ z. absurd (both_ways (enters L v.object (wait_tag g v)) q z)) zero_or

  -- ---- one call
  nil_peaks : (S' : State) → Peaks g L A S' → Peaks g (L ++ []) (λ k. A k ++ []) S'
  nil_peaks S' q = rw (append-nil L) (record {
    peaks = λ s sn x. ap (best L x) (append-nil (A s)) ∙ q.peaks s sn x;
    asked = λ s i sn ic lv. ap (best L ((S'.servers s).reads i).object) (append-nil (A s)) ∙ q.asked s i sn ic lv;
  })

  step_peaks : (c : Call) (f : Found) → Peaks g (L ++ accepted_by c (step g S c f).answer) (also A c (step g S c f).answer) (step g S c f).next
  step_peaks (Write s x v) f = write_cases g S (λ t. Peaks g (L ++ accepted_by (Write s x v) t.answer) (also A (Write s x v) t.answer) t.next) (λ r. nil_peaks S h.peaks) s x v (λ ok. write_known s x v ok)
  step_peaks (Ask s x l) f = nil_peaks _ (read_peaks g L A S h.told.stands.fine h.peaks s x l f)
  step_peaks (Collect s m l) f = nil_peaks _ (collect_peaks g L A S h.told.stands.fine h.peaks s m l)
  step_peaks (Deliver a b) f = nil_peaks _ (deliver_peaks g L A S h.told.stands.fine h.peaks a b f)
  step_peaks (Apply s) f = apply_cases g S (λ t. Peaks g (L ++ []) (also A (Apply s) t.answer) t.next) (λ r. nil_peaks S h.peaks) s (nil_peaks S h.peaks)
      (λ b e. rw (append-nil L) (apply_known s b.write b.others (chosen s b e)))
    where
      chosen : (s : ℕ) (b : Picked) → picked g (S.servers s) (S.servers s).waiting ≡ Some b → OfEntry g R L (waited g b.write)
      chosen s b e = (subst (Chosen g (OfEntry g R L) (OfTag g R L)) e (picked_all g (OfEntry g R L) (OfTag g R L) (λ d q. q.0) (λ y. refl) (S.servers s) (S.servers s).waiting (h.told.sourced.servers s).waiting)).0
  step_peaks (Encode s x) f = nil_peaks _ (encode_peaks g L A S h.told.stands.fine h.peaks s x f)
  step_peaks (Sweep s x) f = nil_peaks _ (sweep_peaks g L A S h.told.stands.fine h.peaks s x)

  nil_tops : (S' : State) → AppliedTops g A S' → AppliedTops g (λ k. A k ++ []) S'
  nil_tops S' q k s sn = rw (append-nil (A k)) (q k s sn)

  step_unique : (c : Call) (f : Found) → Unique (L ++ accepted_by c (step g S c f).answer)
  step_unique (Write s x v) f = write_cases g S (λ t. Unique (L ++ accepted_by (Write s x v) t.answer)) (λ r. rw (append-nil L) h.unique) s x v (λ ok.
      unique_push L (record { object = x; tag = write_tag g (S.servers s) s; value = v }) h.unique
      (λ y. new_tag L s (S.servers s).top y (let l = R.few in let sn = (checked_write g S s x v ok).0 in omega arith) (h.told.tops s (checked_write g S s x v ok).0)))
  step_unique (Ask s x l) f = rw (append-nil L) h.unique
  step_unique (Collect s m l) f = rw (append-nil L) h.unique
  step_unique (Deliver a b) f = rw (append-nil L) h.unique
  step_unique (Apply s) f = rw (append-nil L) h.unique
  step_unique (Encode s x) f = rw (append-nil L) h.unique
  step_unique (Sweep s x) f = rw (append-nil L) h.unique

  -- one tag more, where it is not above what its server has applied
  more_tops : (S' : State) (s t : ℕ) → AppliedTops g A S' → ((i : ℕ) → i < g.n → t % 6 ≡ i → t / 6 ≤ (S'.servers i).top) → AppliedTops g (λ k. A k ++ cond (eqb s k) (t ∷ []) []) S'
  more_tops S' s t q new k i inn = cond_both (eqb s k) (t ∷ []) [] (λ l. AllByRecursion (λ u. (u % 6 ≡ i) → u / 6 ≤ (S'.servers i).top) (A k ++ l))
      (λ _. All-push (λ u. (u % 6 ≡ i) → u / 6 ≤ (S'.servers i).top) (A k) t (q k i inn) (new i inn)) (λ _. rw (append-nil (A k)) (q k i inn))

  write_tops : (s x : ℕ) (v : List ℕ) → write_refusal g S s x v ≡ 0 → AppliedTops g A (write_done g S s x v) → AppliedTops g (λ k. A k ++ cond (eqb s k) (write_tag g (S.servers s) s ∷ []) []) (write_done g S s x v)
  write_tops s x v ok q = more_tops (write_done g S s x v) s (write_tag g (S.servers s) s) q (λ i inn z.
      let l = R.few in
      let sn = (checked_write g S s x v ok).0 in
      let si : s ≡ i = omega arith in
      rw (← si) (let t = top_after g S s x v in omega arith))

  apply_tops : (s : ℕ) (v : Waiting) (vs : List Waiting) → OfEntry g R L (waited g v) → AppliedTops g A (apply_done g S s v vs) → ((i : ℕ) → (S.servers i).top ≤ ((apply_done g S s v vs).servers i).top)
      → AppliedTops g (λ k. A k ++ cond (eqb s k) (wait_tag g v ∷ []) []) (apply_done g S s v vs)
  apply_tops s v vs of q up = more_tops (apply_done g S s v vs) s (wait_tag g v) q (λ i inn z. ⊎_elim
      (λ (w : eqb (wait_tag g v) 0 ≡ true). let y = eqb-true (wait_tag g v) 0 w in omega arith)
      (λ w. let a = all_entered (λ u. (u % 6 ≡ i) → u / 6 ≤ (S.servers i).top) L v.object (wait_tag g v) (h.told.tops i inn) w z in let b = up i in omega arith)
      (or_cases (eqb (wait_tag g v) 0) (enters L v.object (wait_tag g v)) of.0))

  step_tops : (c : Call) (f : Found) → AppliedTops g (also A c (step g S c f).answer) (step g S c f).next
  step_tops (Write s x v) f = write_cases g S (λ t. AppliedTops g A t.next → AppliedTops g (also A (Write s x v) t.answer) t.next) (λ r q. nil_tops S q) s x v (λ ok q. write_tops s x v ok q) (tops_after (Write s x v) f)
  step_tops (Ask s x l) f = nil_tops (step g S (Ask s x l) f).next (tops_after (Ask s x l) f)
  step_tops (Collect s m l) f = nil_tops (step g S (Collect s m l) f).next (tops_after (Collect s m l) f)
  step_tops (Deliver a b) f = nil_tops (step g S (Deliver a b) f).next (tops_after (Deliver a b) f)
  step_tops (Apply s) f = apply_cases g S (λ t. AppliedTops g A t.next → ((i : ℕ) → (S.servers i).top ≤ (t.next.servers i).top) → AppliedTops g (also A (Apply s) t.answer) t.next)
      (λ r q up. nil_tops S q) s (λ q up. nil_tops S q)
      (λ b e q up. apply_tops s b.write b.others
      (subst (Chosen g (OfEntry g R L) (OfTag g R L)) e (picked_all g (OfEntry g R L) (OfTag g R L) (λ d w. w.0) (λ y. refl) (S.servers s) (S.servers s).waiting (h.told.sourced.servers s).waiting)).0 q up)
      (tops_after (Apply s) f) (rises g S (Apply s) f)
  step_tops (Encode s x) f = nil_tops (step g S (Encode s x) f).next (tops_after (Encode s x) f)
  step_tops (Sweep s x) f = nil_tops (step g S (Sweep s x) f).next (tops_after (Sweep s x) f)

  pub step_known : (m : Steps.Move) → Allowed g S m.call m.found
      → Known g R (L ++ accepted_by m.call (step g S m.call m.found).answer) (also A m.call (step g S m.call m.found).answer) (after g S m)
  step_known m ok = record {
    told = move_told g R L S h.told m.call m.found ok;
    peaks = step_peaks m.call m.found;
    unique = step_unique m.call m.found;
    tops = step_tops m.call m.found;
  }

pub fresh_known : (g : Code) (R : Lawful g) → Known g R [] (λ _. []) (fresh g)
fresh_known g R = record {
  told = fresh_told g R;
  peaks = record { peaks = λ s sn x. fresh_peak x; asked = λ s i sn ic lv. refl };
  unique = λ x y t a b. absurd (both_ways (enters [] x t) (fresh_enters x t) a);
  tops = λ k s sn. tt;
}
  where
    fresh_enters : (x t : ℕ) → enters [] x t ≡ false
    fresh_enters x t = unfold enters in refl

    fresh_peak : (x : ℕ) → 0 ≡ max 0 (top_tag x [])
    fresh_peak x = unfold highest in refl
