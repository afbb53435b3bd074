-- Over each call, the reads that the events tell of stay joined to the places of every server.
use Rattle.std.proofs.Common.{◌≡◌, ℕ, zero, suc, ◌+◌, ◌-◌, ◌/◌, ◌<◌, ◌≤◌, Bool, true, false, cond, not, ◌&&◌, eqb, ltb, List, [], ◌∷◌, ◌++◌, map, length, get_or, Some, sym, refl, ap, ◌∙◌, subst, ap₂, inl, inr, ⊎_elim, append-nil, arith}
use mathlib.Core.Path.{fun_ext}
use Rattle.std.specs.List.{AllByRecursion}
use Rattle.std.proofs.lemmas.Bool.Decides.{nat_tests as ways}
use Rattle.std.proofs.lemmas.Bool.{cases_Bool, cases_eq, both_ways, and_parts, and_from, and_right, and_left, or_cases, or_right, or_from, lt-ltb, ltb-true, ltb-false, eq-eqb, ne_eqb, eqb-true, cond-true, cond-false, cond_both}
use Rattle.std.proofs.ByRecursion.{All-weaker}
use Rattle.rules.specs.Words.{upd}
use Rattle.rules.specs.Turns.{Call, Write, Read as Ask, Collect, Deliver, Apply, Encode, Sweep, Found}
use Rattle.rules.specs.Events as told
use Rattle.rules.specs.Events.{Event, Followed, just_opened, follow_all, follow_write, opened_by, opened_read, reads_of, replies_to, first_of}
use Rattle.rules.proofs.RankedMessages.{Message, Written, Tagged, Question, Plain, Coded, tag}
use Rattle.rules.proofs.Unranked.{tag_at, message_at}
use Rattle.rules.proofs.RankedWords.{Lanes, seek}
use Rattle.rules.proofs.Ranked.{Code, layout_of, Entry, Waiting, Read, Server, State, holds, enters, same_entry, kept, top_tag, is_open, no_read, clients, slots, queue, most_reads}
use Rattle.rules.proofs.RankedSteps as Steps
use Rattle.rules.proofs.RankedSteps.{Answer, Refused, Tag, Value, Number, Still, Nothing, Outcome, Count, Turn, turn, Picked, check, unless, write_refusal, write_tag, write_done, apply_done, picked, open_refusal, free_slot, open_done, opening, new_read, collect_done, sweep_done, move_done, enter_done, moved, sifted, entered, counted, queued, reading, overtaken, take_done, question_done, reply, settle, client_answer, internal_answer, history_room, answered, in_hand, open_slot, mendable, mended, got, oldest, deliver, lane_refusal, fits, step, tag_fits}
use Rattle.rules.proofs.RankedFacts as law
use Rattle.rules.proofs.RankedFacts.{best, Lawful}
use Rattle.rules.proofs.Words.{upd_same, upd_other, seek_found, enters_push}
use Rattle.rules.proofs.Calls.{unless_both, checked}
use Rattle.rules.proofs.Deliver.{lane_ends, open_found, mends}
use Rattle.rules.proofs.Cases.{write_cases, apply_cases_at, read_cases, collect_cases, sweep_cases, encode_cases}
use Rattle.rules.proofs.Coded.{checked_write}
use Rattle.rules.proofs.Growing.{new_tag, kept_new}
use Rattle.rules.proofs.Values.{OfEntry, OfTag, Told}
use Rattle.rules.proofs.Source.{waited, Chosen, picked_all}
use Rattle.rules.proofs.Algebra.{Mix, mix_below}
use Rattle.rules.proofs.Carrying.{plain_right, coded_right}
use Rattle.rules.proofs.Peaks.{best_push}
use Rattle.rules.proofs.Latest.{Known, all_entered}
use Rattle.rules.proofs.Fitting.{plain_fits, coded_fits}
use Rattle.rules.proofs.View.{state_at, answer_at}
use Rattle.rules.proofs.Told.{Tells, tells_push}
use Rattle.rules.proofs.Heights.{Heights, Proper}
use Rattle.rules.proofs.Following.{all_same, live, Follows, stays, follows_change, follows_open}
use Rattle.rules.proofs.Overtaking.{relink, best_less, overtake_follows}
use Rattle.rules.proofs.Replying.{none_follows, hand_follows, internal_follows, client_follows}

-- no place below n passes where none is found
seek_none : (n : ℕ) (f : ℕ → Bool) → ltb (seek n f) n ≡ false → (i : ℕ) → i < n → f i ≡ false
unfolding seek
seek_none zero f e i lt = absurd (omega arith)
seek_none (suc n) f e i lt = elim (cases_Bool (ltb (seek n f) n)) [
  | inl q ↦ absurd (let z : ltb (seek n f) (suc n) ≡ false = rw q at e in let a = ltb-true (seek n f) n q in let b = ltb-false (seek n f) (suc n) z in omega arith)
  | inr q ↦ elim (cases_Bool (f n)) [
    | inl w ↦ absurd (let z : ltb n (suc n) ≡ false = rw (q, w) at e in let b = ltb-false n (suc n) z in omega arith)
    | inr w ↦ elim (cases_eq i n) [ inl z ↦ rw z w | inr ne ↦ seek_none n f q i (omega arith) ]
  ]
]

module _ (g : Code) (R : Lawful g) (es : List Event) (L : List Entry) (A : ℕ → List ℕ) (S : State) (tells : Tells es L A) (known : Known g R L A S)
    (heights : Heights A S) (proper : Proper g L) (follows : (k : ℕ) → k < g.n → Follows k (reads_of (layout_of g) k es) (S.servers k).reads (S.servers k).opened) where
  abbrev F : ℕ → List Followed
  F k = reads_of (layout_of g) k es

  abbrev ev : Call → Answer → Event
  ev c a = record { call = c; answer = answer_at a; oldest = told.oldest_of (state_at S) c }

  abbrev pub newF : Call → Answer → ℕ → List Followed
  newF c a k = follow_all (layout_of g) k 1 es (ev c a) (F k) ++ opened_by k c (answer_at a)

  abbrev pub FollowedOn : Call → Turn → Type 0
  FollowedOn c t = (k : ℕ) → k < g.n → Follows k (newF c t.answer k) (t.next.servers k).reads (t.next.servers k).opened

  -- nothing changes
  same_on : (c : Call) (a : Answer) → ((k : ℕ) → newF c a k ≡ F k) → FollowedOn c (turn a S)
  same_on c a e k kn = subst (λ l. Follows k l (S.servers k).reads (S.servers k).opened) (sym (e k)) (follows k kn)

  -- one server changes
  put_on : (c : Call) (a : Answer) (s : ℕ) (r : Server) (Ln : Lanes) → (s < g.n → Follows s (newF c a s) r.reads r.opened) → ((k : ℕ) → (k ≡ s → ⊥) → newF c a k ≡ F k)
      → FollowedOn c (turn a (record { servers = upd S.servers s r; lanes = Ln }))
  put_on c a s r Ln here else k kn = elim (cases_eq k s) [
    | inl e ↦ rw (e, upd_same S.servers s r) (here (rw e at kn))
    | inr ne ↦ rw (upd_other S.servers s k r ne) (subst (λ l. Follows k l (S.servers k).reads (S.servers k).opened) (sym (else k ne)) (follows k kn))
  ]

  -- ---- calls that do not close reads
  ask_none : (s x l : ℕ) (a : Answer) → opened_read (answer_at a) ≡ false → (k : ℕ) → newF (Ask s x l) a k ≡ F k
  ask_none s x l a q k = ap₂ ◌++◌ (all_same (layout_of g) k 1 es (ev (Ask s x l) a) (F k) (λ n r. refl)) (cond-false (eqb s k && opened_read (answer_at a)) _ _ (and_right (eqb s k) _ q)) ∙ append-nil (F k)

  encode_none : (s x : ℕ) (a : Answer) → opened_read (answer_at a) ≡ false → (k : ℕ) → newF (Encode s x) a k ≡ F k
  encode_none s x a q k = ap₂ ◌++◌ (all_same (layout_of g) k 1 es (ev (Encode s x) a) (F k) (λ n r. refl)) (cond-false (eqb s k && opened_read (answer_at a)) _ _ (and_right (eqb s k) _ q)) ∙ append-nil (F k)

  ask_else : (s x l : ℕ) (a : Answer) (k : ℕ) → (k ≡ s → ⊥) → newF (Ask s x l) a k ≡ F k
  ask_else s x l a k ne = ap₂ ◌++◌ (all_same (layout_of g) k 1 es (ev (Ask s x l) a) (F k) (λ n r. refl)) (cond-false (eqb s k && opened_read (answer_at a)) _ _ (and_left (eqb s k) _ (ne_eqb s k (λ q. ne (sym q))))) ∙ append-nil (F k)

  encode_else : (s x : ℕ) (a : Answer) (k : ℕ) → (k ≡ s → ⊥) → newF (Encode s x) a k ≡ F k
  encode_else s x a k ne = ap₂ ◌++◌ (all_same (layout_of g) k 1 es (ev (Encode s x) a) (F k) (λ n r. refl)) (cond-false (eqb s k && opened_read (answer_at a)) _ _ (and_left (eqb s k) _ (ne_eqb s k (λ q. ne (sym q))))) ∙ append-nil (F k)

  collect_none : (s m l : ℕ) (a : Answer) (k : ℕ) → newF (Collect s m l) a k ≡ F k
  collect_none s m l a k = ap (λ z. z ++ []) (all_same (layout_of g) k 1 es (ev (Collect s m l) a) (F k) (λ n r. refl)) ∙ append-nil (F k)

  sweep_none : (s x : ℕ) (a : Answer) (k : ℕ) → newF (Sweep s x) a k ≡ F k
  sweep_none s x a k = ap (λ z. z ++ []) (all_same (layout_of g) k 1 es (ev (Sweep s x) a) (F k) (λ n r. refl)) ∙ append-nil (F k)

  -- a server whose reads stay
  kept_on : (c : Call) (a : Answer) (s : ℕ) (r : Server) (Ln : Lanes) → r.reads ≡ (S.servers s).reads → r.opened ≡ (S.servers s).opened → ((k : ℕ) → newF c a k ≡ F k)
      → FollowedOn c (turn a (record { servers = upd S.servers s r; lanes = Ln }))
  kept_on c a s r Ln er eo e = put_on c a s r Ln (λ sn. subst (λ l. Follows s l r.reads r.opened) (sym (e s)) (subst (λ (z : ℕ → Read). Follows s (F s) z r.opened) (sym er) (subst (Follows s (F s) (S.servers s).reads) (sym eo) (follows s sn)))) (λ k _. e k)

  -- ---- read
  free_found : (s : ℕ) → open_refusal g S s ≡ 0 → (ltb (S.servers s).opened most_reads ≡ true) × (ltb (free_slot g (S.servers s)) clients ≡ true)
  unfolding open_refusal
  free_found s e =
      let a = checked (ltb (S.servers s).opened most_reads) 14 _ (omega arith) e in
      let b = checked (ltb (free_slot g (S.servers s)) clients) 16 _ (omega arith) a.1 in
      (a.0, b.0)

  free_dead : (s : ℕ) → ltb (free_slot g (S.servers s)) clients ≡ true → live (S.servers s).reads (free_slot g (S.servers s)) ≡ false
  free_dead s e =
      let i = free_slot g (S.servers s) in
      let z = seek_found clients (λ i. eqb ((S.servers s).reads i).state 0) (ltb-true i clients e) in
      let st = eqb-true ((S.servers s).reads i).state 0 z in
      and_right (ltb i slots) _ (ne_eqb ((S.servers s).reads i).state 1 (λ q. omega arith))

  open_on : (c : Call) (a : Answer) (s i x : ℕ) (client : Bool) → newF c a s ≡ F s ++ just_opened x client ∷ [] → ((k : ℕ) → (k ≡ s → ⊥) → newF c a k ≡ F k)
      → live (S.servers s).reads i ≡ false → i < slots → ltb (S.servers s).opened most_reads ≡ true → client ≡ ltb i clients → FollowedOn c (turn a (open_done g S s i x))
  unfolding open_done opening
  open_on c a s i x client e else dead place more kind = put_on c a s _ S.lanes
      (λ sn. subst (λ l. Follows s l (upd (S.servers s).reads i (new_read (S.servers s) s x)) ((S.servers s).opened + 1)) (sym e)
      (follows_open s (F s) (S.servers s).reads (S.servers s).opened i x client (new_read (S.servers s) s x) (follows s sn) dead place (ltb-true (S.servers s).opened most_reads more) kind refl refl refl (λ j. refl))) else

  value_on : (s x l : ℕ) (v : List ℕ) (t w : ℕ) → FollowedOn (Ask s x l) (turn (Value v t w) S)
  value_on s x l v t w = same_on (Ask s x l) (Value v t w) (ask_none s x l (Value v t w) refl)

  read_on : (s x l : ℕ) (f : Found) → FollowedOn (Ask s x l) (Steps.read g S s x l f)
  read_on s x l f = read_cases g S (FollowedOn (Ask s x l)) (λ r. same_on (Ask s x l) (Refused r) (ask_none s x l (Refused r) refl)) s x l f
      (λ _ _ _. value_on s x l (kept g (S.servers s).history x (top_tag x (S.servers s).history)) (top_tag x (S.servers s).history) 1) (λ _ _ _ _. value_on s x l f.value ((S.servers s).own x) 2)
      (λ sn xk lt rec free.
      let w = free_found s free in
      let i = free_slot g (S.servers s) in
      open_on (Ask s x l) (Number ((S.servers s).opened + 1)) s i x true
      (ap₂ ◌++◌ (all_same (layout_of g) s 1 es (ev (Ask s x l) (Number ((S.servers s).opened + 1))) (F s) (λ n r. refl)) (cond-true (eqb s s && true) _ _ (and_from (eqb s s) true (eq-eqb s s refl) refl)))
      (ask_else s x l (Number ((S.servers s).opened + 1))) (free_dead s w.1) (let z = ltb-true i clients w.1 in omega arith) w.0 (sym w.1))

  -- ---- collect
  freed : (s i : ℕ) → s < g.n → is_open ((S.servers s).reads i) ≡ false → Follows s (F s) (upd (S.servers s).reads i no_read) (S.servers s).opened
  freed s i sn shut =
      let rs = (S.servers s).reads in
      let h = follows s sn in
      follows_change s (F s) (F s) rs (upd rs i no_read) (S.servers s).opened h refl (λ k lt q. refl)
      (λ j dead. elim (cases_eq j i) [ inl q ↦ inr (ap (upd rs i no_read) q ∙ upd_same rs i no_read) | inr ne ↦ inl (upd_other rs i j no_read ne) ])
      (λ j lv. let ne : j ≡ i → ⊥ = (λ q. both_ways (is_open (rs i)) shut (subst (λ k. is_open (rs k) ≡ true) q (and_parts (ltb j slots) (is_open (rs j)) lv).1)) in
      let there = upd_other rs i j no_read ne in
      let k = h.links j lv in
      stays (ap (λ (r : Read). ltb j slots && is_open r) there ∙ lv) (ap (λ (r : Read). r.number) there ∙ k.number) (relink s (F s) (F s) (rs j) (upd rs i no_read j) j k refl refl there))

  collected_on : (s m l : ℕ) (a : Answer) (i : ℕ) → is_open ((S.servers s).reads i) ≡ false → FollowedOn (Collect s m l) (turn a (collect_done g S s i))
  unfolding collect_done reading
  collected_on s m l a i shut = put_on (Collect s m l) a s _ S.lanes
      (λ sn. subst (λ z. Follows s z (upd (S.servers s).reads i no_read) (S.servers s).opened) (sym (collect_none s m l a s)) (freed s i sn shut)) (λ k _. collect_none s m l a k)

  collect_on : (s m l : ℕ) → FollowedOn (Collect s m l) (Steps.collect g S s m l)
  collect_on s m l = collect_cases g S (FollowedOn (Collect s m l)) (λ r. same_on (Collect s m l) (Refused r) (collect_none s m l (Refused r))) s m l (same_on (Collect s m l) Still (collect_none s m l Still))
      (λ i _ _ _ shut. collected_on s m l (Value ((S.servers s).reads i).value ((S.servers s).reads i).tag ((S.servers s).reads i).way) i shut)

  -- ---- encode and sweep
  moved_on : (s x t : ℕ) (v : List ℕ) → FollowedOn (Encode s x) (turn (Outcome 1) (move_done g S s x t v))
  unfolding move_done moved
  moved_on s x t v = kept_on (Encode s x) (Outcome 1) s _ S.lanes refl refl (encode_none s x (Outcome 1) refl)

  entered_on : (s x : ℕ) (e : Entry) → FollowedOn (Encode s x) (turn (Outcome 3) (enter_done g S s e))
  unfolding enter_done entered
  entered_on s x e = kept_on (Encode s x) (Outcome 3) s _ S.lanes refl refl (encode_none s x (Outcome 3) refl)

  encode_on : (s x : ℕ) (f : Found) → FollowedOn (Encode s x) (Steps.encode g S s x f)
  encode_on s x f = encode_cases g S (FollowedOn (Encode s x)) (λ r. same_on (Encode s x) (Refused r) (encode_none s x (Refused r) refl)) s x f
      (λ o ne. same_on (Encode s x) (Outcome o) (encode_none s x (Outcome o) (ne_eqb o 4 ne)))
      (λ t v _ _ _ _. moved_on s x t v) (λ _ _ _. entered_on s x _)
      (λ sn xk _ _ shut more. open_on (Encode s x) (Outcome 4) s (clients + x) x false
      (ap₂ ◌++◌ (all_same (layout_of g) s 1 es (ev (Encode s x) (Outcome 4)) (F s) (λ n r. refl)) (cond-true (eqb s s && true) _ _ (and_from (eqb s s) true (eq-eqb s s refl) refl)))
      (encode_else s x (Outcome 4)) (and_right (ltb (clients + x) slots) _ shut) (let z = R.few_objects in omega arith) more (sym (not_client x)))
    where
      not_client : (x : ℕ) → ltb (clients + x) clients ≡ false
      not_client x = grind (arith, ways)

  swept_on : (s x : ℕ) (a : Answer) → FollowedOn (Sweep s x) (turn a (sweep_done g S s x))
  unfolding sweep_done sifted
  swept_on s x a = kept_on (Sweep s x) a s _ S.lanes refl refl (sweep_none s x a)

  sweep_on : (s x : ℕ) → FollowedOn (Sweep s x) (Steps.sweep g S s x)
  sweep_on s x = sweep_cases g S (FollowedOn (Sweep s x)) (λ r. same_on (Sweep s x) (Refused r) (sweep_none s x (Refused r))) s x (λ _ _. swept_on s x (Count (length (S.servers s).history - length (Steps.swept g (S.servers s) x))))

  -- ---- write and apply
  not_newer : (k : ℕ) (e : Event) (r : Followed) → told.applied_by k e.call (told.tag_told e.answer) ≡ [] → follow_write (layout_of g) k es e r ≡ r
  not_newer k e r q =
      let after = es ++ e ∷ [] in
      ap (λ ts. cond (r.client && (r.is_open && told.is_newer (layout_of g) k r.object es (told.accepted after) ts)) (told.closed (layout_of g) k after r) r) q
      ∙ cond-false (r.client && (r.is_open && false)) _ _ (and_right r.client _ (and_right r.is_open false refl))

  write_none : (s x : ℕ) (v : List ℕ) (a : Answer) (k : ℕ) → told.applied_by k (Write s x v) (told.tag_told (answer_at a)) ≡ [] → newF (Write s x v) a k ≡ F k
  write_none s x v a k q = ap (λ z. z ++ []) (all_same (layout_of g) k 1 es (ev (Write s x v) a) (F k) (λ n r. not_newer k (ev (Write s x v) a) r q)) ∙ append-nil (F k)

  apply_none : (s : ℕ) (a : Answer) (k : ℕ) → told.applied_by k (Apply s) (told.tag_told (answer_at a)) ≡ [] → newF (Apply s) a k ≡ F k
  apply_none s a k q = ap (λ z. z ++ []) (all_same (layout_of g) k 1 es (ev (Apply s) a) (F k) (λ n r. not_newer k (ev (Apply s) a) r q)) ∙ append-nil (F k)

  elsewhere : (s k t : ℕ) → (k ≡ s → ⊥) → cond (eqb s k) (tag_at t ∷ []) [] ≡ []
  elsewhere s k t ne = cond-false (eqb s k) (tag_at t ∷ []) [] (ne_eqb s k (λ q. ne (sym q)))

  module _ (s x : ℕ) (v : List ℕ) (ok : write_refusal g S s x v ≡ 0) where
    abbrev t : ℕ
    t = write_tag g (S.servers s) s

    abbrev e : Entry
    e = record { object = x; tag = write_tag g (S.servers s) s; value = v }

    sn : s < g.n
    sn = (checked_write g S s x v ok).0

    new_for : (y : ℕ) → enters L y t ≡ false
    new_for y = new_tag L s (S.servers s).top y (let l = R.few in let z = sn in omega arith) (known.told.tops s sn)

    all_lower : AllByRecursion (λ u. u < t) (A s)
    all_lower = All-weaker (λ u. u / 6 ≤ (S.servers s).top) (λ u. u < t) (λ u q. omega arith) (A s) (heights s)

    is_in : enters (L ++ e ∷ []) x t ≡ true
    is_in = enters_push L e x t ∙ or_right (enters L x t) (same_entry x t e) (and_from (eqb x x) (eqb t t) (eq-eqb x x refl) (eq-eqb t t refl))

    written_follows : Follows s (newF (Write s x v) (Tag t) s) (overtaken (S.servers s).reads true x t v) (S.servers s).opened
    written_follows = subst (λ z. Follows s z (overtaken (S.servers s).reads true x t v) (S.servers s).opened) (sym (append-nil _))
        (overtake_follows g es (ev (Write s x v) (Tag t)) L (L ++ e ∷ []) A (λ k. A k ++ cond (eqb s k) (t ∷ []) []) tells (tells_push es L A tells (ev (Write s x v) (Tag t)) (Write s x v) (Tag t) refl refl)
        s (F s) (S.servers s).reads (S.servers s).opened (follows s sn) x t v true (λ n r. refl)
        (cond-true (eqb s s) (tag_at t ∷ []) [] (eq-eqb s s refl))
        (λ y q. elim (cases_eq x y) [
          | inl z ↦ sym z
          | inr ne ↦ absurd (both_ways (enters (L ++ e ∷ []) y t) (enters_push L e y t ∙ or_from (enters L y t) (same_entry y t e) (new_for y) (and_left (eqb x y) (eqb t t) (ne_eqb x y ne))) q)
        ])
        (λ _. is_in) (λ i ic lv q. sym (lt-ltb (best L x (A s)) t (best_less L x t (A s) (omega arith) all_lower)))
        (λ _. ap (best (L ++ e ∷ []) x) (ap (λ b. A s ++ cond b (t ∷ []) []) (eq-eqb s s refl)) ∙ best_push (L ++ e ∷ []) x (A s) t ∙ cond-true (enters (L ++ e ∷ []) x t) _ _ is_in
        ∙ (let z = best_less (L ++ e ∷ []) x t (A s) (omega arith) all_lower in omega arith))
        (kept_new g L e (omega arith) (new_for x)))

    write_done_on : FollowedOn (Write s x v) (turn (Tag t) (write_done g S s x v))
    unfolding write_done reading entered counted
    write_done_on = put_on (Write s x v) (Tag t) s _ S.lanes (λ _. written_follows) (λ k ne. write_none s x v (Tag t) k (elsewhere s k t ne))

  write_on : (s x : ℕ) (v : List ℕ) → FollowedOn (Write s x v) (Steps.write g S s x v)
  write_on s x v = write_cases g S (FollowedOn (Write s x v)) (λ r. same_on (Write s x v) (Refused r) (λ k. write_none s x v (Refused r) k refl)) s x v (λ ok. write_done_on s x v ok)

  module _ (s : ℕ) (sn : s < g.n) (b : Picked) (is_picked : picked g (S.servers s) (S.servers s).waiting ≡ Some b) where
    abbrev w : Waiting
    w = b.write

    abbrev u : ℕ
    u = b.write.tag

    of : OfEntry g R L (waited g b.write)
    of = (subst (Chosen g (OfEntry g R L) (OfTag g R L)) is_picked (picked_all g (OfEntry g R L) (OfTag g R L) (λ d q. q.0) (λ y. refl) (S.servers s) (S.servers s).waiting (known.told.sourced.servers s).waiting)).0

    entered_if : (0 < u) → enters L w.object u ≡ true
    entered_if pos = ⊎_elim (λ q. absurd (let z = eqb-true u 0 q in omega arith)) (λ q. q) (or_cases (eqb u 0) (enters L w.object u) of.0)

    after : Tells (es ++ ev (Apply s) (Tag u) ∷ []) L (λ k. A k ++ cond (eqb s k) (u ∷ []) [])
    after = subst (λ l. Tells (es ++ ev (Apply s) (Tag u) ∷ []) l (λ k. A k ++ cond (eqb s k) (u ∷ []) [])) (append-nil L) (tells_push es L A tells (ev (Apply s) (Tag u)) (Apply s) (Tag u) refl refl)

    applied_follows : Follows s (newF (Apply s) (Tag u) s) (overtaken (S.servers s).reads false w.object u w.value) (S.servers s).opened
    applied_follows = subst (λ z. Follows s z (overtaken (S.servers s).reads false w.object u w.value) (S.servers s).opened) (sym (append-nil _))
        (overtake_follows g es (ev (Apply s) (Tag u)) L L A (λ k. A k ++ cond (eqb s k) (u ∷ []) []) tells after
        s (F s) (S.servers s).reads (S.servers s).opened (follows s sn) w.object u w.value false (λ n r. refl)
        (cond-true (eqb s s) (tag_at u ∷ []) [] (eq-eqb s s refl))
        (λ y q. known.unique y w.object u q (entered_if (all_entered (λ z. 0 < z) L y u (All-weaker _ (λ d. 0 < d.tag) (λ d z. z.1) L proper) q)))
        (λ low. entered_if (let z = ltb-true (best L w.object (A s)) u low in omega arith))
        (λ i ic lv q. ap (λ z. ltb z u) (sym (subst (λ y. best L y (A s) ≡ ((S.servers s).reads i).tags y) q (known.peaks.asked s i sn ic lv))))
        (λ low. ap (best L w.object) (ap (λ c. A s ++ cond c (u ∷ []) []) (eq-eqb s s refl)) ∙ best_push L w.object (A s) u
        ∙ (let z = ltb-true (best L w.object (A s)) u low in cond-true (enters L w.object u) _ _ (entered_if (omega arith)) ∙ (omega arith)))
        (sym of.1))

    apply_done_on : FollowedOn (Apply s) (turn (Tag u) (apply_done g S s b.write b.others))
    unfolding apply_done reading entered counted queued
    apply_done_on = put_on (Apply s) (Tag u) s _ S.lanes (λ _. applied_follows) (λ k ne. apply_none s (Tag u) k (elsewhere s k u ne))

  apply_on : (s : ℕ) → FollowedOn (Apply s) (Steps.apply g S s)
  apply_on s = apply_cases_at g S (FollowedOn (Apply s)) (λ r. same_on (Apply s) (Refused r) (λ k. apply_none s (Refused r) k refl)) s (same_on (Apply s) Nothing (λ k. apply_none s Nothing k refl))
      (λ b sn q. apply_done_on s sn b q)

  -- ---- deliver
  module _ (a b : ℕ) (an : a < g.n) (bn : b < g.n) (ne : a ≡ b → ⊥) where
    abbrev D : Call
    D = Deliver a b

    abbrev rs : ℕ → Read
    rs = (S.servers b).reads

    deliver_else : (w : Answer) (k : ℕ) → (k ≡ b → ⊥) → newF D w k ≡ F k
    deliver_else w k far = ap (λ z. z ++ []) (all_same (layout_of g) k 1 es (ev D w) (F k) (λ n r.
        cond-false (eqb b k && (replies_to n (ev D w).oldest && (r.is_open && not (told.is_refused (answer_at w))))) _ _ (and_left (eqb b k) _ (ne_eqb b k (λ q. far (sym q)))))) ∙ append-nil (F k)

    refused_none : (c k : ℕ) → newF D (Refused c) k ≡ F k
    refused_none c k = ap (λ z. z ++ []) (all_same (layout_of g) k 1 es (ev D (Refused c)) (F k) (λ n r.
        cond-false (eqb b k && (replies_to n (ev D (Refused c)).oldest && (r.is_open && false))) _ _ (and_right (eqb b k) _ (and_right (replies_to n (ev D (Refused c)).oldest) _ (and_right r.is_open false refl))))) ∙ append-nil (F k)

    refused_on : (c : ℕ) → FollowedOn D (turn (Refused c) S)
    refused_on c = same_on D (Refused c) (refused_none c)

    -- the front is no reply
    quiet_none : (z : Message) (ms : List Message) → S.lanes a b ≡ z ∷ ms → ((n : ℕ) → replies_to n (Some (message_at z)) ≡ false) → (w : Answer) (k : ℕ) → newF D w k ≡ F k
    quiet_none z ms q silent w k = ap (λ z. z ++ []) (all_same (layout_of g) k 1 es (ev D w) (F k) (λ n r.
        cond-false (eqb b k && (replies_to n (ev D w).oldest && (r.is_open && not (told.is_refused (answer_at w))))) _ _
        (and_right (eqb b k) _ (and_left (replies_to n (ev D w).oldest) _ (ap (λ l. replies_to n (first_of (map message_at l))) q ∙ silent n))))) ∙ append-nil (F k)

    take_on : (w : Answer) (r : Server) → Follows b (newF D w b) r.reads r.opened → FollowedOn D (turn w (take_done g S a b r))
    unfolding take_done
    take_on w r here = put_on D w b r S.lanes (λ _. here) (deliver_else w)

    take_quiet : (w : Answer) (r : Server) → r.reads ≡ rs → r.opened ≡ (S.servers b).opened → newF D w b ≡ F b → FollowedOn D (turn w (take_done g S a b r))
    take_quiet w r er eo e = take_on w r (subst (λ l. Follows b l r.reads r.opened) (sym e) (subst (λ (z : ℕ → Read). Follows b (F b) z r.opened) (sym er) (subst (Follows b (F b) rs) (sym eo) (follows b bn))))

    question_on : (o : ℕ) (m : Message) → ((k : ℕ) → newF D (Outcome o) k ≡ F k) → FollowedOn D (turn (Outcome o) (question_done g S a b m))
    unfolding question_done
    question_on o m e = same_on D (Outcome o) e

    -- the log and the applied tags are as they were
    after_deliver : (w : Answer) → Tells (es ++ ev D w ∷ []) L A
    after_deliver w = subst (λ (B : ℕ → List ℕ). Tells (es ++ ev D w ∷ []) L B) (fun_ext (λ k. append-nil (A k))) (subst (λ l. Tells (es ++ ev D w ∷ []) l (λ k. A k ++ [])) (append-nil L) (tells_push es L A tells (ev D w) D w refl refl))

    module _ (m : ℕ) (replies : (n : ℕ) → replies_to n (told.oldest_of (state_at S) (Deliver a b)) ≡ eqb m n) where
      -- no open read has the number
      none_on : (o : ℕ) → ltb (open_slot g (S.servers b) m) slots ≡ false → FollowedOn D (turn (Outcome o) (take_done g S a b (S.servers b)))
      none_on o absent = take_on (Outcome o) (S.servers b) (subst (λ l. Follows b l rs (S.servers b).opened) (sym (append-nil _))
          (none_follows g es (ev D (Outcome o)) a b m (F b) rs (S.servers b).opened (follows b bn) (λ n r. refl) replies refl (λ i lv q.
          both_ways (is_open (rs i) && eqb (rs i).number m) (seek_none slots (λ i. is_open (rs i) && eqb (rs i).number m) absent i (ltb-true i slots (and_parts (ltb i slots) (is_open (rs i)) lv).0))
          (and_from (is_open (rs i)) (eqb (rs i).number m) (and_parts (ltb i slots) (is_open (rs i)) lv).1 (eq-eqb (rs i).number m q)))))

      module _ (found : ltb (open_slot g (S.servers b) m) slots ≡ true) where
        abbrev i : ℕ
        i = open_slot g (S.servers b) m

        lv : live rs i ≡ true
        lv = and_from (ltb i slots) (is_open (rs i)) found (open_found g (S.servers b) m found).0

        number : (rs i).number ≡ m
        number = (open_found g (S.servers b) m found).1

        counted_number : (1 ≤ m) × (m ≤ 1000000)
        counted_number =
            let h = follows b bn in
            let k = h.links i lv in
            let x = k.number in let y = k.among in let c = h.count in let f = h.few in let n = number in
            (omega arith, omega arith)

        hand_on : (w : List ℕ) → FollowedOn D (turn (Outcome 3) (take_done g S a b (reading (S.servers b) (upd rs i (in_hand (rs i) a w)))))
        hand_on w = take_on (Outcome 3) (reading (S.servers b) (upd rs i (in_hand (rs i) a w))) (unfold reading in subst (λ l. Follows b l (upd rs i (in_hand (rs i) a w)) (S.servers b).opened) (sym (append-nil _))
            (hand_follows g es (ev D (Outcome 3)) a b m (F b) rs (S.servers b).opened (follows b bn) (λ n r. refl) replies refl i lv number w refl))

        settle_on : (hd : ℕ → Bool) (sy : ℕ → List ℕ) (v : List ℕ) → v ≡ kept g L (rs i).object ((rs i).tags (rs i).object)
            → (let r : Read = record { state = (rs i).state; number = (rs i).number; object = (rs i).object; tags = (rs i).tags; hand = hd; symbols = sy; value = (rs i).value; tag = (rs i).tag; way = (rs i).way } in FollowedOn D (settle g S a b i r v))
        unfolding settle reading entered
        settle_on hd sy v right =
            let p = S.servers b in
            let r : Read = record { state = (rs i).state; number = (rs i).number; object = (rs i).object; tags = (rs i).tags; hand = hd; symbols = sy; value = (rs i).value; tag = (rs i).tag; way = (rs i).way } in
            let one = turn (Outcome 4) (take_done g S a b (client_answer g p i r v)) in
            let two = turn (Outcome 4) (take_done g S a b (internal_answer g p i r v)) in
            cond_both (ltb i clients) one (unless (check (history_room g S b) 15 0) S two) (FollowedOn D)
            (λ ic. take_on (Outcome 4) (client_answer g p i r v) (subst (λ l. Follows b l (upd rs i (answered r v (r.tags r.object) 3)) p.opened) (sym (append-nil _))
            (client_follows g es (ev D (Outcome 4)) a b m (F b) rs p.opened (follows b bn) (λ n r. refl) replies refl i lv number L A (after_deliver (Outcome 4)) v (ltb-true i clients ic) refl
            (known.peaks.asked b i bn (ltb-true i clients ic) lv) right hd sy)))
            (λ _. unless_both (FollowedOn D) (check (history_room g S b) 15 0) S two (refused_on (check (history_room g S b) 15 0)) (λ _.
            take_on (Outcome 4) (internal_answer g p i r v) (subst (λ l. Follows b l (upd rs i no_read) p.opened) (sym (append-nil _))
            (internal_follows g es (ev D (Outcome 4)) a b m (F b) rs p.opened (follows b bn) (λ n r. refl) replies refl i lv number refl))))

    plain_replies : (m : ℕ) (v : List ℕ) (ms : List Message) → S.lanes a b ≡ Plain m v ∷ ms → (n : ℕ) → replies_to n (told.oldest_of (state_at S) (Deliver a b)) ≡ eqb m n
    plain_replies m v ms q n = ap (λ l. replies_to n (first_of (map message_at l))) q

    coded_replies : (m : ℕ) (v st : List ℕ) (ms : List Message) → S.lanes a b ≡ Coded m v st ∷ ms → (n : ℕ) → replies_to n (told.oldest_of (state_at S) (Deliver a b)) ≡ eqb m n
    coded_replies m v st ms q n = ap (λ l. replies_to n (first_of (map message_at l))) q

    plain_value : (m : ℕ) (v : List ℕ) (ms : List Message) → S.lanes a b ≡ Plain m v ∷ ms → ltb (open_slot g (S.servers b) m) slots ≡ true → (let r = rs (open_slot g (S.servers b) m) in v ≡ kept g L r.object (r.tags r.object))
    plain_value m v ms q found = plain_right g R L known.told.cells S known.told.stands.fine known.told.sourced known.told.valued a b an bn ne m v ms q found

    plain_fit : (m : ℕ) (v : List ℕ) (ms : List Message) → S.lanes a b ≡ Plain m v ∷ ms → ltb (open_slot g (S.servers b) m) slots ≡ true → fits g (Plain m v) ≡ true
    plain_fit m v ms q found =
        let w = counted_number m (plain_replies m v ms q) found in
        let r = rs (open_slot g (S.servers b) m) in
        let right = plain_value m v ms q found in
        plain_fits g R m v w.0 w.1 (ap length right ∙ known.told.cells.long r.object (r.tags r.object))
        (λ c lt. subst (λ z. get_or z c 0 < g.q) (sym right) (known.told.cells.below r.object (r.tags r.object) c lt))

    stated_fits : (y t : ℕ) → OfTag g R L y t → tag_fits g t ≡ true
    stated_fits y t h = ⊎_elim (λ q. subst (λ z. tag_fits g z ≡ true) (sym (eqb-true t 0 q)) zero_fits)
        (λ q. all_entered (λ z. tag_fits g z ≡ true) L y t (All-weaker _ (λ d. tag_fits g d.tag ≡ true) (λ d z. z.0) L proper) q) (or_cases (eqb t 0) (enters L y t) h)
      where
        zero_fits : tag_fits g 0 ≡ true
        zero_fits = and_from true (ltb 0 g.n && true) refl (and_from (ltb 0 g.n) true (lt-ltb 0 g.n (let w = R.servers in omega arith)) refl)

    coded_fit : (m : ℕ) (v st : List ℕ) (ms : List Message) → S.lanes a b ≡ Coded m v st ∷ ms → ltb (open_slot g (S.servers b) m) slots ≡ true → fits g (Coded m v st) ≡ true
    coded_fit m v st ms q found =
        let w = counted_number m (coded_replies m v st ms q) found in
        let all : AllByRecursion (Told g R L a (S.servers a) (S.servers b)) (Coded m v st ∷ ms) = rw q at (known.told.valued.lanes a b an bn ne) in
        let mx : Mix g R L a (λ y. get_or st y 0) v = all.0.1 in
        coded_fits g R m v st w.0 w.1 mx.long (λ c lt. subst (λ z. z < g.q) (sym (mx.cells c lt)) (mix_below g R a _)) all.0.2 (λ y yk. stated_fits y (get_or st y 0) (all.0.0 y yk))

    got_on : (z : Message) (ms : List Message) (f : Found) → S.lanes a b ≡ z ∷ ms → law.AllowedMessage g S a b z f → FollowedOn D (got g S a b z f)
    unfolding got
    got_on (Written x v h ck) ms f q ok =
        let p = S.servers b in
        let r = queued p (p.waiting ++ record { object = x; tag = tag h a; value = v; clock = ck } ∷ []) in
        unless_both (FollowedOn D) (check (ltb (length p.waiting) queue) 18 0) S (turn (Outcome 0) (take_done g S a b r)) (refused_on (check (ltb (length p.waiting) queue) 18 0))
        (λ _. take_quiet (Outcome 0) r (unfold queued in refl) (unfold queued in refl) (quiet_none (Written x v h ck) ms q (λ n. refl) (Outcome 0) b))
    got_on (Tagged x t) ms f q ok = take_quiet (Outcome 0) (Steps.tells (S.servers b) x a t) (unfold Steps.tells in refl) (unfold Steps.tells in refl) (quiet_none (Tagged x t) ms q (λ n. refl) (Outcome 0) b)
    got_on (Question m x T) ms f q ok =
        let p = S.servers b in
        let o = cond (holds p.history x (get_or T x 0)) 1 2 in
        unless_both (FollowedOn D) (check (ltb (length (S.lanes b a)) g.places) 17 0) S (turn (Outcome o) (question_done g S a b (reply g b p m x T))) (refused_on (check (ltb (length (S.lanes b a)) g.places) 17 0))
        (λ _. question_on o (reply g b p m x T) (quiet_none (Question m x T) ms q (λ n. refl) (Outcome o)))
    got_on (Plain m v) ms f q ok =
        let p = S.servers b in
        let i = open_slot g p m in
        cond_both (ltb i slots) (settle g S a b i (p.reads i) v) (turn (Outcome 5) (take_done g S a b p)) (FollowedOn D)
        (λ found. settle_on m (plain_replies m v ms q) found (p.reads i).hand (p.reads i).symbols v (plain_value m v ms q found))
        (λ absent. none_on m (plain_replies m v ms q) 5 absent)
    got_on (Coded m v st) ms f q ok =
        let p = S.servers b in
        let i = open_slot g p m in
        let r = p.reads i in
        let w = mended g p a r v st g.k in
        let r' = in_hand r a w in
        let useless = turn (Outcome 6) (take_done g S a b p) in
        let wait = turn (Outcome 3) (take_done g S a b (reading p (upd p.reads i r'))) in
        cond_both (ltb i slots) (cond (mendable g p a r st) (cond f.recovered (settle g S a b i r' f.value) wait) useless) (turn (Outcome 5) (take_done g S a b p)) (FollowedOn D)
        (λ found. cond_both (mendable g p a r st) (cond f.recovered (settle g S a b i r' f.value) wait) useless (FollowedOn D)
        (λ _. cond_both f.recovered (settle g S a b i r' f.value) wait (FollowedOn D)
        (λ rec. settle_on m (coded_replies m v st ms q) found r'.hand r'.symbols f.value
        (coded_right g R L known.told.cells S known.told.stands.fine known.told.sourced known.told.valued a b an bn ne m v st ms f q ok found rec))
        (λ _. hand_on m (coded_replies m v st ms q) found w))
        (λ lost. absurd (both_ways (mendable g p a r st) lost (mends g S known.told.stands.fine a b an bn ne m v st ms q found))))
        (λ absent. none_on m (coded_replies m v st ms q) 5 absent)

    -- what does not fit is no reply to an open read
    unfit_on : (z : Message) (ms : List Message) → S.lanes a b ≡ z ∷ ms → fits g z ≡ false → FollowedOn D (turn (Outcome 7) (take_done g S a b (S.servers b)))
    unfit_on (Written x v h ck) ms q bad = take_quiet (Outcome 7) (S.servers b) refl refl (quiet_none (Written x v h ck) ms q (λ n. refl) (Outcome 7) b)
    unfit_on (Tagged x t) ms q bad = take_quiet (Outcome 7) (S.servers b) refl refl (quiet_none (Tagged x t) ms q (λ n. refl) (Outcome 7) b)
    unfit_on (Question m x T) ms q bad = take_quiet (Outcome 7) (S.servers b) refl refl (quiet_none (Question m x T) ms q (λ n. refl) (Outcome 7) b)
    unfit_on (Plain m v) ms q bad = elim (cases_Bool (ltb (open_slot g (S.servers b) m) slots)) [
      | inl found ↦ absurd (both_ways (fits g (Plain m v)) bad (plain_fit m v ms q found))
      | inr absent ↦ none_on m (plain_replies m v ms q) 7 absent
    ]
    unfit_on (Coded m v st) ms q bad = elim (cases_Bool (ltb (open_slot g (S.servers b) m) slots)) [
      | inl found ↦ absurd (both_ways (fits g (Coded m v st)) bad (coded_fit m v st ms q found))
      | inr absent ↦ none_on m (coded_replies m v st ms q) 7 absent
    ]

    oldest_on : (l : List Message) (f : Found) → S.lanes a b ≡ l → ((m : Message) (ms : List Message) → l ≡ m ∷ ms → law.AllowedMessage g S a b m f) → FollowedOn D (oldest g S a b l f)
    unfolding oldest
    oldest_on [] f q ok = same_on D (Refused 13) (refused_none 13)
    oldest_on (m ∷ ms) f q ok = cond_both (fits g m) (got g S a b m f) (turn (Outcome 7) (take_done g S a b (S.servers b))) (FollowedOn D) (λ _. got_on m ms f q (ok m ms refl)) (λ bad. unfit_on m ms q bad)

  deliver_on : (a b : ℕ) (f : Found) → law.Allowed g S (Deliver a b) f → FollowedOn (Deliver a b) (deliver g S a b f)
  unfolding deliver
  deliver_on a b f ok = unless_both (FollowedOn (Deliver a b)) (lane_refusal g a b) S (oldest g S a b (S.lanes a b) f) (same_on (Deliver a b) (Refused (lane_refusal g a b)) (λ k. never_refused (lane_refusal g a b) k))
      (λ e. let w = lane_ends g a b e in oldest_on a b w.0 w.1 w.2 (S.lanes a b) f refl (λ m ms q. ok m ms q w.0 w.1))
    where
      never_refused : (c k : ℕ) → newF (Deliver a b) (Refused c) k ≡ F k
      never_refused c k = ap (λ z. z ++ []) (all_same (layout_of g) k 1 es (ev (Deliver a b) (Refused c)) (F k) (λ n r.
          cond-false (eqb b k && (replies_to n (ev (Deliver a b) (Refused c)).oldest && (r.is_open && false))) _ _ (and_right (eqb b k) _ (and_right (replies_to n (ev (Deliver a b) (Refused c)).oldest) _ (and_right r.is_open false refl))))) ∙ append-nil (F k)

  pub step_follows : (c : Call) (f : Found) → law.Allowed g S c f → FollowedOn c (step g S c f)
  step_follows (Write s x v) f ok = write_on s x v
  step_follows (Ask s x l) f ok = read_on s x l f
  step_follows (Collect s m l) f ok = collect_on s m l
  step_follows (Deliver a b) f ok = deliver_on a b f ok
  step_follows (Apply s) f ok = apply_on s
  step_follows (Encode s x) f ok = encode_on s x f
  step_follows (Sweep s x) f ok = sweep_on s x
