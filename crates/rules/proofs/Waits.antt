-- The servers in hand of an open read do not recover its object, in any run.
use Rattle.std.proofs.Common.{◌≡◌, ℕ, ◌+◌, ◌<◌, Bool, true, false, ltb, ◌⊎◌, List, sym, refl, ap, ◌∙◌, inl, inr, ⊎_elim}
use Rattle.std.proofs.lemmas.Bool.{both_ways, cases_eq, and_parts, and_from}
use Rattle.rules.proofs.RankedMessages.{Message, Coded}
use Rattle.rules.proofs.RankedWords.{upd, Lanes}
use Rattle.rules.proofs.Ranked.{Code, Entry, Waiting, Read, Server, State, is_open, slots, clients, no_read}
use Rattle.rules.proofs.RankedSteps.{Call, Write, Ask, Collect, Deliver, Apply, Encode, Sweep, Found, Turn, entered, counted, queued, sifted, reading, moved, new_read, opening, in_hand, write_tag, write_done, open_done, free_slot, collect_done, wait_tag, apply_done, move_done, enter_done, swept, sweep_done, reply, question_done, open_slot, take_done, mended, step}
use Rattle.rules.proofs.Words.{upd_same, upd_other}
use Rattle.rules.proofs.RankedFacts.{Tested, only, Allowed, Recovers, Waits}
use Rattle.rules.proofs.Calls.{overtaken_open}
use Rattle.rules.proofs.Values.{live}
use Rattle.rules.proofs.Valuing.{closed_same}
use Rattle.rules.proofs.Cases.{write_cases, apply_cases, read_cases, collect_cases, sweep_cases, encode_cases, deliver_cases}

not_recovered : (g : Code) (set : ℕ → Bool) (symbols : ℕ → List ℕ) (x : ℕ) (f : Found) → Tested g set symbols x f → f.recovered ≡ false → Recovers g set x → ⊥
not_recovered g set symbols x f t e r = both_ways f.recovered e (t.test.1 r)

module _ (g : Code) (S : State) (h : Waits g S) where
  abbrev Kept : Turn → Type 0
  Kept t = Waits g t.next

  put_waits : (s : ℕ) (r : Server) (Ln : Lanes) → ((i : ℕ) → live r i ≡ true → s < g.n → (r.reads i ≡ (S.servers s).reads i) ⊎ (Recovers g (r.reads i).hand (r.reads i).object → ⊥)) → Waits g (record { servers = upd S.servers s r; lanes = Ln })
  put_waits s r Ln reads k i kn = elim (cases_eq k s) [
    | inl e ↦ rw (e, upd_same S.servers s r) (λ lv. let sn : s < g.n = rw e at kn in ⊎_elim (λ (q : r.reads i ≡ (S.servers s).reads i).
        let a = and_parts (ltb i slots) (is_open (r.reads i)) lv in
        rw q (h s i sn (and_from (ltb i slots) (is_open ((S.servers s).reads i)) a.0 (ap is_open (sym q) ∙ a.1)))) (λ q. q) (reads i lv sn))
    | inr ne ↦ rw (upd_other S.servers s k r ne) (h k i kn)
  ]

  write_done_waits : (s x : ℕ) (v : List ℕ) → Waits g (write_done g S s x v)
  unfolding write_done reading entered counted
  write_done_waits s x v = put_waits s _ S.lanes (λ i lv _. inl (overtaken_open (S.servers s).reads true x (write_tag g (S.servers s) s) v i (and_parts (ltb i slots) _ lv).1))

  apply_done_waits : (s : ℕ) (v : Waiting) (vs : List Waiting) → Waits g (apply_done g S s v vs)
  unfolding apply_done reading entered counted queued
  apply_done_waits s v vs = put_waits s _ S.lanes (λ i lv _. inl (overtaken_open (S.servers s).reads false v.object (wait_tag g v) v.value i (and_parts (ltb i slots) _ lv).1))

  open_waits : (s i x : ℕ) → (Recovers g (only g s) x → ⊥) → Waits g (open_done g S s i x)
  unfolding open_done opening
  open_waits s i x closed = put_waits s (opening (S.servers s) s i x) S.lanes (λ j lv _. elim (cases_eq j i) [
    | inl e ↦ inr (rw (e, upd_same (S.servers s).reads i (new_read (S.servers s) s x)) closed)
    | inr ne ↦ inl (upd_other (S.servers s).reads i j (new_read (S.servers s) s x) ne)
  ])

  collect_done_waits : (s i : ℕ) → Waits g (collect_done g S s i)
  unfolding collect_done reading
  collect_done_waits s i = put_waits s (reading (S.servers s) (upd (S.servers s).reads i no_read)) S.lanes (λ j lv _. inl (closed_same (S.servers s).reads i no_read refl j lv))

  sweep_done_waits : (s x : ℕ) → Waits g (sweep_done g S s x)
  unfolding sweep_done sifted
  sweep_done_waits s x = put_waits s (sifted (S.servers s) (swept g (S.servers s) x)) S.lanes (λ i lv _. inl refl)

  move_waits : (s x t : ℕ) (v : List ℕ) → Waits g (move_done g S s x t v)
  unfolding move_done moved
  move_waits s x t v = put_waits s (moved (S.servers s) s x t v) S.lanes (λ i lv _. inl refl)

  enter_waits : (s : ℕ) (e : Entry) → Waits g (enter_done g S s e)
  unfolding enter_done entered
  enter_waits s e = put_waits s (entered (S.servers s) e) S.lanes (λ i lv _. inl refl)

  take_waits : (a b : ℕ) (r : Server) → ((i : ℕ) → live r i ≡ true → r.reads i ≡ (S.servers b).reads i) → Waits g (take_done g S a b r)
  unfolding take_done
  take_waits a b r er = put_waits b r S.lanes (λ i lv _. inl (er i lv))

  question_waits : (a b : ℕ) (m : Message) → Waits g (question_done g S a b m)
  unfolding question_done
  question_waits a b m = h

  hand_waits : (a b i : ℕ) (r : Read) → (Recovers g r.hand r.object → ⊥) → Waits g (take_done g S a b (reading (S.servers b) (upd (S.servers b).reads i r)))
  unfolding take_done reading
  hand_waits a b i r closed = put_waits b (reading (S.servers b) (upd (S.servers b).reads i r)) S.lanes (λ j lv _. elim (cases_eq j i) [
    | inl e ↦ inr (rw (e, upd_same (S.servers b).reads i r) closed)
    | inr ne ↦ inl (upd_other (S.servers b).reads i j r ne)
  ])

  pub step_waits : (c : Call) (f : Found) → Allowed g S c f → Waits g (step g S c f).next
  step_waits (Write s x v) f ok = write_cases g S Kept (λ r. h) s x v (λ _. write_done_waits s x v)
  step_waits (Ask s x l) f ok = read_cases g S Kept (λ r. h) s x l f (λ _ _ _. h) (λ _ _ _ _. h)
      (λ sn xk _ no_rec _. open_waits s (free_slot g (S.servers s)) x (not_recovered g (only g s) (λ _. (S.servers s).symbol) x f (ok sn xk) no_rec))
  step_waits (Collect s m l) f ok = collect_cases g S Kept (λ r. h) s m l h (λ i _ _ _ _. collect_done_waits s i)
  step_waits (Deliver a b) f ok = deliver_cases g S Kept (λ r. h) a b f (λ o r _ er. take_waits a b r er)
      (λ m v st ms an bn e lt no_rec mend _.
      let p = S.servers b in
      let i = open_slot g p m in
      let r = in_hand (p.reads i) a (mended g p a (p.reads i) v st g.k) in
      hand_waits a b i r (not_recovered g r.hand r.symbols r.object f (ok (Coded m v st) ms e an bn lt mend) no_rec))
      (λ o m x T. question_waits a b (reply g b (S.servers b) m x T))
  step_waits (Apply s) f ok = apply_cases g S Kept (λ r. h) s h (λ b _. apply_done_waits s b.write b.others)
  step_waits (Encode s x) f ok = encode_cases g S Kept (λ r. h) s x f (λ o _. h) (λ t v _ _ _ _. move_waits s x t v) (λ _ _ _. enter_waits s (record { object = x; tag = (S.servers s).own x; value = f.value }))
      (λ sn xk _ no_rec _ _. open_waits s (clients + x) x (not_recovered g (only g s) (λ _. (S.servers s).symbol) x f (ok sn xk) no_rec))
  step_waits (Sweep s x) f ok = sweep_cases g S Kept (λ r. h) s x (λ _ _. sweep_done_waits s x)
