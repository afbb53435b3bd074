-- The highest applied tag of an object is the own tag or the highest held one; an open client read has it as its tag.
use Rattle.std.proofs.Common.{◌≡◌, ℕ, ◌+◌, ◌<◌, ◌≤◌, max, Bool, true, false, cond, ◌&&◌, ◌||◌, eqb, ltb, List, [], ◌∷◌, ◌++◌, sym, refl, ap, ◌∙◌, ap₂, inl, inr, ⊎_elim, arith}
use Rattle.std.specs.List.{AllByRecursion}
use Rattle.std.proofs.lemmas.Bool.{and_right, both_ways, cases_Bool, cases_eq, eq-eqb, ne_eqb, eqb-true, lt-ltb, and_parts, and_from, and_cases, or_left, or_right, cond_both}
use Rattle.rules.proofs.RankedMessages.{Message}
use Rattle.rules.proofs.RankedWords.{upd, Lanes}
use Rattle.rules.proofs.Ranked.{Code, Entry, Read, Server, State, has, holds, enters, kept, top_tag, is_open, core, slots, clients, no_read}
use Rattle.rules.proofs.RankedSteps.{Value, Found, Turn, entered, sifted, reading, moved, new_read, opening, answered, overtaken, open_done, free_slot, read, collect_done, collect, move_done, enter_done, encode, swept, sweep_done, sweep, reply, question_done, take_done, deliver}
use Rattle.rules.proofs.Words.{upd_same, upd_other, enters_push, top_push, top_bound, top_found}
use Rattle.rules.proofs.Sweep.{Idle, below, level}
use Rattle.rules.proofs.Frames.{Fine}
use Rattle.rules.proofs.RankedFacts.{Lawful, Tested, only, best}
use Rattle.rules.proofs.Calls.{sweep_idle, sweep_no_new}
use Rattle.rules.proofs.Source.{Sourced}
use Rattle.rules.proofs.Algebra.{Cells}
use Rattle.rules.proofs.Values.{live, OfEntry, OfTag, Valued, kept_right}
use Rattle.rules.proofs.Valuing.{closed_same, decoded_right}
use Rattle.rules.proofs.Cases.{read_cases, collect_cases, sweep_cases, encode_cases, deliver_cases, Entering, as_was, answer_of, Receives}

-- the highest tag of x that a server owns or holds
abbrev pub peak : Server → ℕ → ℕ
peak p x = max (p.own x) (top_tag x p.history)

-- ---- the best of a list of tags
pub best_push : (L : List Entry) (x : ℕ) (A : List ℕ) (t : ℕ) → best L x (A ++ t ∷ []) ≡ cond (enters L x t) (max (best L x A) t) (best L x A)
best_push L x [] t = elim (cases_Bool (enters L x t)) [ inl q ↦ rw q (omega arith) | inr q ↦ rw q ]
best_push L x (u ∷ A) t = elim (cases_Bool (enters L x u)) [
  | inl q ↦ rw q (ap (max u) (best_push L x A t) ∙ elim (cases_Bool (enters L x t)) [ inl w ↦ rw w (omega arith) | inr w ↦ rw w ])
  | inr q ↦ rw q (best_push L x A t)
]

pub best_log : (L : List Entry) (e : Entry) (x : ℕ) (A : List ℕ) → AllByRecursion (λ u. u ≡ e.tag → ⊥) A → best (L ++ e ∷ []) x A ≡ best L x A
best_log L e x [] h = refl
best_log L e x (u ∷ A) h =
    let same : enters (L ++ e ∷ []) x u ≡ enters L x u =
    enters_push L e x u ∙ ap (λ b. enters L x u || b) (and_right (eqb e.object x) (eqb e.tag u) (ne_eqb e.tag u (λ q. h.0 (sym q)))) ∙ or_none (enters L x u) in
    rw same (ap (λ b. cond (enters L x u) (max u b) b) (best_log L e x A h.1))
  where
    or_none : (b : Bool) → (b || false) ≡ b
    or_none true = refl
    or_none false = refl

-- the open reads of x that an overtaking write leaves have tags that are not lower
pub overtaken_left : (rs : ℕ → Read) (all : Bool) (x t : ℕ) (v : List ℕ) (i : ℕ) → i < clients → is_open (overtaken rs all x t v i) ≡ true → (rs i).object ≡ x → (all || ltb ((rs i).tags x) t) ≡ false
unfolding overtaken
overtaken_left rs all x t v i ic = cond_both (ltb i clients && (is_open (rs i) && (eqb (rs i).object x && (all || ltb ((rs i).tags x) t)))) (answered (rs i) v t 4) (rs i)
    (λ r. is_open r ≡ true → (rs i).object ≡ x → (all || ltb ((rs i).tags x) t) ≡ false)
    (λ _ e. absurd (both_ways false refl e))
    (λ q o e. ⊎_elim (λ w. absurd (both_ways (ltb i clients) w (lt-ltb i clients ic)))
    (λ w. ⊎_elim (λ z. absurd (both_ways (is_open (rs i)) z o))
    (λ z. ⊎_elim (λ y. absurd (both_ways (eqb (rs i).object x) y (eq-eqb (rs i).object x e))) (λ y. y) (and_cases (eqb (rs i).object x) (all || ltb ((rs i).tags x) t) z))
    (and_cases (is_open (rs i)) (eqb (rs i).object x && (all || ltb ((rs i).tags x) t)) w))
    (and_cases (ltb i clients) (is_open (rs i) && (eqb (rs i).object x && (all || ltb ((rs i).tags x) t))) q))

module _ (g : Code) where
  pub record Peaks (L : List Entry) (A : ℕ → List ℕ) (S : State) : Type 0 where
    pub peaks : (s : ℕ) → s < g.n → (x : ℕ) → best L x (A s) ≡ peak (S.servers s) x
    pub asked : (s i : ℕ) → s < g.n → i < clients → live (S.servers s) i ≡ true → best L ((S.servers s).reads i).object (A s) ≡ ((S.servers s).reads i).tags ((S.servers s).reads i).object

  module _ (L : List Entry) (A : ℕ → List ℕ) (S : State) (f : Fine g S) (h : Peaks L A S) where
    abbrev Kept : Turn → Type 0
    Kept t = Peaks L A t.next

    -- a server changes: its peaks stay, and a client's open read is as it was, or has the peak as its tag
    put_peaks : (s : ℕ) (r : Server) (Ln : Lanes) → ((x : ℕ) → peak r x ≡ peak (S.servers s) x)
        → ((i : ℕ) → i < clients → live r i ≡ true → (s < g.n) → best L (r.reads i).object (A s) ≡ (r.reads i).tags (r.reads i).object) → Peaks L A (record { servers = upd S.servers s r; lanes = Ln })
    put_peaks s r Ln even reads = record {
      peaks = λ k kn x. elim (cases_eq k s) [
        | inl e ↦ rw (e, upd_same S.servers s r) (h.peaks s (rw e at kn) x ∙ sym (even x))
        | inr ne ↦ rw (upd_other S.servers s k r ne) (h.peaks k kn x)
      ];
      asked = λ k i kn ic lv. elim (cases_eq k s) [
        | inl e ↦ rw (e, upd_same S.servers s r) (reads i ic (rw (e, upd_same S.servers s r) at lv) (rw e at kn))
        | inr ne ↦ rw (upd_other S.servers s k r ne) (h.asked k i kn ic (rw (upd_other S.servers s k r ne) at lv))
      ];
    }

    -- reads as they were
    reads_same : (s : ℕ) (r : Server) → ((i : ℕ) → live r i ≡ true → r.reads i ≡ (S.servers s).reads i) → (i : ℕ) → i < clients → live r i ≡ true → (s < g.n) → best L (r.reads i).object (A s) ≡ (r.reads i).tags (r.reads i).object
    reads_same s r er i ic lv sn =
        let a = and_parts (ltb i slots) (is_open (r.reads i)) lv in
        rw (er i lv) (h.asked s i sn ic (and_from (ltb i slots) (is_open ((S.servers s).reads i)) a.0 (ap is_open (sym (er i lv)) ∙ a.1)))

    entered_peak : (p : Server) (e : Entry) → e.tag ≤ p.own e.object → (x : ℕ) → max (p.own x) (top_tag x (p.history ++ e ∷ [])) ≡ peak p x
    entered_peak p e le x = rw (top_push x p.history e) (elim (cases_Bool (eqb e.object x)) [
      | inl q ↦ let w = eqb-true e.object x q in let l : e.tag ≤ p.own x = rw w at le in rw q (omega arith)
      | inr q ↦ rw q
    ])

    open_peaks : (s i x : ℕ) → (i < clients → (s < g.n) × (top_tag x (S.servers s).history < (S.servers s).own x)) → Peaks L A (open_done g S s i x)
    unfolding open_done opening
    open_peaks s i x low =
        let p = S.servers s in
        let nr = new_read p s x in
        put_peaks s (opening p s i x) _ (λ y. refl) (λ j jc lv sn. elim (cases_eq j i) [
          | inl e ↦ rw (e, upd_same p.reads i nr) (h.peaks s sn x ∙ (let l = low (rw e at jc) in let t = l.1 in omega arith))
          | inr ne ↦ let u = upd_other p.reads i j nr ne in rw u (h.asked s j sn jc (rw u at lv))
        ])

    pub read_peaks : (s x l : ℕ) (d : Found) → Kept (read g S s x l d)
    read_peaks s x l d = read_cases g S Kept (λ r. h) s x l d (λ _ _ _. h) (λ _ _ _ _. h) (λ sn xk lt _ _. open_peaks s (free_slot g (S.servers s)) x (λ _. (sn, lt)))

    collect_done_peaks : (s i : ℕ) → Peaks L A (collect_done g S s i)
    unfolding collect_done reading
    collect_done_peaks s i = put_peaks s (reading (S.servers s) (upd (S.servers s).reads i no_read)) _ (λ y. refl) (reads_same s (reading (S.servers s) (upd (S.servers s).reads i no_read)) (closed_same (S.servers s).reads i no_read refl))

    pub collect_peaks : (s m l : ℕ) → Kept (collect g S s m l)
    collect_peaks s m l = collect_cases g S Kept (λ r. h) s m l h (λ i _ _ _ _. collect_done_peaks s i)

    move_peaks : (s x t : ℕ) (v : List ℕ) → (S.servers s).own x < t → enters (S.servers s).history x t ≡ true → Peaks L A (move_done g S s x t v)
    unfolding move_done moved
    move_peaks s x t v lt e =
        let p = S.servers s in
        let b = top_bound x t p.history e in
        put_peaks s (moved p s x t v) _ (λ y. elim (cases_eq y x) [
          | inl q ↦ rw (q, upd_same p.own x t) (omega arith)
          | inr ne ↦ rw (upd_other p.own x y t ne) refl
        ])
        (reads_same s (moved p s x t v) (λ i w. refl))

    enter_peaks : (s x : ℕ) (v : List ℕ) → Peaks L A (enter_done g S s (record { object = x; tag = (S.servers s).own x; value = v }))
    unfolding enter_done entered
    enter_peaks s x v =
        let p = S.servers s in
        let e : Entry = record { object = x; tag = p.own x; value = v } in
        put_peaks s (entered p e) _ (entered_peak p e (omega arith)) (reads_same s (entered p e) (λ i w. refl))

    pub encode_peaks : (s x : ℕ) (d : Found) → Kept (encode g S s x d)
    encode_peaks s x d = encode_cases g S Kept (λ r. h) s x d (λ o _. h) (λ t v _ _ lt e. move_peaks s x t v lt e) (λ _ _ _. enter_peaks s x d.value)
        (λ _ _ _ _ _ _. open_peaks s (clients + x) x (λ lt. absurd (omega arith)))

    idle_low : (s x u : ℕ) → s < g.n → Idle g.n g.k (has g) (core S) s x u → u ≤ (S.servers s).own x
    idle_low s x u sn (below lt fr) = let w = lt s sn in let z = f.self s x in omega arith
    idle_low s x u sn (level e all) = omega arith

    sweep_top : (s x y : ℕ) → s < g.n → max ((S.servers s).own y) (top_tag y (swept g (S.servers s) x)) ≡ peak (S.servers s) y
    sweep_top s x y sn =
        let p = S.servers s in
        let new = top_tag y (swept g p x) in
        let old = top_tag y p.history in
        let down : new ≤ old = ⊎_elim (λ (q : new ≡ 0). omega arith) (λ q. top_bound y new p.history (sweep_no_new g S f s x y new q)) (top_found y (swept g p x)) in
        let up : old ≤ max (p.own y) new = ⊎_elim (λ (q : old ≡ 0). omega arith)
        (λ q. ⊎_elim (λ w. let l = top_bound y old (swept g p x) w in omega arith) (λ w. let l = idle_low s y old sn w in omega arith) (sweep_idle g S f s x y old q)) (top_found y p.history) in
        omega arith

    sweep_done_peaks : (s x : ℕ) → s < g.n → Peaks L A (sweep_done g S s x)
    unfolding sweep_done sifted
    sweep_done_peaks s x sn = put_peaks s (sifted (S.servers s) (swept g (S.servers s) x)) _ (λ y. sweep_top s x y sn) (reads_same s (sifted (S.servers s) (swept g (S.servers s) x)) (λ i w. refl))

    pub sweep_peaks : (s x : ℕ) → Kept (sweep g S s x)
    sweep_peaks s x = sweep_cases g S Kept (λ r. h) s x (λ sn _. sweep_done_peaks s x sn)

    -- ---- deliver
    history_peak : (p r : Server) → r.own ≡ p.own → ((i : ℕ) → live p i ≡ true → (y : ℕ) → (p.reads i).tags y ≤ p.own y) → Entering p r → (x : ℕ) → peak r x ≡ peak p x
    history_peak p r eo low (as_was e) x = ap₂ (λ (o : ℕ → ℕ) (es : List Entry). max (o x) (top_tag x es)) eo e
    history_peak p r eo low (answer_of i v lv e) x = ap₂ (λ (o : ℕ → ℕ) (es : List Entry). max (o x) (top_tag x es)) eo e
        ∙ entered_peak p (record { object = (p.reads i).object; tag = (p.reads i).tags (p.reads i).object; value = v }) (low i lv (p.reads i).object) x

    take_peaks : (a b : ℕ) (r : Server) → Receives a (S.lanes a b) (S.servers b) r → Peaks L A (take_done g S a b r)
    unfolding take_done
    take_peaks a b r q = put_peaks b r _ (history_peak (S.servers b) r q.own (λ i lv y. (f.reads b i lv).1 y) q.history)
        (λ i ic lv bn. let w = q.reads i lv in
        ap (λ z. best L z (A b)) w.object ∙ h.asked b i bn ic w.was ∙ sym (ap₂ (λ (x : ℕ) (T : ℕ → ℕ). T x) w.object w.tags))

    question_peaks : (a b : ℕ) (m : Message) → Peaks L A (question_done g S a b m)
    unfolding question_done
    question_peaks a b m = record { peaks = h.peaks; asked = h.asked }

    pub deliver_peaks : (a b : ℕ) (d : Found) → Kept (deliver g S a b d)
    deliver_peaks a b d = deliver_cases g S Kept (λ r. h) a b d (λ o r q _. take_peaks a b r q) (λ m v st ms _ _ _ _ _ _ q. take_peaks a b _ q) (λ o m x T. question_peaks a b (reply g b (S.servers b) m x T))

    -- ---- a read that is answered at once is answered by the latest
    pub read_latest : (R : Lawful g) (cells : Cells g R L) (src : Sourced g (OfEntry g R L) (OfTag g R L) S) (val : Valued g R L S) (s x l : ℕ) (d : Found)
        → (s < g.n → x < g.k → Tested g (only g s) (λ _. (S.servers s).symbol) x d)
        → (v : List ℕ) (t w : ℕ) → (read g S s x l d).answer ≡ Value v t w → (t ≡ best L x (A s)) × (v ≡ kept g L x t)
    read_latest R cells src val s x l d ok v t w = read_cases g S (λ z. z.answer ≡ Value v t w → (t ≡ best L x (A s)) × (v ≡ kept g L x t)) (λ r e. absurd (let q : ◌≡◌ {A = ℕ} 0 1 = cc in omega arith)) s x l d
        (λ sn xk le e.
        let p = S.servers s in
        let et : top_tag x p.history ≡ t = cc in
        let ev : kept g p.history x (top_tag x p.history) ≡ v = cc in
        let b = h.peaks s sn x in
        (omega arith, sym ev ∙ kept_right g R L p.history x (top_tag x p.history) cells (src.servers s).history (held_top p x) ∙ ap (kept g L x) et))
        (λ sn xk le rec e.
        let p = S.servers s in
        let et : p.own x ≡ t = cc in
        let ev : d.value ≡ v = cc in
        let b = h.peaks s sn x in
        (omega arith, sym ev ∙ decoded_right g R L cells (only g s) (λ _. p.symbol) x d.value p.own xk ((ok sn xk).decoded rec) (λ j jn q. rw (eqb-true j s q) (val.servers s sn).symbol) ∙ ap (kept g L x) et))
        (λ sn xk lt rec _ e. absurd (let q : ◌≡◌ {A = ℕ} 0 1 = cc in omega arith))
      where
        held_top : (p : Server) (x : ℕ) → holds p.history x (top_tag x p.history) ≡ true
        held_top p x = ⊎_elim (λ q. or_left (eqb (top_tag x p.history) 0) (enters p.history x (top_tag x p.history)) (eq-eqb (top_tag x p.history) 0 q))
            (λ q. or_right (eqb (top_tag x p.history) 0) (enters p.history x (top_tag x p.history)) q) (top_found x p.history)
