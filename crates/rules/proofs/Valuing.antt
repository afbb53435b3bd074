-- Every call keeps the values right.
use Rattle.std.proofs.Common.{◌≡◌, ℕ, ◌+◌, ◌-◌, ◌<◌, Bool, true, false, cond, not, ◌&&◌, ◌||◌, eqb, ltb, leb, List, [], ◌∷◌, ◌++◌, length, get_or, Some, None, Option, sym, refl, ap, ◌∙◌, inl, inr, ⊎_elim, arith}
use Rattle.std.specs.List.{AllByRecursion}
use Rattle.std.proofs.lemmas.Bool.{both_ways, cases_eq, eqb-true, leb-false, and_parts, and_from, or_right, not-false, cond_both}
use Rattle.rules.proofs.RankedMessages.{Message, Written, Tagged, Question, height, server}
use Rattle.rules.proofs.RankedWords.{upd, listed, spread}
use Rattle.rules.proofs.Ranked.{Code, Entry, Waiting, Read, Server, State, has, holds, enters, kept, highest, top_tag, swap, is_open, slots, clients, most_reads, no_read}
use Rattle.std.proofs.lemmas.List.FromFn.{get_or-map-range_with_len, fill_by_all}
use Rattle.rules.proofs.RankedSteps.{Tag, Value, Number, Still, Outcome, Count, Found, Turn, turn, check, unless, write_refusal, open_refusal, read_refusal, read_found, collect_refusal, collect_at, object_refusal, entered, counted, queued, sifted, reading, moved, new_read, opening, overtaken, Picked, room, history_room, write_tag, write_done, write, open_done, free_slot, open_read, from_history, from_symbol, read, client_slot, collect_done, collect, wait_tag, picked, apply_done, apply_picked, apply, move_done, enter_done, encode_contained, within, encode_other, encode, swept, sweep_done, sweep}
use Rattle.rules.proofs.Words.{upd_same, upd_other, highest_found}
use Rattle.rules.proofs.Frames.{Fine}
use Rattle.std.proofs.ByRecursion.{All-push}
use Rattle.rules.proofs.RankedFacts.{mix, Lawful, Decoded}
use Rattle.rules.proofs.Calls.{unless_both, object_server, object_object, read_server, overtaken_open, read_object}
use Rattle.rules.proofs.Source.{Sourced}
use Rattle.rules.proofs.Algebra.{Cells, Mix, mix_symbol, mix_tags, swap_mix}
use Rattle.rules.proofs.Values.{live, StillReads, OfEntry, OfTag, Right, Told, Valued, kept_right, put_valued}

pub still_same : (p r : Server) → ((i : ℕ) → live r i ≡ true → r.reads i ≡ p.reads i) → StillReads p r
still_same p r h i e =
    let q = h i e in
    let a = and_parts (ltb i slots) (is_open (r.reads i)) e in
    inl (record {
      was = and_from (ltb i slots) (is_open (p.reads i)) a.0 (ap is_open (sym q) ∙ a.1);
      number = ap (λ (z : Read). z.number) q;
      object = ap (λ (z : Read). z.object) q;
      tags = ap (λ (z : Read). z.tags) q;
    })

-- a place that gets a read that is not open leaves the open reads
pub closed_same : (rs : ℕ → Read) (i : ℕ) (q : Read) → is_open q ≡ false → (k : ℕ) → (ltb k slots && is_open (upd rs i q k)) ≡ true → upd rs i q k ≡ rs k
closed_same rs i q c k e = elim (cases_eq k i) [
  | inl w ↦ absurd (both_ways (is_open q) c (ap is_open (sym (ap (upd rs i q) w ∙ upd_same rs i q)) ∙ (and_parts (ltb k slots) (is_open (upd rs i q k)) e).1))
  | inr ne ↦ upd_other rs i k q ne
]

-- a list by its cells
cells_same : (n : ℕ) (u v : List ℕ) → length u ≡ n → length v ≡ n → ((c : ℕ) → c < n → get_or u c 0 ≡ get_or v c 0) → u ≡ v
cells_same n u v hu hv e = fill_by_all (λ c. get_or v c 0) u n 0 hu e ∙ sym (fill_by_all (λ c. get_or v c 0) v n 0 hv (λ c l. refl))

module _ (g : Code) (R : Lawful g) (L : List Entry) (cells : Cells g R L) where
  pub right_same : (s : ℕ) (p r : Server) → Right g R L s p → r.own ≡ p.own → r.symbol ≡ p.symbol → ((i : ℕ) → live r i ≡ true → r.reads i ≡ p.reads i) → Right g R L s r
  right_same s p r h eo es er = record {
    symbol = record { long = ap length es ∙ h.symbol.long; cells = λ c lt. ap (λ v. get_or v c 0) es ∙ h.symbol.cells c lt ∙ ap (λ (T : ℕ → ℕ). mix g s (λ y. get_or (kept g L y (T y)) c 0)) (sym eo) };
    object = λ i e. rw (er i e) (h.object i (was i e));
    hand = λ i e j jn w. rw (er i e) (h.hand i (was i e) j jn (rw (er i e) at w));
  }
    where
      was : (i : ℕ) → live r i ≡ true → live p i ≡ true
      was i e = let a = and_parts (ltb i slots) (is_open (r.reads i)) e in and_from (ltb i slots) (is_open (p.reads i)) a.0 (ap is_open (sym (er i e)) ∙ a.1)

  -- the decoded value is the one under the tag
  pub decoded_right : (set : ℕ → Bool) (symbols : ℕ → List ℕ) (x : ℕ) (v : List ℕ) (T : ℕ → ℕ) → x < g.k → Decoded g set symbols x v → ((j : ℕ) → j < g.n → set j ≡ true → Mix g R L j T (symbols j)) → v ≡ kept g L x (T x)
  decoded_right set symbols x v T xk d h = d.agrees (λ y. kept g L y (T y)) (λ y yk. record { long = cells.long y (T y); elements = λ c lt. cells.below y (T y) c lt })
      (λ s sn e. mix_symbol g R L s T (symbols s) (h s sn e))

  module _ (S : State) (f : Fine g S) (src : Sourced g (OfEntry g R L) (OfTag g R L) S) (h : Valued g R L S) where
    abbrev Kept : Turn → Type 0
    Kept t = Valued g R L t.next

    -- a server changes, with its open reads, own tags and symbol as they were, and lanes as they were
    plain_put : (s : ℕ) (r : Server) → r.own ≡ (S.servers s).own → r.symbol ≡ (S.servers s).symbol → ((i : ℕ) → live r i ≡ true → r.reads i ≡ (S.servers s).reads i)
        → Valued g R L (record { servers = upd S.servers s r; lanes = S.lanes })
    plain_put s r eo es er = put_valued g R L S s r S.lanes f h (λ sn. right_same s (S.servers s) r (h.servers s sn) eo es er) (still_same (S.servers s) r er) (λ a b an bn ne q. q)

    spread_told : (P : ℕ → ℕ → Message → Type 0) (i : ℕ) (m : Message) (a b : ℕ) → (a ≡ i → P a b m) → AllByRecursion (P a b) (S.lanes a b) → AllByRecursion (P a b) (spread S.lanes i g.n m a b)
    unfolding spread
    spread_told P i m a b new q = cond_both (eqb a i && (ltb b g.n && not (eqb b i))) (S.lanes a b ++ m ∷ []) (S.lanes a b) (AllByRecursion (P a b))
        (λ e. All-push (P a b) (S.lanes a b) m q (new (eqb-true a i (and_parts (eqb a i) (ltb b g.n && not (eqb b i)) e).0))) (λ _. q)

    -- ---- write, apply, collect, sweep
    write_done_valued : (s x : ℕ) (v : List ℕ) → Valued g R L (write_done g S s x v)
    unfolding write_done reading entered counted
    write_done_valued s x v =
        let p = S.servers s in
        let t = write_tag g p s in
        let c = counted p s (p.clock s + 1) (p.top + 1) in
        let r = reading (entered c (record { object = x; tag = t; value = v })) (overtaken p.reads true x t v) in
        let m = Written x v (p.top + 1) (listed g.n c.clock) in
        let er : (i : ℕ) → live r i ≡ true → r.reads i ≡ p.reads i = λ i e. overtaken_open p.reads true x t v i (and_parts (ltb i slots) (is_open (r.reads i)) e).1 in
        put_valued g R L S s r (spread S.lanes s g.n m) f h (λ sn. right_same s p r (h.servers s sn) refl refl er) (still_same p r er)
        (λ a b an bn ne q. spread_told (λ a b. Told g R L a (upd S.servers s r a) (upd S.servers s r b)) s m a b (λ _. tt) q)

    pub write_valued : (s x : ℕ) (v : List ℕ) → Kept (write g S s x v)
    unfolding write
    write_valued s x v = unless_both Kept (write_refusal g S s x v) S (turn (Tag (write_tag g (S.servers s) s)) (write_done g S s x v)) h (λ _. write_done_valued s x v)

    apply_done_valued : (s : ℕ) (v : Waiting) (vs : List Waiting) → Valued g R L (apply_done g S s v vs)
    unfolding apply_done reading entered counted queued
    apply_done_valued s v vs =
        let p = S.servers s in
        let t = wait_tag g v in
        let r = reading (entered (counted (queued p vs) (server v.tag) (get_or v.clock (server v.tag) 0) (height v.tag)) (record { object = v.object; tag = t; value = v.value })) (overtaken p.reads false v.object t v.value) in
        plain_put s r refl refl (λ i e. overtaken_open p.reads false v.object t v.value i (and_parts (ltb i slots) (is_open (r.reads i)) e).1)

    picked_valued : (s : ℕ) (o : Option Picked) → Kept (apply_picked g S s o)
    unfolding apply_picked
    picked_valued s None = h
    picked_valued s (Some b) = unless_both Kept (check (history_room g S s) 15 0) S (turn (Tag (wait_tag g b.write)) (apply_done g S s b.write b.others)) h (λ _. apply_done_valued s b.write b.others)

    pub apply_valued : (s : ℕ) → Kept (apply g S s)
    unfolding apply
    apply_valued s = unless_both Kept (check (ltb s g.n) 7 0) S (apply_picked g S s (picked g (S.servers s) (S.servers s).waiting)) h (λ _. picked_valued s (picked g (S.servers s) (S.servers s).waiting))

    collect_done_valued : (s i : ℕ) → Valued g R L (collect_done g S s i)
    unfolding collect_done reading
    collect_done_valued s i = plain_put s (reading (S.servers s) (upd (S.servers s).reads i no_read)) refl refl (closed_same (S.servers s).reads i no_read refl)

    pub collect_valued : (s m l : ℕ) → Kept (collect g S s m l)
    unfolding collect collect_at
    collect_valued s m l =
        let i = client_slot g (S.servers s) m in
        let r = (S.servers s).reads i in
        let out = turn (Value r.value r.tag r.way) (collect_done g S s i) in
        unless_both Kept (collect_refusal g S s m l) S (cond (is_open r) (turn Still S) out) h (λ _. cond_both (is_open r) (turn Still S) out Kept (λ _. h) (λ _. collect_done_valued s i))

    sweep_done_valued : (s x : ℕ) → Valued g R L (sweep_done g S s x)
    unfolding sweep_done sifted
    sweep_done_valued s x = plain_put s (sifted (S.servers s) (swept g (S.servers s) x)) refl refl (λ i e. refl)

    pub sweep_valued : (s x : ℕ) → Kept (sweep g S s x)
    unfolding sweep
    sweep_valued s x = unless_both Kept (object_refusal g s x) S (turn (Count (length (S.servers s).history - length (swept g (S.servers s) x))) (sweep_done g S s x)) h (λ _. sweep_done_valued s x)

    -- ---- a read is opened
    opening_right : (s i x : ℕ) → s < g.n → x < g.k → Right g R L s (opening (S.servers s) s i x)
    unfolding opening
    opening_right s i x sn xk =
        let p = S.servers s in
        let q = h.servers s sn in
        let rs = upd p.reads i (new_read p s x) in
        record {
          symbol = q.symbol;
          object = λ j e. elim (cases_eq j i) [
            | inl w ↦ rw (w, upd_same p.reads i (new_read p s x)) xk
            | inr ne ↦ rw (upd_other p.reads i j (new_read p s x) ne) (q.object j (rw (upd_other p.reads i j (new_read p s x) ne) at e))
          ];
          hand = λ j e k kn w. elim (cases_eq j i) [
            | inl z ↦
                let u : rs j ≡ new_read p s x = ap rs z ∙ upd_same p.reads i (new_read p s x) in
                let ks : k ≡ s = eqb-true k s (sym (ap (λ (r : Read). r.hand k) u) ∙ w) in
                rw (u, ks) q.symbol
            | inr ne ↦
                let u = upd_other p.reads i j (new_read p s x) ne in
                rw u (q.hand j (rw u at e) k kn (rw u at w))
          ];
        }

    opening_still : (s i x : ℕ) → StillReads (S.servers s) (opening (S.servers s) s i x)
    unfolding opening
    opening_still s i x j e =
        let p = S.servers s in
        let rs = upd p.reads i (new_read p s x) in
        elim (cases_eq j i) [
          | inl z ↦ inr (rw (z, upd_same p.reads i (new_read p s x)) (omega arith))
          | inr ne ↦ let u = upd_other p.reads i j (new_read p s x) ne in
              inl (record { was = rw u at e; number = ap (λ (r : Read). r.number) u; object = ap (λ (r : Read). r.object) u; tags = ap (λ (r : Read). r.tags) u })
        ]

    -- the new question
    opening_told : (s i x : ℕ) → x < g.k → (b : ℕ) → (r : Server) → Told g R L s (opening (S.servers s) s i x) r (Question ((S.servers s).opened + 1) x (listed g.k (S.servers s).own))
    unfolding opening
    opening_told s i x xk b r = (
      xk,
      λ j e n. elim (cases_eq j i) [
        | inl z ↦ rw (z, upd_same (S.servers s).reads i (new_read (S.servers s) s x)) (refl, λ y yk. sym (get_or-map-range_with_len (S.servers s).own 0 g.k y y 0 yk (omega arith)))
        | inr ne ↦ absurd (let u = upd_other (S.servers s).reads i j (new_read (S.servers s) s x) ne in
            let l = (f.reads s j (rw u at e)).0 in let m : ((S.servers s).reads j).number ≡ (S.servers s).opened + 1 = rw u at n in omega arith)
      ],
    )

    open_valued : (s i x : ℕ) → s < g.n → x < g.k → Valued g R L (open_done g S s i x)
    unfolding open_done
    open_valued s i x sn xk =
        let p = S.servers s in
        let r = opening p s i x in
        let m = Question (p.opened + 1) x (listed g.k p.own) in
        put_valued g R L S s r (spread S.lanes s g.n m) f h (λ _. opening_right s i x sn xk) (opening_still s i x)
        (λ a b an bn ne q. spread_told (λ a b. Told g R L a (upd S.servers s r a) (upd S.servers s r b)) s m a b
        (λ e. rw (e, upd_same S.servers s r) (opening_told s i x xk b (upd S.servers s r b))) q)

    pub read_valued : (s x l : ℕ) (d : Found) → Kept (read g S s x l d)
    unfolding read read_found open_read
    read_valued s x l d =
        let p = S.servers s in
        let t = top_tag x p.history in
        let third = turn (Number (p.opened + 1)) (open_done g S s (free_slot g p) x) in
        let second = cond (from_symbol g p x d) (turn (Value d.value (p.own x) 2) S) (unless (open_refusal g S s) S third) in
        unless_both Kept (read_refusal g s x l) S (cond (from_history g p x && (not (from_symbol g p x d) || d.first_way)) (turn (Value (kept g p.history x t) t 1) S) second) h (λ ok.
        cond_both (from_history g p x && (not (from_symbol g p x d) || d.first_way)) (turn (Value (kept g p.history x t) t 1) S) second Kept (λ _. h)
        (λ _. cond_both (from_symbol g p x d) (turn (Value d.value (p.own x) 2) S) (unless (open_refusal g S s) S third) Kept (λ _. h)
        (λ _. unless_both Kept (open_refusal g S s) S third h (λ _. open_valued s (free_slot g p) x (read_server g s x l ok) (read_object g s x l ok)))))

    -- ---- encode
    move_valued : (s x t : ℕ) (v : List ℕ) → (s < g.n → Mix g R L s (upd (S.servers s).own x t) v) → Valued g R L (move_done g S s x t v)
    unfolding move_done moved
    move_valued s x t v new =
        let p = S.servers s in
        let r = moved p s x t v in
        put_valued g R L S s r (spread S.lanes s g.n (Tagged x t)) f h
        (λ sn. record { symbol = new sn; object = (h.servers s sn).object; hand = (h.servers s sn).hand })
        (still_same p r (λ i e. refl))
        (λ a b an bn ne q. spread_told (λ a b. Told g R L a (upd S.servers s r a) (upd S.servers s r b)) s (Tagged x t) a b (λ _. tt) q)

    enter_valued : (s : ℕ) (e : Entry) → Valued g R L (enter_done g S s e)
    unfolding enter_done entered
    enter_valued s e = plain_put s (entered (S.servers s) e) refl refl (λ i w. refl)

    pub encode_valued : (s x : ℕ) (d : Found) → Kept (encode g S s x d)
    unfolding encode encode_contained encode_other
    encode_valued s x d =
        let p = S.servers s in
        let t = top_tag x p.history in
        let u = highest (within g p x) x p.history in
        let old = kept g p.history x (p.own x) in
        let new = kept g p.history x t in
        let sym' = swap g s x old new p.symbol in
        let move = turn (Outcome 1) (move_done g S s x t sym') in
        let e : Entry = record { object = x; tag = p.own x; value = d.value } in
        let enter = turn (Outcome 3) (enter_done g S s e) in
        let ask = turn (Outcome 4) (open_done g S s (clients + x) x) in
        let asking = unless (check (ltb p.opened most_reads) 14 (check (room g S s) 17 0)) S ask in
        let entering = unless (check (history_room g S s) 15 0) S enter in
        let moving = unless (check (room g S s) 17 0) S move in
        let fourth = cond d.recovered entering asking in
        let third = cond (is_open (p.reads (clients + x))) (turn (Outcome 2) S) fourth in
        let second = cond (holds p.history x (p.own x)) moving third in
        let other_move = turn (Outcome 1) (move_done g S s x u p.symbol) in
        let other = cond (leb u (p.own x)) (turn (Outcome 0) S) (unless (check (room g S s) 17 0) S other_move) in
        let contained = cond (leb t (p.own x)) (turn (Outcome 0) S) second in
        unless_both Kept (object_refusal g s x) S (cond (has g s x) contained other) h (λ ok.
        let sn = object_server g s x ok in
        let xk = object_object g s x ok in
        cond_both (has g s x) contained other Kept
        (λ i. cond_both (leb t (p.own x)) (turn (Outcome 0) S) second Kept (λ _. h) (λ hi.
        cond_both (holds p.history x (p.own x)) moving third Kept
        (λ held. unless_both Kept (check (room g S s) 17 0) S move h (λ _. move_valued s x t sym' (λ _.
        swap_mix g R L s x t p.own old new p.symbol cells sn xk
        (kept_right g R L p.history x (p.own x) cells (src.servers s).history held)
        (kept_right g R L p.history x t cells (src.servers s).history (top_held s x hi)) (h.servers s sn).symbol)))
        (λ _. cond_both (is_open (p.reads (clients + x))) (turn (Outcome 2) S) fourth Kept (λ _. h)
        (λ _. cond_both d.recovered entering asking Kept
        (λ _. unless_both Kept (check (history_room g S s) 15 0) S enter h (λ _. enter_valued s e))
        (λ _. unless_both Kept (check (ltb p.opened most_reads) 14 (check (room g S s) 17 0)) S ask h (λ _. open_valued s (clients + x) x sn xk))))))
        (λ i. cond_both (leb u (p.own x)) (turn (Outcome 0) S) (unless (check (room g S s) 17 0) S other_move) Kept (λ _. h) (λ hi.
        unless_both Kept (check (room g S s) 17 0) S other_move h (λ _. move_valued s x u p.symbol (λ _.
        mix_tags g R L s p.own (upd p.own x u) p.symbol cells
        (λ y yk. elim (cases_eq y x) [
          | inl z ↦ inr (rw z (eqb-true (g.coefficient s x) 0 (not-false (eqb (g.coefficient s x) 0) i)))
          | inr ne ↦ inl (sym (upd_other p.own x y u ne))
        ])
        (h.servers s sn).symbol)))))
      where
        top_held : (s x : ℕ) → leb (top_tag x (S.servers s).history) ((S.servers s).own x) ≡ false → holds (S.servers s).history x (top_tag x (S.servers s).history) ≡ true
        top_held s x e =
            let lt = leb-false (top_tag x (S.servers s).history) ((S.servers s).own x) e in
            ⊎_elim (λ (z : top_tag x (S.servers s).history ≡ 0). absurd (omega arith)) (λ z. or_right (eqb (top_tag x (S.servers s).history) 0) (enters (S.servers s).history x (top_tag x (S.servers s).history)) z.0)
            (highest_found (λ _. true) x (S.servers s).history)
