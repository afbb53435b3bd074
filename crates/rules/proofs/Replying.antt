-- Reads over the delivery of a reply: it is taken by the read with its number, and closes it where the delivery answers 4.
use Rattle.std.proofs.Common.{◌≡◌, ℕ, suc, ◌<◌, Bool, true, false, cond, not, ◌&&◌, ◌||◌, eqb, ltb, List, [], ◌∷◌, ◌++◌, length, sym, refl, ap, ◌∙◌, subst, ap₂, inl, inr, arith}
use Rattle.std.proofs.lemmas.Bool.{cases_Bool, cases_eq, both_ways, and_parts, and_from, and_right, and_left, lt-ltb, eq-eqb, ne_eqb, cond-true, cond-false, or_right}
use Rattle.rules.specs.Words.{upd}
use Rattle.rules.specs.Law.{with_own}
use Rattle.rules.specs.Events as told
use Rattle.rules.specs.Events.{Event, Followed, follow_call, follow_deliver, follow_all, closed, replied, replies_to, is_refused, is_outcome_4}
use Rattle.rules.proofs.Unranked.{tag_at}
use Rattle.rules.proofs.Ranked.{Code, layout_of, Entry, Read, kept, is_open, no_read, clients, slots}
use Rattle.rules.proofs.RankedSteps.{in_hand}
use Rattle.rules.proofs.RankedFacts.{best}
use Rattle.rules.proofs.Words.{upd_same, upd_other}
use Rattle.rules.proofs.Told.{Tells, latest_same, given_same}
use Rattle.rules.proofs.Following.{all_length, all_at, at, live, Linked, Answers, Follows, Moves, stays, gone, follows_change}
use Rattle.rules.proofs.Overtaking.{same_reads, relink}

module _ (g : Code) (es : List Event) (e : Event) (a s m : ℕ) (F : List Followed) (rs : ℕ → Read) (o : ℕ) (h : Follows s F rs o)
    (is_deliver : (n : ℕ) (r : Followed) → follow_call (layout_of g) s n es e e.call r ≡ follow_deliver (layout_of g) s n es e a s r)
    (replies : (n : ℕ) → replies_to n e.oldest ≡ eqb m n) (done : is_refused e.answer ≡ false) where
  G : List Followed
  G = follow_all (layout_of g) s 1 es e F

  pub long : length (follow_all (layout_of g) s 1 es e F) ≡ length F
  long = all_length (layout_of g) s 1 es e F

  abbrev took : Followed → Followed
  took r = cond (is_outcome_4 e.answer) (closed (layout_of g) s (es ++ e ∷ []) (replied (layout_of g) a r)) (replied (layout_of g) a r)

  at_G : (k : ℕ) → k < length F → at G k ≡ cond (eqb m (suc k) && (at F k).is_open) (took (at F k)) (at F k)
  unfolding G
  at_G k lt = all_at (layout_of g) s 1 es e F k _ (suc k) lt (omega arith) ∙ is_deliver (suc k) (at F k)
      ∙ ap₂ (λ (b c : Bool). cond (b && (c && ((at F k).is_open && not (is_refused e.answer)))) (took (at F k)) (at F k)) (eq-eqb s s refl) (replies (suc k))
      ∙ ap (λ b. cond (eqb m (suc k) && ((at F k).is_open && not b)) (took (at F k)) (at F k)) done
      ∙ ap (λ b. cond (eqb m (suc k) && b) (took (at F k)) (at F k)) (and_one (at F k).is_open)
    where
      and_one : (b : Bool) → (b && true) ≡ b
      and_one true = refl
      and_one false = refl

  at_closed : (k : ℕ) → k < length F → (at F k).is_open ≡ false → at G k ≡ at F k
  at_closed k lt q = at_G k lt ∙ cond-false (eqb m (suc k) && (at F k).is_open) _ _ (and_right (eqb m (suc k)) (at F k).is_open q)

  at_else : (k : ℕ) → k < length F → (m ≡ suc k → ⊥) → at G k ≡ at F k
  at_else k lt ne = at_G k lt ∙ cond-false (eqb m (suc k) && (at F k).is_open) _ _ (and_left (eqb m (suc k)) (at F k).is_open (ne_eqb m (suc k) ne))

  at_hit : (k : ℕ) → k < length F → m ≡ suc k → (at F k).is_open ≡ true → at G k ≡ took (at F k)
  at_hit k lt q w = at_G k lt ∙ cond-true (eqb m (suc k) && (at F k).is_open) _ _ (and_from (eqb m (suc k)) (at F k).is_open (eq-eqb m (suc k) q) w)

  -- no open read has the number
  pub none_follows : ((i : ℕ) → live rs i ≡ true → (rs i).number ≡ m → ⊥) → Follows s (follow_all (layout_of g) s 1 es e F) rs o
  unfolding G
  none_follows none = subst (λ l. Follows s l rs o) (sym (same_reads F G _ long (λ k lt. elim (cases_Bool (at F k).is_open) [
    | inr q ↦ at_closed k lt q
    | inl q ↦ at_else k lt (λ z. let st = h.stands k lt q in none st.place st.lives (st.number ∙ sym z))
  ]))) h

  -- the open read at the place i has the number, and becomes another
  module _ (i : ℕ) (lv : live rs i ≡ true) (number : (rs i).number ≡ m) where
    l : Linked s F (rs i) i
    l = h.links i lv

    hit : at G (h.links i lv).index ≡ took (at F (h.links i lv).index)
    hit = let k = h.links i lv in at_hit k.index k.among (sym number ∙ k.number) k.open_too

    hit_follows : (new : Read) → Moves s G (upd rs i new) i (h.links i lv).index → Follows s (follow_all (layout_of g) s 1 es e F) (upd rs i new) o
    unfolding G
    hit_follows new moves = follows_change s F G rs (upd rs i new) o h long at_closed
        (λ j dead. inl (upd_other rs i j new (λ q. both_ways (live rs j) dead (subst (λ z. live rs z ≡ true) (sym q) lv))))
        (λ j lj. elim (cases_eq j i) [
          | inl q ↦ moved j lj q
          | inr ne ↦ (let k = h.links j lj in
              let there = upd_other rs i j new ne in
              let same : at G k.index ≡ at F k.index = at_else k.index k.among (λ z. ne (h.apart j i lj lv (k.number ∙ sym z ∙ sym number))) in
              stays (ap (λ (r : Read). ltb j slots && is_open r) there ∙ lj) (ap (λ (r : Read). r.number) there ∙ k.number) (relink s F G (rs j) (upd rs i new j) j k long same there))
        ])
      where
        moved : (j : ℕ) (lj : live rs j ≡ true) → j ≡ i → Moves s (follow_all (layout_of g) s 1 es e F) (upd rs i new) j (h.links j lj).index
        moved j lj q =
            let u = (h.links j lj).number in
            let w = (h.links i lv).number in
            let z : (rs j).number ≡ (rs i).number = ap (λ k. (rs k).number) q in
            let ix : (h.links i lv).index ≡ (h.links j lj).index = omega arith in
            subst (λ k. Moves s (follow_all (layout_of g) s 1 es e F) (upd rs i new) k (h.links j lj).index) (sym q)
            (subst (Moves s (follow_all (layout_of g) s 1 es e F) (upd rs i new) i) ix (unfold G in moves))

    -- one symbol more in hand
    pub hand_follows : (w : List ℕ) → is_outcome_4 e.answer ≡ false → Follows s (follow_all (layout_of g) s 1 es e F) (upd rs i (in_hand (rs i) a w)) o
    hand_follows w four =
        let k = h.links i lv in
        let new = in_hand (rs i) a w in
        let here = upd_same rs i new in
        let same : at G k.index ≡ replied (layout_of g) a (at F k.index) = hit ∙ cond-false (is_outcome_4 e.answer) _ _ four in
        let o = and_parts (ltb i slots) (is_open (rs i)) lv in
        hit_follows new (stays (ap (λ (r : Read). ltb i slots && is_open r) here ∙ lv) (ap (λ (r : Read). r.number) here ∙ k.number)
        (subst (λ (r : Read). Linked s G r i) (sym here) (record {
          index = k.index;
          number = k.number;
          among = let x = k.among in let y = long' in omega arith;
          open_too = ap (λ (r : Followed). r.is_open) same ∙ k.open_too;
          object = ap (λ (r : Followed). r.object) same ∙ k.object;
          client = ap (λ (r : Followed). r.client) same ∙ k.client;
          hand = λ j. ap (λ (r : Followed). with_own s r.repliers j) same ∙ hands j;
        })))
      where
        long' : length G ≡ length F
        long' = unfold G in long

        hands : (j : ℕ) → with_own s (upd (at F (h.links i lv).index).repliers a true) j ≡ upd (rs i).hand a true j
        hands j = elim (cases_eq j a) [
          | inl q ↦ ap (λ z. with_own s (upd (at F (h.links i lv).index).repliers a true) z) q ∙ ap (λ b. eqb a s || b) (upd_same (at F (h.links i lv).index).repliers a true) ∙ or_right (eqb a s) true refl
              ∙ sym (ap (upd (rs i).hand a true) q ∙ upd_same (rs i).hand a true)
          | inr ne ↦ ap (λ b. eqb j s || b) (upd_other (at F (h.links i lv).index).repliers a j true ne) ∙ (h.links i lv).hand j ∙ sym (upd_other (rs i).hand a j true ne)
        ]

    -- an internal read is answered
    pub internal_follows : is_outcome_4 e.answer ≡ true → Follows s (follow_all (layout_of g) s 1 es e F) (upd rs i no_read) o
    internal_follows four =
        let here = upd_same rs i no_read in
        let same : at G (h.links i lv).index ≡ closed (layout_of g) s (es ++ e ∷ []) (replied (layout_of g) a (at F (h.links i lv).index)) = hit ∙ cond-true (is_outcome_4 e.answer) _ _ four in
        hit_follows no_read (gone (ap (λ (r : Read). ltb i slots && is_open r) here ∙ and_right (ltb i slots) false refl) (ap (λ (r : Followed). r.is_open) same)
        (λ q _. absurd (both_ways (eqb (upd rs i no_read i).state 0) q (ap (λ (r : Read). eqb r.state 0) here))))

    -- a client's read is answered, by value and tag of the latest
    pub client_follows : (L : List Entry) (A : ℕ → List ℕ) → Tells (es ++ e ∷ []) L A → (v : List ℕ) → i < clients → is_outcome_4 e.answer ≡ true
        → best L (rs i).object (A s) ≡ (rs i).tags (rs i).object → v ≡ kept g L (rs i).object ((rs i).tags (rs i).object)
        → (hand : ℕ → Bool) (symbols : ℕ → List ℕ)
        → Follows s (follow_all (layout_of g) s 1 es e F) (upd rs i (record { state = 2; number = (rs i).number; object = (rs i).object; tags = (rs i).tags; hand = hand; symbols = symbols; value = v; tag = (rs i).tags (rs i).object; way = 3 })) o
    client_follows L A tells v ic four peak right hand symbols =
        let k = h.links i lv in
        let new : Read = record { state = 2; number = (rs i).number; object = (rs i).object; tags = (rs i).tags; hand = hand; symbols = symbols; value = v; tag = (rs i).tags (rs i).object; way = 3 } in
        let here = upd_same rs i new in
        let same : at G k.index ≡ closed (layout_of g) s (es ++ e ∷ []) (replied (layout_of g) a (at F k.index)) = hit ∙ cond-true (is_outcome_4 e.answer) _ _ four in
        let tag_is : told.latest s (at F k.index).object (es ++ e ∷ []) ≡ tag_at ((rs i).tags (rs i).object) =
        latest_same (es ++ e ∷ []) L A tells s (at F k.index).object ∙ ap tag_at (ap (λ y. best L y (A s)) k.object ∙ peak) in
        hit_follows new (gone (ap (λ (r : Read). ltb i slots && is_open r) here ∙ and_right (ltb i slots) false refl) (ap (λ (r : Followed). r.is_open) same)
        (λ _ _. subst (Answers G) (sym here) (record {
          index = k.index;
          number = k.number;
          among = let x = k.among in let y = long' in omega arith;
          client = ap (λ (r : Followed). r.client) same ∙ k.client ∙ lt-ltb i clients ic;
          closed = ap (λ (r : Followed). r.is_open) same;
          tag = sym (ap (λ (r : Followed). r.tag) same ∙ tag_is);
          value = right ∙ sym (ap (λ (r : Followed). r.value) same ∙ ap₂ (told.given (layout_of g) (es ++ e ∷ [])) k.object tag_is ∙ given_same g (es ++ e ∷ []) L A tells (rs i).object ((rs i).tags (rs i).object));
        })))
      where
        long' : length G ≡ length F
        long' = unfold G in long
