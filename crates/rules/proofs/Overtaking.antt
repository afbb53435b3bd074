-- Reads over the applying of a write: a client's open read of its object is answered exactly where the events close it.
use Rattle.std.proofs.Common.{◌≡◌, ℕ, suc, ◌<◌, Bool, true, false, cond, ◌&&◌, ◌||◌, eqb, ltb, ◌⊎◌, List, [], ◌∷◌, ◌++◌, length, get_or, sym, refl, ap, ◌∙◌, subst, ap₂, inl, inr, ⊎_elim, arith}
use Rattle.std.specs.List.{AllByRecursion}
use Rattle.std.proofs.lemmas.Bool.{cases_Bool, both_ways, and_parts, and_from, and_right, and_left, and_cases, lt-ltb, ltb-true, eq-eqb, eqb-true, cond-true, cond-false}
use Rattle.std.proofs.lemmas.List.FromFn.{fill_by_all}
use Rattle.message.specs.Tags.{lower}
use Rattle.rules.specs.Histories.{has_entry}
use Rattle.rules.specs.Law.{with_own}
use Rattle.rules.specs.Events as told
use Rattle.rules.specs.Events.{Event, Followed, follow_call, follow_write, follow_all, closed, is_newer}
use Rattle.rules.proofs.Unranked.{tag_at}
use Rattle.rules.proofs.Ranked.{Code, layout_of, Entry, Read, enters, kept, is_open, clients, slots}
use Rattle.rules.proofs.RankedSteps.{answered, overtaken}
use Rattle.rules.proofs.RankedFacts.{best}
use Rattle.rules.proofs.View.{has_entry_at, lower_at}
use Rattle.rules.proofs.Told.{Tells, latest_same, given_same}
use Rattle.rules.proofs.Following.{all_length, all_at, at, live, Linked, Answers, Follows, Moves, stays, gone, Idle, follows_change}

-- lists of reads with the same elements
pub same_reads : (F G : List Followed) (d : Followed) → length G ≡ length F → ((k : ℕ) → k < length F → get_or G k d ≡ get_or F k d) → G ≡ F
same_reads F G d e h = fill_by_all (λ k. get_or F k d) G (length F) d e h ∙ sym (fill_by_all (λ k. get_or F k d) F (length F) d refl (λ k lt. refl))

pub relink : (s : ℕ) (F G : List Followed) (r q : Read) (i : ℕ) (k : Linked s F r i) → length G ≡ length F → at G k.index ≡ at F k.index → q ≡ r → Linked s G q i
relink s F G r q i k e same eq = subst (λ (z : Read). Linked s G z i) (sym eq) (record {
  index = k.index;
  number = k.number;
  among = let l = k.among in omega arith;
  open_too = ap (λ (z : Followed). z.is_open) same ∙ k.open_too;
  object = ap (λ (z : Followed). z.object) same ∙ k.object;
  client = ap (λ (z : Followed). z.client) same ∙ k.client;
  hand = λ j. ap (λ (z : Followed). with_own s z.repliers j) same ∙ k.hand j;
})

-- tags that are all below t have their best below t
pub best_less : (L : List Entry) (x t : ℕ) (A : List ℕ) → 0 < t → AllByRecursion (λ u. u < t) A → best L x A < t
best_less L x t [] pos h = pos
best_less L x t (u ∷ A) pos h = elim (cases_Bool (enters L x u)) [
  | inl e ↦ rw e (let a = h.0 in let b = best_less L x t A pos h.1 in omega arith)
  | inr e ↦ rw e (best_less L x t A pos h.1)
]

module _ (g : Code) (es : List Event) (e : Event) (L M : List Entry) (A B : ℕ → List ℕ) (before : Tells es L A) (after : Tells (es ++ e ∷ []) M B)
    (s : ℕ) (F : List Followed) (rs : ℕ → Read) (o : ℕ) (h : Follows s F rs o) (x t : ℕ) (v : List ℕ) (all : Bool)
    (is_write : (n : ℕ) (r : Followed) → follow_call (layout_of g) s n es e e.call r ≡ follow_write (layout_of g) s es e r)
    (applied_is : told.applied_by s e.call (told.tag_told e.answer) ≡ tag_at t ∷ [])
    (only : (y : ℕ) → enters M y t ≡ true → y ≡ x) (is_in : ltb (best L x (A s)) t ≡ true → enters M x t ≡ true)
    (test : (i : ℕ) → i < clients → live rs i ≡ true → (rs i).object ≡ x → (all || ltb ((rs i).tags x) t) ≡ ltb (best L x (A s)) t)
    (result : ltb (best L x (A s)) t ≡ true → best M x (B s) ≡ t) (value : kept g M x t ≡ v) where
  G : List Followed
  G = follow_all (layout_of g) s 1 es e F

  long : length G ≡ length F
  unfolding G
  long = all_length (layout_of g) s 1 es e F

  abbrev newer : ℕ → Bool
  newer y = enters M y t && ltb (best L y (A s)) t

  newer_is : (y : ℕ) → is_newer (layout_of g) s y es (told.accepted (es ++ e ∷ [])) (told.applied_by s e.call (told.tag_told e.answer)) ≡ newer y
  newer_is y = ap (is_newer (layout_of g) s y es (told.accepted (es ++ e ∷ []))) applied_is
      ∙ ap₂ ◌&&◌ (ap (λ ws. has_entry ws y (tag_at t)) after.writes ∙ has_entry_at M y t) (ap (λ u. lower u (tag_at t)) (latest_same es L A before s y) ∙ lower_at (best L y (A s)) t)

  at_G : (k : ℕ) → k < length F → at G k ≡ cond ((at F k).client && ((at F k).is_open && newer (at F k).object)) (closed (layout_of g) s (es ++ e ∷ []) (at F k)) (at F k)
  unfolding G
  at_G k lt = all_at (layout_of g) s 1 es e F k _ (suc k) lt (omega arith) ∙ is_write (suc k) (at F k)
      ∙ ap (λ b. cond ((at F k).client && ((at F k).is_open && b)) (closed (layout_of g) s (es ++ e ∷ []) (at F k)) (at F k)) (newer_is (at F k).object)

  stays_at : (k : ℕ) → k < length F → ((at F k).client && ((at F k).is_open && newer (at F k).object)) ≡ false → at G k ≡ at F k
  stays_at k lt q = at_G k lt ∙ cond-false ((at F k).client && ((at F k).is_open && newer (at F k).object)) _ _ q

  closed_same : (k : ℕ) → k < length F → (at F k).is_open ≡ false → at G k ≡ at F k
  closed_same k lt q = stays_at k lt (and_right (at F k).client _ (and_left (at F k).is_open _ q))

  abbrev beaten : ℕ → Bool
  beaten i = eqb (rs i).object x && (all || ltb ((rs i).tags x) t)

  left : (i : ℕ) → (ltb i clients && (is_open (rs i) && beaten i)) ≡ false → overtaken rs all x t v i ≡ rs i
  unfolding overtaken
  left i q = cond-false (ltb i clients && (is_open (rs i) && beaten i)) (answered (rs i) v t 4) (rs i) q

  idle : (i : ℕ) → live rs i ≡ false → Idle rs (overtaken rs all x t v) i
  idle i dead = inl (left i (elim (cases_Bool (ltb i clients)) [
    | inr q ↦ and_left (ltb i clients) _ q
    | inl q ↦ and_right (ltb i clients) _ (⊎_elim (λ z. absurd (both_ways (ltb i slots) z (lt-ltb i slots (let l = ltb-true i clients q in omega arith)))) (λ z. and_left (is_open (rs i)) (beaten i) z) (and_cases (ltb i slots) (is_open (rs i)) dead))
  ]))

  module _ (i : ℕ) (lv : live rs i ≡ true) where
    k : Linked s F (rs i) i
    k = h.links i lv

    opened : is_open (rs i) ≡ true
    opened = (and_parts (ltb i slots) (is_open (rs i)) lv).1

    won : (ltb i clients && beaten i) ≡ true → Moves s G (overtaken rs all x t v) i (h.links i lv).index
    unfolding k
    won q =
        let l = h.links i lv in
        let a = and_parts (ltb i clients) (beaten i) q in
        let b = and_parts (eqb (rs i).object x) (all || ltb ((rs i).tags x) t) a.1 in
        let obj : (rs i).object ≡ x = eqb-true (rs i).object x b.0 in
        let obj' : (at F l.index).object ≡ x = l.object ∙ obj in
        let low : ltb (best L x (A s)) t ≡ true = sym (test i (ltb-true i clients a.0) lv obj) ∙ b.1 in
        let over : overtaken rs all x t v i ≡ answered (rs i) v t 4 = taken i a.0 a.1 opened in
        let cl : (at F l.index).client ≡ true = l.client ∙ a.0 in
        let same : at G l.index ≡ closed (layout_of g) s (es ++ e ∷ []) (at F l.index) =
        at_G l.index l.among ∙ cond-true ((at F l.index).client && ((at F l.index).is_open && newer (at F l.index).object)) _ _
        (and_from (at F l.index).client _ cl (and_from (at F l.index).is_open (newer (at F l.index).object) l.open_too
        (subst (λ y. newer y ≡ true) (sym obj') (and_from (enters M x t) (ltb (best L x (A s)) t) (is_in low) low)))) in
        let tag_is : told.latest s (at F l.index).object (es ++ e ∷ []) ≡ tag_at t = latest_same (es ++ e ∷ []) M B after s (at F l.index).object ∙ ap tag_at (ap (λ y. best M y (B s)) obj' ∙ result low) in
        gone (ap (λ (r : Read). ltb i slots && is_open r) over ∙ and_right (ltb i slots) false refl) (ap (λ (r : Followed). r.is_open) same)
        (λ _ _. subst (Answers G) (sym over) (record {
          index = l.index;
          number = l.number;
          among = let m = l.among in let n = long in omega arith;
          client = ap (λ (r : Followed). r.client) same ∙ cl;
          closed = ap (λ (r : Followed). r.is_open) same;
          tag = sym (ap (λ (r : Followed). r.tag) same ∙ tag_is);
          value = sym (ap (λ (r : Followed). r.value) same ∙ ap₂ (told.given (layout_of g) (es ++ e ∷ [])) obj' tag_is ∙ given_same g (es ++ e ∷ []) M B after x t ∙ value);
        }))
      where
        taken : (i : ℕ) → ltb i clients ≡ true → beaten i ≡ true → is_open (rs i) ≡ true → overtaken rs all x t v i ≡ answered (rs i) v t 4
        taken i a b c = unfold overtaken in cond-true (ltb i clients && (is_open (rs i) && beaten i)) (answered (rs i) v t 4) (rs i) (and_from (ltb i clients) _ a (and_from (is_open (rs i)) (beaten i) c b))

    lost : (ltb i clients && beaten i) ≡ false → Moves s G (overtaken rs all x t v) i (h.links i lv).index
    lost q =
        let l = h.links i lv in
        let over : overtaken rs all x t v i ≡ rs i = left i (⊎_elim (λ z. and_left (ltb i clients) _ z) (λ z. and_right (ltb i clients) _ (and_right (is_open (rs i)) (beaten i) z)) (and_cases (ltb i clients) (beaten i) q)) in
        let same : at G l.index ≡ at F l.index = stays_at l.index l.among
        (⊎_elim (λ z. and_left (at F l.index).client _ (l.client ∙ z))
        (λ z. and_right (at F l.index).client _ (and_right (at F l.index).is_open (newer (at F l.index).object) (not_newer l.object z)))
        (client_cases q)) in
        stays (ap (λ (r : Read). ltb i slots && is_open r) over ∙ lv) (ap (λ (r : Read). r.number) over ∙ l.number) (relink s F G (rs i) (overtaken rs all x t v i) i l long same over)
      where
        client_cases : (ltb i clients && beaten i) ≡ false → (ltb i clients ≡ false) ⊎ ((ltb i clients ≡ true) × (beaten i ≡ false))
        client_cases q = elim (cases_Bool (ltb i clients)) [ inr z ↦ inl z | inl z ↦ inr (z, ⊎_elim (λ w. absurd (both_ways (ltb i clients) w z)) (λ w. w) (and_cases (ltb i clients) (beaten i) q)) ]

        not_newer : {y : ℕ} → y ≡ (rs i).object → (ltb i clients ≡ true) × (beaten i ≡ false) → newer y ≡ false
        not_newer {y = y} ey z = elim (cases_Bool (enters M y t)) [
          | inr w ↦ and_left (enters M y t) _ w
          | inl w ↦
              let yx : y ≡ x = only y w in
              let obj : (rs i).object ≡ x = sym ey ∙ yx in
              let no : (all || ltb ((rs i).tags x) t) ≡ false = ⊎_elim (λ u. absurd (both_ways (eqb (rs i).object x) u (eq-eqb (rs i).object x obj))) (λ u. u) (and_cases (eqb (rs i).object x) (all || ltb ((rs i).tags x) t) z.1) in
              and_right (enters M y t) _ (ap (λ c. ltb (best L c (A s)) t) yx ∙ sym (test i (ltb-true i clients z.0) lv obj) ∙ no)
        ]

  pub overtake_follows : Follows s (follow_all (layout_of g) s 1 es e F) (overtaken rs all x t v) o
  unfolding G
  overtake_follows = follows_change s F G rs (overtaken rs all x t v) o h long closed_same idle
      (λ i lv. elim (cases_Bool (ltb i clients && beaten i)) [ inl q ↦ won i lv q | inr q ↦ lost i lv q ])
