-- A ranked state seen as one with tags, and what the words of the rules say of it.
use Rattle.std.proofs.Common.{◌≡◌, ℕ, zero, suc, ◌+◌, ◌*◌, ◌/◌, ◌%◌, ◌<◌, min, max, Bool, true, false, cond, not, ◌&&◌, ◌||◌, eqb, ltb, leb, List, [], ◌∷◌, ◌++◌, map, get_or, take, drop, Some, None, fold, filter, Option, sym, refl, ap, ◌∙◌, ap₂, inl, inr, arith}
use mathlib.Core.Path.{fun_ext}
use lib.ListN.{length-map}
use Rattle.std.proofs.lemmas.Bool.Decides.{nat_tests}
use Rattle.std.proofs.lemmas.Bool.{cases_Bool, cond_both, ltb-true}
use Rattle.std.proofs.lemmas.List.{map-append}
use Rattle.terms.specs.Lists.{listed, every}
use Rattle.terms.specs.declared.refusal.Refusal.{Refusal}
use Rattle.terms.specs.declared.refusal.Refusal.TheVariants.{NoSuchServer, NoSuchObject, WrongLength, NoSuchRead, NoElement, EqualEnds, LaneEmpty, NumbersUsedUp, HistoryFull, ReadsFull, LaneFull, WaitingFull}
use Rattle.message.specs.declared.tag.Tag as declared
use Rattle.message.specs.Tags.{lower, same, rank}
use Rattle.message.specs.Meanings.{Meaning}
use Rattle.message.proofs.Order.{lower_rank, same_rank}
use Rattle.rules.specs.Words.{upd, some, or_else, first_below}
use Rattle.rules.specs.Lanes as lanes
use Rattle.rules.specs.Lanes.{posted, spread, taken, free}
use Rattle.rules.specs.Histories as history
use Rattle.rules.specs.Histories.{has_entry, later, earlier, raised}
use Rattle.rules.specs.Encoding as encoding
use Rattle.rules.specs.State as model
use Rattle.rules.specs.State.{Free, Open, Answered}
use Rattle.rules.specs.Turns as turns
use Rattle.rules.proofs.RankedMessages.{Message, tag}
use Rattle.rules.proofs.Unranked.{tag_at, message_at}
use Rattle.rules.proofs.RankedWords.{seek, lowest, Lanes}
use Rattle.rules.proofs.Ranked.{Code, layout_of, Entry, Waiting, Read, Server, State, zeros, same_entry, enters, holds, entered_value, kept, highest, top_tag, fresh}
use Rattle.rules.proofs.RankedSteps as Steps
use Rattle.rules.proofs.RankedSteps.{Answer, Refused, Tag, Value, Number, Still, Nothing, Outcome, Count, Turn}

-- ---- the view

abbrev pub entry_at : Entry → history.Entry
entry_at e = record { object = e.object; tag = tag_at e.tag; value = e.value }

abbrev pub waiting_at : Waiting → model.Waiting
waiting_at w = record { object = w.object; tag = tag_at w.tag; value = w.value; clock = w.clock }

abbrev pub asking_at : Read → model.Asking
asking_at r = record { number = r.number; object = r.object; tags = λ y. tag_at (r.tags y); hand = r.hand; symbols = r.symbols }

abbrev pub given_at : Read → model.Given
given_at r = record { number = r.number; value = r.value; tag = tag_at r.tag; way = r.way }

abbrev pub read_at : Read → model.Read
read_at r = cond (eqb r.state 0) Free (cond (eqb r.state 1) (Open (asking_at r)) (Answered (given_at r)))

abbrev pub server_at : Server → model.Server
server_at p = record {
  clock = p.clock;
  top = p.top;
  symbol = p.symbol;
  own = λ x. tag_at (p.own x);
  told = λ x j. tag_at (p.told x j);
  history = map entry_at p.history;
  waiting = map waiting_at p.waiting;
  reads = λ i. read_at (p.reads i);
  opened = p.opened;
}

abbrev pub lanes_at : Lanes → lanes.Lanes Meaning
lanes_at L a b = map message_at (L a b)

abbrev pub state_at : State → model.State
state_at S = record { servers = λ s. server_at (S.servers s); lanes = lanes_at S.lanes }

abbrev pub refusal_of : ℕ → Refusal
refusal_of r =
    cond (eqb r 8) NoSuchObject (cond (eqb r 9) WrongLength (cond (eqb r 10) NoSuchRead (cond (eqb r 11) NoElement (cond (eqb r 12) EqualEnds (cond (eqb r 13) LaneEmpty
    (cond (eqb r 14) NumbersUsedUp (cond (eqb r 15) HistoryFull (cond (eqb r 16) ReadsFull (cond (eqb r 17) LaneFull (cond (eqb r 18) WaitingFull NoSuchServer))))))))))

abbrev pub refusal_at : ℕ → Option Refusal
refusal_at r = cond (eqb r 0) None (Some (refusal_of r))

abbrev pub answer_at : Answer → turns.Answer
answer_at (Refused r) = turns.Refused (refusal_of r)
answer_at (Tag t) = turns.Tagged (tag_at t)
answer_at (Value v t w) = turns.Valued v (tag_at t) w
answer_at (Number p) = turns.Numbered p
answer_at Still = turns.StillOpen
answer_at Nothing = turns.NothingReady
answer_at (Outcome o) = turns.Outcome o
answer_at (Count c) = turns.Removed c

abbrev pub turn_at : Turn → turns.Turn
turn_at t = record { answer = answer_at t.answer; next = state_at t.next }

pub fresh_at : (g : Code) → model.new_group (layout_of g) ≡ state_at (fresh g)
fresh_at g = refl

-- ---- conditions and functions

pub cond_at : {A B : Type 0} (f : A → B) (b : Bool) (x y : A) → cond b (f x) (f y) ≡ f (cond b x y)
cond_at f true x y = refl
cond_at f false x y = refl

pub upd_at : {A B : Type 0} (f : A → B) (h : ℕ → A) (i : ℕ) (v : A) → upd (λ k. f (h k)) i (f v) ≡ (λ k. f (upd h i v k))
unfolding upd
upd_at f h i v = fun_ext (λ k. cond_at f (eqb k i) v (h k))

pub get_or_at : {A B : Type 0} (f : A → B) (xs : List A) (i : ℕ) (d : A) → get_or (map f xs) i (f d) ≡ f (get_or xs i d)
get_or_at f [] i d = refl
get_or_at f (x ∷ xs) zero d = refl
get_or_at f (x ∷ xs) (suc i) d = get_or_at f xs i d

pub take_at : {A B : Type 0} (f : A → B) (n : ℕ) (xs : List A) → take n (map f xs) ≡ map f (take n xs)
take_at f zero xs = refl
take_at f (suc n) [] = refl
take_at f (suc n) (x ∷ xs) = ap (λ l. f x ∷ l) (take_at f n xs)

pub drop_at : {A B : Type 0} (f : A → B) (n : ℕ) (xs : List A) → drop n (map f xs) ≡ map f (drop n xs)
drop_at f zero xs = refl
drop_at f (suc n) [] = refl
drop_at f (suc n) (x ∷ xs) = drop_at f n xs

map_map : {A B C : Type 0} (f : B → C) (h : A → B) (xs : List A) → map (λ x. f (h x)) xs ≡ map f (map h xs)
map_map f h [] = refl
map_map f h (x ∷ xs) = ap (λ l. f (h x) ∷ l) (map_map f h xs)

pub listed_at : {A B : Type 0} (f : A → B) (n : ℕ) (h : ℕ → A) → listed n (λ y. f (h y)) ≡ map f (listed n h)
listed_at f n h = map_map f h _

pub kept_by_at : {A B : Type 0} (f : A → B) (F : B → Bool) (t : A → Bool) → ((x : A) → F (f x) ≡ t x) → (xs : List A) → filter F (map f xs) ≡ map f (filter t xs)
kept_by_at f F t h [] = refl
kept_by_at f F t h (x ∷ xs) = ap₂ (λ (b : Bool) (l : List _). cond b (f x ∷ l) l) (h x) (kept_by_at f F t h xs) ∙ cond_at (map f) (t x) (x ∷ filter t xs) (filter t xs)

pub every_same : (n : ℕ) (f h : ℕ → Bool) → ((i : ℕ) → f i ≡ h i) → every n f ≡ every n h
every_same n f h e = ap (every n) (fun_ext e)

pub some_same : (n : ℕ) (f h : ℕ → Bool) → ((i : ℕ) → f i ≡ h i) → some n f ≡ some n h
some_same n f h e = ap (some n) (fun_ext e)

-- ---- tags

pub rank_at : (t : ℕ) → rank (tag_at t) ≡ t
rank_at t = omega arith

pub lower_at : (a b : ℕ) → lower (tag_at a) (tag_at b) ≡ ltb a b
lower_at a b = lower_rank (tag_at a) (tag_at b) (omega arith) (omega arith) ∙ ap₂ ltb (rank_at a) (rank_at b)

pub same_at : (a b : ℕ) → same (tag_at a) (tag_at b) ≡ eqb a b
same_at a b = same_rank (tag_at a) (tag_at b) (omega arith) (omega arith) ∙ ap₂ eqb (rank_at a) (rank_at b)

-- not below is at most
pub above_at : (a b : ℕ) → not (lower (tag_at a) (tag_at b)) ≡ leb b a
above_at a b = ap not (lower_at a b) ∙ flip
  where
    flip : not (ltb a b) ≡ leb b a
    flip = grind (arith, nat_tests)

pub tag_made : (h s : ℕ) → s < 6 → record { height = h; server = s } ≡ tag_at (tag h s)
tag_made h s lt =
    let hi : (h * 6 + s) / 6 ≡ h = omega arith in
    let lo : (h * 6 + s) % 6 ≡ s = omega arith in
    ap₂ (λ (a b : ℕ). let t : declared.Tag = record { height = a; server = b } in t) (sym hi) (sym lo)

pub later_at : (a b : ℕ) → later (tag_at a) (tag_at b) ≡ tag_at (max a b)
later_at a b = cond_at tag_at (lower (tag_at a) (tag_at b)) b a ∙ ap (λ c. tag_at (cond c b a)) (lower_at a b) ∙ ap tag_at (cond_both (ltb a b) b a (λ z. z ≡ max a b) (λ q. let l = ltb-true a b q in omega arith) (λ q. grind (arith, nat_tests)))

earlier_at : (a b : ℕ) → earlier (tag_at a) (tag_at b) ≡ tag_at (min a b)
earlier_at a b = cond_at tag_at (lower (tag_at a) (tag_at b)) a b ∙ ap (λ c. tag_at (cond c a b)) (lower_at a b) ∙ ap tag_at (cond_both (ltb a b) a b (λ z. z ≡ min a b) (λ q. let l = ltb-true a b q in omega arith) (λ q. grind (arith, nat_tests)))

pub lowest_at : (n : ℕ) (f : ℕ → ℕ) → encoding.lowest n (λ j. tag_at (f j)) ≡ tag_at (lowest n f)
unfolding encoding.lowest lowest
lowest_at zero f = refl
lowest_at (suc n) f = ap (earlier (tag_at (f n))) (lowest_at n f) ∙ earlier_at (f n) (lowest n f)

-- ---- histories

is_entry_at : (x t : ℕ) (e : Entry) → history.is_entry x (tag_at t) (entry_at e) ≡ same_entry x t e
is_entry_at x t e = ap (λ b. eqb e.object x && b) (same_at e.tag t)

pub has_entry_at : (es : List Entry) (x t : ℕ) → has_entry (map entry_at es) x (tag_at t) ≡ enters es x t
unfolding has_entry enters
has_entry_at [] x t = refl
has_entry_at (e ∷ es) x t = ap₂ ◌||◌ (is_entry_at x t e) (has_entry_at es x t)

pub holds_at : (es : List Entry) (x t : ℕ) → history.holds (map entry_at es) x (tag_at t) ≡ holds es x t
holds_at es x t = ap₂ ◌||◌ (same_at t 0) (has_entry_at es x t)

entered_at : (g : Code) (es : List Entry) (x t : ℕ) → history.entered_value g.w (map entry_at es) x (tag_at t) ≡ entered_value g es x t
unfolding history.entered_value entered_value
entered_at g [] x t = refl
entered_at g (e ∷ es) x t = ap₂ (λ (b : Bool) (v : List ℕ). cond b e.value v) (is_entry_at x t e) (entered_at g es x t)

pub value_at : (g : Code) (es : List Entry) (x t : ℕ) → history.value_under g.w (map entry_at es) x (tag_at t) ≡ kept g es x t
unfolding history.value_under kept
value_at g es x t = ap₂ (λ (b : Bool) (v : List ℕ). cond b (zeros g) v) (same_at t 0) (entered_at g es x t)

module _ (F : declared.Tag → Bool) (f : ℕ → Bool) (h : (t : ℕ) → F (tag_at t) ≡ f t) (x : ℕ) where
  raised_at : (a : ℕ) (e : Entry) → raised F x (tag_at a) (entry_at e) ≡ tag_at (cond (eqb e.object x && f e.tag) (max a e.tag) a)
  raised_at a e = ap₂ (λ (b : Bool) (t : declared.Tag). cond (eqb e.object x && b) t (tag_at a)) (h e.tag) (later_at a e.tag) ∙ cond_at tag_at (eqb e.object x && f e.tag) (max a e.tag) a

  folded_at : (a : ℕ) (es : List Entry) → fold (raised F x) (tag_at a) (map entry_at es) ≡ tag_at (max a (highest f x es))
  unfolding highest
  folded_at a [] = ap tag_at (omega arith)
  folded_at a (e ∷ es) = ap (λ t. fold (raised F x) t (map entry_at es)) (raised_at a e) ∙ folded_at (cond (eqb e.object x && f e.tag) (max a e.tag) a) es
      ∙ ap tag_at (more (eqb e.object x && f e.tag))
    where
      more : (b : Bool) → max (cond b (max a e.tag) a) (highest f x es) ≡ max a (cond b (max e.tag (highest f x es)) (highest f x es))
      more true = omega arith
      more false = refl

  pub highest_at : (es : List Entry) → history.highest F x (map entry_at es) ≡ tag_at (highest f x es)
  unfolding history.highest
  highest_at es = folded_at 0 es ∙ ap tag_at (omega arith)

pub top_at : (x : ℕ) (es : List Entry) → history.highest_held (map entry_at es) x ≡ tag_at (top_tag x es)
top_at x es = highest_at (λ _. true) (λ _. true) (λ t. refl) x es

-- ---- reads

-- a place is free, open or answered in both
pub data Shape (r : Read) : Type 0 where
  shape_free : eqb r.state 0 ≡ true → eqb r.state 1 ≡ false → read_at r ≡ Free → Shape r
  shape_open : eqb r.state 0 ≡ false → eqb r.state 1 ≡ true → read_at r ≡ Open (asking_at r) → Shape r
  shape_answered : eqb r.state 0 ≡ false → eqb r.state 1 ≡ false → read_at r ≡ Answered (given_at r) → Shape r

pub shape : (r : Read) → Shape r
shape r = elim (cases_Bool (eqb r.state 0)) [
  | inl q ↦ shape_free q (let z : eqb r.state 1 ≡ false = grind (arith, nat_tests) in z) (rw q)
  | inr q ↦ elim (cases_Bool (eqb r.state 1)) [ inl w ↦ shape_open q w (rw (q, w)) | inr w ↦ shape_answered q w (rw (q, w)) ]
]

-- ---- lanes

pub posted_at : (L : Lanes) (i j : ℕ) (m : Message) → posted (lanes_at L) i j (message_at m) ≡ lanes_at (posted L i j m)
unfolding posted
posted_at L i j m = fun_ext (λ a. fun_ext (λ b. ap (λ l. cond (eqb a i && eqb b j) l (map message_at (L a b))) (sym (map-append message_at (L a b) (m ∷ []))) ∙ cond_at (map message_at) (eqb a i && eqb b j) (L a b ++ m ∷ []) (L a b)))

pub spread_at : (L : Lanes) (i n : ℕ) (m : Message) → spread (lanes_at L) i n (message_at m) ≡ lanes_at (spread L i n m)
unfolding spread
spread_at L i n m = fun_ext (λ a. fun_ext (λ b. ap (λ l. cond (eqb a i && (ltb b n && not (eqb b i))) l (map message_at (L a b))) (sym (map-append message_at (L a b) (m ∷ []))) ∙ cond_at (map message_at) (eqb a i && (ltb b n && not (eqb b i))) (L a b ++ m ∷ []) (L a b)))

pub taken_at : (L : Lanes) (i j : ℕ) → taken (lanes_at L) i j ≡ lanes_at (taken L i j)
unfolding taken
taken_at L i j = fun_ext (λ a. fun_ext (λ b. ap (λ l. cond (eqb a i && eqb b j) l (map message_at (L a b))) (drop_at message_at 1 (L a b)) ∙ cond_at (map message_at) (eqb a i && eqb b j) (drop 1 (L a b)) (L a b)))

pub lanes_free_at : (places n i : ℕ) (L : Lanes) → free places (lanes_at L) i n ≡ free places L i n
lanes_free_at places n i L = every_same n _ _ (λ j. ap (λ k. eqb j i || ltb k places) (length-map (L i j) message_at))

-- ---- searches

pub first_at : (n : ℕ) (f h : ℕ → Bool) → ((i : ℕ) → f i ≡ h i) → first_below n f ≡ cond (ltb (seek n h) n) (Some (seek n h)) None
unfolding first_below seek
first_at zero f h e = refl
first_at (suc n) f h e = ap₂ (λ (o : Option ℕ) (b : Bool). or_else o (cond b (Some n) None)) (first_at n f h e) (e n) ∙ step (ltb (seek n h) n) refl (h n)
  where
    step : (a : Bool) → ltb (seek n h) n ≡ a → (b : Bool) → or_else (cond a (Some (seek n h)) None) (cond b (Some n) None)
        ≡ cond (ltb (cond a (seek n h) (cond b n (suc n))) (suc n)) (Some (cond a (seek n h) (cond b n (suc n)))) None
    step true q b = let l = ltb-true (seek n h) n q in let t : ltb (seek n h) (suc n) ≡ true = grind (arith, nat_tests) in rw t
    step false q true = let t : ltb n (suc n) ≡ true = grind (arith, nat_tests) in rw t
    step false q false = let t : ltb (suc n) (suc n) ≡ false = grind (arith, nat_tests) in rw t

-- ---- refusals and turns

pub check_at : (b : Bool) (r : ℕ) (later : Option Refusal) (l : ℕ) → Some (refusal_of r) ≡ refusal_at r → later ≡ refusal_at l → turns.check b (refusal_of r) later ≡ refusal_at (Steps.check b r l)
check_at true r later l lit e = e
check_at false r later l lit e = lit

pub unless_at : (r : ℕ) (o : Option Refusal) (S : State) (t : turns.Turn) (u : Turn) → o ≡ refusal_at r → t ≡ turn_at u → turns.unless o (state_at S) t ≡ turn_at (Steps.unless r S u)
unless_at r o S t u eo et = ap₂ (λ (o : Option Refusal) (t : turns.Turn). turns.unless o (state_at S) t) eo et ∙ by (eqb r 0)
  where
    by : (b : Bool) → turns.unless (cond b None (Some (refusal_of r))) (state_at S) (turn_at u) ≡ turn_at (cond b u (Steps.turn (Refused r) S))
    by true = refl
    by false = refl
