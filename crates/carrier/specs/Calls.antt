-- The calls of a carrier of blocks, once a lane's number is found. Assumes nothing.
use Rattle.std.specs.Prelude.{◌≡◌, ℕ, zero, suc, ◌+◌, ◌-◌, ◌*◌, ◌<◌, ◌≤◌, Bool, true, false, cond, not, ◌&&◌, List, [], ◌∷◌, ◌++◌, map, length, get_or, take, drop, replicate, Some, None, vec_items, vec_len, Option, ◌==◌, ◌≢◌, nat_lt, slice_index, slice_index_or, slice_set, refl}
use Rattle.std.proofs.Common.{sym, ap, subst, ◌∙◌, ⊎_elim, arith, length-take}
use Rattle.std.proofs.lemmas.List.{get_or-set_same, get_or-set_other, nil_from_length, length-map}
use Rattle.std.proofs.lemmas.Bool.{cases_eq, cond-true, cond-false, le-ltb, lt-ltb, le-leb, and_from, and_parts, leb-true}
use Rattle.terms.specs.declared.refusal.Refusal.{Refusal}
use Rattle.terms.specs.declared.refusal.Refusal.TheVariants.{LaneEmpty, LaneFull, OutOfRange}
use Rattle.terms.specs.Limits.{min_servers, max_servers, min_places, max_places}
use Rattle.message.specs.Meanings.{Meaning}
use Rattle.message.specs.Ranges.{in_range}
use Rattle.carrier.specs.declared.blocks.Blocks.{Blocks}
use Rattle.carrier.specs.Lanes.{Lanes, with_lane, or_else, unless, ends_refusal, range_refusal, empty_refusal, post_refusal, take_refusal, posted, taken}
use Rattle.carrier.specs.Blocks.{lane_number, lanes_over, lanes_of, Found}
use Rattle.carrier.specs.Laid.{layout_refusal}
use Rattle.carrier.specs.Changes as changes

-- a refused call leaves the lanes, and one that is not refused does its part
pub left : (o : Option Refusal) (L done : Lanes) (e : Refusal) → o ≡ Some e → L ≡ unless o L done
left o L done e is = sym (ap (λ r. unless r L done) is)

pub done_as : (o : Option Refusal) (L M done : Lanes) → o ≡ None → M ≡ done → M ≡ unless o L done
done_as o L M done is same = same ∙ sym (ap (λ r. unless r L done) is)

-- the bound of each count, after one was set
pub within_set : (used : List ℕ) (k v p : ℕ) → k < length used → v ≤ p → ((j : ℕ) → slice_index used j ≤ p) → (j : ℕ) → slice_index (slice_set used k v) j ≤ p
within_set used k v p known le within j =
    ⊎_elim
    (λ e. subst (λ i. slice_index (slice_set used k v) i ≤ p) (sym e) (rw (get_or-set_same used k v 0 known) le))
    (λ ne. rw (get_or-set_other used k j v 0 ne) (within j))
    (cases_eq j k)

-- what is not refused by its range is within it
refused_out : (t : Bool) (e : Refusal) → cond t None (Some e) ≡ None → t ≡ true
refused_out true e is = refl
refused_out false e is = absurd (changes.some_none e is)

ranged : (m : Meaning) → range_refusal m ≡ None → in_range m ≡ true
ranged m told = refused_out (in_range m) OutOfRange told

module _ {A : Type 0} (held : A → Meaning) (b : Blocks A) (from to k : ℕ) (at : Found b.n from to k) (ok : ends_refusal b.n from to ≡ None) where
  room : b.n * (b.n - 1) * b.p ≤ length (vec_items b.memory)
  room = omega (arith, b.room, b.memory.ok.0)

  pub inside : k * b.p + b.p ≤ vec_len b.memory
  inside = omega (arith, changes.inside held b.n b.p (vec_items b.memory) b.used from to k at ok room b.within, b.memory.ok.0)

  pub known : k < length b.used
  known = omega (arith, b.counted, at.small)

  pub lane_long : length (lanes_of held b from to) ≡ slice_index b.used k
  lane_long = changes.lane_long held b.n b.p (vec_items b.memory) b.used from to k at ok room b.within

  ends_passed : (more : Option Refusal) → or_else (ends_refusal b.n from to) more ≡ more
  ends_passed more = ap (λ o. or_else o more) ok

  pub full : (m : Meaning) → b.p ≤ slice_index b.used k → post_refusal b.n b.p (lanes_of held b) from to m ≡ Some LaneFull
  full m high =
      let long : b.p ≤ length (lanes_of held b from to) = omega (arith, lane_long) in
      ends_passed _ ∙ ap (λ o. or_else o (range_refusal m)) (cond-false _ _ _ (le-ltb _ _ long))

  room_passed : (m : Meaning) → slice_index b.used k < b.p → post_refusal b.n b.p (lanes_of held b) from to m ≡ range_refusal m
  room_passed m free =
      let short : length (lanes_of held b from to) < b.p = omega (arith, lane_long) in
      ends_passed _ ∙ ap (λ o. or_else o (range_refusal m)) (cond-true _ _ _ (lt-ltb _ _ short))

  pub refused : (m : Meaning) (e : Refusal) → slice_index b.used k < b.p → range_refusal m ≡ Some e → post_refusal b.n b.p (lanes_of held b) from to m ≡ Some e
  refused m e free told = room_passed m free ∙ told

  pub out_of_range : (m : Meaning) → slice_index b.used k < b.p → in_range m ≡ false → post_refusal b.n b.p (lanes_of held b) from to m ≡ Some OutOfRange
  out_of_range m free bad = refused m OutOfRange free (cond-false _ _ _ bad)

  pub may_post : (m : Meaning) → slice_index b.used k < b.p → range_refusal m ≡ None → post_refusal b.n b.p (lanes_of held b) from to m ≡ None
  may_post m free told = room_passed m free ∙ told

  pub unused : (x : A) (m : Meaning) (e : Refusal) → slice_index b.used k < b.p → range_refusal m ≡ Some e → lanes_over held b.n b.p (slice_set (vec_items b.memory) (k * b.p + slice_index b.used k) x) b.used ≡ posted b.n b.p (lanes_of held b) from to m
  unused x m e free told = changes.unused held b.n b.p (vec_items b.memory) b.used from to k at ok room b.within x free ∙ left _ _ _ _ (refused m e free told)

  pub added : (x y : A) (m : Meaning) → held x ≡ cond (in_range m) m (held y) → slice_index b.used k < b.p → range_refusal m ≡ None → lanes_over held b.n b.p (slice_set (vec_items b.memory) (k * b.p + slice_index b.used k) x) (slice_set b.used k (slice_index b.used k + 1)) ≡ posted b.n b.p (lanes_of held b) from to m
  added x y m is free told =
      done_as _ _ _ _ (may_post m free told)
      (changes.added held b.n b.p (vec_items b.memory) b.used from to k at ok room b.within x free known
      ∙ ap (λ z. with_lane (lanes_of held b) from to (lanes_of held b from to ++ z ∷ [])) (is ∙ cond-true _ _ _ (ranged m told)))

  pub empty : get_or b.used k 0 ≡ 0 → take_refusal b.n (lanes_of held b) from to ≡ Some LaneEmpty
  empty none = ends_passed _ ∙ ap empty_refusal (nil_from_length _ (lane_long ∙ none))

  pub front : (x : A) (m : Meaning) → m ≡ held x → (slice_index b.used k ≢ 0) → x ≡ slice_index_or (vec_items b.memory) (k * b.p) x → lanes_of held b from to ≡ m ∷ drop 1 (lanes_of held b from to)
  front x m is some at_front = changes.front held b.n b.p (vec_items b.memory) b.used from to k at ok room b.within x some at_front ∙ ap (λ y. y ∷ drop 1 (lanes_of held b from to)) (sym is)

  pub may_take : (m : Meaning) → lanes_of held b from to ≡ m ∷ drop 1 (lanes_of held b from to) → take_refusal b.n (lanes_of held b) from to ≡ None
  may_take m is = ends_passed _ ∙ ap empty_refusal is

  -- mem' is what a slice of the memory, which was xs, is then
  pub removed : (m : Meaning) → lanes_of held b from to ≡ m ∷ drop 1 (lanes_of held b from to) → (mem' ws xs : List A) → mem' ≡ ws → xs ≡ vec_items b.memory → take (k * b.p) ws ≡ take (k * b.p) xs → drop (k * b.p + slice_index b.used k) ws ≡ drop (k * b.p + slice_index b.used k) xs → take (slice_index b.used k - 1) (drop (k * b.p) ws) ≡ drop 1 (take (slice_index b.used k) (drop (k * b.p) xs)) → lanes_over held b.n b.p mem' (slice_set b.used k (slice_index b.used k - 1)) ≡ taken b.n (lanes_of held b) from to
  removed m lane mem' ws xs is was below above moved =
      let c : ℕ = get_or b.used k 0 in
      done_as _ _ _ _ (may_take m lane)
      (changes.removed held b.n b.p (vec_items b.memory) b.used from to k at ok room b.within mem' known
      (ap (take (k * b.p)) is ∙ below ∙ ap (take (k * b.p)) was)
      (ap (drop (k * b.p + c)) is ∙ above ∙ ap (drop (k * b.p + c)) was)
      (ap (λ l. take (c - 1) (drop (k * b.p) l)) is ∙ moved ∙ ap (λ l. drop 1 (take c (drop (k * b.p) l))) was))

-- the laws of a carrier

short_block : {A : Type 0} (held : A → Meaning) (t : Bool) (c p : ℕ) (l : List A) → c ≤ p → length (cond t (map held (take c l)) []) ≤ p
short_block held true c p l h = omega (arith, length-map (take c l) held, length-take c l)
short_block held false c p l h = omega arith

pub bounded : {A : Type 0} (held : A → Meaning) (b : Blocks A) (from to : ℕ) → length (lanes_of held b from to) ≤ b.p
unfolding lanes_over
bounded held b from to = short_block held _ _ _ _ (b.within (lane_number b.n from to))

no_lane : (a b c : Bool) (x y e : Refusal) → cond (a && b) (cond c (Some x) None) (Some y) ≡ Some e → (a && b && not c) ≡ false
no_lane true true true x y e is = refl
no_lane true true false x y e is = absurd (changes.some_none e (sym is))
no_lane true false c x y e is = refl
no_lane false b c x y e is = refl

pub nothing_elsewhere : {A : Type 0} (held : A → Meaning) (b : Blocks A) (from to : ℕ) (e : Refusal) → ends_refusal b.n from to ≡ Some e → lanes_of held b from to ≡ []
unfolding lanes_over
nothing_elsewhere held b from to e is = cond-false _ _ _ (no_lane (nat_lt from b.n) (nat_lt to b.n) (from == to) _ _ e is)

-- layout

pub zero_at : (n k : ℕ) → ◌≡◌ {A = ℕ} (slice_index (replicate n 0) k) 0
zero_at zero k = refl
zero_at (suc n) zero = refl
zero_at (suc n) (suc k) = zero_at n k

empty_block : {A : Type 0} (held : A → Meaning) (t : Bool) (c : ℕ) (l : List A) → c ≡ 0 → cond t (map held (take c l)) [] ≡ []
empty_block held true c l e = ap (λ k. map held (take k l)) e
empty_block held false c l e = refl

pub empty_lanes : {A : Type 0} (held : A → Meaning) (n p most : ℕ) (places : List A) (from to : ℕ) → lanes_over held n p places (replicate most 0) from to ≡ []
unfolding lanes_over
empty_lanes held n p most places from to = empty_block held _ _ _ (zero_at most (lane_number n from to))

both_tests : (s t : Bool) (x y : Refusal) → cond s (cond t None (Some x)) (Some y) ≡ None → (s ≡ true) × (t ≡ true)
both_tests true true x y is = (refl, refl)
both_tests true false x y is = absurd (changes.some_none x is)
both_tests false t x y is = absurd (changes.some_none y is)

-- what is not refused keeps the bounds
pub record Within (n p size : ℕ) : Type 0 where
  pub enough_servers : min_servers ≤ n
  pub few_servers : n ≤ max_servers
  pub some_places : min_places ≤ p
  pub few_places : p ≤ max_places
  pub room : n * (n - 1) * p ≤ size

pub within_bounds : (n p size : ℕ) → layout_refusal n p size ≡ None → Within n p size
within_bounds n p size is =
    let t = both_tests _ _ _ _ is in
    let servers = and_parts _ _ t.0 in
    let rest = and_parts _ _ t.1 in
    let places = and_parts _ _ rest.0 in
    record {
      enough_servers = leb-true _ _ servers.0;
      few_servers = leb-true _ _ servers.1;
      some_places = leb-true _ _ places.0;
      few_places = leb-true _ _ places.1;
      room = leb-true _ _ rest.1;
    }

-- what keeps the bounds is not refused
pub laid : (n p size : ℕ) → min_servers ≤ n → n ≤ max_servers → min_places ≤ p → p ≤ max_places → n * (n - 1) * p ≤ size → layout_refusal n p size ≡ None
laid n p size a b c d e = cond-true _ _ _ (and_from _ _ (le-leb _ _ a) (le-leb _ _ b)) ∙ cond-true _ _ _ (and_from _ _ (and_from _ _ (le-leb _ _ c) (le-leb _ _ d)) (le-leb _ _ e))
