-- Messages of a run fit the group.
use Rattle.std.proofs.Common.{◌≡◌, ℕ, suc, ◌/◌, ◌%◌, ◌<◌, ◌≤◌, Bool, true, ◌&&◌, ◌||◌, eqb, ltb, leb, List, [], ◌∷◌, map, length, get_or, refl, ◌∙◌, arith}
use lib.ListN.{length-map}
use Rattle.std.proofs.lemmas.Bool.Decides.{nat_tests}
use Rattle.std.proofs.lemmas.Bool.{le-leb, and_parts, and_from, lt-ltb, eq-eqb}
use Rattle.terms.specs.Limits.{max_height}
use Rattle.message.specs.declared.tag.Tag as declared
use Rattle.message.specs.Ranges.{tag_ok, tags_ok, cells_ok, read_ok}
use Rattle.std.specs.List.{list_all}
use Rattle.rules.proofs.Words.{every_from}
use Rattle.rules.specs.Delivering as rule
use Rattle.rules.proofs.RankedMessages.{Tagged, Plain, Coded}
use Rattle.rules.proofs.Unranked.{tag_at}
use Rattle.rules.proofs.Ranked.{Code, layout_of}
use Rattle.rules.proofs.RankedSteps.{tag_fits, fits}
use Rattle.rules.proofs.RankedFacts.{Lawful}

-- a rank that fits is that of a tag within its ranges
pub tag_ok_at : (n t : ℕ) → n ≤ 6 → (leb (t / 6) max_height && (ltb (t % 6) n && (ltb 0 (t / 6) || eqb (t % 6) 0))) ≡ true → tag_ok (tag_at t) ≡ true
tag_ok_at n t few h = grind (arith, nat_tests)

pub notice_fits : (g : Code) (R : Lawful g) (x t : ℕ) → x < g.k → tag_fits g t ≡ true → fits g (Tagged x t) ≡ true
unfolding rule.fits rule.fits_group
notice_fits g R x t xk h =
    let a = R.few in
    let b = R.few_objects in
    let o = tag_ok_at g.n t a h in
    let p = and_parts (leb (t / 6) max_height) _ h in
    let q = and_parts (ltb (t % 6) g.n) _ p.1 in
    and_from _ (ltb x g.k && ltb (t % 6) g.n) (and_from (leb 0 x && leb x 5) (tag_ok (tag_at t)) (and_from (leb 0 x) (leb x 5) (le-leb 0 x (omega arith)) (le-leb x 5 (omega arith))) o)
    (and_from (ltb x g.k) (ltb (t % 6) g.n) (lt-ltb x g.k xk) q.0)

-- the value of an open read's reply, and the number of one that is counted
value_ok : (g : Code) (R : Lawful g) (v : List ℕ) → length v ≡ g.w → ((c : ℕ) → c < g.w → get_or v c 0 < g.q) → (cells_ok v ≡ true) × (rule.fits_value (layout_of g) v ≡ true)
value_ok g R v long less =
    let a = R.cells in
    let b = R.few_cells in (
      and_from (leb 1 (length v)) (leb (length v) 16) (le-leb 1 (length v) (omega arith)) (le-leb (length v) 16 (omega arith)),
      and_from (eqb (length v) g.w) _ (eq-eqb (length v) g.w long) (every_from g.w (λ c. ltb (get_or v c 0) g.q) (λ c lt. lt-ltb (get_or v c 0) g.q (less c lt))),
    )

number_ok : (m : ℕ) → 1 ≤ m → m ≤ 1000000 → read_ok m ≡ true
number_ok m lo hi = and_from (leb 1 m) (leb m 1000000) (le-leb 1 m lo) (le-leb m 1000000 hi)

pub plain_fits : (g : Code) (R : Lawful g) (m : ℕ) (v : List ℕ) → 1 ≤ m → m ≤ 1000000 → length v ≡ g.w → ((c : ℕ) → c < g.w → get_or v c 0 < g.q) → fits g (Plain m v) ≡ true
unfolding rule.fits rule.fits_group
plain_fits g R m v lo hi long less =
    let w = value_ok g R v long less in
    and_from _ _ (and_from (read_ok m) (cells_ok v) (number_ok m lo hi) w.0) w.1

-- each tag of a list passes
each_at : (p : declared.Tag → Bool) (st : List ℕ) → ((y : ℕ) → y < length st → p (tag_at (get_or st y 0)) ≡ true) → list_all p (map tag_at st) ≡ true
each_at p [] h = refl
each_at p (t ∷ st) h = and_from (p (tag_at t)) (list_all p (map tag_at st)) (h 0 (omega arith)) (each_at p st (λ y lt. h (suc y) (omega arith)))

pub coded_fits : (g : Code) (R : Lawful g) (m : ℕ) (v st : List ℕ) → 1 ≤ m → m ≤ 1000000 → length v ≡ g.w → ((c : ℕ) → c < g.w → get_or v c 0 < g.q) → length st ≡ g.k → ((y : ℕ) → y < g.k → tag_fits g (get_or st y 0) ≡ true)
    → fits g (Coded m v st) ≡ true
unfolding rule.fits rule.fits_group
coded_fits g R m v st lo hi long less many tags =
    let w = value_ok g R v long less in
    let a = R.objects in
    let b = R.few_objects in
    let e : length (map tag_at st) ≡ g.k = length-map st tag_at ∙ many in
    let ok : list_all tag_ok (map tag_at st) ≡ true = each_at tag_ok st (λ y lt. tag_ok_at g.n (get_or st y 0) R.few (tags y (omega arith))) in
    let fit : list_all (rule.fits_tag (layout_of g)) (map tag_at st) ≡ true = each_at (rule.fits_tag (layout_of g)) st (λ y lt.
    (and_parts (ltb (get_or st y 0 % 6) g.n) _ (and_parts (leb (get_or st y 0 / 6) max_height) _ (tags y (omega arith))).1).0) in
    let listed_ok : tags_ok (map tag_at st) ≡ true = and_from _ (list_all tag_ok (map tag_at st)) (and_from (leb 1 (length (map tag_at st))) (leb (length (map tag_at st)) 6) (le-leb 1 (length (map tag_at st)) (omega arith)) (le-leb (length (map tag_at st)) 6 (omega arith))) ok in
    and_from _ _ (and_from (read_ok m && cells_ok v) (tags_ok (map tag_at st)) (and_from (read_ok m) (cells_ok v) (number_ok m lo hi) w.0) listed_ok)
    (and_from (rule.fits_value (layout_of g) v) _ w.1 (and_from (eqb (length (map tag_at st)) g.k) _ (eq-eqb (length (map tag_at st)) g.k e) fit))
