-- What servers post is within the ranges of messages. Assumes nothing.
use Rattle.std.proofs.Common.{◌≡◌, ℕ, suc, ◌<◌, ◌≤◌, Bool, true, ◌&&◌, List, [], ◌∷◌, length, get_or, refl, ap, ◌∙◌, ap₂, arith}
use Rattle.std.proofs.lemmas.Bool.{le-leb}
use Rattle.terms.specs.Limits.{max_read, max_height, max_count, max_objects, max_servers, max_cells}
use Rattle.terms.specs.Lists.{listed}
use Rattle.std.specs.List.{list_all}
use Rattle.terms.proofs.Listed.{length_listed, listed_at}
use Rattle.message.specs.declared.tag.Tag.{Tag}
use Rattle.message.specs.Meanings.{write_notice, tag_notice, question, plain_reply, coded_reply}
use Rattle.message.specs.Ranges.{between, in_range, count_ok, tag_ok}

pub inside : (low high n : ℕ) → low ≤ n → n ≤ high → between low high n ≡ true
inside low high n a b = ap₂ (λ x y. x && y) (le-leb low n a) (le-leb n high b)

each_by : {A : Type 0} (f : A → Bool) (xs : List A) (d : A) → ((i : ℕ) → i < length xs → f (get_or xs i d) ≡ true) → list_all f xs ≡ true
each_by f [] d h = refl
each_by f (x ∷ xs) d h = ap₂ (λ a b. a && b) (h 0 (omega arith)) (each_by f xs d (λ i lt. h (suc i) (omega arith)))

-- a test passes on each item of a list made from a function
pub each_listed : {A : Type 0} (f : A → Bool) (n : ℕ) (g : ℕ → A) → A → ((i : ℕ) → i < n → f (g i) ≡ true) → list_all f (listed n g) ≡ true
each_listed f n g d h =
    let long = length_listed n g in
    each_by f (listed n g) d (λ i lt. let lt' : i < n = omega (arith, long) in ap f (listed_at n g i d lt') ∙ h i lt')

pub notice_range : (x : ℕ) (v : List ℕ) (h n : ℕ) (clock : ℕ → ℕ) → x < max_objects → 1 ≤ length v → length v ≤ max_cells → 1 ≤ h → h ≤ max_height → 2 ≤ n → n ≤ max_servers → ((j : ℕ) → clock j ≤ max_count)
    → in_range (write_notice x v h (listed n clock)) ≡ true
notice_range x v h n clock lx v1 v2 h1 h2 n1 n2 counts =
    let long = length_listed n clock in
    ap₂ (λ a b. a && b)
    (ap₂ (λ a b. a && b) (ap₂ (λ a b. a && b) (inside 0 5 x (omega arith) (omega arith)) (inside 1 16 (length v) v1 v2)) (inside 1 max_height h h1 h2))
    (ap₂ (λ a b. a && b) (inside 2 6 (length (listed n clock)) (omega (arith, long)) (omega (arith, long))) (each_listed count_ok n clock 0 (λ i lt. le-leb (clock i) max_count (counts i))))

pub tag_notice_range : (x : ℕ) (t : Tag) → x < max_objects → tag_ok t ≡ true → in_range (tag_notice x t) ≡ true
tag_notice_range x t lx ok = ap₂ (λ a b. a && b) (inside 0 5 x (omega arith) (omega arith)) ok

pub question_range : (m x n : ℕ) (f : ℕ → Tag) → Tag → 1 ≤ m → m ≤ max_read → x < max_objects → 1 ≤ n → n ≤ max_objects → ((i : ℕ) → tag_ok (f i) ≡ true) → in_range (question m x (listed n f)) ≡ true
question_range m x n f d m1 m2 lx n1 n2 ok =
    let long = length_listed n f in
    ap₂ (λ a b. a && b) (ap₂ (λ a b. a && b) (inside 1 max_read m m1 m2) (inside 0 5 x (omega arith) (omega arith)))
    (ap₂ (λ a b. a && b) (inside 1 6 (length (listed n f)) (omega (arith, long)) (omega (arith, long))) (each_listed tag_ok n f d (λ i lt. ok i)))

pub plain_range : (m : ℕ) (v : List ℕ) → between 1 max_read m ≡ true → 1 ≤ length v → length v ≤ max_cells → in_range (plain_reply m v) ≡ true
plain_range m v ok v1 v2 = ap₂ (λ a b. a && b) ok (inside 1 16 (length v) v1 v2)

pub coded_range : (m : ℕ) (v : List ℕ) (n : ℕ) (f : ℕ → Tag) → Tag → between 1 max_read m ≡ true → 1 ≤ length v → length v ≤ max_cells → 1 ≤ n → n ≤ max_objects → ((i : ℕ) → i < n → tag_ok (f i) ≡ true)
    → in_range (coded_reply m v (listed n f)) ≡ true
coded_range m v n f d ok v1 v2 n1 n2 tags =
    let long = length_listed n f in
    ap₂ (λ a b. a && b) (ap₂ (λ a b. a && b) ok (inside 1 16 (length v) v1 v2))
    (ap₂ (λ a b. a && b) (inside 1 6 (length (listed n f)) (omega (arith, long)) (omega (arith, long))) (each_listed tag_ok n f d tags))
