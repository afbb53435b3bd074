-- What the words of the model say.
use Rattle.std.proofs.Common.{◌≡◌, ℕ, zero, suc, ◌<◌, ◌≤◌, max, Bool, true, false, cond, ◌&&◌, ◌||◌, eqb, ltb, ◌⊎◌, List, [], ◌∷◌, ◌++◌, filter, sym, refl, ap, ◌∙◌, inl, inr, ⊎_elim, arith}
use Rattle.std.proofs.lemmas.Bool.Decides.{nat_tests}
use Rattle.std.proofs.lemmas.Bool.{both_ways, cases_Bool, cases_eq, cases_lt, eq-eqb, ne_eqb, eqb-true, ltb-true, and_parts, and_from, or_cases, or_left, or_right, cond_both}
use Rattle.rules.proofs.RankedWords.{upd, every, some, seek, lowest}
use Rattle.rules.proofs.Ranked.{Entry, same_entry, enters, holds, highest, top_tag}

pub upd_same : {A : Type 0} (f : ℕ → A) (i : ℕ) (v : A) → upd f i v i ≡ v
unfolding upd
upd_same f i v = rw (eq-eqb i i refl)

pub upd_other : {A : Type 0} (f : ℕ → A) (i k : ℕ) (v : A) → (k ≡ i → ⊥) → upd f i v k ≡ f k
unfolding upd
upd_other f i k v ne = rw (ne_eqb k i ne)

-- what a part of the new element shares with the old one, every element keeps
pub upd_keeps : {A B : Type 0} (f : A → B) (g : ℕ → A) (i k : ℕ) (v : A) → f v ≡ f (g i) → f (upd g i v k) ≡ f (g k)
upd_keeps f g i k v e =
    elim (cases_eq k i) [ inl same ↦ rw (same, upd_same g i v) e | inr ne ↦ ap f (upd_other g i k v ne) ]

-- what the new element is to the old one, and each to itself, each new one is to its old one
pub upd_each : {A : Type 0} (R : A → A → Type 0) (g : ℕ → A) (i : ℕ) (v : A) → ((x : A) → R x x) → R (g i) v → (k : ℕ) → R (g k) (upd g i v k)
upd_each R g i v self new k =
    elim (cases_eq k i) [ inl same ↦ rw (same, upd_same g i v) new | inr ne ↦ rw (upd_other g i k v ne) (self (g k)) ]

pub every_at : (n : ℕ) (f : ℕ → Bool) → every n f ≡ true → (i : ℕ) → i < n → f i ≡ true
unfolding every
every_at zero f h i lt = absurd (omega arith)
every_at (suc n) f h i lt =
    let p = and_parts (every n f) (f n) h in
    elim (cases_eq i n) [ inl e ↦ rw e p.1 | inr ne ↦ every_at n f p.0 i (omega arith) ]

pub every_from : (n : ℕ) (f : ℕ → Bool) → ((i : ℕ) → i < n → f i ≡ true) → every n f ≡ true
unfolding every
every_from zero f h = refl
every_from (suc n) f h = and_from (every n f) (f n) (every_from n f (λ i lt. h i (omega arith))) (h n (omega arith))

pub some_from : (n : ℕ) (f : ℕ → Bool) (i : ℕ) → i < n → f i ≡ true → some n f ≡ true
unfolding some
some_from zero f i lt e = absurd (omega arith)
some_from (suc n) f i lt e = elim (cases_eq i n) [
  | inl q ↦ or_right (some n f) (f n) (rw q at e)
  | inr ne ↦ or_left (some n f) (f n) (some_from n f i (omega arith) e)
]

pub seek_found : (n : ℕ) (f : ℕ → Bool) → seek n f < n → f (seek n f) ≡ true
unfolding seek
seek_found zero f lt = absurd (omega arith)
seek_found (suc n) f lt = elim (cases_Bool (ltb (seek n f) n)) [
  | inl e ↦ rw e (seek_found n f (ltb-true (seek n f) n e))
  | inr e ↦ elim (cases_Bool (f n)) [
    | inl q ↦ rw (e, q) q
    | inr q ↦ absurd (let z : suc n < suc n = rw (e, q) at lt in omega arith)
  ]
]

pub lowest_le : (n : ℕ) (f : ℕ → ℕ) (i : ℕ) → i < n → lowest n f ≤ f i
unfolding lowest
lowest_le zero f i lt = absurd (omega arith)
lowest_le (suc n) f i lt = elim (cases_eq i n) [
  | inl e ↦ rw e (omega arith)
  | inr ne ↦ let l = lowest_le n f i (omega arith) in omega arith
]

-- ---- histories

pub enters_push : (es : List Entry) (e : Entry) (x t : ℕ) → enters (es ++ e ∷ []) x t ≡ (enters es x t || same_entry x t e)
unfolding enters
enters_push [] e x t = or_comm (same_entry x t e) false
  where
    or_comm : (a b : Bool) → (a || b) ≡ (b || a)
    or_comm true true = refl
    or_comm true false = refl
    or_comm false true = refl
    or_comm false false = refl
enters_push (d ∷ es) e x t = ap (λ b. same_entry x t d || b) (enters_push es e x t) ∙ or_assoc (same_entry x t d) (enters es x t) (same_entry x t e)
  where
    or_assoc : (a b c : Bool) → (a || (b || c)) ≡ ((a || b) || c)
    or_assoc true b c = refl
    or_assoc false true c = refl
    or_assoc false false c = refl

pub holds_push : (es : List Entry) (e : Entry) (x t : ℕ) → holds es x t ≡ true → holds (es ++ e ∷ []) x t ≡ true
holds_push es e x t h = ⊎_elim (λ z. or_left (eqb t 0) (enters (es ++ e ∷ []) x t) z)
    (λ z. or_right (eqb t 0) (enters (es ++ e ∷ []) x t) (enters_push es e x t ∙ or_left (enters es x t) (same_entry x t e) z)) (or_cases (eqb t 0) (enters es x t) h)

pub holds_zero : (es : List Entry) (x : ℕ) → holds es x 0 ≡ true
holds_zero es x = refl

-- an entry that a test of object and tag lets stay
pub enters_sift : (f : Entry → Bool) (K : ℕ → ℕ → Bool) → ((e : Entry) → f e ≡ K e.object e.tag) → (es : List Entry) (x t : ℕ) → enters (filter f es) x t ≡ (enters es x t && K x t)
unfolding enters
enters_sift f K h [] x t = refl
enters_sift f K h (e ∷ es) x t = cond_both (f e) (e ∷ filter f es) (filter f es) (λ l. enters l x t ≡ ((same_entry x t e || enters es x t) && K x t))
    (λ q. ap (λ b. same_entry x t e || b) (enters_sift f K h es x t) ∙ stay (same_entry x t e) (enters es x t) (K x t) (λ s. at_same s (sym (h e) ∙ q)))
    (λ q. enters_sift f K h es x t ∙ leave (same_entry x t e) (enters es x t) (K x t) (λ s. at_gone s (sym (h e) ∙ q)))
  where
    at : same_entry x t e ≡ true → K e.object e.tag ≡ K x t
    at s = let p = and_parts (eqb e.object x) (eqb e.tag t) s in rw (eqb-true e.object x p.0, eqb-true e.tag t p.1)

    at_same : same_entry x t e ≡ true → K e.object e.tag ≡ true → K x t ≡ true
    at_same s q = sym (at s) ∙ q

    at_gone : same_entry x t e ≡ true → K e.object e.tag ≡ false → K x t ≡ false
    at_gone s q = sym (at s) ∙ q

    stay : (a b c : Bool) → (a ≡ true → c ≡ true) → (a || (b && c)) ≡ ((a || b) && c)
    stay true b c q = sym (q refl)
    stay false b c q = refl

    leave : (a b c : Bool) → (a ≡ true → c ≡ false) → (b && c) ≡ ((a || b) && c)
    leave true true c q = refl
    leave true false c q = sym (q refl)
    leave false b c q = refl

-- the highest is zero, or entered, and passes
pub highest_found : (f : ℕ → Bool) (x : ℕ) (es : List Entry) → (highest f x es ≡ 0) ⊎ ((enters es x (highest f x es) ≡ true) × (f (highest f x es) ≡ true))
unfolding highest enters
highest_found f x [] = inl refl
highest_found f x (e ∷ es) = cond_both (eqb e.object x && f e.tag) (max e.tag (highest f x es)) (highest f x es) (λ m. (m ≡ 0) ⊎ ((same_entry x m e || enters es x m) ≡ true) × (f m ≡ true))
    (λ q. let p = and_parts (eqb e.object x) (f e.tag) q in
    elim (cases_lt (highest f x es) e.tag) [
      | inl lt ↦ let m : max e.tag (highest f x es) ≡ e.tag = omega arith in
          rw m (inr (or_left (same_entry x e.tag e) (enters es x e.tag) (and_from (eqb e.object x) (eqb e.tag e.tag) p.0 (eq-eqb e.tag e.tag refl)), p.1))
      | inr le ↦ let m : max e.tag (highest f x es) ≡ highest f x es = omega arith in rw m (later (highest_found f x es))
    ])
    (λ q. later (highest_found f x es))
  where
    later : (highest f x es ≡ 0) ⊎ ((enters es x (highest f x es) ≡ true) × (f (highest f x es) ≡ true))
        → (highest f x es ≡ 0) ⊎ (((same_entry x (highest f x es) e || enters es x (highest f x es)) ≡ true) × (f (highest f x es) ≡ true))
    later (inl z) = inl z
    later (inr z) = inr (or_right (same_entry x (highest f x es) e) (enters es x (highest f x es)) z.0, z.1)

-- ---- tags that change from one object to the next

pub ltb_step : (z y : ℕ) → (z ≡ y → ⊥) → ltb z (suc y) ≡ ltb z y
ltb_step z y ne = grind (arith, nat_tests)

-- the tags A below y, and B from y on
abbrev pub upto : ℕ → (ℕ → ℕ) → (ℕ → ℕ) → ℕ → ℕ
upto y A B z = cond (ltb z y) (A z) (B z)

pub upto_none : (A B : ℕ → ℕ) (z : ℕ) → B z ≡ upto 0 A B z
upto_none A B z = grind (arith, nat_tests)

pub upto_all : (k : ℕ) (A B : ℕ → ℕ) (z : ℕ) → z < k → upto k A B z ≡ A z
upto_all k A B z lt = grind (arith, nat_tests)

pub upto_here : (y : ℕ) (A B : ℕ → ℕ) → upto y A B y ≡ B y
upto_here y A B = grind (arith, nat_tests)

pub upto_next : (y : ℕ) (A B : ℕ → ℕ) → upto (suc y) A B y ≡ A y
upto_next y A B = grind (arith, nat_tests)

pub upto_else : (y : ℕ) (A B : ℕ → ℕ) (z : ℕ) → (z ≡ y → ⊥) → upto (suc y) A B z ≡ upto y A B z
upto_else y A B z ne = ap (λ b. cond b (A z) (B z)) (ltb_step z y ne)

-- ---- the highest of a history

pub top_push : (x : ℕ) (es : List Entry) (e : Entry) → top_tag x (es ++ e ∷ []) ≡ cond (eqb e.object x) (max (top_tag x es) e.tag) (top_tag x es)
unfolding highest
top_push x [] e = elim (cases_Bool (eqb e.object x)) [ inl q ↦ rw q (omega arith) | inr q ↦ rw q ]
top_push x (d ∷ es) e = elim (cases_Bool (eqb d.object x)) [
  | inl q ↦ rw q (ap (max d.tag) (top_push x es e) ∙ elim (cases_Bool (eqb e.object x)) [ inl w ↦ rw w (omega arith) | inr w ↦ rw w ])
  | inr q ↦ rw q (top_push x es e)
]

pub top_bound : (x t : ℕ) (es : List Entry) → enters es x t ≡ true → t ≤ top_tag x es
unfolding highest enters
top_bound x t [] e = absurd (both_ways false refl e)
top_bound x t (d ∷ es) e = ⊎_elim
    (λ q. let p = and_parts (eqb d.object x) (eqb d.tag t) q in let w = eqb-true d.tag t p.1 in rw p.0 (omega arith))
    (λ q. let l = top_bound x t es q in elim (cases_Bool (eqb d.object x)) [ inl w ↦ rw w (omega arith) | inr w ↦ rw w l ])
    (or_cases (same_entry x t d) (enters es x t) e)

pub top_found : (x : ℕ) (es : List Entry) → (top_tag x es ≡ 0) ⊎ (enters es x (top_tag x es) ≡ true)
top_found x es = ⊎_elim (λ q. inl q) (λ q. inr q.0) (highest_found (λ _. true) x es)
