-- Laws of the rules' small words. Assumes nothing.
use Rattle.std.proofs.Common.{◌≡◌, ℕ, zero, suc, ◌+◌, ◌-◌, ◌<◌, ◌≤◌, Bool, true, false, cond, ◌||◌, eqb, ltb, List, [], ◌∷◌, ◌++◌, map, length, get_or, take, drop, set, replicate, Some, None, sym, refl, ap, ◌∙◌, subst, ap₂, inl, inr, add-one, zero-add, arith, get_or-set_other, get_or-set_same}
use mathlib.Core.Path.{fun_ext}
use Rattle.std.specs.List.{list_any, position, position_or_len, range_with_len}
use Rattle.std.proofs.lemmas.List.{take_all, length-map, length-take-le, get_or-map, get_or-take, get_or-drop, get_or_append_left, get_or-append_right}
use Rattle.std.proofs.lemmas.List.Folds.{list_any_more}
use Rattle.std.proofs.lemmas.List.FromFn.{length-range_with_len, get_or-range_with_len}
use Rattle.std.proofs.lemmas.List.Sums.{fails_before_first, passes_at_first}
use Rattle.std.proofs.lemmas.Bool.{cases_eq, cases_lt, eq-eqb, ne_eqb, lt-ltb, le-ltb}
use Rattle.rules.specs.Words.{upd, some, first_below, or_else}

-- ---- the first number that passes

first_more : (n : ℕ) (f : ℕ → Bool) → first_below (n + 1) f ≡ or_else (first_below n f) (cond (f n) (Some n) None)
unfolding first_below
first_more n f = ap (λ (m : ℕ). first_below m f) (add-one n)

first_stays : (n i k : ℕ) (f : ℕ → Bool) → first_below n f ≡ Some i → first_below (n + k) f ≡ Some i
unfolding first_below
first_stays n i zero f e = let same : n + 0 ≡ n = omega arith in ap (λ (m : ℕ). first_below m f) same ∙ e
first_stays n i (suc k) f e =
    let step : n + suc k ≡ suc (n + k) = omega arith in
    ap (λ (m : ℕ). first_below m f) step ∙ ap (λ o. or_else o (cond (f (n + k)) (Some (n + k)) None)) (first_stays n i k f e)

pub first_passes : (n i : ℕ) (f : ℕ → Bool) → first_below i f ≡ None → f i ≡ true → i < n → first_below n f ≡ Some i
first_passes n i f none passes h =
    let at : first_below (i + 1) f ≡ Some i = first_more i f ∙ ap₂ (λ o b. or_else o (cond b (Some i) None)) none passes in
    let k = n - (i + 1) in
    let far : n ≡ i + 1 + k = omega arith in
    ap (λ (m : ℕ). first_below m f) far ∙ first_stays (i + 1) i k f at

pub first_all_fail : (n : ℕ) (f : ℕ → Bool) → ((k : ℕ) → k < n → f k ≡ false) → first_below n f ≡ None
unfolding first_below
first_all_fail zero f fails = refl
first_all_fail (suc n) f fails = ap₂ (λ o b. or_else o (cond b (Some n) None)) (first_all_fail n f (λ k h. fails k (omega arith))) (fails n (omega arith))

-- the first number below n that passes, as the library has it
pub position_first : (n : ℕ) (f : ℕ → Bool) → position f (range_with_len 0 n) ≡ first_below n f
position_first n f =
    let xs = range_with_len 0 n in
    let i = position_or_len f xs in
    let long : length xs ≡ n = length-range_with_len 0 n in
    let at : (k : ℕ) → k < n → get_or xs k 0 ≡ k = λ k h. get_or-range_with_len 0 n k 0 h ∙ zero-add k in
    elim (cases_lt i (length xs)) [
      | inl lt ↦
          let below : i < n = omega arith in
          let passes : f i ≡ true = ap f (sym (at i below)) ∙ passes_at_first f xs 0 lt in
          let fails : (k : ℕ) → k < i → f k ≡ false = λ k h. ap f (sym (at k (omega arith))) ∙ fails_before_first f xs k 0 h in
          ap (λ b. cond b (Some i) None) (lt-ltb i (length xs) lt) ∙ sym (first_passes n i f (first_all_fail i f fails) passes below)
      | inr past ↦
          let fails : (k : ℕ) → k < n → f k ≡ false = λ k h. ap f (sym (at k h)) ∙ fails_before_first f xs k 0 (omega arith) in
          ap (λ b. cond b (Some i) None) (le-ltb i (length xs) past) ∙ sym (first_all_fail n f fails)
    ]

-- some item passes, of the first n and of all
some_taken : {A : Type 0} (p : A → Bool) (xs : List A) (d : A) (n : ℕ) → n ≤ length xs → some n (λ i. p (get_or xs i d)) ≡ list_any p (take n xs)
unfolding some
some_taken p xs d zero h = refl
some_taken p xs d (suc n) h =
    ap (λ b. b || p (get_or xs n d)) (some_taken p xs d n (omega arith)) ∙ sym (list_any_more p xs n d (omega arith)) ∙ ap (λ (m : ℕ). list_any p (take m xs)) (add-one n)

pub any_map : {A B : Type 0} (p : B → Bool) (f : A → B) (xs : List A) → list_any (λ x. p (f x)) xs ≡ list_any p (map f xs)
any_map p f [] = refl
any_map p f (x ∷ xs) = ap (λ b. p (f x) || b) (any_map p f xs)

pub some_listed : {A : Type 0} (p : A → Bool) (xs : List A) (d : A) (n : ℕ) → length xs ≡ n → list_any p xs ≡ some n (λ i. p (get_or xs i d))
some_listed p xs d n long = ap (list_any p) (sym (take_all n xs (omega arith))) ∙ sym (some_taken p xs d n (omega arith))

-- ---- a function changed at one place

pub upd_same : {A : Type 0} (f : ℕ → A) (i : ℕ) (v : A) → upd f i v i ≡ v
unfolding upd
upd_same f i v = ap (λ b. cond b v (f i)) (eq-eqb i i refl)

pub upd_other : {A : Type 0} (f : ℕ → A) (i k : ℕ) (v : A) → (k ≡ i → ⊥) → upd f i v k ≡ f k
unfolding upd
upd_other f i k v ne = ap (λ b. cond b v (f k)) (ne_eqb k i ne)

-- a list written at i, as a function of the place
pub get_or_upd : {A : Type 0} (xs : List A) (i : ℕ) (v d : A) → i < length xs → (λ (k : ℕ). get_or (set xs i v) k d) ≡ upd (λ (k : ℕ). get_or xs k d) i v
get_or_upd xs i v d lt =
    fun_ext (λ k. elim (cases_eq k i) [
      | inl same ↦ rw (same, get_or-set_same xs i v d lt, upd_same (λ (k : ℕ). get_or xs k d) i v)
      | inr ne ↦ get_or-set_other xs i k v d ne ∙ sym (upd_other (λ (k : ℕ). get_or xs k d) i k v ne)
    ])

-- f, with g applied at each place below i
abbrev pub turned_below : {A : Type 0} → (A → A) → (ℕ → A) → ℕ → ℕ → A
turned_below g f i k = cond (ltb k i) (g (f k)) (f k)

-- a list whose first n items are turned, as a function of the place
pub turned_front : {A : Type 0} (g : A → A) (xs : List A) (n : ℕ) (d : A) → n ≤ length xs
    → (λ (k : ℕ). get_or (map g (take n xs) ++ drop n xs) k d) ≡ turned_below g (λ (k : ℕ). get_or xs k d) n
turned_front g xs n d within =
    let front = map g (take n xs) in
    let long : length front ≡ n = length-map (take n xs) g ∙ length-take-le n xs within in
    fun_ext (λ k. elim (cases_lt k n) [
      | inl h ↦
          get_or_append_left front (drop n xs) d k (omega arith) ∙ get_or-map g (take n xs) k d d (omega (arith, length-take-le n xs within)) ∙ ap g (get_or-take n xs k d h)
          ∙ ap (λ b. cond b (g (get_or xs k d)) (get_or xs k d)) (sym (lt-ltb k n h))
      | inr h ↦
          let back : n + (k - n) ≡ k = omega arith in
          get_or-append_right front (drop n xs) n k d long h ∙ get_or-drop n xs (k - n) d ∙ ap (λ (m : ℕ). get_or xs m d) back
          ∙ ap (λ b. cond b (g (get_or xs k d)) (get_or xs k d)) (sym (le-ltb k n h))
    ])

-- what is seen of a function changed at one place
pub upd_seen : {A B : Type 0} (see : A → B) (f : ℕ → A) (i : ℕ) (v : A) → (λ (k : ℕ). see (upd f i v k)) ≡ upd (λ (k : ℕ). see (f k)) i (see v)
unfolding upd
upd_seen see f i v = fun_ext (λ k. cond_seen see (eqb k i) v (f k))
  where
    cond_seen : {A B : Type 0} (see : A → B) (b : Bool) (x y : A) → see (cond b x y) ≡ cond b (see x) (see y)
    cond_seen see true x y = refl
    cond_seen see false x y = refl

-- a list of lists, written at j of the list x
pub rows_upd : {A : Type 0} (rows : List (List A)) (x j : ℕ) (t d : A) → x < length rows → j < length (get_or rows x [])
    → (λ (y k : ℕ). get_or (get_or (set rows x (set (get_or rows x []) j t)) y []) k d) ≡ upd (λ (y k : ℕ). get_or (get_or rows y []) k d) x (upd (λ (k : ℕ). get_or (get_or rows x []) k d) j t)
rows_upd {A} rows x j t d ltx ltj =
    let see : List A → ℕ → A = λ r k. get_or r k d in
    let all : (ℕ → List A) → ℕ → ℕ → A = λ f y. see (f y) in
    let old : ℕ → List A = λ y. get_or rows y [] in
    ap all (get_or_upd rows x (set (get_or rows x []) j t) [] ltx) ∙ upd_seen see old x (set (get_or rows x []) j t) ∙ ap (upd (λ (y : ℕ). see (old y)) x) (get_or_upd (get_or rows x []) j t d ltj)

pub same_everywhere : {A : Type 0} (n : ℕ) (d : A) (k : ℕ) → get_or (replicate n d) k d ≡ d
same_everywhere zero d k = refl
same_everywhere (suc n) d zero = refl
same_everywhere (suc n) d (suc k) = same_everywhere n d k

rows_past : {A : Type 0} (n m : ℕ) (d : A) (x j : ℕ) → get_or (get_or (replicate n (replicate m d)) x []) j d ≡ d
rows_past zero m d x j = refl
rows_past (suc n) m d zero j = same_everywhere m d j
rows_past (suc n) m d (suc x) j = rows_past n m d x j

abbrev pub rows_of : {A : Type 0} → A → A → ℕ → ℕ → A
rows_of d u x j = get_or (get_or (replicate 6 (replicate 6 u)) x []) j d

abbrev pub row_of : {A : Type 0} → A → A → ℕ → A
row_of d u x = get_or (replicate 6 u) x d

pub row_same : {A : Type 0} (t d : A) → t ≡ d → row_of d t ≡ (λ (x : ℕ). d)
row_same t d e = ap (row_of d) e ∙ fun_ext (same_everywhere 6 d)

pub rows_same : {A : Type 0} (t d : A) → t ≡ d → rows_of d t ≡ (λ (x j : ℕ). d)
rows_same t d e = ap (rows_of d) e ∙ fun_ext (λ x. fun_ext (λ j. rows_past 6 6 d x j))

-- what holds of each item still does where one of which it holds is written
pub each_set : {A : Type 0} (P : A → Type 0) (xs : List A) (i : ℕ) (v d : A) → i < length xs → ((k : ℕ) → P (get_or xs k d)) → P v → (k : ℕ) → P (get_or (set xs i v) k d)
each_set {A} P xs i v d lt all new k =
    elim (cases_eq k i) [
      | inl same ↦ subst (λ (n : ℕ). P (get_or (set xs i v) n d)) (sym same) (subst P (sym (get_or-set_same xs i v d lt)) new)
      | inr ne ↦ subst P (sym (get_or-set_other xs i k v d ne)) (all k)
    ]
