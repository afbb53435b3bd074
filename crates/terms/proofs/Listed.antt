-- Lists made from a function of the index. Assumes nothing.
use Rattle.std.proofs.Common.{◌≡◌, ℕ, ◌+◌, ◌<◌, List, [], ◌∷◌, ◌++◌, length, get_or, sym, refl, ◌∙◌, ap₂, zero-add}
use Rattle.std.proofs.lemmas.List.FromFn.{length-map-range_with_len, get_or-map-range_with_len, map-range_with_len_more, fill_by_all}
use Rattle.terms.specs.Lists.{listed}

pub length_listed : {A : Type 0} (n : ℕ) (f : ℕ → A) → length (listed n f) ≡ n
length_listed n f = length-map-range_with_len f 0 n

pub listed_at : {A : Type 0} (n : ℕ) (f : ℕ → A) (i : ℕ) (d : A) → i < n → get_or (listed n f) i d ≡ f i
listed_at n f i d h = get_or-map-range_with_len f 0 n i i d h (zero-add i)

-- one item more at the end
pub listed_push : {A : Type 0} (xs : List A) (n : ℕ) (f : ℕ → A) (x : A) → xs ≡ listed n f → x ≡ f n → xs ++ x ∷ [] ≡ listed (n + 1) f
listed_push xs n f x e is = ap₂ (λ ys y. ys ++ y ∷ []) e is ∙ sym (map-range_with_len_more f 0 n n (zero-add n))

-- a list is made by what stands at its places
pub listed_by : {A : Type 0} (xs : List A) (n : ℕ) (f : ℕ → A) (d : A) → length xs ≡ n → ((i : ℕ) → i < n → get_or xs i d ≡ f i) → xs ≡ listed n f
listed_by xs n f d long at = fill_by_all f xs n d long at

pub listed_same : {A : Type 0} (n : ℕ) (f g : ℕ → A) → ((i : ℕ) → i < n → f i ≡ g i) → A → listed n f ≡ listed n g
listed_same n f g e d = listed_by (listed n f) n g d (length_listed n f) (λ i h. listed_at n f i d h ∙ e i h)

-- lists of one length that agree at every place
pub same_by_places : {A : Type 0} (xs ys : List A) (n : ℕ) (d : A) → length xs ≡ n → length ys ≡ n → ((i : ℕ) → i < n → get_or xs i d ≡ get_or ys i d) → xs ≡ ys
same_by_places xs ys n d lx ly e = listed_by xs n (λ i. get_or ys i d) d lx e ∙ sym (listed_by ys n (λ i. get_or ys i d) d ly (λ i h. refl))
