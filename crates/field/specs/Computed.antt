-- A test at each number below n, that antt computes. Assumes nothing.
use Rattle.std.specs.Prelude.{◌≡◌, ℕ, zero, suc, ◌+◌, ◌<◌, Bool, true, false, List, [], ◌∷◌, length, ◌==◌, slice_index, refl}
use Rattle.std.proofs.Common.{sym, ap, subst, ◌∙◌, inl, inr, eqb-true, arith, not-suc-le-zero, le_of_suc-le-suc, add-zero, zero-add, add-suc, suc-add}
use Rattle.std.proofs.lemmas.Bool.{cases_eq}

abbrev pub both : Bool → Bool → Bool
both true b = b
both false b = false

pub both_left : (a b : Bool) → both a b ≡ true → a ≡ true
both_left true b t = refl
both_left false b t = t

pub both_right : (a b : Bool) → both a b ≡ true → b ≡ true
both_right true b t = t
both_right false b t = cc

abbrev pub passes : (ℕ → Bool) → ℕ → Bool
passes f zero = true
passes f (suc n) = both (f n) (passes f n)

pub passed : (f : ℕ → Bool) (n : ℕ) → passes f n ≡ true → (k : ℕ) → k < n → f k ≡ true
passed f zero t k h = absurd (not-suc-le-zero h)
passed f (suc n) t k h =
    elim (cases_eq k n) [
      | inl e ↦ ap f e ∙ both_left (f n) (passes f n) t
      | inr ne ↦ passed f n (both_right (f n) (passes f n) t) k (omega arith)
    ]

-- the list is g at its places, counted from i
abbrev pub agrees : (ℕ → ℕ) → ℕ → List ℕ → Bool
agrees g i [] = true
agrees g i (x ∷ xs) = both (x == g i) (agrees g (suc i) xs)

from : (g : ℕ → ℕ) (i : ℕ) (xs : List ℕ) → agrees g i xs ≡ true → (k : ℕ) → k < length xs → slice_index xs k ≡ g (i + k)
from g i [] t k h = absurd (not-suc-le-zero h)
from g i (x ∷ xs) t zero h = eqb-true x (g i) (both_left (x == g i) (agrees g (suc i) xs) t) ∙ ap g (sym (add-zero i))
from g i (x ∷ xs) t (suc k) h =
    from g (suc i) xs (both_right (x == g i) (agrees g (suc i) xs) t) k (le_of_suc-le-suc h) ∙ ap g (suc-add i k ∙ sym (add-suc i k))

-- a table of n numbers that agrees with g has g at each place
pub looked_up : (g : ℕ → ℕ) (xs : List ℕ) (n : ℕ) → agrees g 0 xs ≡ true → length xs ≡ n → (k : ℕ) → k < n → slice_index xs k ≡ g k
looked_up g xs n t e k h = from g 0 xs t k (subst (λ (m : ℕ). k < m) (sym e) h) ∙ ap g (zero-add k)

-- the list of g at i and the n - 1 numbers after it
abbrev pub counted : (ℕ → ℕ) → ℕ → ℕ → List ℕ
counted g i zero = []
counted g i (suc n) = g i ∷ counted g (suc i) n

counted_from : (g : ℕ → ℕ) (i n k : ℕ) → k < n → slice_index (counted g i n) k ≡ g (i + k)
counted_from g i zero k h = absurd (not-suc-le-zero h)
counted_from g i (suc n) zero h = ap g (sym (add-zero i))
counted_from g i (suc n) (suc k) h = counted_from g (suc i) n k (le_of_suc-le-suc h) ∙ ap g (suc-add i k ∙ sym (add-suc i k))

-- what a table that is g at each place has at k: antt compares the table with g, place by place
pub tabled : (g : ℕ → ℕ) (n k : ℕ) → k < n → slice_index (counted g 0 n) k ≡ g k
tabled g n k h = counted_from g 0 n k h ∙ ap g (zero-add k)
