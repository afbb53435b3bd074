-- A test of each number below n. Assumes nothing.
use Rattle.std.proofs.Common.{◌≡◌, ℕ, zero, suc, ◌+◌, ◌<◌, Bool, true, false, ◌&&◌, [], ◌∷◌, map, sym, refl, ap, ◌∙◌, ap₂, inl, inr, not-suc-le-zero, add-one, zero-add, arith}
use Rattle.std.specs.List.{list_all, range_with_len}
use Rattle.std.proofs.lemmas.List.Folds.{list_all-map, list_all-append}
use Rattle.std.proofs.lemmas.List.FromFn.{map-range_with_len_more}
use Rattle.std.proofs.lemmas.Bool.{cases_eq}
use Rattle.terms.specs.Lists.{every}
use Rattle.terms.proofs.Tests.{and_left, and_right}

pub every_none : (f : ℕ → Bool) → every 0 f ≡ true
unfolding every
every_none f = refl

pub every_more : (n : ℕ) (f : ℕ → Bool) → every (n + 1) f ≡ (every n f && f n)
unfolding every
every_more n f = ap (λ (m : ℕ). every m f) (add-one n)

-- what passes everywhere passes at k
pub every_at : (n : ℕ) (f : ℕ → Bool) → every n f ≡ true → (k : ℕ) → k < n → f k ≡ true
unfolding every
every_at zero f t k h = absurd (not-suc-le-zero h)
every_at (suc n) f t k h =
    elim (cases_eq k n) [
      | inl e ↦ ap f e ∙ and_right (every n f) (f n) t
      | inr ne ↦ every_at n f (and_left (every n f) (f n) t) k (omega arith)
    ]

pub every_all : (n : ℕ) (f : ℕ → Bool) → ((k : ℕ) → k < n → f k ≡ true) → every n f ≡ true
unfolding every
every_all zero f t = refl
every_all (suc n) f t = ap₂ ◌&&◌ (every_all n f (λ k h. t k (omega arith))) (t n (omega arith))

and_true : (b : Bool) → (b && true) ≡ b
and_true true = refl
and_true false = refl

-- the test of each number below n, as a test of each item of the list of them
pub every_listed : (n : ℕ) (f : ℕ → Bool) → every n f ≡ list_all f (range_with_len 0 n)
unfolding every
every_listed zero f = refl
every_listed (suc n) f =
    let more = map-range_with_len_more f 0 n n (zero-add n) in
    let items = range_with_len 0 n in
    ap₂ ◌&&◌ (every_listed n f ∙ sym (list_all-map (λ b. b) f items)) (sym (and_true (f n)))
    ∙ sym (list_all-append (λ b. b) (map f items) (f n ∷ []))
    ∙ ap (list_all (λ b. b)) (sym more)
    ∙ list_all-map (λ b. b) f (range_with_len 0 (n + 1))
    ∙ ap (λ m. list_all f (range_with_len 0 m)) (add-one n)
