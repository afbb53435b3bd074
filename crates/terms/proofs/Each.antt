-- A test of each item of a list: a loop's step, and what it tells. Assumes nothing.
use Rattle.std.proofs.Common.{◌≡◌, ℕ, zero, suc, ◌+◌, ◌<◌, Bool, true, ◌&&◌, List, [], ◌∷◌, length, get_or, drop, sym, ap, ◌∙◌, arith}
use Rattle.std.proofs.lemmas.List.{at_drop_more}
use Rattle.std.specs.List.{list_all}
use Rattle.terms.proofs.Tests.{and_left, and_right}

module _ {A : Type 0} (p : A → Bool) (xs : List A) (i : ℕ) where
  pub each_next : (d : A) → i < length xs → p (get_or xs i d) ≡ true → list_all p (drop i xs) ≡ list_all p xs → list_all p (drop (i + 1) xs) ≡ list_all p xs
  each_next d h e inv =
      let step : list_all p (drop i xs) ≡ (p (get_or xs i d) && list_all p (drop (i + 1) xs)) = at_drop_more (list_all p) xs i d h in
      sym (step ∙ ap (λ b. b && list_all p (drop (i + 1) xs)) e) ∙ inv

-- what passes on each item passes at i
pub each_at : {A : Type 0} (p : A → Bool) (xs : List A) (i : ℕ) (d : A) → list_all p xs ≡ true → i < length xs → p (get_or xs i d) ≡ true
each_at p [] i d t h = let none : ⊥ = omega arith in absurd none
each_at p (x ∷ xs) zero d t h = and_left (p x) (list_all p xs) t
each_at p (x ∷ xs) (suc i) d t h = each_at p xs i d (and_right (p x) (list_all p xs) t) (omega arith)
