-- The first item that passes a test, seen through a map. Assumes nothing.
use Rattle.std.proofs.Common.{◌≡◌, ℕ, ◌+◌, Bool, cond, List, [], ◌∷◌, map, Some, refl, ap}
use Rattle.std.specs.List.{position_from}

pub first_map : {A B : Type 0} (f : A → B) (p : B → Bool) (i : ℕ) (xs : List A) → position_from (λ x. p (f x)) i xs ≡ position_from p i (map f xs)
first_map f p i [] = refl
first_map f p i (x ∷ xs) = ap (λ o. cond (p (f x)) (Some i) o) (first_map f p (i + 1) xs)
