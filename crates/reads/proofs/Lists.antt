-- Lists seen through a map. Assumes nothing.
use Rattle.std.proofs.Common.{◌≡◌, ℕ, zero, suc, ◌<◌, Bool, true, false, cond, List, [], ◌∷◌, ◌++◌, map, length, get_or, take, drop, filter, sym, refl, ap, ◌∙◌, ap₂}
use Rattle.std.proofs.lemmas.List.{get_or-map, map-append}

module _ {A B : Type 0} (f : A → B) where
  pub map_take : (i : ℕ) (xs : List A) → map f (take i xs) ≡ take i (map f xs)
  map_take zero xs = refl
  map_take (suc i) [] = refl
  map_take (suc i) (x ∷ xs) = ap (λ ys. f x ∷ ys) (map_take i xs)

  pub map_drop : (i : ℕ) (xs : List A) → map f (drop i xs) ≡ drop i (map f xs)
  map_drop zero xs = refl
  map_drop (suc i) [] = refl
  map_drop (suc i) (x ∷ xs) = map_drop i xs

  pub map_removed : (i : ℕ) (xs : List A) → map f (take i xs ++ drop (suc i) xs) ≡ take i (map f xs) ++ drop (suc i) (map f xs)
  map_removed i xs = map-append f (take i xs) (drop (suc i) xs) ∙ ap₂ (λ a b. a ++ b) (map_take i xs) (map_drop (suc i) xs)

  -- the item at i, at any default
  pub map_at : (xs : List A) (i : ℕ) (x : A) (d : B) → i < length xs → x ≡ get_or xs i x → f x ≡ get_or (map f xs) i d
  map_at xs i x d lt is = sym (get_or-map f xs i x d lt ∙ ap f (sym is))

  pub kept_by_map : (p : B → Bool) (xs : List A) → map f (filter (λ x. p (f x)) xs) ≡ filter p (map f xs)
  kept_by_map p [] = refl
  kept_by_map p (x ∷ xs) = kept_one (p (f x)) x (filter (λ y. p (f y)) xs) (filter p (map f xs)) (kept_by_map p xs)
    where
      kept_one : (b : Bool) (x : A) (ys : List A) (zs : List B) → map f ys ≡ zs → map f (cond b (x ∷ ys) ys) ≡ cond b (f x ∷ zs) zs
      kept_one true x ys zs e = ap (λ ys. f x ∷ ys) e
      kept_one false x ys zs e = e
