-- Tests of all items of a list, where it changes. Assumes nothing.
use Rattle.std.proofs.Common.{◌≡◌, ℕ, suc, ◌<◌, Bool, true, ◌&&◌, List, [], ◌∷◌, ◌++◌, length, filter, take, drop, get_or, ap, ◌∙◌, ap₂}
use Rattle.std.specs.List.{list_all}
use Rattle.std.proofs.lemmas.List.Elements.{All-filter, All-take, All-drop}
use Rattle.std.proofs.lemmas.List.Folds.{list_all-append}
use Rattle.std.proofs.lemmas.List.Sums.{AllPass-from_list_all, list_all-from_AllPass}

module _ {X : Type 0} (p : X → Bool) (xs : List X) (h : list_all p xs ≡ true) where
  pub all_pushed : (y : X) → p y ≡ true → list_all p (xs ++ y ∷ []) ≡ true
  all_pushed y ok = list_all-append p xs (y ∷ []) ∙ ap₂ ◌&&◌ h (ap (λ b. b && true) ok)

  pub all_filtered : (q : X → Bool) → list_all p (filter q xs) ≡ true
  all_filtered q = list_all-from_AllPass p (filter q xs) (All-filter q (λ x. p x ≡ true) xs (AllPass-from_list_all p xs h))

  pub all_without : (i : ℕ) → list_all p (take i xs ++ drop (suc i) xs) ≡ true
  all_without i =
      let each = AllPass-from_list_all p xs h in
      list_all-append p (take i xs) (drop (suc i) xs)
      ∙ ap₂ ◌&&◌ (list_all-from_AllPass p (take i xs) (All-take (λ x. p x ≡ true) i xs each)) (list_all-from_AllPass p (drop (suc i) xs) (All-drop (λ x. p x ≡ true) (suc i) xs each))

  pub all_at : (i : ℕ) (d : X) → i < length xs → p (get_or xs i d) ≡ true
  all_at i d lt = AllPass-from_list_all p xs h i d lt
