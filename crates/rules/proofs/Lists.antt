-- Lists that grow at their end.
use Rattle.std.proofs.Common.{◌≡◌, ℕ, ◌⊎◌, List, [], ◌∷◌, ◌++◌, map, refl, ap, subst, ap₂, inl, inr, ⊎_elim, arith}
use Rattle.std.specs.List.{ContainsAt, AllByRecursion}
use Rattle.std.proofs.ByRecursion.{all-has, all_has_itself, All-map, All-weaker}

module _ {X : Type 0} where
  -- a list, split at an element
  pub record Split (xs before : List X) (z : X) : Type 0 where
    pub later : List X
    pub is : xs ≡ before ++ z ∷ later

  never_end : (before : List X) (z : X) (later : List X) → [] ≡ before ++ z ∷ later → ⊥
  never_end [] z later e = let q : ◌≡◌ {A = ℕ} 0 1 = cc in omega arith
  never_end (b ∷ bs) z later e = let q : ◌≡◌ {A = ℕ} 0 1 = cc in omega arith

  -- where a list with one element more is split: at that element, or before it
  pub split_push : (xs : List X) (y : X) (before : List X) (z : X) (later : List X) → xs ++ y ∷ [] ≡ before ++ z ∷ later → ((xs ≡ before) × (y ≡ z)) ⊎ Split xs before z
  split_push [] y [] z later e = inl (refl, cc)
  split_push [] y (b ∷ bs) z later e = absurd (never_end bs z later (cc))
  split_push (x ∷ xs) y [] z later e = let q : x ≡ z = cc in inr (record { later = xs; is = ap (λ w. w ∷ xs) q })
  split_push (x ∷ xs) y (b ∷ bs) z later e =
      let q : x ≡ b = cc in
      let r : xs ++ y ∷ [] ≡ bs ++ z ∷ later = cc in
      ⊎_elim (λ p. inl (ap₂ ◌∷◌ q p.0, p.1)) (λ (p : Split xs bs z). inr (record { later = p.later; is = ap₂ ◌∷◌ q p.is })) (split_push xs y bs z later r)

  -- what holds of each element and those before it holds of one more
  pub each_push : (P : List X → X → Type 0) (xs : List X) (y : X) → ((before : List X) (z : X) (later : List X) → xs ≡ before ++ z ∷ later → P before z) → P xs y
      → (before : List X) (z : X) (later : List X) → xs ++ y ∷ [] ≡ before ++ z ∷ later → P before z
  each_push P xs y h new before z later e = ⊎_elim
      (λ p. subst (λ b. P b z) p.0 (subst (P xs) p.1 new))
      (λ (p : Split xs before z). h before z p.later p.is) (split_push xs y before z later e)

-- an element of a mapped list is the image of an element
pub record Image {X Y : Type 0} (f : X → Y) (xs : List X) (y : Y) : Type 0 where
  pub from : X
  pub has : ContainsAt xs from
  pub is : f from ≡ y

pub has_image : {X Y : Type 0} (f : X → Y) (xs : List X) (y : Y) → ContainsAt (map f xs) y → Image f xs y
has_image f xs y h = all-has (Image f xs) (map f xs) y (All-map (Image f xs) f xs (All-weaker (ContainsAt xs) (λ x. Image f xs (f x)) (λ x q. record { from = x; has = q; is = refl }) xs (all_has_itself xs))) h

all_unmap : {X Y : Type 0} (P : Y → Type 0) (f : X → Y) (xs : List X) → AllByRecursion P (map f xs) → AllByRecursion (λ x. P (f x)) xs
all_unmap P f [] h = tt
all_unmap P f (x ∷ xs) h = (h.0, all_unmap P f xs h.1)

pub image_has : {X Y : Type 0} (f : X → Y) (xs : List X) (x : X) → ContainsAt xs x → ContainsAt (map f xs) (f x)
image_has f xs x h = all-has (λ z. ContainsAt (map f xs) (f z)) xs x (all_unmap (ContainsAt (map f xs)) f xs (all_has_itself (map f xs))) h
