-- One write behind another. Assumes nothing.
use Rattle.std.proofs.Common.{◌≡◌, ℕ, zero, suc, ◌+◌, ◌-◌, ◌<◌, ◌≤◌, List, [], ◌∷◌, ◌++◌, length, get_or, take, replicate, sym, refl, ap, ◌∙◌, append_assoc, arith, length-append, length-take}
use Rattle.std.proofs.lemmas.List.{take_more, flat_map_more, take-replicate}
use Rattle.std.specs.List.{flat_map}
use Rattle.terms.specs.declared.bounded.Bounded.{Bounded}
use Rattle.terms.specs.Items.{items}
use Rattle.terms.specs.Limits.{max_cells}
use Rattle.wire.specs.Words.{four, padded}
use Rattle.wire.specs.Writing.{opaque_bytes}

-- a bounded list has at most so many items
pub few_items : {A : Type 0} {most : ℕ} (b : Bounded A most) → length (items b) ≤ most
few_items b = omega (arith, length-take b.len b.places, b.fits)

pub two : (o p r x y : List ℕ) → p ≡ o ++ x → r ≡ p ++ y → r ≡ o ++ (x ++ y)
two o p r x y a b = b ∙ ap (λ l. l ++ y) a ∙ append_assoc o x y

pub next : {A : Type 0} (f : A → List ℕ) (o p r : List ℕ) (l : List A) (i : ℕ) (d : A) → i < length l → p ≡ o ++ flat_map f (take i l) → r ≡ p ++ f (get_or l i d) → r ≡ o ++ flat_map f (take (i + 1) l)
next f o p r l i d h a b = b ∙ ap (λ k. k ++ f (get_or l i d)) a ∙ flat_map_more f o (take i l) (get_or l i d) ∙ ap (λ k. o ++ flat_map f k) (sym (take_more l i d h))

-- the items up to i, and the next, are not longer than all
joined_front : {A : Type 0} (f : A → List ℕ) (l : List A) (k : ℕ) → length (flat_map f (take k l)) ≤ length (flat_map f l)
joined_front f [] zero = omega arith
joined_front f [] (suc k) = omega arith
joined_front f (x ∷ l) zero = omega arith
joined_front f (x ∷ l) (suc k) = omega (arith, length-append (f x) (flat_map f (take k l)), length-append (f x) (flat_map f l), joined_front f l k)

pub next_fits : {A : Type 0} (f : A → List ℕ) (o p : List ℕ) (l : List A) (i : ℕ) (d : A) (most : ℕ) → i < length l → p ≡ o ++ flat_map f (take i l) → length o + length (flat_map f l) ≤ most → length p + length (f (get_or l i d)) ≤ most
next_fits f o p l i d most h a room =
    let r : List ℕ = p ++ f (get_or l i d) in
    let e : r ≡ o ++ flat_map f (take (i + 1) l) = next f o p r l i d h a refl in
    omega (arith, ap length e, length-append p (f (get_or l i d)), length-append o (flat_map f (take (i + 1) l)), joined_front f l (i + 1))

pub opaque_put : (o p q r v s : List ℕ) (n k : ℕ) → n ≡ length v → length v ≤ max_cells → s ≡ v → k ≡ padded n - n - 0 → p ≡ o ++ four n → q ≡ p ++ s → r ≡ q ++ take k (0 ∷ 0 ∷ 0 ∷ []) → r ≡ o ++ opaque_bytes v
opaque_put o p q r v s n k is small same cut a b c =
    let few : k ≤ 3 = omega arith in
    let kn : k ≡ padded (length v) - length v = cut ∙ ap (λ m. padded m - m - 0) is ∙ omega arith in
    two o p r (four (length v)) (v ++ replicate (padded (length v) - length v) 0) (a ∙ ap (λ m. o ++ four m) is) (two p q r v _ (b ∙ ap (λ l. p ++ l) same) (c ∙ ap (λ l. q ++ l) (take-replicate k 3 0 few ∙ ap (λ m. replicate m 0) kn)))
