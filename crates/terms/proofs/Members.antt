-- Members of a set, one more, and a list of them. Assumes nothing.
use Rattle.std.proofs.Common.{◌≡◌, ℕ, zero, suc, ◌+◌, ◌<◌, Bool, true, false, ◌||◌, eqb, List, [], ◌∷◌, ◌++◌, length, get_or, take, set, replicate, sym, refl, ap, ◌∙◌, inl, inr, get_or-set_other, get_or-set_same, eq-eqb, ne_eqb}
use Rattle.std.proofs.lemmas.List.{take_more}
use Rattle.std.proofs.lemmas.Bool.{cases_eq}
use Rattle.terms.specs.Sets.{among}

pub member_more : (m : List Bool) (s t : ℕ) → s < length m → get_or (set m s true) t false ≡ (eqb t s || get_or m t false)
member_more m s t h =
    elim (cases_eq t s) [
      | inl e ↦
          ap (λ (v : ℕ). get_or (set m s true) v false) e ∙ get_or-set_same m s true false h
          ∙ sym (ap (λ (b : Bool). b || get_or m t false) (eq-eqb t s e))
      | inr ne ↦ get_or-set_other m s t true false ne ∙ sym (ap (λ (b : Bool). b || get_or m t false) (ne_eqb t s ne))
    ]

or_swap : (a b c : Bool) → (a || (b || c)) ≡ (b || (a || c))
or_swap true true c = refl
or_swap true false c = refl
or_swap false true c = refl
or_swap false false c = refl

among_push : (xs : List ℕ) (x t : ℕ) → among (xs ++ x ∷ []) t ≡ (eqb t x || among xs t)
among_push [] x t = refl
among_push (y ∷ ys) x t = ap (λ (b : Bool). eqb t y || b) (among_push ys x t) ∙ or_swap (eqb t y) (eqb t x) (among ys t)

pub among_more : (xs : List ℕ) (i t : ℕ) → i < length xs → among (take (i + 1) xs) t ≡ (eqb t (get_or xs i 0) || among (take i xs) t)
among_more xs i t h = ap (λ (ys : List ℕ). among ys t) (take_more xs i 0 h) ∙ among_push (take i xs) (get_or xs i 0) t

pub nobody : (n t : ℕ) → get_or (replicate n false) t false ≡ false
nobody zero t = refl
nobody (suc n) zero = refl
nobody (suc n) (suc t) = nobody n t
