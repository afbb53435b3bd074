-- What the search for a pivot tells. Assumes nothing.
use Rattle.std.proofs.Common.{◌≡◌, ℕ, zero, suc, ◌+◌, ◌<◌, ◌≤◌, Bool, true, false, cond, not, ◌&&◌, eqb, List, None, Some, Option, sym, refl, ap, ◌∙◌, inl, inr, arith, eq-eqb, ne_eqb}
use borrow.Author.Tests.{both_ways}
use Rattle.std.proofs.lemmas.Bool.{cases_eq, cases_Bool}
use Rattle.std.proofs.lemmas.Option.{none-some, same_Some}
use Rattle.std.specs.List.{find, range_with_len}
use Rattle.std.specs.Option.{is_none}
use Rattle.matrix.specs.Matrices.{entry}
use Rattle.matrix.specs.Elimination.{is_pivot, pivot, IsPivot, NoPivot}

module _ (p : ℕ → Bool) where
  -- the search among the numbers from k on, by the test of k
  next : (n k : ℕ) → Bool → Option ℕ
  next n k b = cond b (Some k) (find p (range_with_len (k + 1) n))

  -- what is found among n numbers from k on is one of them, and passes
  found : (n k x : ℕ) → find p (range_with_len k n) ≡ Some x → (x < k + n) × (p x ≡ true)
  unfolding next
  found zero k x e = absurd (none-some x e)
  found (suc n) k x e =
      elim (cases_Bool (p k)) [
        | inl t ↦ let is : k ≡ x = same_Some k x (sym (ap (next n k) t) ∙ e) in (omega arith, ap p (sym is) ∙ t)
        | inr f ↦ let rest = found n (k + 1) x (sym (ap (next n k) f) ∙ e) in (omega (arith, rest.0), rest.1)
      ]

  -- where none is found, none passes
  none : (n k : ℕ) → find p (range_with_len k n) ≡ None → (x : ℕ) → k ≤ x → x < k + n → p x ≡ false
  unfolding next
  none zero k e x low high = absurd (omega arith)
  none (suc n) k e x low high =
      elim (cases_Bool (p k)) [
        | inl t ↦ absurd (none-some k (sym e ∙ ap (next n k) t))
        | inr f ↦ elim (cases_eq x k) [
          | inl is ↦ ap p is ∙ f
          | inr ne ↦ none n (k + 1) (sym (ap (next n k) f) ∙ e) x (omega arith) (omega arith)
        ]
      ]

-- what the test of a row tells
passes : (o : Option ℕ) (b : Bool) → (is_none o && b) ≡ true → (o ≡ None) × (b ≡ true)
passes None b t = (refl, t)
passes (Some l) b t = absurd (both_ways false refl t)

fails : (o : Option ℕ) (v : ℕ) → (is_none o && not (eqb v 0)) ≡ false → o ≡ None → v ≡ 0
fails None v f e = elim (cases_eq v 0) [ inl z ↦ z | inr ne ↦ absurd (both_ways (not (eqb v 0)) f (ap not (ne_eqb v 0 ne))) ]
fails (Some l) v f e = absurd (none-some l (sym e))

module _ (m : List (List ℕ)) (leads : List (Option ℕ)) (c : ℕ) where
  pub is_found : (p : ℕ) → pivot m leads c ≡ Some p → IsPivot m leads c p
  is_found p e =
      let told = found (is_pivot m leads c) 6 0 p e in
      let free = passes _ _ told.1 in
      record {
        within = omega (arith, told.0);
        free = free.0;
        pivot = λ z. both_ways (not (eqb (entry m p c) 0)) (ap not (eq-eqb (entry m p c) 0 z)) free.1;
      }

  pub is_none_found : pivot m leads c ≡ None → NoPivot m leads c
  is_none_found e i h free = fails _ (entry m i c) (none (is_pivot m leads c) 6 0 e i (omega arith) (omega arith)) free
