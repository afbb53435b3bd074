-- What it tells that a set is known. Assumes nothing.
use Rattle.std.proofs.Common.{◌≡◌, ℕ, ◌<◌, ◌≤◌, Bool, true, false, not, ◌||◌, ltb, sym, ap, ◌∙◌, inl, inr, ltb-true}
use borrow.Author.Tests.{both_ways}
use Rattle.std.proofs.lemmas.Bool.{cases_lt}
use Rattle.terms.proofs.Every.{every_at}
use Rattle.code.specs.Refusing.{known_set}

-- a known set has only servers below n; `set` has none past the most that there may be
pub known_below : (n : ℕ) (chosen : ℕ → Bool) → known_set n chosen ≡ true → ((s : ℕ) → 6 ≤ s → chosen s ≡ false) → (s : ℕ) → chosen s ≡ true → s < n
known_below n chosen k past s t =
    elim (cases_lt s 6) [
      | inl h ↦
          ltb-true s n
          (sym (ap (λ (b : Bool). not b || ltb s n) t) ∙ every_at 6 (λ v. not (chosen v) || ltb v n) k s h)
      | inr h ↦ absurd (both_ways (chosen s) (past s h) t)
    ]
