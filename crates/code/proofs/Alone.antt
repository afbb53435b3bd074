-- A set of one server. Assumes nothing.
use Rattle.std.proofs.Common.{◌≡◌, ℕ, zero, suc, ◌<◌, Bool, true, not, ◌||◌, eqb, ltb, List, map, get_or, replicate, Some, None, Ok, Err, Option, Result, sym, refl, ap, ◌∙◌, inl, inr, not-suc-le-zero, arith, le-ltb, lt-ltb, eq-eqb, ne_eqb, eqb-true, MatchOption}
use mathlib.Core.Bool.{or-true}
use borrow.Author.Tests.{both_ways}
use Rattle.std.proofs.lemmas.Bool.{cases_eq, cases_lt, cases_Bool}
use Rattle.terms.specs.declared.refusal.Refusal.{Refusal}
use Rattle.terms.specs.declared.refusal.Refusal.TheVariants.{NoSuchServer, NoSuchObject}
use Rattle.terms.specs.Answers.{Answered, unless}
use Rattle.terms.proofs.Every.{every_at, every_all}
use Rattle.code.specs.Codings.{Coding}
use Rattle.code.specs.Recovery.{Recovers, Decoded}
use Rattle.code.specs.Refusing.{known_set, place_refusal, recovers_refusal}
use Rattle.code.proofs.Everyone.{recovers_more}

-- what stands at each place of a list of copies
pub copies : {A B : Type 0} (f : A → B) (x : A) (d : B) (n i : ℕ) → i < n → get_or (map f (replicate n x)) i d ≡ f x
copies f x d zero i h = absurd (not-suc-le-zero h)
copies f x d (suc n) zero h = refl
copies f x d (suc n) (suc i) h = copies f x d n i (omega arith)

module _ (server : ℕ) (chosen : ℕ → Bool) (is : (s : ℕ) → chosen s ≡ eqb s server) where
  chosen_here : chosen server ≡ true
  chosen_here = is server ∙ eq-eqb server server refl

  -- the set is known where the server is
  known_alone : (n : ℕ) → server < 6 → known_set n chosen ≡ ltb server n
  known_alone n low =
      elim (cases_lt server n) [
        | inl h ↦
            every_all 6 (λ s. not (chosen s) || ltb s n)
            (λ k _. elim (cases_eq k server) [
              | inl e ↦ ap (λ (b : Bool). not (chosen k) || b) (ap (λ (v : ℕ). ltb v n) e ∙ lt-ltb server n h) ∙ or-true (not (chosen k))
              | inr ne ↦ ap (λ (b : Bool). not b || ltb k n) (is k ∙ ne_eqb k server ne)
            ])
            ∙ sym (lt-ltb server n h)
        | inr past ↦
            elim (cases_Bool (known_set n chosen)) [
              | inl t ↦
                  absurd (both_ways (not (chosen server) || ltb server n)
                  (ap (λ (b : Bool). not b || ltb server n) chosen_here ∙ le-ltb server n past)
                  (every_at 6 (λ s. not (chosen s) || ltb s n) t server low))
              | inr f ↦ f ∙ sym (le-ltb server n past)
            ]
      ]

  same_refusal : (g : Coding) (x : ℕ) → server < 6 → place_refusal g server x ≡ recovers_refusal g chosen x
  same_refusal g x low = ap (λ (b : Bool). unless b NoSuchServer (unless (ltb x g.objects) NoSuchObject None)) (sym (known_alone g.servers low))

  recovers_alone : (g : Coding) (x : ℕ) → Recovers g (λ j. eqb j server) x → Recovers g chosen x
  recovers_alone g x = recovers_more g (λ j. eqb j server) chosen x (λ s _ t. is s ∙ t)

  -- only the symbol of the server counts
  decoded_alone : (g : Coding) (x : ℕ) (symbols : ℕ → List ℕ) (kept r : List ℕ) → symbols server ≡ kept
      → Decoded g chosen symbols x r → Decoded g (λ j. eqb j server) (λ _. kept) x r
  decoded_alone g x symbols kept r at D = record {
    value = D.value;
    agrees = λ v V same.
        D.agrees v V (λ s h t. ap symbols (eqb-true s server (sym (is s) ∙ t)) ∙ at ∙ same s h (sym (is s) ∙ t));
  }

  recovered_alone : (g : Coding) (x : ℕ) → Recovers g chosen x → Recovers g (λ j. eqb j server) x
  recovered_alone g x = recovers_more g chosen (λ j. eqb j server) x (λ s _ t. sym (is s) ∙ t)

  -- what is answered of the set is what is answered of the server
  pub answered_alone : {A : Type 0} (g : Coding) (x : ℕ) (symbols : ℕ → List ℕ) (kept : List ℕ) (value : A → List ℕ) → server < 6 → symbols server ≡ kept
      → (r : Result (Option A) Refusal)
      → Answered (recovers_refusal g chosen x) (λ o. MatchOption o (Recovers g chosen x → ⊥) (λ v. Recovers g chosen x × Decoded g chosen symbols x (value v))) r
      → Answered (place_refusal g server x) (λ o. MatchOption o (Recovers g (λ j. eqb j server) x → ⊥) (λ v. Recovers g (λ j. eqb j server) x × Decoded g (λ j. eqb j server) (λ _. kept) x (value v))) r
  answered_alone g x symbols kept value low at (Ok None) h = (same_refusal g x low ∙ h.0, λ recovers. h.1 (recovers_alone g x recovers))
  answered_alone g x symbols kept value low at (Ok (Some v)) h = (same_refusal g x low ∙ h.0, (recovered_alone g x h.1.0, decoded_alone g x symbols kept (value v) at h.1.1))
  answered_alone g x symbols kept value low at (Err e) h = same_refusal g x low ∙ h
