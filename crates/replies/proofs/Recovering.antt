-- Recovery by sets that agree on the servers of a code. Assumes nothing.
use Rattle.std.proofs.Common.{◌≡◌, ℕ, ◌<◌, ◌≤◌, Bool, true, false, cond, not, ◌&&◌, ◌||◌, ltb, List, ◌∷◌, length, get_or, Some, None, Option, sym, refl, ap, ◌∙◌, arith, MatchOption}
use Rattle.std.proofs.lemmas.Bool.{eq-eqb, ne_eqb, lt-ltb}
use Rattle.terms.specs.Items.{items}
use Rattle.terms.specs.Lists.{listed}
use Rattle.terms.specs.Answers.{unless}
use Rattle.terms.specs.declared.bounded.Bounded.{Bounded}
use Rattle.terms.specs.declared.refusal.Refusal.{Refusal}
use Rattle.terms.specs.declared.refusal.Refusal.TheVariants.{NoSuchServer, NoSuchObject}
use Rattle.terms.proofs.Every.{every_all}
use Rattle.terms.proofs.Listed.{length_listed, listed_at, listed_same}
use Rattle.field.specs.Laws.{Ring}
use Rattle.field.proofs.Algebra as algebra
use Rattle.code.specs.Codings.{Coding, Values, symbol, combination, replaced}
use Rattle.code.specs.Recovery.{Recovers, Decoded}
use Rattle.code.specs.Refusing.{known_set, recovers_refusal}

module _ (g : Coding) (set hand : ℕ → Bool) (symbols held : ℕ → List ℕ) (x : ℕ) (same : (s : ℕ) → s < g.servers → set s ≡ hand s) (shown : (s : ℕ) → s < g.servers → symbols s ≡ held s) where
  recovers_too : Recovers g hand x → Recovers g set x
  recovers_too r v w V W eq = r v w V W (λ s h t. eq s h (same s h ∙ t))

  decoded_too : (v : List ℕ) → Decoded g set symbols x v → Decoded g hand held x v
  decoded_too v d = record { value = d.value; agrees = λ u U eq. d.agrees u U (λ s h t. shown s h ∙ eq s h (sym (same s h) ∙ t)) }

  hand_recovers : Recovers g set x → Recovers g hand x
  hand_recovers r v w V W eq = r v w V W (λ s h t. eq s h (sym (same s h) ∙ t))

  -- what is found from one is found from the other
  pub found_too : (o : Option (Bounded ℕ 16))
      → MatchOption o (Recovers g set x → ⊥) (λ v. Recovers g set x × Decoded g set symbols x (items v))
      → MatchOption o (Recovers g hand x → ⊥) (λ v. Recovers g hand x × Decoded g hand held x (items v))
  found_too None h = λ r. h (recovers_too r)
  found_too (Some v) h = (hand_recovers h.0, decoded_too (items v) h.1)

-- no set recovers what is no object
pub not_an_object : (g : Coding) → Ring g.arithmetic → (set : ℕ → Bool) (x : ℕ) → g.objects ≤ x → Recovers g set x → ⊥
not_an_object g R set x past r =
    let zeros : ℕ → List ℕ = λ _. listed g.cells (λ _. 0) in
    let other : ℕ → List ℕ = replaced zeros x (0 ∷ zeros x) in
    let apart : (y : ℕ) → y < g.objects → other y ≡ zeros y = λ y h. ap (λ (b : Bool). cond b (0 ∷ zeros x) (zeros y)) (ne_eqb y x (λ e. omega arith)) in
    let zero_values : Values g zeros = λ y h. record { long = length_listed {A = ℕ} g.cells (λ _. 0); elements = λ c lt. rw (listed_at {A = ℕ} g.cells (λ _. 0) c 0 lt) (algebra.zero_below R) } in
    let other_values : Values g other = λ y h. rw (apart y h) (zero_values y h) in
    let equal : (s : ℕ) → s < g.servers → set s ≡ true → symbol g s zeros ≡ symbol g s other = λ s h t.
    listed_same g.cells (λ c. combination g s (λ y. get_or (zeros y) c 0)) (λ c. combination g s (λ y. get_or (other y) c 0))
    (λ c lt. algebra.dot_same_right R g.objects (g.coefficient s) (λ y. get_or (zeros y) c 0) (λ y. get_or (other y) c 0) (λ y h'. sym (ap (λ (v : List ℕ). get_or v c 0) (apart y h')))) 0 in
    let at : other x ≡ 0 ∷ zeros x = ap (λ (b : Bool). cond b (0 ∷ zeros x) (zeros x)) (eq-eqb x x refl) in
    let long = ap length (r zeros other zero_values other_values equal ∙ at) in
    omega (arith, long)

below_or_out : (a b : Bool) → (not (a && b) || a) ≡ true
below_or_out true true = refl
below_or_out true false = refl
below_or_out false b = refl

-- the servers of a set that are a code's, and one of its objects, are not refused
pub never_refused : (g : Coding) (set hand : ℕ → Bool) (x : ℕ) (e : Refusal) → ((s : ℕ) → set s ≡ (ltb s g.servers && hand s)) → x < g.objects → recovers_refusal g set x ≡ Some e → ⊥
never_refused g set hand x e is lt refused =
    let known : known_set g.servers set ≡ true = every_all 6 (λ s. not (set s) || ltb s g.servers) (λ k _. ap (λ b. not b || ltb k g.servers) (is k) ∙ below_or_out (ltb k g.servers) (hand k)) in
    let none : recovers_refusal g set x ≡ None = ap (λ b. unless b NoSuchServer (unless (ltb x g.objects) NoSuchObject None)) known ∙ ap (λ b. unless b NoSuchObject None) (lt-ltb x g.objects lt) in
    let z : ◌≡◌ {A = ℕ} 0 1 = cc in omega arith
