-- All servers, as a set of a code. Assumes nothing.
use Rattle.std.proofs.Common.{◌≡◌, ℕ, ◌<◌, ◌≤◌, Bool, true, ltb, refl, ◌∙◌, arith, lt-ltb}
use Rattle.code.specs.Codings.{Coding}
use Rattle.code.specs.Layout.{everyone}
use Rattle.code.specs.Recovery.{Recovers}

-- a larger set recovers what the smaller one does
pub recovers_more : (g : Coding) (a b : ℕ → Bool) (x : ℕ) → ((s : ℕ) → s < g.servers → a s ≡ true → b s ≡ true) → Recovers g a x → Recovers g b x
recovers_more g a b x more recovers v w V W same = recovers v w V W (λ s h t. same s h (more s h t))

module _ (g : Coding) (few : g.servers ≤ 6) (full : ℕ → Bool) (is : (s : ℕ) → full s ≡ ltb s 6) (x : ℕ) where
  pub everyone_from_full : Recovers g full x → Recovers g everyone x
  everyone_from_full = recovers_more g full everyone x (λ s h t. refl)

  pub full_from_everyone : Recovers g everyone x → Recovers g full x
  full_from_everyone = recovers_more g everyone full x (λ s h t. is s ∙ lt-ltb s 6 (omega arith))
