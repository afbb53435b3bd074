-- What is said of a share, where its code, server and object are known by other names. Assumes nothing.
use Rattle.std.proofs.Common.{◌≡◌, ℕ, ap, ◌∙◌, ap₂}
use Rattle.code.specs.Codings.{Coding}

pub shared : {A : Type 0} (f : Coding → ℕ → ℕ → A) (g h : Coding) (s a x y : ℕ) → g ≡ h → s ≡ a → x ≡ y → f g s x ≡ f h a y
shared f g h s a x y code server object = ap (λ (k : Coding). f k s x) code ∙ ap₂ (f h) server object
