-- The loop that copies the rows of a set's servers. Assumes nothing.
use Rattle.std.proofs.Common.{◌≡◌, ℕ, ◌<◌, Bool, true, List, length}
use Rattle.matrix.specs.Matrices.{entry}
use Rattle.code.specs.Chosen.{ChosenRow}
use Rattle.code.specs.Codings.{Coding}

-- the rows of the set's servers below s are in place, and 0 elsewhere
pub record Choosing (g : Coding) (set : ℕ → Bool) (s : ℕ) (m : List (List ℕ)) : Type 0 where
  pub long : length m ≡ 6
  pub inside : (t : ℕ) → t < s → set t ≡ true → ChosenRow g t (entry m t)
  pub outside : (t : ℕ) → (t < s → set t ≡ true → ⊥) → (x : ℕ) → entry m t x ≡ 0
