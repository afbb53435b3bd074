-- The loop that clears a column, row by row. Assumes nothing.
use Rattle.std.proofs.Common.{◌≡◌, ℕ, ◌<◌, ◌≤◌, List, [], length, get_or}
use Rattle.field.specs.Arithmetic.{Arithmetic}
use Rattle.matrix.specs.Matrices.{entry}
use Rattle.matrix.specs.Elimination.{Added}

-- the rows below i are cleared, and the others and the row p are as they were
pub record Clearing (ar : Arithmetic) (factor : ℕ → ℕ) (rows cleared : List (List ℕ)) (p i : ℕ) : Type 0 where
  pub long : length cleared ≡ 6
  pub rest : (k : ℕ) → i ≤ k → get_or cleared k [] ≡ get_or rows k []
  pub own : get_or cleared p [] ≡ get_or rows p []
  pub done : (k : ℕ) → k < i → (k ≡ p → ⊥) → Added ar (factor k) (entry rows k) (entry rows p) (entry cleared k)
