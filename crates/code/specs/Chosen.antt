-- The rows and the symbols of a set of servers, with 0 for all others. Assumes nothing.
use Rattle.std.specs.Prelude.{◌≡◌, ℕ, ◌<◌, ◌≤◌, Bool, true, cond, List, slice_index}
use Rattle.terms.specs.Lists.{listed}
use Rattle.field.specs.Sums.{dot}
use Rattle.matrix.specs.Matrices.{row_count, entry}
use Rattle.code.specs.Codings.{Coding}

-- the row has the server's coefficients, and 0 past the objects
pub record ChosenRow (g : Coding) (s : ℕ) (row : ℕ → ℕ) : Type 0 where
  pub coefficients : (x : ℕ) → x < g.objects → row x ≡ g.coefficient s x
  pub rest : (x : ℕ) → g.objects ≤ x → row x ≡ 0

-- the matrix has the rows of the set's servers, and 0 elsewhere
pub record ChosenRows (g : Coding) (set : ℕ → Bool) (m : List (List ℕ)) : Type 0 where
  pub inside : (s : ℕ) → s < g.servers → set s ≡ true → ChosenRow g s (entry m s)
  pub outside : (s : ℕ) → (s < g.servers → set s ≡ true → ⊥) → (x : ℕ) → entry m s x ≡ 0

-- the cell c of the symbol of the server s, and 0 outside the set
abbrev pub shown : (ℕ → Bool) → (ℕ → List ℕ) → ℕ → ℕ → ℕ
shown set symbols c s = cond (set s) (slice_index (symbols s) c) 0

-- the sum of the symbols of the set's servers, each times its factor, cell by cell
abbrev pub weighed : Coding → (ℕ → ℕ) → (ℕ → Bool) → (ℕ → List ℕ) → List ℕ
weighed g factors set symbols = listed g.cells (λ c. dot g.arithmetic row_count factors (shown set symbols c))
