-- What the rows of a matrix say of one of the unknowns. Assumes nothing.
use Rattle.std.specs.Prelude.{◌≡◌, ℕ, ◌<◌, List, [], slice_index, slice_index_or}
use Rattle.field.specs.Arithmetic.{Arithmetic}
use Rattle.field.specs.Sums.{dot, Below}

-- A matrix has six rows of six coefficients, one for each unknown.
abbrev pub row_count : ℕ
row_count = 6

abbrev pub column_count : ℕ
column_count = 6

abbrev pub entry : List (List ℕ) → ℕ → ℕ → ℕ
entry m i j = slice_index (slice_index_or m i []) j

-- what the row i makes of the unknowns x
abbrev pub row_sum : Arithmetic → List (List ℕ) → ℕ → (ℕ → ℕ) → ℕ
row_sum a m i x = dot a column_count (entry m i) x

-- the unknowns are elements
abbrev pub Unknowns : Arithmetic → (ℕ → ℕ) → Type 0
Unknowns a x = Below a.size column_count x

-- The rows determine the unknown k: unknowns of which all rows make the same agree on k.
abbrev pub Determines : Arithmetic → List (List ℕ) → ℕ → Type 0
Determines a m k =
    (x y : ℕ → ℕ) → Unknowns a x → Unknowns a y
    → ((i : ℕ) → i < row_count → row_sum a m i x ≡ row_sum a m i y)
    → x k ≡ y k

-- By these factors, which are elements, the rows add up to the unknown k.
pub record Solves (a : Arithmetic) (m : List (List ℕ)) (k : ℕ) (factors : List ℕ) : Type 0 where
  pub elements : Below a.size row_count (λ i. slice_index factors i)
  pub adds_up : (x : ℕ → ℕ) → Unknowns a x → dot a row_count (λ i. slice_index factors i) (λ i. row_sum a m i x) ≡ x k
