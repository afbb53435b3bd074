-- What the steps of the elimination do. A wide matrix has rows of twelve: six coefficients, and the factors by which
-- the row comes from the six rows at the start. Assumes nothing.
use Rattle.std.specs.Prelude.{◌≡◌, ℕ, ◌+◌, ◌<◌, Bool, not, ◌&&◌, List, None, Some, Option, ◌≢◌, ◌==◌, slice_index_or}
use Rattle.std.specs.List.{find, range_with_len}
use Rattle.std.specs.Option.{is_none}
use Rattle.field.specs.Arithmetic.{Arithmetic}
use Rattle.field.specs.Sums.{dot, Below}
use Rattle.matrix.specs.Matrices.{entry}

-- the row `wide` has the coefficients of `row`, 0 for a number that is no element, and the factor 1 for the row i alone
pub record WidenedRow (a : Arithmetic) (row : ℕ → ℕ) (i : ℕ) (wide : ℕ → ℕ) : Type 0 where
  pub coefficients : (j : ℕ) → j < 6 → wide j ≡ a.times (row j) 1
  pub unit : wide (6 + i) ≡ 1
  pub others : (s : ℕ) → s < 6 → (s ≢ i) → wide (6 + s) ≡ 0

-- the wide matrix at the start
abbrev pub Widened : Arithmetic → List (List ℕ) → List (List ℕ) → Type 0
Widened a m wide = (i : ℕ) → i < 6 → WidenedRow a (entry m i) i (entry wide i)

-- each entry is an element
abbrev pub Elements : ℕ → List (List ℕ) → Type 0
Elements q m = (i j : ℕ) → i < 6 → j < 12 → entry m i j < q

-- the row `new` is the row `old` and f times the row `by`
abbrev pub Added : Arithmetic → ℕ → (ℕ → ℕ) → (ℕ → ℕ) → (ℕ → ℕ) → Type 0
Added a f old by new = (j : ℕ) → j < 12 → new j ≡ a.plus (old j) (a.times f (by j))

-- to each row but p a multiple of the row p was added, by its factor
pub record Cleared (a : Arithmetic) (factor : ℕ → ℕ) (m n : List (List ℕ)) (p : ℕ) : Type 0 where
  pub same : (j : ℕ) → entry n p j ≡ entry m p j
  pub others : (i : ℕ) → i < 6 → (i ≢ p) → Added a (factor i) (entry m i) (entry m p) (entry n i)

-- the row i leads no column
abbrev pub Free : List (Option ℕ) → ℕ → Type 0
Free leads i = slice_index_or leads i None ≡ None

-- whether the row i leads no column and is not 0 at c
abbrev pub is_pivot : List (List ℕ) → List (Option ℕ) → ℕ → ℕ → Bool
is_pivot m leads c i = is_none (slice_index_or leads i None) && not (entry m i c == 0)

-- the first row that leads no column and is not 0 at c
abbrev pub pivot : List (List ℕ) → List (Option ℕ) → ℕ → Option ℕ
pivot m leads c = find (is_pivot m leads c) (range_with_len 0 6)

-- the row p is such a row
pub record IsPivot (m : List (List ℕ)) (leads : List (Option ℕ)) (c p : ℕ) : Type 0 where
  pub within : p < 6
  pub free : Free leads p
  pub pivot : entry m p c ≢ 0

-- there is no such row
abbrev pub NoPivot : List (List ℕ) → List (Option ℕ) → ℕ → Type 0
NoPivot m leads c = (i : ℕ) → i < 6 → Free leads i → entry m i c ≡ 0

-- what the row p is, where it leads the column l: l is no longer in any other row
pub record Leads (k : ℕ) (m : List (List ℕ)) (p l : ℕ) : Type 0 where
  pub within : l < 6
  pub apart : l ≡ k → ⊥
  pub pivot : entry m p l ≡ 0 → ⊥
  pub others : (i : ℕ) → i < 6 → (i ≢ p) → entry m i l ≡ 0

-- the columns below c but k are done: a row leads each that it could, and the rows that lead none are 0 there
pub record Echelon (k : ℕ) (m : List (List ℕ)) (leads : List (Option ℕ)) (c : ℕ) : Type 0 where
  pub led : (p l : ℕ) → p < 6 → slice_index_or leads p None ≡ Some l → Leads k m p l
  pub clear : (j : ℕ) → j < c → (j ≢ k) → NoPivot m leads j

-- The rows of n come from those of m, and the other way round: unknowns of which n's rows make the same are the same to m's rows,
-- and where the rows of m are combinations of some sums b, by their factors, so are those of n.
pub record Kept (a : Arithmetic) (m n : List (List ℕ)) : Type 0 where
  pub back : (x y : ℕ → ℕ) → Below a.size 6 x → Below a.size 6 y
      → ((i : ℕ) → i < 6 → dot a 6 (entry n i) x ≡ dot a 6 (entry n i) y)
      → (i : ℕ) → i < 6 → dot a 6 (entry m i) x ≡ dot a 6 (entry m i) y
  pub forth : (x b : ℕ → ℕ) → Below a.size 6 x → Below a.size 6 b
      → ((i : ℕ) → i < 6 → dot a 6 (entry m i) x ≡ dot a 6 (λ s. entry m i (6 + s)) b)
      → (i : ℕ) → i < 6 → dot a 6 (entry n i) x ≡ dot a 6 (λ s. entry n i (6 + s)) b

-- the end of the elimination for the unknown k: all columns but k are done
pub record ReducedTo (a : Arithmetic) (k : ℕ) (start rows : List (List ℕ)) (leads : List (Option ℕ)) : Type 0 where
  pub elements : Elements a.size rows
  pub kept : Kept a start rows
  pub echelon : Echelon k rows leads 6
