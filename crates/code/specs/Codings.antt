-- What a code is, and what it makes of the objects' values. Assumes nothing.
use Rattle.std.specs.Prelude.{◌≡◌, ℕ, ◌<◌, Bool, cond, not, List, [], length, ◌==◌, slice_index, slice_index_or}
use Rattle.terms.specs.Lists.{listed}
use Rattle.field.specs.Arithmetic.{Arithmetic}
use Rattle.field.specs.Sums.{dot}

-- A code: a field's operations, how many servers, objects and cells there are, and the coefficient of each server and object.
pub record Coding : Type 0 where
  pub arithmetic : Arithmetic
  pub servers : ℕ
  pub objects : ℕ
  pub cells : ℕ
  pub coefficient : ℕ → ℕ → ℕ

-- A value has one element of the field for each cell.
pub record Value (g : Coding) (v : List ℕ) : Type 0 where
  pub long : length v ≡ g.cells
  pub elements : (c : ℕ) → c < g.cells → slice_index v c < g.arithmetic.size

-- a value for each object
abbrev pub Values : Coding → (ℕ → List ℕ) → Type 0
Values g v = (x : ℕ) → x < g.objects → Value g (v x)

-- the value at x of a list of values
abbrev pub value_at : List (List ℕ) → ℕ → List ℕ
value_at vs x = slice_index_or vs x []

-- the values v, with another one for the object x
abbrev pub replaced : (ℕ → List ℕ) → ℕ → List ℕ → ℕ → List ℕ
replaced v x new y = cond (y == x) new (v y)

-- a server contains an object if its coefficient there is not 0
abbrev pub contains : Coding → ℕ → ℕ → Bool
contains g s x = not (g.coefficient s x == 0)

-- the sum over the objects of the server's coefficient times the object's cell
abbrev pub combination : Coding → ℕ → (ℕ → ℕ) → ℕ
combination g s cell = dot g.arithmetic g.objects (g.coefficient s) cell

-- what the server s keeps of the objects' values: their combination, cell by cell
abbrev pub symbol : Coding → ℕ → (ℕ → List ℕ) → List ℕ
symbol g s v = listed g.cells (λ c. combination g s (λ x. slice_index (v x) c))

-- one cell of a symbol of the server s, where the cell of the object x turns from old to new
abbrev pub re_encoded_cell : Coding → ℕ → ℕ → ℕ → ℕ → ℕ → ℕ
re_encoded_cell g s x cell old new =
    let a = g.arithmetic in
    a.plus cell (a.times (g.coefficient s x) (a.plus new (a.minus old)))

-- a symbol of the server s, where the value of the object x turns from old to new
abbrev pub re_encoded : Coding → ℕ → ℕ → List ℕ → List ℕ → List ℕ → List ℕ
re_encoded g s x symbol old new = listed g.cells (λ c. re_encoded_cell g s x (slice_index symbol c) (slice_index old c) (slice_index new c))

-- `turned` is the symbol of the server s after the value of the object x turned from old to new, whatever the values of the other objects
abbrev pub Turned : Coding → ℕ → ℕ → List ℕ → List ℕ → List ℕ → List ℕ → Type 0
Turned g s x before old new turned =
    (v : ℕ → List ℕ) → Values g v → before ≡ symbol g s v → v x ≡ old → turned ≡ symbol g s (replaced v x new)
